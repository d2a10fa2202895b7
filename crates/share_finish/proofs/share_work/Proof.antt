-- `share_finish::share_work` meets its contract: space is lent.
-- Assumes nothing.
use mathlib.Core.Path.{◌≡◌, ◌∙◌}
use mathlib.Core.List.{List}
use Prim.Native.Nat.{ℕ, ◌+◌, ◌-◌, ◌≤◌}
use native.Mathlib.Nat.{sub-zero}
use lib.ListN.{length, take}
use lib.Seq.{length-take-le}
use Rattle.sizes.proofs.Legal.{Legal, legal-facts}
use borrow.Author.Rules.{rules}
use native.Mathlib.Omega.{arith}
use Rattle.share_finish.proofs.share_work.Statement.{statement}
use Rattle.share_finish.proofs.share_work.Tie as tie

-- the places
abbrev st-at-struct-known : tie.After-struct_known-1 → tie.Start
st-at-struct-known c = c.before.before.before.before.before

abbrev st-at-firsts : tie.After-firsts-1 → tie.Start
st-at-firsts c = st-at-struct-known c.before

abbrev st-at-got : tie.After-got-1 → tie.Start
st-at-got c = st-at-firsts c.before

abbrev st-at-g : tie.After-g-1 → tie.Start
st-at-g c = st-at-got c.before

abbrev st-at-share-by-arg : tie.After-share_by-arg-1 → tie.Start
st-at-share-by-arg c = st-at-g c.before.before

-- a part from the beginning on is as long as it is asked
first-long : (n : ℕ) (l : List ℕ) → n ≤ length l → length (take (n - 0) l) ≡ n
first-long n l h = length-take-le (n - 0) l (rw sub-zero h) ∙ sub-zero n

facts : (c : tie.Start) → Legal c.args.sizes
facts c = legal-facts _ c.requires.0

share-by-requires : tie.Need-share_by-requires
share-by-requires c κs =
    let a = (st-at-share-by-arg c).args in
    let p = (st-at-share-by-arg c).requires in
    let f = facts (st-at-share-by-arg c) in (
      p.0,
      p.1,
      p.2,
      p.3,
      p.4,
      p.5,
      first-long a.sizes.d _ (omega (arith, f.enough, f.few)),
      first-long (a.sizes.d + a.sizes.r) _ (omega (arith, f.enough, f.few)),
      p.6,
      p.7,
      first-long a.lanes _ p.7,
      first-long a.lanes _ p.7,
      p.8,
    )

pub share_work_spec : {M : Type 1} → statement M
share_work_spec =
    tie.close
    (tie.spec
    (λ c. let f = facts (st-at-struct-known c) in search rules)
    (λ c. search rules)
    (λ c. search rules)
    (λ c. let f = facts (st-at-struct-known c) in search rules)
    (λ c. search rules)
    (λ c. search rules)
    (λ c. let f = facts (st-at-firsts c) in search rules)
    (λ c. search rules)
    (λ c. search rules)
    (λ c. let f = facts (st-at-got c) in search rules)
    (λ c. search rules)
    (λ c. search rules)
    (λ c. omega (arith, facts (st-at-g c), (st-at-g c).requires))
    share-by-requires
    (λ c. c.before.out-1.given)
    (λ c. search rules))
