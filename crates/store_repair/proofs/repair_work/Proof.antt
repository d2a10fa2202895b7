-- `store_repair::repair_work` meets its contract: space is lent.
-- Assumes nothing.
use mathlib.Core.Path.{◌≡◌, refl, ◌∙◌}
use mathlib.Core.List.{List}
use Prim.Native.Nat.{ℕ, ◌+◌, ◌*◌, ◌-◌, ◌≤◌}
use native.Mathlib.Omega.{arith}
use native.Mathlib.Nat.{sub-zero}
use lib.ListN.{length, take}
use lib.Seq.{length-take-le}
use borrow.Author.Rules.{rules}
use Rattle.sizes.proofs.Legal.{Legal, legal-facts}
use Rattle.repair_hear.proofs.Heard.{few-runs}
use Rattle.repair_sent.proofs.Finished.{mul-few}
use Rattle.store_repair.proofs.repair_work.Statement.{statement}
use Rattle.store_repair.proofs.repair_work.Tie as tie

-- the places
abbrev st-at-rows : tie.After-slice_known-1 → tie.Start
st-at-rows c = c.before.before.before.before.before.before

abbrev st-at-sum : tie.After-struct_known-1 → tie.Start
st-at-sum c = st-at-rows c.before

abbrev st-at-firsts : tie.After-firsts-1 → tie.Start
st-at-firsts c = st-at-sum c.before

abbrev st-at-seconds : tie.After-seconds-1 → tie.Start
st-at-seconds c = st-at-firsts c.before

abbrev st-at-gs : tie.After-gs-1 → tie.Start
st-at-gs c = st-at-seconds c.before

abbrev st-at-got : tie.After-got-1 → tie.Start
st-at-got c = st-at-gs c.before

abbrev st-at-call : tie.After-repair_stripes-arg-1 → tie.Start
st-at-call c = st-at-got c.before.before

-- a part from the beginning on is as long as it is asked
first-long : (n : ℕ) (l : List ℕ) → n ≤ length l → length (take (n - 0) l) ≡ n
first-long n l h = length-take-le (n - 0) l (rw sub-zero h) ∙ sub-zero n

facts : (c : tie.Start) → Legal c.args.sizes
facts c = legal-facts _ c.requires.0

-- what is lent fits
few : (c : tie.Start) → let a = c.args in let t = length a.fresh.now in (t * a.c ≤ 256) × (t * a.lanes ≤ 1024) × (a.sizes.d + a.sizes.r ≤ 32)
few c =
    let a = c.args in
    let f = facts c in
    let t = length a.fresh.now in
    let w = c.requires.11.whole in
    let q = c.requires.11.helps in
    (few-runs a.sizes f t a.c c.requires.11, mul-few t a.lanes (omega arith) c.requires.4 refl, omega arith)

repair-stripes-requires : tie.Need-repair_stripes-requires
repair-stripes-requires c κs =
    let p = (st-at-call c).requires in
    let a = (st-at-call c).args in
    let t = length a.fresh.now in
    let m = few (st-at-call c) in (
      p.0,
      p.1,
      p.2,
      p.3,
      p.4,
      p.5,
      p.6,
      p.7,
      p.8,
      p.9,
      p.10,
      p.11,
      p.12,
      p.13,
      p.14,
      p.15,
      p.16,
      first-long (length a.named.now) _ (omega (arith, p.13, m.0)) ∙ p.13,
      first-long (length a.named.now) _ (omega (arith, p.13, m.0)) ∙ p.13,
      first-long (t * a.lanes) _ m.1,
      first-long (a.sizes.d + a.sizes.r) _ m.2,
      first-long a.lanes _ p.4,
      p.17,
    )

pub repair_work_spec : {M : Type 1} → statement M
repair_work_spec =
    tie.close
    (tie.spec
    (λ c. omega (arith, few (st-at-rows c)))
    (λ c. let m = few (st-at-sum c) in search rules)
    (λ c. search rules)
    (λ c. search rules)
    (λ c. omega (arith, few (st-at-sum c), (st-at-sum c).requires.13))
    (λ c. search rules)
    (λ c. search rules)
    (λ c. omega (arith, few (st-at-firsts c), (st-at-firsts c).requires.13))
    (λ c. search rules)
    (λ c. search rules)
    (λ c. omega (arith, few (st-at-seconds c)))
    (λ c. search rules)
    (λ c. search rules)
    (λ c. omega (arith, few (st-at-gs c)))
    (λ c. search rules)
    (λ c. search rules)
    (λ c. omega (arith, (st-at-got c).requires))
    repair-stripes-requires
    (λ c. c.before.area-1.given)
    (λ c. search rules))
