-- `store_repair::repair_area` meets its contract: space is lent.
-- Assumes nothing.
use mathlib.Core.Path.{◌≡◌, ap, ◌∙◌}
use mathlib.Core.List.{List}
use Prim.Native.Nat.{ℕ, ◌+◌, ◌*◌, ◌-◌, ◌≤◌}
use native.Mathlib.Nat.{mul-le-mul, mul-le-mul_right}
use native.Mathlib.Omega.{arith}
use native.Mathlib.Nat.{sub-zero}
use lib.ListN.{length, take}
use lib.Seq.{length-take-le}
use borrow.Author.Rules.{rules}
use Rattle.sizes.specs.Sizing.{α}
use Rattle.sizes.proofs.Legal.{Legal, legal-facts, α-most}
use Rattle.repair_hear.proofs.Heard.{few-runs}
use Rattle.repair_rows.proofs.Others.{few-rows}
use Rattle.store_repair.proofs.repair_area.Statement.{statement}
use Rattle.store_repair.proofs.repair_area.Tie as tie

-- the places
abbrev st_1 : tie.After-struct_known-1 → tie.Start
st_1 c = c.before.before.before.before.before.before

abbrev st_2 : tie.After-struct_known-2-1 → tie.Start
st_2 c = st_1 c.before

abbrev st_3 : tie.After-struct_known-3-1 → tie.Start
st_3 c = st_2 c.before

abbrev st_4 : tie.After-struct_known-4-1 → tie.Start
st_4 c = st_3 c.before

abbrev st-at-ff : tie.After-ff-1 → tie.Start
st-at-ff c = st_4 c.before

abbrev st-at-gf : tie.After-gf-1 → tie.Start
st-at-gf c = st-at-ff c.before

abbrev st-at-call : tie.After-repair_in-arg-1 → tie.Start
st-at-call c = st-at-gf c.before.before

-- a part from the beginning on is as long as it is asked
first-long : (n : ℕ) (l : List ℕ) → n ≤ length l → length (take (n - 0) l) ≡ n
first-long n l h = length-take-le (n - 0) l (rw sub-zero h) ∙ sub-zero n

facts : (c : tie.Start) → Legal c.args.sizes
facts c = legal-facts _ c.requires.0

-- what is lent fits, and a board's part is of at most 4,096 stripes of 62 bytes
few : (c : tie.Start)
    → let z = c.args.sizes in let t = length c.args.fresh.now in
    (t * c.args.c ≤ 256) × (t * ((z.d + (z.d + z.r)) * 32) ≤ 32768) × (c.args.capacity * α z ≤ 253952)
few c =
    let z = c.args.sizes in
    let f = facts c in
    let t = length c.args.fresh.now in
    (few-runs z f t c.args.c c.requires.4, few-rows z f t c.args.c c.requires.4, mul-le-mul c.requires.11 (α-most z f))

repair-in-requires : tie.Need-repair_in-requires
repair-in-requires c κs =
    let p = (st-at-call c).requires in
    let a = (st-at-call c).args in
    let t = length a.fresh.now in
    let m = few (st-at-call c) in (
      p.0,
      p.1,
      p.2,
      p.3,
      m.2,
      mul-le-mul_right (α a.sizes) p.12,
      omega (arith, p.11, p.12, m),
      p.4,
      p.5,
      p.6,
      p.7,
      p.8,
      p.9,
      p.10,
      first-long (length a.named.now * 32) _ (omega (arith, p.6, m.0)) ∙ ap (λ (n : ℕ). n * 32) p.6,
      first-long (length a.named.now * 32) _ (omega (arith, p.6, m.0)) ∙ ap (λ (n : ℕ). n * 32) p.6,
      first-long (t * ((a.sizes.d + (a.sizes.d + a.sizes.r)) * 32)) _ m.1,
      p.13,
    )

pub repair_area_spec : {M : Type 1} → statement M
repair_area_spec =
    tie.close
    (tie.spec
    (λ c. let f = facts (st_1 c) in search rules)
    (λ c. let f = facts (st_2 c) in search rules)
    (λ c. let f = facts (st_2 c) in search rules)
    (λ c. omega (arith, few (st_2 c)))
    (λ c. omega (arith, few (st_2 c), (st_2 c).requires.6))
    (λ c. let f = facts (st_3 c) in search rules)
    (λ c. let f = facts (st_4 c) in search rules)
    (λ c. let f = facts (st_4 c) in search rules)
    (λ c. omega (arith, few (st_4 c)))
    (λ c. search rules)
    (λ c. search rules)
    (λ c. omega (arith, few (st_4 c), (st_4 c).requires.6))
    (λ c. search rules)
    (λ c. search rules)
    (λ c. omega (arith, few (st-at-ff c), (st-at-ff c).requires.6))
    (λ c. search rules)
    (λ c. search rules)
    (λ c. omega (arith, few (st-at-gf c)))
    repair-in-requires
    (λ c. c.before.area-1.given)
    (λ c. search rules))
