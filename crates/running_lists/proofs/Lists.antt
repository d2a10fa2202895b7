-- The lists of a started repair, taken out of its record's arrays; and which boards they name.
-- Assumes nothing.
use Prim.Native.Nat.{ℕ, ◌-◌, ◌*◌, ◌≤◌, ◌<◌}
use mathlib.Core.Path.{◌≡◌, refl, sym, ap, ◌∙◌}
use mathlib.Core.Bool.{Bool, true, false}
use mathlib.Core.List.{List, ◌++◌}
use native.Mathlib.Nat.{mul-le-mul_left, le_trans}
use native.Mathlib.Omega.{arith}
use lib.Dec.{leb}
use lib.ListN.{length, take, get_or}
use borrow.Author.Tests.{leb-true, leb-false}
use Rattle.lists.specs.Lists.{tabulate}
use Rattle.lists.specs.Tests.{every, among}
use Rattle.lists.proofs.Alls.{all-at}
use Rattle.lists.proofs.Boards.{among-append-left, among-append-none}
use lib.Seq.{length-take-le, take_all}
use Rattle.lists.proofs.Pieces.{tabulate-at, length-tabulate}
use Rattle.lists.proofs.Tests.{alls-hold, not-no, every-all}
use Rattle.sizes.specs.declared.Sizes.{Sizes}
use Rattle.sizes.specs.declared.Refusal.TheVariants.{Count}
use Rattle.sizes.specs.Sizing.{legal}
use Rattle.sizes.specs.Refusals.{store_order}
use Rattle.sizes.proofs.Legal.{legal-facts}
use Rattle.sizes.proofs.Orders.{clear-off}
use Rattle.store_spec.specs.Record.{Record}
use Rattle.store_spec.specs.Calls.{list_lines}
use Rattle.beside_spec.specs.Running.{Running, fresh_of, helpers_of, stand_ins_of, named_in, sound_beside}
use Rattle.store_spec.proofs.Records.{count_tests}
use Rattle.beside_spec.proofs.Beside.{sound-beside}

-- ---- how many boards a repair names

most-test : every (λ r. leb (r * (32 - r)) 256) (tabulate 32 (λ r. r)) ≡ true
most-test = refl

most : (r : ℕ) → r < 32 → r * (32 - r) ≤ 256
most r h =
    let rs : List ℕ = tabulate 32 (λ r. r) in
    let e : get_or rs r 0 ≡ r = tabulate-at 32 (λ r. r) 0 r h in
    let t : leb (get_or rs r 0 * (32 - get_or rs r 0)) 256 ≡ true =
    all-at (λ r. leb (r * (32 - r)) 256 ≡ true) 0 rs (every-all (λ r. leb (r * (32 - r)) 256) rs most-test) r (rw length-tabulate h) in
    leb-true (r * (32 - r)) 256 (rw e at t)

few : (t c : ℕ) → t < 32 → c ≤ 32 - t → t * c ≤ 256
few t c h k = le_trans (mul-le-mul_left t k) (most t h)

-- they fit their arrays
module _ (z : Sizes) (t : ℕ) (h : legal z ≡ true) (k : t ≤ z.r) where
  few-fresh : t < 32
  few-fresh = let f = legal-facts z h in omega (arith, f.enough, f.few, f.some_read, f.read-helpers)

  pub fit-fresh : t ≤ 32
  fit-fresh = omega (arith, few-fresh)

  pub fit-helpers : t * z.d ≤ 256
  fit-helpers = let f = legal-facts z h in few t z.d few-fresh (omega (arith, f.enough, f.few))

  pub fit-stand-ins : t * (z.r - t) ≤ 256
  fit-stand-ins = let f = legal-facts z h in few t (z.r - t) few-fresh (omega (arith, f.enough, f.few))

-- a record of a repair that may stand beside a store's tells no more fresh boards than r
pub count-few : (s : Record) (p : Running) → legal s.sizes ≡ true → length p.fresh ≡ 32 → sound_beside s p ≡ true → p.running ≡ true → p.count ≤ s.sizes.r
unfolding list_lines
count-few s p legal long sound on = go (leb p.count 32) refl
  where
    most : length (fresh_of p) ≤ s.sizes.r
    most =
        let off = clear-off (list_lines s (fresh_of p) (helpers_of s.sizes p) (stand_ins_of s.sizes p)) store_order (sound-beside s p sound on).0 in
        leb-true _ _ (alls-hold (count_tests s (fresh_of p) (helpers_of s.sizes p) (stand_ins_of s.sizes p)) (not-no _ (off Count refl))).1.0

    go : (t : Bool) → leb p.count 32 ≡ t → p.count ≤ s.sizes.r
    go true e = omega (arith, most, length-take-le p.count p.fresh (omega (arith, leb-true p.count 32 e, long)))
    go false e =
        let f = legal-facts s.sizes legal in
        let all : length (fresh_of p) ≡ 32 = ap length (take_all p.count p.fresh (omega (arith, leb-false p.count 32 e, long))) ∙ long in
        absurd (omega (arith, most, all, f.enough, f.few, f.some_read, f.read-helpers))

-- the boards that it names
pub named-are : (z : Sizes) (p : Running) → p.count ≤ length p.fresh
    → take p.count p.fresh ++ (take (p.count * z.d) p.helpers ++ take (p.count * (z.r - p.count)) p.stand_ins) ≡ named_in z p
named-are z p h =
    ap (λ (t : ℕ). fresh_of p ++ (take (t * z.d) p.helpers ++ take (t * (z.r - t)) p.stand_ins)) (sym (length-take-le p.count p.fresh h))

module _ (xs ys zs : List ℕ) (x : ℕ) where
  pub first-names : among xs x ≡ true → true ≡ among (xs ++ (ys ++ zs)) x
  first-names e = sym (among-append-left xs (ys ++ zs) x e)

  pub second-names : among xs x ≡ false → among ys x ≡ true → true ≡ among (xs ++ (ys ++ zs)) x
  second-names a e = sym (among-append-none xs (ys ++ zs) x a ∙ among-append-left ys zs x e)

  pub third-names : among xs x ≡ false → among ys x ≡ false → among zs x ≡ among (xs ++ (ys ++ zs)) x
  third-names a b = sym (among-append-none xs (ys ++ zs) x a ∙ among-append-none ys zs x b)
