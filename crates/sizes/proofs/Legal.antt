-- What legal sizes are, as facts on numbers; facts about the lengths, with the sizes as variables.
-- Assumes nothing.
use Prim.Native.Nat.{ℕ, suc, ◌+◌, ◌-◌, ◌*◌, ◌/◌, ◌≤◌, ◌<◌}
use mathlib.Core.Path.{◌≡◌, refl, sym, ap, ap₂, ◌∙◌}
use mathlib.Core.Bool.{Bool, true, false}
use mathlib.Core.List.{List, [], ◌∷◌}
use lib.Dec.{leb}
use lib.ListN.{get_or}
use borrow.Author.Tests.{leb-true, le-leb}
use native.Mathlib.Nat.{mul_comm, mul-add, suc-mul, mul-le-mul, mul-le-mul_left, mul-le-mul_right, le_trans, one-mul, mod-lt, div-add-mod', div-lt_iff_lt-mul}
use native.Mathlib.Omega.{arith}
use Rattle.lists.proofs.Tests.{is_false, alls-hold, hold-alls}
use Rattle.lists.specs.Tests.{every}
use Rattle.lists.specs.Lists.{tabulate}
use Rattle.lists.proofs.Tests.{every-all}
use Rattle.lists.proofs.Alls.{all-at}
use Rattle.lists.proofs.Pieces.{length-tabulate, tabulate-at}
use Rattle.sizes.specs.declared.Sizes.{Sizes}
use Rattle.sizes.specs.Sizing.{legal, α, B, stripes, max_boards}

pub record Legal (z : Sizes) : Type 0 where
  pub some_read : 1 ≤ z.k
  pub read-helpers : z.k ≤ z.d
  pub some-fresh : 1 ≤ z.r
  pub enough : z.d + z.r ≤ z.n
  pub few : z.n ≤ 32

legal_tests : Sizes → List Bool
legal_tests z = leb 1 z.k ∷ leb z.k z.d ∷ leb 1 z.r ∷ leb (z.d + z.r) z.n ∷ leb z.n max_boards ∷ []

pub legal-facts : (z : Sizes) → legal z ≡ true → Legal z
unfolding legal legal_tests
legal-facts z h =
    let e = alls-hold (legal_tests z) h in
    record {
      some_read = leb-true _ _ e.0;
      read-helpers = leb-true _ _ e.1.0;
      some-fresh = leb-true _ _ e.1.1.0;
      enough = leb-true _ _ e.1.1.1.0;
      few = leb-true _ _ e.1.1.1.1.0;
    }

pub legal-yes : (z : Sizes) → Legal z → legal z ≡ true
unfolding legal legal_tests
legal-yes z f =
    hold-alls (legal_tests z)
    (le-leb _ _ f.some_read, (le-leb _ _ f.read-helpers, (le-leb _ _ f.some-fresh, (le-leb _ _ f.enough, (le-leb _ _ f.few, tt)))))

pub legal-no : (z : Sizes) → (Legal z → ⊥) → legal z ≡ false
legal-no z h = is_false (legal z) (λ e. h (legal-facts z e))

-- a row that starts before the end ends before it
pub row_fits : (i m w : ℕ) → i < m → i * w + w ≤ m * w
row_fits i m w h = rw (← suc-mul i w) (mul-le-mul_right w h)

most-test : every (λ k. leb (k * (63 - k)) 992) (tabulate 32 (λ k. k)) ≡ true
most-test = refl

most : (k : ℕ) → k < 32 → k * (63 - k) ≤ 992
most k h =
    let ks : List ℕ = tabulate 32 (λ k. k) in
    let e : get_or ks k 0 ≡ k = tabulate-at 32 (λ k. k) 0 k h in
    let t : leb (get_or ks k 0 * (63 - get_or ks k 0)) 992 ≡ true =
    all-at (λ k. leb (k * (63 - k)) 992 ≡ true) 0 ks (every-all (λ k. leb (k * (63 - k)) 992) ks most-test) k (rw length-tabulate h) in
    leb-true (k * (63 - k)) 992 (rw e at t)

module _ (z : Sizes) (legal : Legal z) where
  open z use {n, k, d, r}

  -- the d + r values of f and the d - 1 of g
  pub α-parts : d + r + (d - 1) ≡ α z
  α-parts = omega (arith, legal.some_read, legal.read-helpers)

  -- the packets to one fresh board, for each stripe: two bytes of each helper, one of each other fresh board
  pub α-moved : d * 2 + (r - 1) ≡ α z
  α-moved = omega (arith, legal.some-fresh)

  -- the groups a, b, c make up the stripe
  pub B-parts : k * k + k * (d + r - k) + (d - k) * k ≡ B z
  unfolding B
  B-parts =
      let e : 2 * d + r - k ≡ k + (d + r - k) + (d - k) = omega (arith, legal.read-helpers) in
      sym (ap (λ (m : ℕ). k * m) e ∙ mul-add k (k + (d + r - k)) (d - k)
      ∙ ap₂ ◌+◌ (mul-add k k (d + r - k)) (mul_comm k (d - k)))

  -- the two lengths, with no difference
  pub share-bytes : α z + 1 ≡ 2 * d + r
  share-bytes = omega (arith, legal.some-fresh)

  pub stripe-bytes : B z + k * k ≡ k * (2 * d + r)
  unfolding B
  stripe-bytes =
      let e : 2 * d + r - k + k ≡ 2 * d + r = omega (arith, legal.read-helpers) in
      sym (mul-add k (2 * d + r - k) k) ∙ ap (λ (m : ℕ). k * m) e

  pub B-pos : 0 < B z
  unfolding B
  B-pos =
      let e : 1 ≤ 2 * d + r - k = omega (arith, legal.read-helpers, legal.some-fresh) in
      rw (one-mul 1) at (mul-le-mul legal.some_read e)

  -- "the least number with S × B ≥ L"
  pub stripes-enough : (L : ℕ) → L ≤ stripes z L * B z
  unfolding stripes
  stripes-enough L = omega (arith, div-add-mod' (L + (B z - 1)) (B z), mod-lt (L + (B z - 1)) B-pos, B-pos)

  pub stripes-least : (L s : ℕ) → L ≤ s * B z → stripes z L ≤ s
  unfolding stripes
  stripes-least L s h =
      let l : (L + (B z - 1)) / B z < suc s = (div-lt_iff_lt-mul {x = L + (B z - 1)} {y = suc s} B-pos).1 (rw (suc-mul s (B z)) (omega (arith, B-pos))) in
      omega arith

  -- "L = 0 gives S = 0"
  pub stripes-none : stripes z 0 ≡ 0
  stripes-none = omega (arith, stripes-least 0 0 (omega arith))

  -- "at most 31 × 32 values"
  pub B-most : B z ≤ 992
  unfolding B
  B-most =
      let e : 2 * d + r - k ≤ 63 - k = omega (arith, legal.some-fresh, legal.enough, legal.few) in
      le_trans (mul-le-mul_left k e) (most k (omega (arith, legal.read-helpers, legal.some-fresh, legal.enough, legal.few)))

  pub α-most : α z ≤ 62
  α-most = omega (arith, legal.some-fresh, legal.enough, legal.few)
