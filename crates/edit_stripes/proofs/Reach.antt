-- Which stripes an edit reaches; and a turn of the loop over them.
-- Assumes nothing.
use mathlib.Core.Path.{◌≡◌, ap, ap₂, ◌∙◌}
use mathlib.Core.List.{List}
use Prim.Native.Nat.{ℕ, suc, ◌+◌, ◌-◌, ◌*◌, ◌/◌, ◌<◌, ◌≤◌}
use native.Mathlib.Nat.{div-add-mod', div-lt_iff_lt-mul, mul-le-mul_right}
use native.Mathlib.Numerals.{add-one}
use native.Mathlib.Omega.{arith}
use lib.ListN.{length, take, drop}
use lib.Seq.{take_at}
use borrow.Rule.Slice.PartMut.{put_mid}
use Rattle.lists.proofs.Alls.{all-imp}
use Rattle.sizes.specs.declared.Sizes.{Sizes}
use Rattle.sizes.specs.Sizing.{α, B, stripes}
use Rattle.sizes.proofs.Legal.{Legal, B-pos, stripes-enough, stripes-least}
use Rattle.mbcr.specs.Share.{kept}
use Rattle.decode_laws.specs.Steps.{Placed}
use Rattle.edit_put.specs.Steps.{added}
use Rattle.edit_stripe.specs.Steps.{changed_stripe}
use Rattle.edit_laws.specs.Steps.{stripe_edited, stripes_edited}

-- fewer stripes of an area that is as long
pub placed-fewer : (z : Sizes) (starts area area₀ : List ℕ) (s stop : ℕ) → s < stop → length area ≡ length area₀ → Placed z starts area₀ stop → Placed z starts area (s + 1)
placed-fewer z starts area area₀ s stop h e p =
    let k : s + 1 ≤ stop = omega arith in
    let q : (s + 1) * α z ≤ stop * α z = mul-le-mul_right (α z) k in
    all-imp (λ i. i + stop * α z ≤ length area₀) (λ i. i + (s + 1) * α z ≤ length area) (λ i l. omega (arith, q, e, l)) starts p

module _ (z : Sizes) (xs boards starts : List ℕ) (part : ℕ) (on : List ℕ) (offset : ℕ) (bytes : List ℕ) where
  -- one stripe more
  pub turn : (s stop : ℕ) (area next : List ℕ) → s < stop → next ≡ stripe_edited z xs boards starts part on offset bytes s area
      → stripes_edited z xs boards starts part on offset bytes (s + 1) (stop - (s + 1)) next ≡ stripes_edited z xs boards starts part on offset bytes s (stop - s) area
  turn s stop area next h e =
      let m : suc (stop - (s + 1)) ≡ stop - s = omega (arith, h) in
      ap₂ {C = List ℕ} (λ (i : ℕ) (l : List ℕ). stripes_edited z xs boards starts part on offset bytes i (stop - (s + 1)) l) (add-one s) e
      ∙ ap (λ (n : ℕ). stripes_edited z xs boards starts part on offset bytes s n area) m

  -- and none
  pub end : (s stop : ℕ) (area : List ℕ) → stop ≤ s → stripes_edited z xs boards starts part on offset bytes s (stop - s) area ≡ area
  end s stop area h = let m : stop - s ≡ 0 = omega arith in ap (λ (n : ℕ). stripes_edited z xs boards starts part on offset bytes s n area) m

-- what is cut off the working array is the stripe that was put there
pub stripe-first : (b m : ℕ) (l a : List ℕ) → m ≡ b → length a ≡ b → take b (put_mid 0 (m - 0) l a) ≡ a
stripe-first b m l a e la = take_at a (drop (m - 0) l) b la

-- one stripe
pub one-edited : (z : Sizes) (xs boards starts : List ℕ) (part : ℕ) (on : List ℕ) (offset : ℕ) (bytes : List ℕ) (s : ℕ) (area u next : List ℕ)
    → u ≡ changed_stripe z xs boards starts area offset bytes s → next ≡ added (α z) part (s * α z) (kept z xs u) on area
    → next ≡ stripe_edited z xs boards starts part on offset bytes s area
unfolding stripe_edited
one-edited z xs boards starts part on offset bytes s area u next eu en = en ∙ ap (λ (l : List ℕ). added (α z) part (s * α z) (kept z xs l) on area) eu

-- the stripes that m bytes at an offset reach
module _ (z : Sizes) (legal : Legal z) (offset m : ℕ) where
  abbrev first : ℕ
  first = offset / B z

  abbrev stop : ℕ
  stop = stripes z (offset + m)

  pub first-from : first * B z ≤ offset
  first-from = omega (arith, div-add-mod' offset (B z))

  pub first-low : first ≤ stop
  first-low =
      let l : first < suc stop = (div-lt_iff_lt-mul {x = offset} {y = suc stop} (B-pos z legal)).1 (omega (arith, stripes-enough z legal (offset + m), B-pos z legal)) in
      omega arith

  pub stop-high : offset + m ≤ (first + (stop - first)) * B z
  stop-high = let e : first + (stop - first) ≡ stop = omega (arith, first-low) in rw e (stripes-enough z legal (offset + m))

  pub stop-low : (L : ℕ) → offset + m ≤ L → first + (stop - first) ≤ stripes z L
  stop-low L h = omega (arith, first-low, stripes-least z legal (offset + m) (stripes z L) (omega (arith, stripes-enough z legal L)))

  pub stop-few : (c : ℕ) → offset + m ≤ c * B z → stop ≤ c
  stop-few c h = stripes-least z legal (offset + m) c h
