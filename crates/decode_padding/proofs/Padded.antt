-- A loop that looks for a byte that is not 00; the end of a stripe in the working array.
-- Assumes nothing.
use mathlib.Core.Path.{◌≡◌, sym, ap, ap₂, ◌∙◌}
use mathlib.Core.Bool.{Bool, true, false}
use mathlib.Core.List.{List, append-nil}
use Prim.Native.Nat.{ℕ, suc, ◌+◌, ◌*◌, ◌-◌, ◌<◌, ◌≤◌}
use native.Mathlib.Nat.{add-zero, one-mul}
use native.Mathlib.Numerals.{add-one}
use native.Mathlib.Omega.{arith}
use lib.Dec.{eqb}
use lib.ListN.{length, get_or, take, drop, length-drop, drop_of_length-le}
use lib.Seq.{drop-cons, drop-append-le, take-append-le, take_all}
use borrow.Author.Tests.{eq-eqb, ne_eqb}
use borrow.Rule.Slice.PartMut.{put_mid}
use Rattle.lists.specs.Tests.{pick}
use Rattle.lists.specs.Lists.{join}
use Rattle.decode_laws.specs.Steps.{zeros}
use Rattle.decode_stripe.proofs.Made.{part-long}

module _ (a : List ℕ) (i : ℕ) (h : i < length a) where
  head : zeros (drop i a) ≡ pick (eqb (get_or a i 0) 0) (zeros (drop (suc i) a)) false
  head = ap zeros (drop-cons a i 0 h)

  pub zeros-next : get_or a i 0 ≡ 0 → zeros (drop (i + 1) a) ≡ zeros (drop i a)
  zeros-next e = ap (λ (m : ℕ). zeros (drop m a)) (add-one i) ∙ sym (head ∙ ap (λ (b : Bool). pick b (zeros (drop (suc i) a)) false) (eq-eqb _ _ e))

  pub zeros-no : (get_or a i 0 ≡ 0 → ⊥) → zeros (drop i a) ≡ false
  zeros-no e = head ∙ ap (λ (b : Bool). pick b (zeros (drop (suc i) a)) false) (ne_eqb _ _ e)

pub zeros-end : (a : List ℕ) (i : ℕ) → length a ≤ i → zeros (drop i a) ≡ true
zeros-end a i h = ap zeros (drop_of_length-le a {i = i} h)

-- one stripe in the working array
module _ (b s : ℕ) (f : ℕ → List ℕ) (zs y : List ℕ) (lf : length (f s) ≡ b) (hz : b ≤ length zs)
    (ey : y ≡ take (length (take (b - 0) (drop 0 zs))) (join 1 (λ i. f (s + i)))) where
  stripe-is : y ≡ f s
  stripe-is =
      ey ∙ ap₂ (λ (m : ℕ) (l : List ℕ). take m l) (part-long b zs hz) (append-nil (f (s + 0)) ∙ ap f (add-zero s)) ∙ take_all b (f s) (omega arith)

  long : length y ≡ b
  long = ap length stripe-is ∙ lf

  pub array_long : length (put_mid 0 (b - 0) zs y) ≡ length zs
  array_long = lib.ListN.length-append y (drop (b - 0) zs) ∙ ap₂ ◌+◌ long (length-drop (b - 0) zs) ∙ omega arith

  -- its end
  pub end_is : (rest : ℕ) → rest ≤ b → take (b - rest) (drop rest (put_mid 0 (b - 0) zs y)) ≡ drop rest (f s)
  end_is rest h =
      ap (take (b - rest)) (drop-append-le rest y _ (omega (arith, long)))
      ∙ take-append-le (b - rest) (drop rest y) _ (omega (arith, length-drop rest y, long))
      ∙ take_all (b - rest) (drop rest y) (omega (arith, length-drop rest y, long)) ∙ ap (drop rest) stripe-is

-- as much of the array as a stripe takes
module _ (b w : ℕ) (zs : List ℕ) (e : b ≡ w) (h : b ≤ length zs) where
  pub one-long : length (take (b - 0) (drop 0 zs)) ≤ 1 * w
  one-long = omega (arith, part-long b zs h, one-mul w)

  pub one-short : 1 * w ≤ length (take (b - 0) (drop 0 zs)) + w
  one-short = omega (arith, part-long b zs h, one-mul w)
