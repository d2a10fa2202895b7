-- Sums over the field: parts of them, and sums of sums.
-- Assumes nothing.
use mathlib.Core.Path.{◌≡◌, refl, sym, ap, ap₂, ◌∙◌}
use Prim.Native.Nat.{ℕ, zero, suc, ◌+◌, ◌<◌, ◌≤◌}
use native.Mathlib.Nat.{zero-add, suc-add}
use native.Mathlib.Omega.{arith}
use Rattle.gf256.specs.Field.{add}
use Rattle.gf256.proofs.Ring.{ring}
use Rattle.gf256.proofs.Sums.{add-self, add_zero_l, add_zero_r}
use Rattle.polynomial.specs.Polynomial.{sum}

pub sum_below : (n : ℕ) (f g : ℕ → ℕ) → ((i : ℕ) → i < n → f i ≡ g i) → sum n f ≡ sum n g
sum_below zero f g h = refl
sum_below (suc n) f g h = ap₂ add (h 0 (omega arith)) (sum_below n (λ i. f (suc i)) (λ i. g (suc i)) (λ i l. h (suc i) (omega arith)))

pub sum-none : (n : ℕ) (f : ℕ → ℕ) → ((i : ℕ) → i < n → f i ≡ 0) → sum n f ≡ 0
sum-none zero f h = refl
sum-none (suc n) f h = ap₂ add (h 0 (omega arith)) (sum-none n (λ i. f (suc i)) (λ i l. h (suc i) (omega arith))) ∙ add-self 0

-- terms that are 0 behind
pub sum-cut : (m n : ℕ) (f : ℕ → ℕ) → m ≤ n → ((i : ℕ) → m ≤ i → i < n → f i ≡ 0) → sum n f ≡ sum m f
sum-cut zero n f h z = sum-none n f (λ i l. z i (omega arith) l)
sum-cut (suc m) zero f h z = absurd (omega arith)
sum-cut (suc m) (suc n) f h z = ap (add (f 0)) (sum-cut m n (λ i. f (suc i)) (omega arith) (λ i l k. z (suc i) (omega arith) (omega arith)))

four : (a b c e : ℕ) → add (add a b) (add c e) ≡ add (add a c) (add b e)
four a b c e = simp ring

pub sum-add : (n : ℕ) (f g : ℕ → ℕ) → sum n (λ i. add (f i) (g i)) ≡ add (sum n f) (sum n g)
sum-add zero f g = sym (add-self 0)
sum-add (suc n) f g = ap (add (add (f 0) (g 0))) (sum-add n (λ i. f (suc i)) (λ i. g (suc i))) ∙ four (f 0) (g 0) _ _

three : (a b c : ℕ) → add a (add b c) ≡ add (add a b) c
three a b c = simp ring

-- the last term
pub sum-suc : (n : ℕ) (f : ℕ → ℕ) → sum (suc n) f ≡ add (sum n f) (f n)
sum-suc zero f = add_zero_r (f 0) ∙ sym (add_zero_l (f 0))
sum-suc (suc n) f = ap (add (f 0)) (sum-suc n (λ i. f (suc i))) ∙ three (f 0) _ (f (suc n))

-- two parts
pub sum-split : (m n : ℕ) (f : ℕ → ℕ) → sum (m + n) f ≡ add (sum m f) (sum n (λ i. f (m + i)))
sum-split zero n f =
    ap (λ (k : ℕ). sum k f) (zero-add n) ∙ sum_below n f (λ i. f (0 + i)) (λ i l. ap f (sym (zero-add i))) ∙ sym (add_zero_l _)
sum-split (suc m) n f =
    ap (λ (k : ℕ). sum k f) (suc-add m n) ∙ ap (add (f 0)) (sum-split m n (λ i. f (suc i))) ∙ three (f 0) _ _
    ∙ ap (add (sum (suc m) f)) (sum_below n (λ i. f (suc (m + i))) (λ i. f (suc m + i)) (λ i l. ap f (sym (suc-add m i))))

pub sum-swap : (m n : ℕ) (f : ℕ → ℕ → ℕ) → sum m (λ i. sum n (λ j. f i j)) ≡ sum n (λ j. sum m (λ i. f i j))
sum-swap zero n f = sym (sum-none n (λ j. 0) (λ j l. refl))
sum-swap (suc m) n f =
    ap (add (sum n (λ j. f 0 j))) (sum-swap m n (λ i. f (suc i))) ∙ sym (sum-add n (λ j. f 0 j) (λ j. sum m (λ i. f (suc i) j)))
