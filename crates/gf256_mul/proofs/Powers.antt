-- The powers of 02 and the logarithms: every byte but 00 is a power, the place of a power is its logarithm, and the product of two powers stands
-- at the sum of their places.
-- Assumes nothing.
use mathlib.Core.Path.{◌≡◌, refl, sym, ap, ap₂, ◌∙◌}
use mathlib.Core.Bool.{Bool, true, false}
use mathlib.Core.List.{List, [], ◌∷◌}
use Prim.Native.Nat.{ℕ, zero, suc, ◌+◌, ◌*◌, ◌/◌, ◌%◌, ◌<◌}
use native.Mathlib.Nat.{zero-add, suc-add, add-suc, add-zero, zero-mul as zero-times, suc-mul, mod-lt, div-add-mod', not-suc-le-zero, le_of_suc-le-suc}
use lib.Dec.{T, eqb, eqb→eq, ltb, ltb→lt, lit<}
use lib.ListN.{length, get_or}
use Rattle.gf256.specs.Field.{add, product, reduce, mul}
use Rattle.gf256.proofs.Field.{all, all-at, mul_assoc, one-mul, mul-lt}
use Rattle.gf256_mul.specs.Tables.{doubled, powers, place, logarithm}

-- ---- the powers

-- 02 to the power n
unfoldable pub power : ℕ → ℕ
power zero = 1
power (suc n) = mul 2 (power n)

pub power-lt : (n : ℕ) → power n < 256
unfolding power
power-lt zero = lit< tt
power-lt (suc n) = mul-lt 2 (power n)

power-add : (m n : ℕ) → power (m + n) ≡ mul (power m) (power n)
unfolding power
power-add zero n = ap power (zero-add n) ∙ sym (one-mul (power n) (power-lt n))
power-add (suc m) n = ap power (suc-add m n) ∙ ap (mul 2) (power-add m n) ∙ sym (mul_assoc 2 (power m) (power n))

pub power-255 : power 255 ≡ 1
unfolding add product reduce mul power
power-255 = refl

power-turns : (k : ℕ) → power (k * 255) ≡ 1
unfolding power
power-turns zero = ap power (zero-times 255)
power-turns (suc k) =
    ap power (suc-mul k 255) ∙ power-add (k * 255) 255 ∙ ap₂ mul (power-turns k) power-255 ∙ one-mul 1 (lit< tt)

-- after 255 places the powers begin anew
power-low : (n : ℕ) → power (n % 255) ≡ power n
power-low n =
    let e : n / 255 * 255 + n % 255 ≡ n = div-add-mod' n 255 in
    sym (one-mul (power (n % 255)) (power-lt (n % 255))) ∙ ap (λ (x : ℕ). mul x (power (n % 255))) (sym (power-turns (n / 255)))
    ∙ sym (power-add (n / 255 * 255) (n % 255)) ∙ ap power e

doubled-at : (n i k : ℕ) → k < n → get_or (doubled n (power i)) k 0 ≡ power (i + k)
unfolding doubled power
doubled-at zero i k h = absurd (not-suc-le-zero h)
doubled-at (suc n) i zero h = ap power (sym (add-zero i))
doubled-at (suc n) i (suc k) h =
    doubled-at n (suc i) k (le_of_suc-le-suc h) ∙ ap power (suc-add i k ∙ sym (add-suc i k))

pub powers-at : (k : ℕ) → k < 255 → get_or powers k 0 ≡ power k
unfolding power powers
powers-at k h = doubled-at 255 0 k h ∙ ap power (zero-add k)

pub power-product : (m n : ℕ) → m < 255 → n < 255 → mul (get_or powers m 0) (get_or powers n 0) ≡ get_or powers ((m + n) % 255) 0
power-product m n hm hn =
    ap₂ mul (powers-at m hm) (powers-at n hn) ∙ sym (power-add m n) ∙ sym (power-low (m + n))
    ∙ sym (powers-at ((m + n) % 255) (mod-lt (m + n) (lit< tt)))

-- ---- the logarithms

-- what stands at the place of a in a list that has it is a
place-step : (b : Bool) (a x : ℕ) (xs : List ℕ) → (T b → a ≡ x) → (place a xs < length xs → get_or xs (place a xs) 0 ≡ a)
    → elim b [ true ↦ 0 | false ↦ suc (place a xs) ] < suc (length xs)
    → get_or (x ∷ xs) (elim b [ true ↦ 0 | false ↦ suc (place a xs) ]) 0 ≡ a
place-step true a x xs same further h = sym (same tt)
place-step false a x xs same further h = further (le_of_suc-le-suc h)

at_place : (a : ℕ) (xs : List ℕ) → place a xs < length xs → get_or xs (place a xs) 0 ≡ a
unfolding place
at_place a [] h = absurd (not-suc-le-zero h)
at_place a (x ∷ xs) h = place-step (eqb a x) a x xs (eqb→eq a x) (at_place a xs) h

-- every byte but 00 is one of the powers
found-test : T (all 255 (λ i. ltb (logarithm (suc i)) 255))
unfolding add product reduce mul doubled powers place logarithm all
found-test = tt

-- and each power stands there once
once-test : T (all 255 (λ n. eqb (logarithm (get_or powers n 0)) n))
unfolding add product reduce mul doubled powers place logarithm all
once-test = tt

pub powers-count : length powers ≡ 255
unfolding powers doubled
powers-count = refl

pub logarithm-place : (a : ℕ) → 0 < a → a < 256 → logarithm a < 255
logarithm-place zero h l = absurd (not-suc-le-zero h)
logarithm-place (suc i) h l = ltb→lt (logarithm (suc i)) 255 (all-at 255 _ found-test i (le_of_suc-le-suc l))

pub power-logarithm : (a : ℕ) → 0 < a → a < 256 → get_or powers (logarithm a) 0 ≡ a
unfolding logarithm
power-logarithm a h l = at_place a powers (rw powers-count (logarithm-place a h l))

pub logarithm-power : (n : ℕ) → n < 255 → logarithm (get_or powers n 0) ≡ n
logarithm-power n h = eqb→eq (logarithm (get_or powers n 0)) n (all-at 255 _ once-test n h)

-- the logarithms of a, a + 1 ..: n of them
unfoldable pub logarithms : ℕ → ℕ → List ℕ
logarithms zero a = []
logarithms (suc n) a = logarithm a ∷ logarithms n (suc a)

logarithms-at : (n a k : ℕ) → k < n → get_or (logarithms n a) k 0 ≡ logarithm (a + k)
unfolding logarithms
logarithms-at zero a k h = absurd (not-suc-le-zero h)
logarithms-at (suc n) a zero h = ap logarithm (sym (add-zero a))
logarithms-at (suc n) a (suc k) h =
    logarithms-at n (suc a) k (le_of_suc-le-suc h) ∙ ap logarithm (suc-add a k ∙ sym (add-suc a k))

-- those of all bytes but 00, each at its own place; the entry of 00 says nothing
unfoldable pub logarithm-table : List ℕ
logarithm-table = 0 ∷ logarithms 255 1

pub table_at : (a : ℕ) → 0 < a → a < 256 → get_or logarithm-table a 0 ≡ logarithm a
unfolding logarithm-table
table_at zero h l = absurd (not-suc-le-zero h)
table_at (suc i) h l = logarithms-at 255 1 i (le_of_suc-le-suc l) ∙ ap logarithm (suc-add 0 i ∙ ap suc (zero-add i))

-- the product of two bytes other than 00 is the power at the sum of their logarithms, from which 255 is taken where it is 255 or more
pub product_at : (a b : ℕ) → 0 < a → a < 256 → 0 < b → b < 256 → get_or powers ((logarithm a + logarithm b) % 255) 0 ≡ mul a b
product_at a b pa la pb lb =
    sym (power-product (logarithm a) (logarithm b) (logarithm-place a pa la) (logarithm-place b pb lb))
    ∙ ap₂ mul (power-logarithm a pa la) (power-logarithm b pb lb)
