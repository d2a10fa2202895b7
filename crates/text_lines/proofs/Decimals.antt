-- The digits of a decimal, one by one: a number below 10 is one digit, any other the digits of its tenth and one more.
-- Assumes nothing.
use mathlib.Core.Path.{◌≡◌, refl, ap, ◌∙◌}
use mathlib.Core.Bool.{Bool, true, false}
use mathlib.Core.List.{List, [], ◌∷◌, ◌++◌}
use Prim.Native.Nat.{ℕ, zero, suc, ◌+◌, ◌/◌, ◌%◌, ◌≤◌, ◌<◌}
use native.Mathlib.Nat.{div-add-mod'}
use native.Mathlib.Omega.{arith}
use lib.Dec.{ltb}
use lib.ListN.{length, length-append}
use borrow.Author.Tests.{ltb-false, lt-ltb, le-ltb}
use Rattle.board_spec.specs.Text.{digits, decimal}

-- any bound of x or more gives the same digits
digits_same : (m p x : ℕ) → x ≤ m → x ≤ p → digits m x ≡ digits p x
digits_same zero zero x h k = refl
digits_same zero (suc p) x h k = rw (lt-ltb x 10 (omega arith), digits)
digits_same (suc m) zero x h k = rw (lt-ltb x 10 (omega arith), digits)
digits_same (suc m) (suc p) x h k = go (ltb x 10) refl (digits_same m p (x / 10))
  where
    go : (t : Bool) → ltb x 10 ≡ t → (x / 10 ≤ m → x / 10 ≤ p → digits m (x / 10) ≡ digits p (x / 10)) → digits (suc m) x ≡ digits (suc p) x
    go true e ih = rw (e, digits)
    go false e ih =
        let f = ltb-false x 10 e in
        rw (e, digits)
        (ap (λ (l : List ℕ). l ++ ((0x30 + x % 10) ∷ [])) (ih (omega (arith, div-add-mod' x 10)) (omega (arith, div-add-mod' x 10))))

pub decimal-one : (x : ℕ) → x < 10 → decimal x ≡ (0x30 + x) ∷ []
unfolding decimal
decimal-one x h = digits_same x (suc x) x (omega arith) (omega arith) ∙ (rw (lt-ltb x 10 h, digits))

pub decimal-more : (x : ℕ) → 10 ≤ x → decimal x ≡ decimal (x / 10) ++ ((0x30 + x % 10) ∷ [])
unfolding decimal
decimal-more x h =
    let t : x / 10 ≤ x = omega (arith, div-add-mod' x 10) in
    digits_same x (suc x) x (omega arith) (omega arith)
    ∙ (rw (le-ltb x 10 h, digits) (ap (λ (l : List ℕ). l ++ ((0x30 + x % 10) ∷ [])) (digits_same x (x / 10) (x / 10) t (omega arith))))

digits-most : (m x : ℕ) → length (digits m x) ≤ m + 1
digits-most zero x = omega arith
digits-most (suc m) x = go (ltb x 10) refl (digits-most m (x / 10))
  where
    go : (t : Bool) → ltb x 10 ≡ t → length (digits m (x / 10)) ≤ m + 1 → length (digits (suc m) x) ≤ suc m + 1
    go true e ih = rw (e, digits) (omega arith)
    go false e ih = rw (e, digits) (rw length-append (omega arith))

pub length-one : (x : ℕ) → x < 10 → length (decimal x) ≡ 1
length-one x h = ap length (decimal-one x h)

pub length_more : (x : ℕ) → 10 ≤ x → length (decimal x) ≡ length (decimal (x / 10)) + 1
length_more x h = ap length (decimal-more x h) ∙ length-append (decimal (x / 10)) _

-- a bound that is enough for sums
pub decimal-most : (x : ℕ) → length (decimal x) ≤ x + 1
unfolding decimal
decimal-most x = digits-most x x
