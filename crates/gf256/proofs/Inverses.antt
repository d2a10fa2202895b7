-- Every byte but 0 has one inverse: 1 and z have theirs, the inverse of a product is the product of the inverses, and each byte but 0 is
-- a power of z. Assumes nothing.
use mathlib.Core.Path.{◌≡◌, refl, sym, ap, ap₂, ◌∙◌}
use Prim.Native.Nat.{ℕ, zero, suc, ◌%◌, ◌<◌}
use lib.Dec.{lit<}
use Rattle.gf256.specs.Field.{add, product, reduce, mul, squares, inverse}
use Rattle.gf256.proofs.Field.{mul_comm, mul_assoc, one-mul, mul-one, mul-lt, mul_low}
use Rattle.gf256.proofs.Powers.{each-byte}
use Rattle.gf256.proofs.Ring.{ring}

mul-swap : (a b c d : ℕ) → mul (mul a b) (mul c d) ≡ mul (mul a c) (mul b d)
mul-swap a b c d = simp ring

squares-mul : (k a b : ℕ) → squares k (mul a b) ≡ mul (squares k a) (squares k b)
unfolding squares
squares-mul zero a b = sym (one-mul 1 (lit< tt))
squares-mul (suc k) a b =
    ap (λ (s : ℕ). mul s (squares k s)) (mul-swap a b a b)
    ∙ ap (mul (mul (mul a a) (mul b b))) (squares-mul k (mul a a) (mul b b)) ∙ mul-swap _ _ _ _

inverse-of-1 : mul 1 (inverse 1) ≡ 1
unfolding add product reduce mul squares inverse
inverse-of-1 = refl

inverse-of-2 : mul 2 (inverse 2) ≡ 1
unfolding add product reduce mul squares inverse
inverse-of-2 = refl

inverse-of-double : (x : ℕ) → mul x (inverse x) ≡ 1 → mul (mul 2 x) (inverse (mul 2 x)) ≡ 1
unfolding inverse
inverse-of-double x e =
    ap (mul (mul 2 x)) (squares-mul 7 2 x) ∙ mul-swap 2 x (inverse 2) (inverse x) ∙ ap₂ mul inverse-of-2 e ∙ one-mul 1 (lit< tt)

pub mul-inverse : (a : ℕ) → 0 < a → a < 256 → mul a (inverse a) ≡ 1
mul-inverse = each-byte (λ a. mul a (inverse a) ≡ 1) inverse-of-double inverse-of-1

pub inverse-lt : (a : ℕ) → inverse a < 256
unfolding inverse squares
inverse-lt a = mul-lt _ _

pub inverse-none : inverse 0 ≡ 0
unfolding add product reduce mul squares inverse
inverse-none = refl

-- of other numbers than bytes only the low 8 bits count
pub inverse-low : (a : ℕ) → inverse (a % 256) ≡ inverse a
unfolding inverse squares
inverse-low a = ap (λ (s : ℕ). mul s (squares 6 s)) (mul_low a a)

pub inverse-unique : (a x : ℕ) → 0 < a → a < 256 → x < 256 → mul a x ≡ 1 → x ≡ inverse a
inverse-unique a x h l lx e =
    sym (mul-one x lx) ∙ ap (mul x) (sym (mul-inverse a h l)) ∙ sym (mul_assoc x a (inverse a))
    ∙ ap (λ (n : ℕ). mul n (inverse a)) (mul_comm x a ∙ e) ∙ one-mul (inverse a) (inverse-lt a)
