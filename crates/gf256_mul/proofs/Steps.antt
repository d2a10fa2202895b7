-- What the code does to a byte, as products: a shift and a sum is a product by z, and a sum of eight multiples is a product.
-- Assumes nothing.
use mathlib.Core.Path.{◌≡◌, sym, ap, ap₂, ◌∙◌}
use Prim.Native.Nat.{ℕ, zero, suc, ◌*◌, ◌/◌, ◌%◌, ◌^◌, ◌<◌}
use native.Mathlib.Nat.{mod-lt, zero-mul as zero-times, one-mul as one-times}
use native.Mathlib.Omega.{arith}
use native.Mathlib.Numerals.{add-one}
use lib.Arith.{lt-one}
use lib.Pow.{shr_lt}
use lib.Bits.{bit_and, and_mask}
use lib.Dec.{T, eqb, eqb→eq, lit<}
use Rattle.gf256_mul.specs.declared.Multiples.{Multiples}
use Rattle.gf256_mul.specs.Steps.{Doubled}
use Rattle.gf256.specs.Field.{add, product, reduce, mul}
use Rattle.gf256.proofs.Sums.{add_assoc, add_comm, add_zero_l, add_zero_r, add-mod, bit, sum-additive, twice-additive, bit-additive, low_bit, agree}
use Rattle.gf256.proofs.Field.{all, all-at, mul-add, mul_comm, mul_assoc, mul-zero, mul-one, mul-lt}

double-test : T (all 8 (λ i. eqb (add (2 ^ i * 2 % 2 ^ 8) (2 ^ i / 2 ^ 7 % 2 * 0x1D)) (mul 2 (2 ^ i))))
unfolding add product reduce mul all
double-test = tt

pub double-is : (a : ℕ) → a < 256 → add (a * 2 % 256) (a / 128 * 0x1D) ≡ mul 2 a
double-is a l =
    let top : a / 128 ≡ a / 128 % 2 = omega arith in
    ap (λ (n : ℕ). add (a * 2 % 256) (n * 0x1D)) top
    ∙ agree 8 (λ a. add (a * 2 % 2 ^ 8) (a / 2 ^ 7 % 2 * 0x1D)) (mul 2)
    (sum-additive (λ a. a * 2 % 2 ^ 8) (λ a. a / 2 ^ 7 % 2 * 0x1D)
    (λ x y. ap (λ (n : ℕ). n % 2 ^ 8) (twice-additive x y) ∙ add-mod 8 (x * 2) (y * 2)) (bit-additive 7 0x1D))
    (mul-add 2) (λ i li. eqb→eq _ _ (all-at 8 _ double-test i li)) a l

shift-test : T (all 7 (λ i. eqb (2 ^ i * 2) (mul 2 (2 ^ i))))
unfolding add product reduce mul all
shift-test = tt

shift_is : (a : ℕ) → a < 128 → a * 2 ≡ mul 2 a
shift_is a l = agree 7 (λ a. a * 2) (mul 2) twice-additive (mul-add 2) (λ i li. eqb→eq _ _ (all-at 7 _ shift-test i li)) a l

mul-bit : (x n : ℕ) → x < 256 → n < 2 → mul x n ≡ n * x
mul-bit x n l h =
    bit (λ n. mul x n ≡ n * x) (mul-zero x ∙ sym (zero-times x)) (mul-one x l ∙ sym (one-times x)) n h

-- the lowest bit, as the code takes it
pub even : (v m : ℕ) → bit_and v 1 ≡ 0 → 0 ≡ v % 2 * m
even v m e = sym (ap (λ (n : ℕ). n * m) (sym (and_mask v 1) ∙ e) ∙ zero-times m)

pub odd : (v m : ℕ) → (bit_and v 1 ≡ 0 → ⊥) → m ≡ v % 2 * m
odd v m ne =
    let e : v % 2 ≡ 1 = omega (arith, and_mask v 1) in
    sym (ap (λ (n : ℕ). n * m) e ∙ one-times m)

-- one bit off a factor
step : (r x v : ℕ) → x < 256 → v < 256 → add (add r (v % 2 * x)) (mul (mul 2 x) (v / 2)) ≡ add r (mul x v)
step r x v lx lv =
    add_assoc r (v % 2 * x) (mul (mul 2 x) (v / 2))
    ∙ ap (add r)
    (add_comm _ _
    ∙ ap₂ add
    (ap (λ (n : ℕ). mul n (v / 2)) (mul_comm 2 x) ∙ mul_assoc x 2 (v / 2)
    ∙ ap (mul x) (sym (shift_is (v / 2) (omega arith))))
    (sym (mul-bit x (v % 2) lx (mod-lt v (lit< tt))))
    ∙ sym (mul-add x (v / 2 * 2) (v % 2)) ∙ ap (mul x) (low_bit v))

-- r and the multiples of x at the k lowest bits of v
spread : ℕ → ℕ → ℕ → ℕ → ℕ
spread zero r x v = r
spread (suc k) r x v = spread k (add r (v % 2 * x)) (mul 2 x) (v / 2)

spread-is : (k r x v : ℕ) → x < 256 → v < 256 → v < 2 ^ k → spread k r x v ≡ add r (mul x v)
unfolding spread
spread-is zero r x v lx lv h = sym (ap (λ (n : ℕ). add r (mul x n)) (lt-one h) ∙ ap (add r) (mul-zero x) ∙ add_zero_r r)
spread-is (suc k) r x v lx lv h =
    spread-is k (add r (v % 2 * x)) (mul 2 x) (v / 2) (mul-lt 2 x) (omega arith) (shr_lt k 1 (rw add-one h))
    ∙ step r x v lx lv

-- a product is the sum of the multiples of its first factor at the eight bits of the other
pub mul-bits : (m : Multiples) (v : ℕ) → Doubled m → m.m0 < 256 → v < 256
    → add (add (add (add (add (add (add (v % 2 * m.m0) (v / 2 % 2 * m.m1)) (v / 4 % 2 * m.m2)) (v / 8 % 2 * m.m3))
    (v / 16 % 2 * m.m4)) (v / 32 % 2 * m.m5)) (v / 64 % 2 * m.m6)) (v / 128 % 2 * m.m7) ≡ mul m.m0 v
unfolding spread
mul-bits m v d lx lv =
    let whole : add 0 (mul m.m0 v) ≡ spread 8 0 m.m0 v = sym (spread-is 8 0 m.m0 v lx lv lv) in
    let two : v / 2 / 2 ≡ v / 4 = omega arith in
    let three : v / 4 / 2 ≡ v / 8 = omega arith in
    let four : v / 8 / 2 ≡ v / 16 = omega arith in
    let five : v / 16 / 2 ≡ v / 32 = omega arith in
    let six : v / 32 / 2 ≡ v / 64 = omega arith in
    let seven : v / 64 / 2 ≡ v / 128 = omega arith in
    cc (add_zero_l (mul m.m0 v), add_zero_l (v % 2 * m.m0))
