-- `mul` of two bytes is the remainder of their product modulo 11D: with a multiple of 11D it makes the product, and no other byte does.
-- Assumes nothing.
use mathlib.Core.Path.{◌≡◌, refl, sym, ap, ◌∙◌}
use Prim.Native.Nat.{ℕ, zero, suc, ◌+◌, ◌*◌, ◌/◌, ◌%◌, ◌^◌, ◌<◌}
use native.Mathlib.Nat.{mod-lt, lt_trans, lt-suc_self, pow-suc, mul-lt-mul_of_pos_right, le_of_suc-le-suc}
use native.Mathlib.Omega.{arith}
use lib.Bits.{xor_lt}
use lib.Dec.{T, eqb, ltb, ltb→lt, lit<}
use lib.Pow.{pow_pos, pow-lt}
use Rattle.gf256.specs.Field.{add, product, reduce, mul}
use Rattle.gf256.proofs.Sums.{Additive, add-self, add-lt, add_zero_l, at_zero, sum-additive, bit-additive}
use Rattle.gf256.proofs.Field.{all, all-at, tested2, product-left, product-right, mul-add, add-mul, mul-lt}
use Rattle.gf256.proofs.Ring.{ring}

-- ---- sums

add-below : (k : ℕ) {a b : ℕ} → a < 2 ^ k → b < 2 ^ k → add a b < 2 ^ k
unfolding add
add-below k {a} {b} la lb = xor_lt k a b la lb

bit_below : (k n : ℕ) → n < 2 → n * 2 ^ k < 2 ^ suc k
bit_below k n h = rw pow-suc (let l = mul-lt-mul_of_pos_right h (pow_pos k) in omega arith)

-- a term may cross to the other side
crossed : (a b c d : ℕ) → add a b ≡ add c d → add a c ≡ add b d
crossed a b c d e =
    let p : add a c ≡ add (add a b) (add b c) = simp ring in
    let q : add (add c d) (add b c) ≡ add b d = simp ring in
    p ∙ ap (λ (n : ℕ). add n (add b c)) e ∙ q

-- ---- there is a multiple of 11D

-- the quotient by 11D: the bits at which `reduce k` subtracts
unfoldable quotient : ℕ → ℕ → ℕ
quotient zero x = 0
quotient (suc k) x = add (x / 2 ^ (k + 8) % 2 * 2 ^ k) (quotient k (add (x / 2 ^ (k + 8) % 2 * (0x11D * 2 ^ k)) x))

quotient-additive : (k : ℕ) → Additive (quotient k)
unfolding quotient
quotient-additive zero x y = sym (add-self 0)
quotient-additive (suc k) x y =
    sum-additive (λ x. x / 2 ^ (k + 8) % 2 * 2 ^ k) (λ x. quotient k (add (x / 2 ^ (k + 8) % 2 * (0x11D * 2 ^ k)) x))
    (bit-additive (k + 8) (2 ^ k))
    (λ x y. ap (quotient k)
    (sum-additive (λ x. x / 2 ^ (k + 8) % 2 * (0x11D * 2 ^ k)) (λ x. x) (bit-additive (k + 8) (0x11D * 2 ^ k)) (λ x y. refl) x y)
    ∙ quotient-additive k _ _) x y

multiple : ℕ → ℕ
multiple x = product 7 0x11D (quotient 7 x)

multiple-additive : Additive multiple
unfolding multiple
multiple-additive x y = ap (product 7 0x11D) (quotient-additive 7 x y) ∙ product-right 7 0x11D _ _

remainder-test : T (all 8 (λ i. all 8 (λ j. eqb (product 8 (2 ^ i) (2 ^ j)) (add (multiple (product 8 (2 ^ i) (2 ^ j))) (mul (2 ^ i) (2 ^ j))))))
unfolding add product reduce mul quotient multiple all
remainder-test = tt

mul-remainder : (a b : ℕ) → a < 256 → b < 256
    → product 8 a b ≡ add (product 7 0x11D (quotient 7 (product 8 a b))) (mul a b)
unfolding multiple
mul-remainder =
    tested2 (product 8) (λ a b. add (multiple (product 8 a b)) (mul a b)) (product-left 8) (product-right 8)
    (λ b. sum-additive (λ a. multiple (product 8 a b)) (λ a. mul a b)
    (λ x y. ap multiple (product-left 8 b x y) ∙ multiple-additive _ _) (add-mul b))
    (λ a. sum-additive (λ b. multiple (product 8 a b)) (mul a)
    (λ x y. ap multiple (product-right 8 a x y) ∙ multiple-additive _ _) (mul-add a))
    remainder-test

quotient-lt : (k x : ℕ) → quotient k x < 2 ^ k
unfolding quotient
quotient-lt zero x = lit< tt
quotient-lt (suc k) x =
    add-below (suc k) (bit_below k (x / 2 ^ (k + 8) % 2) (mod-lt _ (lit< tt))) (lt_trans (quotient-lt k _) (pow-lt (lt-suc_self k)))

pub remainder : (a b : ℕ) → a < 256 → b < 256
    → (q : ℕ) × (q < 128) × (product 8 a b ≡ add (product 7 0x11D q) (mul a b))
remainder a b la lb = (quotient 7 (product 8 a b), quotient-lt 7 (product 8 a b), mul-remainder a b la lb)

-- ---- there is no other: a multiple of 11D that is a byte is 0
multiple-test : T (all 127 (λ i. ltb 255 (product 7 0x11D (suc i))))
unfolding add product all
multiple-test = tt

byte-multiple : (q : ℕ) → q < 128 → product 7 0x11D q < 256 → q ≡ 0
byte-multiple zero l h = refl
byte-multiple (suc i) l h =
    let big = ltb→lt 255 (product 7 0x11D (suc i)) (all-at 127 _ multiple-test i (le_of_suc-le-suc l)) in absurd (omega arith)

-- where two multiples of 11D, each with a byte added, are equal, the bytes are equal
same_byte : (p q x y : ℕ) → p < 128 → q < 128 → x < 256 → y < 256
    → add (product 7 0x11D p) x ≡ add (product 7 0x11D q) y → x ≡ y
same_byte p q x y lp lq lx ly e =
    let moved : product 7 0x11D (add p q) ≡ add x y = product-right 7 0x11D p q ∙ crossed _ _ _ _ e in
    let small : product 7 0x11D (add p q) < 256 = rw moved (add-lt lx ly) in
    let none : add x y ≡ 0 =
    sym moved ∙ ap (product 7 0x11D) (byte-multiple (add p q) (add-below 7 lp lq) small)
    ∙ at_zero (product 7 0x11D) (product-right 7 0x11D) in
    let back : add (add x y) y ≡ x = simp ring in
    sym back ∙ ap (λ (n : ℕ). add n y) none ∙ add_zero_l y

pub remainder-unique : (a b q x : ℕ) → a < 256 → b < 256 → q < 128 → x < 256
    → product 8 a b ≡ add (product 7 0x11D q) x → x ≡ mul a b
remainder-unique a b q x la lb lq lx e =
    same_byte q (quotient 7 (product 8 a b)) x (mul a b) lq (quotient-lt 7 _) lx (mul-lt a b) (sym e ∙ mul-remainder a b la lb)
