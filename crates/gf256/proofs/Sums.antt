-- The laws of `add`, and of functions that respect sums: two that agree at 1, 2, 4 .. agree everywhere.
-- Assumes nothing.
use mathlib.Core.Path.{◌≡◌, refl, sym, ap, ap₂, ◌∙◌}
use Prim.Native.Nat.{ℕ, zero, suc, ◌+◌, ◌*◌, ◌/◌, ◌%◌, ◌^◌, ◌<◌, suc-le-suc}
use native.Mathlib.Nat.{add-zero, zero-mul, one-mul, mod-lt, pow-suc, div-add-mod', zero-lt-suc, not-suc-le-zero, le_of_suc-le-suc}
use lib.Arith.{bin_ind, lt-one}
use lib.Pow.{shr_lt}
use native.Mathlib.Numerals.{add-one}
use lib.Dec.{lit<}
use lib.Bits.{bit_xor, differ, xor_step, xor_comm, xor_zero_r, xor_self, xor_lt, xor_block, xor_shr, xor_mod, xor_shifted}
use Rattle.gf256.specs.Field.{add}

pub add_comm : (a b : ℕ) → add a b ≡ add b a
unfolding add
add_comm a b = xor_comm a b

pub add_zero_l : (a : ℕ) → add 0 a ≡ a
unfolding add
add_zero_l a = refl

pub add_zero_r : (a : ℕ) → add a 0 ≡ a
unfolding add
add_zero_r a = xor_zero_r a

pub add-self : (a : ℕ) → add a a ≡ 0
unfolding add
add-self a = xor_self a

pub add-lt : {a b : ℕ} → a < 256 → b < 256 → add a b < 256
unfolding add
add-lt {a} {b} h k = xor_lt 8 a b h k

pub add-mod : (k a b : ℕ) → add a b % 2 ^ k ≡ add (a % 2 ^ k) (b % 2 ^ k)
unfolding add
add-mod k a b = xor_mod a b k

pub add-div : (k a b : ℕ) → add a b / 2 ^ k ≡ add (a / 2 ^ k) (b / 2 ^ k)
unfolding add
add-div k a b = xor_shr a b k

-- a number below 2, by cases
pub bit : (P : ℕ → Type 0) → P 0 → P 1 → (n : ℕ) → n < 2 → P n
bit P z o zero h = z
bit P z o (suc zero) h = o
bit P z o (suc (suc n)) h = absurd (not-suc-le-zero (le_of_suc-le-suc (le_of_suc-le-suc h)))

-- an equation of three bits, by its eight cases
bits3 : (f g : ℕ → ℕ → ℕ → ℕ) → f 0 0 0 ≡ g 0 0 0 → f 0 0 1 ≡ g 0 0 1 → f 0 1 0 ≡ g 0 1 0 → f 0 1 1 ≡ g 0 1 1
    → f 1 0 0 ≡ g 1 0 0 → f 1 0 1 ≡ g 1 0 1 → f 1 1 0 ≡ g 1 1 0 → f 1 1 1 ≡ g 1 1 1
    → (x y z : ℕ) → x < 2 → y < 2 → z < 2 → f x y z ≡ g x y z
bits3 f g a b c d e h i j x y z hx hy hz =
    bit (λ x. f x y z ≡ g x y z)
    (bit (λ y. f 0 y z ≡ g 0 y z) (bit (λ z. f 0 0 z ≡ g 0 0 z) a b z hz) (bit (λ z. f 0 1 z ≡ g 0 1 z) c d z hz) y hy)
    (bit (λ y. f 1 y z ≡ g 1 y z) (bit (λ z. f 1 0 z ≡ g 1 0 z) e h z hz) (bit (λ z. f 1 1 z ≡ g 1 1 z) i j z hz) y hy)
    x hx

digit : (x y z : ℕ) → x < 2 → y < 2 → z < 2 → differ (bit_xor x y) z ≡ differ x (bit_xor y z)
digit =
    bits3 (λ x y z. differ (bit_xor x y) z) (λ x y z. differ x (bit_xor y z)) refl refl refl refl refl refl refl refl

pub add_assoc : (a b c : ℕ) → add (add a b) c ≡ add a (add b c)
unfolding add
add_assoc a =
    bin_ind (λ (n : ℕ). (b c : ℕ) → bit_xor (bit_xor n b) c ≡ bit_xor n (bit_xor b c))
    (λ b c. refl)
    (λ n ih b c.
    xor_step (bit_xor n b) c
    ∙ ap₂ (λ (x y : ℕ). x * 2 + y)
    (ap (λ (x : ℕ). bit_xor x (c / 2)) (xor_shr n b 1) ∙ ih (b / 2) (c / 2)
    ∙ ap (bit_xor (n / 2)) (sym (xor_shr b c 1)))
    (ap (λ (x : ℕ). differ x (c % 2)) (xor_mod n b 1)
    ∙ digit (n % 2) (b % 2) (c % 2) (mod-lt n (lit< tt)) (mod-lt b (lit< tt)) (mod-lt c (lit< tt))
    ∙ ap (differ (n % 2)) (sym (xor_mod b c 1)))
    ∙ sym (xor_step n (bit_xor b c))) a

-- (a + b) + (c + d) = (a + c) + (b + d)
add-swap : (a b c d : ℕ) → add (add a b) (add c d) ≡ add (add a c) (add b d)
add-swap a b c d =
    add_assoc a b (add c d)
    ∙ ap (add a) (sym (add_assoc b c d) ∙ ap (λ (x : ℕ). add x d) (add_comm b c) ∙ add_assoc c b d)
    ∙ sym (add_assoc a c (add b d))

-- f respects sums
abbrev pub Additive : (ℕ → ℕ) → Type 0
Additive f = (x y : ℕ) → f (add x y) ≡ add (f x) (f y)

pub at_zero : (f : ℕ → ℕ) → Additive f → f 0 ≡ 0
at_zero f h = ap f (sym (add-self 0)) ∙ h 0 0 ∙ add-self (f 0)

pub sum-additive : (f g : ℕ → ℕ) → Additive f → Additive g → Additive (λ x. add (f x) (g x))
sum-additive f g p q x y = ap₂ add (p x y) (q x y) ∙ add-swap (f x) (f y) (g x) (g y)

pub twice-additive : Additive (λ x. x * 2)
unfolding add
twice-additive x y = sym (simp (add-zero) at (xor_block 1 x y 0 0 (lit< tt) (lit< tt)))

-- the coefficient of z^k, times c
coefficient : (c p q : ℕ) → p < 2 → q < 2 → add p q * c ≡ add (p * c) (q * c)
unfolding add
coefficient c p q hp hq =
    bit (λ p. add p q * c ≡ add (p * c) (q * c)) (sym (ap (λ (x : ℕ). add x (q * c)) (zero-mul c)))
    (bit (λ q. add 1 q * c ≡ add (1 * c) (q * c))
    (sym (ap (add (1 * c)) (zero-mul c) ∙ add_zero_r (1 * c)))
    (zero-mul c ∙ sym (add-self (1 * c))) q hq) p hp

pub odd-additive : (c : ℕ) → Additive (λ x. x % 2 * c)
odd-additive c x y =
    ap (λ (n : ℕ). n * c) (add-mod 1 x y) ∙ coefficient c (x % 2) (y % 2) (mod-lt x (lit< tt)) (mod-lt y (lit< tt))

pub bit-additive : (k c : ℕ) → Additive (λ x. x / 2 ^ k % 2 * c)
bit-additive k c x y = ap (λ (n : ℕ). n % 2 * c) (add-div k x y) ∙ odd-additive c (x / 2 ^ k) (y / 2 ^ k)

pub scale-additive : (b : ℕ) → Additive (λ x. b % 2 * x)
scale-additive b x y =
    bit (λ n. n * add x y ≡ add (n * x) (n * y))
    (zero-mul (add x y) ∙ sym (ap₂ add (zero-mul x) (zero-mul y) ∙ add-self 0))
    (one-mul (add x y) ∙ sym (ap₂ add (one-mul x) (one-mul y))) (b % 2) (mod-lt b (lit< tt))

-- a number is the sum of its lowest bit and the rest
pub low_bit : (a : ℕ) → add (a / 2 * 2) (a % 2) ≡ a
unfolding add
low_bit a = xor_shifted (a / 2) 1 (a % 2) (mod-lt a (lit< tt)) ∙ div-add-mod' a 2

-- two functions that respect sums and agree at 1, 2, 4 .. 2 ^ (k - 1) agree below 2 ^ k
pub agree : (k : ℕ) (f g : ℕ → ℕ) → Additive f → Additive g → ((i : ℕ) → i < k → f (2 ^ i) ≡ g (2 ^ i))
    → (a : ℕ) → a < 2 ^ k → f a ≡ g a
agree zero f g p q h a l = ap f (lt-one l) ∙ at_zero f p ∙ sym (at_zero g q) ∙ ap g (sym (lt-one l))
agree (suc k) f g p q h a l =
    ap f (sym (low_bit a)) ∙ p (a / 2 * 2) (a % 2)
    ∙ ap₂ add
    (agree k (λ x. f (x * 2)) (λ x. g (x * 2)) (λ x y. ap f (twice-additive x y) ∙ p (x * 2) (y * 2))
    (λ x y. ap g (twice-additive x y) ∙ q (x * 2) (y * 2))
    (λ i l. ap f (sym (pow-suc 2 i)) ∙ h (suc i) (suc-le-suc l) ∙ ap g (pow-suc 2 i))
    (a / 2) (shr_lt k 1 (rw add-one l)))
    (bit (λ n. f n ≡ g n) (at_zero f p ∙ sym (at_zero g q)) (h 0 (zero-lt-suc k)) (a % 2) (mod-lt a (lit< tt)))
    ∙ sym (q (a / 2 * 2) (a % 2)) ∙ ap g (low_bit a)
