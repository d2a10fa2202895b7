-- The field's laws: products respect sums in each factor, so that an equation of products is a test at 1, 2, 4 .. 128.
-- Assumes nothing.
use mathlib.Core.Path.{◌≡◌, refl, sym, ap, ap₂, ◌∙◌, subst}
use mathlib.Core.Bool.{Bool, true, false}
use Prim.Native.Nat.{ℕ, zero, suc, ◌+◌, ◌*◌, ◌/◌, ◌%◌, ◌^◌, ◌≤◌, ◌<◌}
use native.Mathlib.Nat.{mod-lt, mod-mod, not-suc-le-zero, eq-or-lt_of_le, le_of_suc-le-suc, pow-suc, pow-succ', mul-mod_left, mul-div_cancel}
use native.Mathlib.Nat as nat
use mathlib.Core.Logic.{⊎_elim}
use lib.Dec.{T, eqb, eqb→eq, lit<}
use Rattle.gf256.specs.Field.{add, product, reduce, mul}
use Rattle.gf256.proofs.Sums.{add-self, add_zero_l, add_zero_r, add-mod, add-div, Additive, at_zero, sum-additive, twice-additive, odd-additive, bit-additive, scale-additive, agree}

pub product-right : (k a : ℕ) → Additive (product k a)
unfolding product
product-right zero a x y = sym (add-self 0)
product-right (suc k) a x y =
    sum-additive (λ b. b % 2 * a) (λ b. product k (a * 2) (b / 2)) (odd-additive a)
    (λ x y. ap (product k (a * 2)) (add-div 1 x y) ∙ product-right k (a * 2) (x / 2) (y / 2)) x y

pub product-left : (k b : ℕ) → Additive (λ a. product k a b)
unfolding product
product-left zero b x y = sym (add-self 0)
product-left (suc k) b x y =
    sum-additive (λ a. b % 2 * a) (λ a. product k (a * 2) (b / 2)) (scale-additive b)
    (λ x y. ap (λ (a : ℕ). product k a (b / 2)) (twice-additive x y) ∙ product-left k (b / 2) (x * 2) (y * 2)) x y

-- at z to the i, which is the number 2 ^ i
shift-next : (k a i : ℕ) → product (suc k) a (2 ^ suc i) ≡ product k (a * 2) (2 ^ i)
unfolding product
shift-next k a i =
    ap₂ (λ (x y : ℕ). add (x * a) (product k (a * 2) y))
    (ap (λ (n : ℕ). n % 2) (pow-suc 2 i) ∙ mul-mod_left (2 ^ i) 2)
    (ap (λ (n : ℕ). n / 2) (pow-suc 2 i) ∙ mul-div_cancel (2 ^ i) (lit< tt))
    ∙ ap (λ (n : ℕ). add n (product k (a * 2) (2 ^ i))) (nat.zero-mul a) ∙ add_zero_l _

pub product-shift : (k a i : ℕ) → i < k → product k a (2 ^ i) ≡ a * 2 ^ i
unfolding product
product-shift zero a i h = absurd (not-suc-le-zero h)
product-shift (suc k) a zero h =
    ap (add (1 * a)) (at_zero (product k (a * 2)) (product-right k (a * 2))) ∙ add_zero_r (1 * a) ∙ nat.mul_comm 1 a
product-shift (suc k) a (suc i) h =
    shift-next k a i ∙ product-shift k (a * 2) i (le_of_suc-le-suc h)
    ∙ nat.mul_assoc a 2 (2 ^ i) ∙ ap (λ (n : ℕ). a * n) (sym (pow-succ' 2 i))

pub product-beyond : (k a i : ℕ) → k ≤ i → product k a (2 ^ i) ≡ 0
unfolding product
product-beyond zero a i h = refl
product-beyond (suc k) a zero h = absurd (not-suc-le-zero h)
product-beyond (suc k) a (suc i) h = shift-next k a i ∙ product-beyond k (a * 2) i (le_of_suc-le-suc h)

reduce-additive : (k : ℕ) → Additive (reduce k)
unfolding reduce
reduce-additive zero x y = refl
reduce-additive (suc k) x y =
    ap (reduce k) (sum-additive _ (λ x. x) (bit-additive (k + 8) _) (λ x y. refl) x y) ∙ reduce-additive k _ _

pub mul-add : (a : ℕ) → Additive (mul a)
unfolding mul
mul-add a x y =
    ap (λ (b : ℕ). reduce 7 (product 8 (a % 256) b)) (add-mod 8 x y)
    ∙ ap (reduce 7) (product-right 8 (a % 256) (x % 256) (y % 256)) ∙ reduce-additive 7 _ _

pub add-mul : (b : ℕ) → Additive (λ a. mul a b)
unfolding mul
add-mul b x y =
    ap (λ (a : ℕ). reduce 7 (product 8 a (b % 256))) (add-mod 8 x y)
    ∙ ap (reduce 7) (product-left 8 (b % 256) (x % 256) (y % 256)) ∙ reduce-additive 7 _ _

mul-mod-l : (a b : ℕ) → mul (a % 256) b ≡ mul a b
unfolding mul
mul-mod-l a b = ap (λ (x : ℕ). reduce 7 (product 8 x (b % 256))) (mod-mod a 256)

mul-mod-r : (a b : ℕ) → mul a (b % 256) ≡ mul a b
unfolding mul
mul-mod-r a b = ap (λ (x : ℕ). reduce 7 (product 8 (a % 256) x)) (mod-mod b 256)

-- ---- a test at each number below n, which antt computes

abbrev pub both : Bool → Bool → Bool
both true b = b
both false b = false

pub both_left : (a b : Bool) → T (both a b) → T a
both_left true b t = tt
both_left false b t = t

pub both_right : (a b : Bool) → T (both a b) → T b
both_right true b t = t
both_right false b t = absurd t

unfoldable pub all : ℕ → (ℕ → Bool) → Bool
all zero p = true
all (suc n) p = both (p n) (all n p)

pub all-at : (n : ℕ) (p : ℕ → Bool) → T (all n p) → (i : ℕ) → i < n → T (p i)
unfolding all
all-at zero p t i h = absurd (not-suc-le-zero h)
all-at (suc n) p t i h =
    ⊎_elim (λ e. subst (λ (m : ℕ). T (p m)) (sym e) (both_left (p n) (all n p) t))
    (λ l. all-at n p (both_right (p n) (all n p) t) i l)
    (eq-or-lt_of_le (le_of_suc-le-suc h))

-- ---- functions of one, two and three bytes that respect sums in each

module _ (f g : ℕ → ℕ → ℕ)
    (f-l : (b : ℕ) → Additive (λ a. f a b)) (f-r : (a : ℕ) → Additive (f a))
    (g-l : (b : ℕ) → Additive (λ a. g a b)) (g-r : (a : ℕ) → Additive (g a)) where
  agree2 : ((i j : ℕ) → i < 8 → j < 8 → f (2 ^ i) (2 ^ j) ≡ g (2 ^ i) (2 ^ j)) → (a b : ℕ) → a < 256 → b < 256 → f a b ≡ g a b
  agree2 h a b la lb =
      agree 8 (λ a. f a b) (λ a. g a b) (f-l b) (g-l b)
      (λ i li. agree 8 (f (2 ^ i)) (g (2 ^ i)) (f-r (2 ^ i)) (g-r (2 ^ i)) (λ j lj. h i j li lj) b lb) a la

  pub tested2 : T (all 8 (λ i. all 8 (λ j. eqb (f (2 ^ i) (2 ^ j)) (g (2 ^ i) (2 ^ j))))) → (a b : ℕ) → a < 256 → b < 256 → f a b ≡ g a b
  tested2 t = agree2 (λ i j li lj. eqb→eq _ _ (all-at 8 _ (all-at 8 _ t i li) j lj))

byte : (n : ℕ) → n % 256 < 256
byte n = mod-lt n (lit< tt)

pub mul_low : (a b : ℕ) → mul (a % 256) (b % 256) ≡ mul a b
mul_low a b = mul-mod-r (a % 256) b ∙ mul-mod-l a b

comm-test : T (all 8 (λ i. all 8 (λ j. eqb (mul (2 ^ i) (2 ^ j)) (mul (2 ^ j) (2 ^ i)))))
unfolding add product reduce mul all
comm-test = tt

pub mul_comm : (a b : ℕ) → mul a b ≡ mul b a
mul_comm a b =
    sym (mul_low a b)
    ∙ tested2 mul (λ a b. mul b a) add-mul mul-add mul-add add-mul comm-test (a % 256) (b % 256) (byte a) (byte b)
    ∙ mul_low b a

lt_test : T (all 8 (λ i. all 8 (λ j. eqb (mul (2 ^ i) (2 ^ j)) (mul (2 ^ i) (2 ^ j) % 256))))
unfolding add product reduce mul all
lt_test = tt

low-mul : (a b : ℕ) → mul a b ≡ mul a b % 256
low-mul a b =
    sym (mul_low a b)
    ∙ tested2 mul (λ a b. mul a b % 256) add-mul mul-add
    (λ b x y. ap (λ (n : ℕ). n % 256) (add-mul b x y) ∙ add-mod 8 (mul x b) (mul y b))
    (λ a x y. ap (λ (n : ℕ). n % 256) (mul-add a x y) ∙ add-mod 8 (mul a x) (mul a y))
    lt_test (a % 256) (b % 256) (byte a) (byte b)
    ∙ ap (λ (n : ℕ). n % 256) (mul_low a b)

pub mul-lt : (a b : ℕ) → mul a b < 256
mul-lt a b = subst (λ (n : ℕ). n < 256) (sym (low-mul a b)) (byte (mul a b))

assoc-test : T (all 8 (λ i. all 8 (λ j. all 8 (λ k. eqb (mul (mul (2 ^ i) (2 ^ j)) (2 ^ k)) (mul (2 ^ i) (mul (2 ^ j) (2 ^ k)))))))
unfolding add product reduce mul all
assoc-test = tt

pub mul_assoc : (a b c : ℕ) → mul (mul a b) c ≡ mul a (mul b c)
mul_assoc a b c =
    ap (λ (n : ℕ). mul n c) (sym (mul_low a b)) ∙ sym (mul-mod-r (mul (a % 256) (b % 256)) c)
    ∙ agree 8 (λ a. mul (mul a (b % 256)) (c % 256)) (λ a. mul a (mul (b % 256) (c % 256)))
    (λ x y. ap (λ (n : ℕ). mul n (c % 256)) (add-mul (b % 256) x y) ∙ add-mul (c % 256) _ _)
    (add-mul _)
    (λ i li. agree2 (λ b c. mul (mul (2 ^ i) b) c) (λ b c. mul (2 ^ i) (mul b c))
    (λ c x y. ap (λ (n : ℕ). mul n c) (mul-add (2 ^ i) x y) ∙ add-mul c _ _)
    (λ b. mul-add (mul (2 ^ i) b))
    (λ c x y. ap (mul (2 ^ i)) (add-mul c x y) ∙ mul-add (2 ^ i) _ _)
    (λ b x y. ap (mul (2 ^ i)) (mul-add b x y) ∙ mul-add (2 ^ i) _ _)
    (λ j k lj lk. eqb→eq _ _ (all-at 8 _ (all-at 8 _ (all-at 8 _ assoc-test i li) j lj) k lk))
    (b % 256) (c % 256) (byte b) (byte c))
    (a % 256) (byte a)
    ∙ ap (mul (a % 256)) (mul_low b c) ∙ mul-mod-l a (mul b c)

pub mul-zero : (a : ℕ) → mul a 0 ≡ 0
mul-zero a = at_zero (mul a) (mul-add a)

pub zero-mul : (a : ℕ) → mul 0 a ≡ 0
zero-mul a = at_zero (λ x. mul x a) (add-mul a)

one-test : T (all 8 (λ i. eqb (mul 1 (2 ^ i)) (2 ^ i)))
unfolding add product reduce mul all
one-test = tt

pub one-mul : (a : ℕ) → a < 256 → mul 1 a ≡ a
one-mul a l = agree 8 (mul 1) (λ x. x) (mul-add 1) (λ x y. refl) (λ i li. eqb→eq _ _ (all-at 8 _ one-test i li)) a l

pub mul-one : (a : ℕ) → a < 256 → mul a 1 ≡ a
mul-one a l = mul_comm a 1 ∙ one-mul a l
