-- How many combinations there are: sums of 1, 2, .. , then of those sums, then of these.
-- Assumes nothing.
use mathlib.Core.Path.{◌≡◌, refl, sym, ap, ap₂, ◌∙◌}
use mathlib.Core.List.{List, ◌++◌, append_assoc, append-nil}
use Prim.Native.Nat.{ℕ, zero, suc, ◌+◌, ◌*◌, ◌-◌, ◌<◌, ◌≤◌}
use native.Mathlib.Nat.{add-zero, mul-add, mul_assoc, mul_comm, mul_left_comm, suc-mul, mul-suc, mul-one}
use native.Mathlib.Omega.{arith}
use lib.ListN.{length, length-append}
use Rattle.size_list.specs.Combinations.{each, combinations}
use Rattle.size_list.proofs.Levels.{one, of_d, of_k, of_n}

-- ---- algebra over plain numbers

-- m(m + 1) + 2(m + 1)
two-more : (m : ℕ) → 2 * suc m + m * (m + 1) ≡ suc m * (suc m + 1)
two-more m = simp (suc-mul, mul-suc, mul-add, mul-one) (omega arith)

-- m(m + 1)(m + 2) + 3(m + 1)(m + 2)
three-more : (m : ℕ) → 3 * (suc m * (suc m + 1)) + m * (m + 1) * (m + 2) ≡ suc m * (suc m + 1) * (suc m + 2)
three-more m =
    let a : ℕ = suc m in
    let q : ℕ = a * (a + 1) in
    let e : q * (a + 2) ≡ q * m + q * 3 = ap (λ (x : ℕ). q * x) (omega arith) ∙ mul-add q m 3 in
    let f : m * (m + 1) * (m + 2) ≡ q * m = mul_assoc m (m + 1) (m + 2) ∙ mul_comm m ((m + 1) * (m + 2)) ∙ ap (λ (x : ℕ). x * m) (ap₂ ◌*◌ (omega arith) (omega arith)) in
    omega (arith, e, f, mul_comm q 3)

-- m(m + 1)(m + 2)(m + 3) + 4(m + 1)(m + 2)(m + 3)
four-more : (m : ℕ) → m * (m + 1) * (m + 2) * (m + 3) + 4 * (suc m * (suc m + 1) * (suc m + 2)) ≡ suc m * (suc m + 1) * (suc m + 2) * (suc m + 3)
four-more m =
    let a : ℕ = suc m in
    let q : ℕ = a * (a + 1) * (a + 2) in
    let e : q * (a + 3) ≡ q * m + q * 4 = ap (λ (x : ℕ). q * x) (omega arith) ∙ mul-add q m 4 in
    let f : m * (m + 1) * (m + 2) * (m + 3) ≡ q * m =
    ap (λ (x : ℕ). x * (m + 3)) (mul_assoc m (m + 1) (m + 2))
    ∙ mul_assoc m ((m + 1) * (m + 2)) (m + 3)
    ∙ mul_comm m ((m + 1) * (m + 2) * (m + 3))
    ∙ ap (λ (x : ℕ). x * m) (ap₂ ◌*◌ (ap₂ ◌*◌ (omega arith) (omega arith)) (omega arith)) in
    omega (arith, e, f, mul_comm q 4)

-- ---- lengths

module _ {A : Type 0} where
  each_last : (a m : ℕ) (f : ℕ → List A) → each a (suc m) f ≡ each a m f ++ f (a + m)
  each_last a zero f = append-nil (f a) ∙ ap f (sym (add-zero a))
  each_last a (suc m) f =
      ap (λ (l : List A). f a ++ l) (each_last (suc a) m f)
      ∙ sym (append_assoc (f a) (each (suc a) m f) (f (suc a + m)))
      ∙ ap (λ (x : ℕ). (f a ++ each (suc a) m f) ++ f x) (omega arith)

  -- one each
  length-ones : (a m : ℕ) (f : ℕ → List A) → ((x : ℕ) → length (f x) ≡ 1) → length (each a m f) ≡ m
  length-ones a zero f h = refl
  length-ones a (suc m) f h = length-append (f a) (each (suc a) m f) ∙ omega (arith, h a, length-ones (suc a) m f h)

  -- m, m − 1, .. , 1
  length-twos : (a m : ℕ) (f : ℕ → List A) → ((x : ℕ) → a ≤ x → x < a + m → length (f x) ≡ a + m - x) → 2 * length (each a m f) ≡ m * (m + 1)
  length-twos a zero f h = refl
  length-twos a (suc m) f h =
      let e : length (f a) ≡ suc m = h a (omega arith) (omega arith) ∙ omega arith in
      let g : 2 * length (each (suc a) m f) ≡ m * (m + 1) = length-twos (suc a) m f (λ x l u. h x (omega arith) (omega arith) ∙ omega arith) in
      omega (arith, length-append (f a) (each (suc a) m f), e, g, two-more m)

  -- halves of m(m + 1), (m − 1)m, .. , 1 × 2
  length-threes : (a m : ℕ) (f : ℕ → List A)
      → ((x : ℕ) → a ≤ x → x < a + m → 2 * length (f x) ≡ (a + m - x) * (a + m - x + 1)) → 6 * length (each a m f) ≡ m * (m + 1) * (m + 2)
  length-threes a zero f h = refl
  length-threes a (suc m) f h =
      let i : a + suc m - a ≡ suc m = omega arith in
      let e : 2 * length (f a) ≡ suc m * (suc m + 1) = h a (omega arith) (omega arith) ∙ ap (λ (x : ℕ). x * (x + 1)) i in
      let g : 6 * length (each (suc a) m f) ≡ m * (m + 1) * (m + 2) =
      length-threes (suc a) m f (λ x l u. h x (omega arith) (omega arith) ∙ ap (λ (y : ℕ). (y - x) * (y - x + 1)) (omega arith)) in
      omega (arith, length-append (f a) (each (suc a) m f), e, g, three-more m)

  -- sixths of 1 × 2 × 3, 2 × 3 × 4, .. , m(m + 1)(m + 2)
  length-fours : (a m : ℕ) (f : ℕ → List A)
      → ((x : ℕ) → 6 * length (f (a + x)) ≡ suc x * (suc x + 1) * (suc x + 2)) → 24 * length (each a m f) ≡ m * (m + 1) * (m + 2) * (m + 3)
  length-fours a zero f h = refl
  length-fours a (suc m) f h =
      let e : length (each a (suc m) f) ≡ length (each a m f) + length (f (a + m)) = ap length (each_last a m f) ∙ length-append (each a m f) (f (a + m)) in
      omega (arith, e, length-fours a m f h, h m, four-more m)

-- ---- the levels

of-d : (n k d : ℕ) → length (of_d n k d) ≡ n - d
of-d n k d = length-ones _ _ (one n k d) (λ r. refl)

of-k : (n k : ℕ) → k ≤ n → 2 * length (of_k n k) ≡ (n - k) * (n - k + 1)
of-k n k h = length-twos _ _ (of_d n k) (λ d l u. of-d n k d ∙ omega arith)

of-n : (n : ℕ) → 6 * length (of_n (suc n)) ≡ n * (n + 1) * (n + 2)
of-n n =
    length-threes 1 (suc n - 1) (of_k (suc n)) (λ k l u. of-k (suc n) k (omega arith) ∙ ap (λ (x : ℕ). x * (x + 1)) (omega arith))
    ∙ ap (λ (x : ℕ). x * (x + 1) * (x + 2)) (omega arith)

count_of : (m : ℕ) → 24 * length (each 2 m of_n) ≡ m * (m + 1) * (m + 2) * (m + 3)
count_of m = length-fours 2 m of_n (λ x. let e : 2 + x ≡ suc (suc x) = omega arith in ap (λ (y : ℕ). 6 * length (of_n y)) e ∙ of-n (suc x))

turned : (m : ℕ) → m * (m + 1) * (m + 2) * (m + 3) ≡ (suc m + 2) * (suc m + 1) * suc m * m
turned m =
    let a : m + 1 ≡ suc m = omega arith in
    let b : m + 2 ≡ suc m + 1 = omega arith in
    let c : m + 3 ≡ suc m + 2 = omega arith in
    rw (a, b, c) (simp (mul_comm, mul_assoc, mul_left_comm))

pub count : (N : ℕ) → 24 * length (combinations N) ≡ (N + 2) * (N + 1) * N * (N - 1)
unfolding combinations
count zero = refl
count (suc m) =
    let e : suc m - 1 ≡ m = omega arith in
    ap (λ (x : ℕ). 24 * length (each 2 x of_n)) e ∙ count_of m ∙ turned m ∙ ap (λ (x : ℕ). (suc m + 2) * (suc m + 1) * suc m * x) (sym e)

pub two : length (combinations 2) ≡ 1
two = omega (arith, count 2)

pub three : length (combinations 3) ≡ 5
three = omega (arith, count 3)

pub most : length (combinations 32) ≡ 46376
most = omega (arith, count 32)
