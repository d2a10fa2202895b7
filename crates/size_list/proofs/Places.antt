-- The list of combinations level by level: all of n, of n and k, of n, k and d. Each element is legal, each legal combination is there, and they rise.
-- Assumes nothing.
use mathlib.Core.Path.{◌≡◌, refl, sym, ap, ◌∙◌}
use mathlib.Core.Bool.{true}
use mathlib.Core.Logic.{inl, inr}
use mathlib.Core.List.{List, [], ◌∷◌}
use Prim.Native.Nat.{ℕ, suc, ◌+◌, ◌-◌, ◌<◌, ◌≤◌}
use native.Mathlib.Omega.{arith}
use native.Mathlib.Decide.{dec_lt}
use lib.ListN.{get_or}
use Rattle.lists.specs.Lists.{All}
use Rattle.lists.proofs.Alls.{all-imp}
use Rattle.sizes.specs.declared.Sizes.{Sizes}
use Rattle.sizes.specs.Sizing.{legal}
use Rattle.sizes.proofs.Legal.{Legal, legal-facts, legal-yes}
use Rattle.size_list.specs.Combinations.{combinations}
use Rattle.size_list.specs.Laws.{Before, Stands}
use Rattle.size_list.proofs.Levels.{one, of_d, of_k, of_n}
use Rattle.size_list.proofs.Each.{In, Rising, all-each, in-each, rising-each, rising-there}

-- ---- what holds of each element

pub record Fits (n k d : ℕ) (z : Sizes) : Type 0 where
  pub boards : z.n ≡ n
  pub read : z.k ≡ k
  pub helpers : z.d ≡ d
  pub some : 1 ≤ z.r
  pub room : d + z.r ≤ n

fits-d : (n k d : ℕ) → d < n → All (Fits n k d) (of_d n k d)
fits-d n k d h =
    all-each (Fits n k d) _ _ (one n k d)
    (λ r l u. (record { boards = refl; read = refl; helpers = refl; some = l; room = omega arith }, tt))

pub record FitsK (n k : ℕ) (z : Sizes) : Type 0 where
  pub boards : z.n ≡ n
  pub read : z.k ≡ k
  pub enough : k ≤ z.d
  pub some : 1 ≤ z.r
  pub room : z.d + z.r ≤ n

fits-k : (n k : ℕ) → k < n → All (FitsK n k) (of_k n k)
fits-k n k h =
    all-each (FitsK n k) _ _ (of_d n k)
    (λ d l u. all-imp (Fits n k d) (FitsK n k)
    (λ z f. record { boards = f.boards; read = f.read; enough = omega (arith, f.helpers); some = f.some; room = omega (arith, f.helpers, f.room) })
    (of_d n k d) (fits-d n k d (omega arith)))

pub record FitsN (n : ℕ) (z : Sizes) : Type 0 where
  pub boards : z.n ≡ n
  pub some_read : 1 ≤ z.k
  pub enough : z.k ≤ z.d
  pub some : 1 ≤ z.r
  pub room : z.d + z.r ≤ n

fits-n : (n : ℕ) → All (FitsN n) (of_n n)
fits-n n =
    all-each (FitsN n) 1 (n - 1) (of_k n)
    (λ k l u. all-imp (FitsK n k) (FitsN n)
    (λ z f. record { boards = f.boards; some_read = omega (arith, f.read); enough = omega (arith, f.read, f.enough); some = f.some; room = f.room })
    (of_k n k) (fits-k n k (omega arith)))

pub no_other : (N : ℕ) → N ≤ 32 → All (λ z. (legal z ≡ true) × (z.n ≤ N)) (combinations N)
unfolding combinations
no_other N h =
    all-each (λ z. (legal z ≡ true) × (z.n ≤ N)) 2 (N - 1) of_n
    (λ n l u. all-imp (FitsN n) (λ z. (legal z ≡ true) × (z.n ≤ N))
    (λ z f. (
      legal-yes z (record { some_read = f.some_read; read-helpers = f.enough; some-fresh = f.some; enough = omega (arith, f.boards, f.room); few = omega (arith, f.boards) }),
      omega (arith, f.boards),
    ))
    (of_n n) (fits-n n))

-- ---- each legal combination

pub in_all : (N : ℕ) (z : Sizes) → Legal z → z.n ≤ N → In z (combinations N)
unfolding combinations
in_all N z f h =
    in-each z 2 (N - 1) of_n z.n (omega (arith, f.some_read, f.read-helpers, f.some-fresh, f.enough)) (omega (arith, f.some_read, f.read-helpers, f.some-fresh, f.enough))
    (in-each z 1 (z.n - 1) (of_k z.n) z.k f.some_read (omega (arith, f.some_read, f.read-helpers, f.some-fresh, f.enough))
    (in-each z _ _ (of_d z.n z.k) z.d (omega (arith, f.some_read, f.read-helpers)) (omega (arith, f.read-helpers, f.some-fresh, f.enough))
    (in-each z _ _ (one z.n z.k z.d) z.r (omega (arith, f.some-fresh)) (omega (arith, f.some-fresh, f.enough)) (inl refl))))

stands-in : (z : Sizes) (l : List Sizes) → In z l → (i : ℕ) × Stands z l i
stands-in z [] h = absurd h
stands-in z (x ∷ l) (inl e) = (0, record { inside = omega arith; there = λ other. e })
stands-in z (x ∷ l) (inr h) =
    let s : (i : ℕ) × Stands z l i = stands-in z l h in
    (suc s.0, record { inside = omega (arith, s.1.inside); there = λ other. s.1.there other })

pub all-stand : (N : ℕ) (z : Sizes) → legal z ≡ true → z.n ≤ N → (i : ℕ) × Stands z (combinations N) i
all-stand N z e h = stands-in z (combinations N) (in_all N z (legal-facts z e) h)

-- ---- rising

rising-d : (n k d : ℕ) → Rising Before (of_d n k d)
rising-d n k d =
    rising-each Before (λ r z. z ≡ record { n = n; k = k; d = d; r = r })
    (λ x y u v h e g. inr (
      ap (λ (z : Sizes). z.n) e ∙ sym (ap (λ (z : Sizes). z.n) g),
      inr (
        ap (λ (z : Sizes). z.k) e ∙ sym (ap (λ (z : Sizes). z.k) g),
        inr (ap (λ (z : Sizes). z.d) e ∙ sym (ap (λ (z : Sizes). z.d) g), omega (arith, ap (λ (z : Sizes). z.r) e, ap (λ (z : Sizes). z.r) g)),
      ),
    ))
    _ _ (one n k d) (λ r l u. (refl, tt)) (λ r l u. (tt, tt))

rising-k : (n k : ℕ) → k < n → Rising Before (of_k n k)
rising-k n k h =
    rising-each Before (λ d z. Fits n k d z)
    (λ x y u v l f g. inr (f.boards ∙ sym g.boards, inr (f.read ∙ sym g.read, inl (omega (arith, f.helpers, g.helpers)))))
    _ _ (of_d n k) (λ d l u. fits-d n k d (omega arith)) (λ d l u. rising-d n k d)

rising-n : (n : ℕ) → Rising Before (of_n n)
rising-n n =
    rising-each Before (λ k z. FitsK n k z)
    (λ x y u v l f g. inr (f.boards ∙ sym g.boards, inl (omega (arith, f.read, g.read))))
    1 (n - 1) (of_k n) (λ k l u. fits-k n k (omega arith)) (λ k l u. rising-k n k (omega arith))

rising-all : (N : ℕ) → Rising Before (combinations N)
unfolding combinations
rising-all N =
    rising-each Before (λ n z. FitsN n z) (λ x y u v l f g. inl (omega (arith, f.boards, g.boards)))
    2 (N - 1) of_n (λ n l u. fits-n n) (λ n l u. rising-n n)

pub rising : (N : ℕ) (y z : Sizes) (i j : ℕ) → i < j → Stands y (combinations N) i → Stands z (combinations N) j → Before y z
rising N y z i j h s t =
    let b : Before (get_or (combinations N) i y) (get_or (combinations N) j y) = rising-there Before (combinations N) (rising-all N) i j h t.inside y in
    rw (s.there y, t.there y) at b

never : (z : Sizes) → Before z z → ⊥
never z (inl h) = omega arith
never z (inr (e, inl h)) = omega arith
never z (inr (e, inr (f, inl h))) = omega arith
never z (inr (e, inr (f, inr (g, h)))) = omega arith

pub once : (N : ℕ) (z : Sizes) (i j : ℕ) → Stands z (combinations N) i → Stands z (combinations N) j → i ≡ j
once N z i j s t = elim (dec_lt i j) [ yes h ↦ absurd (never z (rising N z z i j h s t)) | no h ↦ elim (dec_lt j i) [ yes g ↦ absurd (never z (rising N z z j i g t s)) | no g ↦ omega arith ] ]
