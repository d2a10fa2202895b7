-- The points of boards that differ are bytes that differ.
-- Assumes nothing.
use mathlib.Core.Path.{◌≡◌, refl, sym, ap, ◌∙◌}
use mathlib.Core.Logic.{◌≢◌}
use mathlib.Core.Bool.{true}
use mathlib.Core.List.{List, [], ◌∷◌, ◌++◌}
use Prim.Native.Nat.{ℕ, suc, ◌+◌, ◌-◌, ◌%◌, ◌<◌, ◌≤◌}
use native.Mathlib.Nat.{mod-lt, mod-eq_of_lt, mod-eq-sub-mod}
use native.Mathlib.Decide.{dec_lt}
use native.Mathlib.Omega.{arith}
use lib.Dec.{ltb}
use borrow.Author.Tests.{lt-ltb}
use lib.ListN.{length, length-map}
use Rattle.lists.specs.Lists.{All, Bytes, tabulate}
use Rattle.lists.specs.Tests.{pick, below, different}
use Rattle.lists.proofs.Alls.{Distinct, distinct_of, all_left, distinct-left}
use Rattle.lists.proofs.Boards.{below_all, distinct}
use Rattle.lists.proofs.Pieces.{length-tabulate, tabulate-at, tabulate-all}
use Rattle.sizes.specs.declared.Sizes.{Sizes}
use Rattle.mbcr.specs.Share.{DifferentPoints, points, neighbours, point, standard}

-- board numbers below n, none twice
pub record Boards (z : Sizes) (boards : List ℕ) : Type 0 where
  pub known : All (λ i. i < z.n) boards
  pub once : Distinct boards

-- from the tests
pub boards-of : (z : Sizes) (boards : List ℕ) → below z.n boards ≡ true → different boards ≡ true → Boards z boards
boards-of z boards b d = record { known = below_all z.n boards b; once = distinct boards d }

-- ---- the neighbours of a board

wrapped : (n a : ℕ) → n ≤ a → a < n + n → a % n ≡ a - n
wrapped n a h l = mod-eq-sub-mod h ∙ mod-eq_of_lt (omega arith)

-- two of n consecutive numbers differ modulo n
pub turned_apart : (n i t u : ℕ) → i < n → t < u → u < n → (i + u) % n ≢ (i + t) % n
turned_apart n i t u hi ht hu e = go (dec_lt (i + u) n) (dec_lt (i + t) n)
  where
    go : Dec (i + u < n) → Dec (i + t < n) → ⊥
    go (yes a) (yes b) = omega (arith, mod-eq_of_lt a, mod-eq_of_lt b)
    go (yes a) (no b) = absurd (b (omega arith))
    go (no a) (yes b) = omega (arith, wrapped n (i + u) (omega arith) (omega arith), mod-eq_of_lt b)
    go (no a) (no b) = omega (arith, wrapped n (i + u) (omega arith) (omega arith), wrapped n (i + t) (omega arith) (omega arith))

module _ (z : Sizes) where
  open z use {n, k, d, r}

  pub length-neighbours : (i m : ℕ) → length (neighbours z i m) ≡ m
  unfolding neighbours
  length-neighbours i m = length-tabulate m (λ t. (i + t) % n)

  pub neighbours-boards : (i m : ℕ) → i < n → m ≤ n → Boards z (neighbours z i m)
  unfolding neighbours
  neighbours-boards i m h l = record {
    known = tabulate-all (λ i. i < n) m (λ t. (i + t) % n) (λ t k. mod-lt (i + t) (omega arith));
    once = distinct_of (tabulate m (λ t. (i + t) % n)) (λ a b u v.
        let w : b < m = omega (arith, length-tabulate m (λ t. (i + t) % n)) in
        λ e. turned_apart n i a b h u (omega arith)
        (sym (tabulate-at m (λ t. (i + t) % n) 0 b w) ∙ e ∙ tabulate-at m (λ t. (i + t) % n) 0 a (omega arith)));
  }

  -- the first is the board itself
  pub neighbours-first : (i m : ℕ) → i < n → neighbours z i (suc m) ≡ i ∷ tabulate m (λ t. (i + suc t) % n)
  unfolding neighbours
  neighbours-first i m h = ap {B = List ℕ} (λ x. x ∷ tabulate m (λ t. (i + suc t) % n)) (mod-eq_of_lt (omega arith) ∙ omega arith)

-- ---- points

pub length-points : (xs bs : List ℕ) → length (points xs bs) ≡ length bs
length-points xs bs = length-map bs (point xs)

module _ (z : Sizes) (xs : List ℕ) where
  open z use {n}

  module _ (pts : DifferentPoints z xs) where
    pub points-bytes : (bs : List ℕ) → Boards z bs → Bytes (points xs bs)
    points-bytes bs h = go bs h.known
      where
        go : (bs : List ℕ) → All (λ i. i < n) bs → Bytes (points xs bs)
        go [] h = tt
        go (b ∷ bs) h = (pts.bytes b h.0, go bs h.1)

    others : (a : ℕ) → a < n → (bs : List ℕ) → All (λ i. i < n) bs → All (λ x. x ≢ a) bs → All (λ y. y ≢ point xs a) (points xs bs)
    others a l [] h e = tt
    others a l (b ∷ bs) h e = ((λ q. e.0 (pts.differ b a h.0 l q)), others a l bs h.1 e.1)

    pub points-distinct : (bs : List ℕ) → Boards z bs → Distinct (points xs bs)
    points-distinct bs h = go bs h.known h.once
      where
        go : (bs : List ℕ) → All (λ i. i < n) bs → Distinct bs → Distinct (points xs bs)
        go [] h e = tt
        go (b ∷ bs) h e = (others b h.0 bs h.1 e.0, go bs h.1 e.1)

-- ---- parts of a list of boards

pub boards-left : (z : Sizes) (xs ys : List ℕ) → Boards z (xs ++ ys) → Boards z xs
boards-left z xs ys h = record { known = all_left (λ i. i < z.n) xs ys h.known; once = distinct-left xs ys h.once }

-- ---- lists of points

-- f i for each of n boards, and 00 from n up
abbrev pub listed : ℕ → (ℕ → ℕ) → List ℕ
listed n f = tabulate 32 (λ i. pick (ltb i n) (f i) 0)

pub listed-point : (n : ℕ) (f : ℕ → ℕ) (i : ℕ) → n ≤ 32 → i < n → point (listed n f) i ≡ f i
listed-point n f i h l = tabulate-at 32 (λ i. pick (ltb i n) (f i) 0) 0 i (omega arith) ∙ rw (lt-ltb i n l) refl

-- "The point of board i is the byte i": the point is i, and these are points
pub standard-point : (z : Sizes) → z.n ≤ 32 → (i : ℕ) → i < z.n → point (standard z) i ≡ i
standard-point z h i l = listed-point z.n (λ i. i) i h l

pub standard-points : (z : Sizes) → z.n ≤ 32 → DifferentPoints z (standard z)
standard-points z h = record {
  bytes = λ i l. omega (arith, standard-point z h i l);
  differ = λ i j a b e. sym (standard-point z h i a) ∙ e ∙ standard-point z h j b;
}
