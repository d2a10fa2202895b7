-- Request A.9, 'First-series robots': what holds of the lists of points that are taken. proofs/PointLaws.antt has `point-laws`.
-- Assumes nothing.
use Rattle.std.specs.Prelude.{◌≡◌, true, ◌≢◌, ◌↔◌, List, ℕ, ◌+◌, ◌≤◌, ◌<◌, ltb, length, get_or}
use Rattle.lists.specs.Tests.{pick}
use Rattle.lists.specs.Lists.{Bytes, tabulate}
use Rattle.sizes.specs.declared.Sizes.{Sizes}
use Rattle.sizes.specs.Sizing.{max_boards, legal}
use Rattle.mbcr.specs.Share.{point, points, standard, pointed, DifferentPoints}

-- "Robots of the first series gave board i the point i + 1"
abbrev pub first_series : Sizes → List ℕ
first_series z = tabulate max_boards (λ i. pick (ltb i z.n) (i + 1) 0)

pub record PointLaws : Type 0 where
  -- the point of board i is the i-th of the list, and those of boards stand in the order of the boards
  pub point-is : (xs : List ℕ) (i : ℕ) → point xs i ≡ get_or xs i 0
  pub points-are : (xs boards : List ℕ) (t : ℕ) → t < length boards → get_or (points xs boards) t 0 ≡ get_or xs (get_or boards t 0) 0
  pub points-length : (xs boards : List ℕ) → length (points xs boards) ≡ length boards
  -- 32 bytes, those of n boards different, "00 kept for a number from n up"
  pub pointed-is : (z : Sizes) (xs : List ℕ) → legal z ≡ true
      → (pointed z xs ≡ true)
      ↔ ((length xs ≡ 32) × Bytes xs × ((i j : ℕ) → i < j → j < z.n → point xs j ≢ point xs i) × ((i : ℕ) → z.n ≤ i → point xs i ≡ 0))
  -- all that demand 2 asks of points
  pub pointed-differ : (z : Sizes) (xs : List ℕ) → legal z ≡ true → pointed z xs ≡ true → DifferentPoints z xs
  -- document 01's points are taken, and those of the first series
  pub standard-pointed : (z : Sizes) → legal z ≡ true → pointed z (standard z) ≡ true
  pub first-series-pointed : (z : Sizes) → legal z ≡ true → pointed z (first_series z) ≡ true
  pub first-series-point : (z : Sizes) → legal z ≡ true → (i : ℕ) → i < z.n → point (first_series z) i ≡ i + 1
