-- Request A.10, 'To the present points with the robot running': lists of points of which one is moved, and the turn of all boards from i + 1 to i.
-- proofs/TurnLaws.antt has `turn-laws : TurnLaws`.
-- Assumes nothing.
use Rattle.std.specs.Prelude.{◌≡◌, true, false, ◌≢◌, List, ℕ, suc, ◌+◌, ◌<◌, ltb, length, take, set}
use Rattle.lists.specs.Tests.{pick, among}
use Rattle.lists.specs.Lists.{tabulate}
use Rattle.sizes.specs.declared.Sizes.{Sizes}
use Rattle.sizes.specs.Sizing.{max_boards, legal}
use Rattle.mbcr.specs.Share.{point, standard, pointed}
use Rattle.mbcr.specs.PointLaws.{first_series}

-- boards 0 to m − 1 have moved from i + 1 to i, the others have not yet
abbrev pub turned : Sizes → ℕ → List ℕ
turned z m = tabulate max_boards (λ i. pick (ltb i z.n) (pick (ltb i m) i (i + 1)) 0)

pub record TurnLaws : Type 0 where
  -- the board has the new byte, every other its own
  pub moved-point : (xs : List ℕ) (m x : ℕ) → m < length xs → point (set xs m x) m ≡ x
  pub other-point : (xs : List ℕ) (m x i : ℕ) → i ≢ m → point (set xs m x) i ≡ point xs i
  -- with a new byte that is no board's point, points are taken again
  pub moved-pointed : (z : Sizes) (xs : List ℕ) (m x : ℕ) → legal z ≡ true → pointed z xs ≡ true → m < z.n → x < 256 → among (take z.n xs) x ≡ false
      → pointed z (set xs m x) ≡ true
  -- "Moving boards 0 to n − 1 in turn carries i + 1 to i": from the first series' points to document 01's, each new byte free when its turn comes
  pub turn-first : (z : Sizes) → turned z 0 ≡ first_series z
  pub turn-free : (z : Sizes) (i : ℕ) → legal z ≡ true → i < z.n → among (take z.n (turned z i)) i ≡ false
  pub turn_step : (z : Sizes) (i : ℕ) → legal z ≡ true → i < z.n → set (turned z i) i i ≡ turned z (suc i)
  pub turn_last : (z : Sizes) → turned z z.n ≡ standard z
