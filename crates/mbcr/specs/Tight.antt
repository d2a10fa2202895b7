-- Request A.13, 'Boards away at the workshop': k is tight. k boards fix a file (Demand2, `shares-fix`); k − 1 boards do not fix one of at least
-- B bytes. proofs/Tight.antt has `tight : Tight`.
-- Assumes nothing.
use Rattle.std.specs.Prelude.{◌≡◌, true, ◌≢◌, List, ℕ, ◌-◌, ◌≤◌, length}
use Rattle.lists.specs.Lists.{All, Bytes}
use Rattle.sizes.specs.declared.Sizes.{Sizes}
use Rattle.sizes.specs.Sizing.{legal, B}
use Rattle.mbcr.specs.Share.{DifferentPoints, share}
use Rattle.mbcr.specs.Demand2.{Named}

-- "for a file of at least B bytes, any k − 1 boards and any list of different points, another file of the same length gives those boards the
-- same shares"
abbrev pub Tight : Type 0
Tight = (z : Sizes) (xs : List ℕ) → legal z ≡ true → DifferentPoints z xs → (file boards : List ℕ)
    → Bytes file → B z ≤ length file → Named z (z.k - 1) boards
    → (other : List ℕ) × (length other ≡ length file) × Bytes other × (other ≢ file) × All (λ i. share z xs other i ≡ share z xs file i) boards
