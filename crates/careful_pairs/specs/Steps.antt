-- The tries of a careful read: which boards each leaves out, and what is told where the others hold a file.
-- Assumes nothing.
use Rattle.std.specs.Prelude.{Bool, true, List, ℕ, suc}
use Rattle.lists.specs.Tests.{pick}
use Rattle.store_spec.specs.Careful.{leaving}

-- the list without its elements p and p + 1
abbrev pub leaving_pair : ℕ → List ℕ → List ℕ
leaving_pair p l = leaving p (leaving p l)

-- whether one of two boards, at least, holds its share, and then which of them is odd: 0 for none, else its number plus 1
abbrev pub found_of : Bool → Bool → Bool
found_of first second = pick first true second

abbrev pub odd_of : Bool → Bool → ℕ → ℕ → ℕ
odd_of first second x y = pick first (pick second 0 (suc y)) (suc x)
