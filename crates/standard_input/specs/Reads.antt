-- What one read answers in a number, and what it takes of the bytes that its reader has left, where those are known: of standard input none are.
-- Assumes nothing.
use Rattle.std.specs.Prelude.{◌≡◌, ℕ, ◌<◌, ◌≤◌, List, length, take, ℤ, pos, negsuc, Option}
use Rattle.std.specs.Io.KnownBytes.{Consumes, IsAtEnd, Keeps}

-- how many bytes it put at the beginning of the slice, or -1 where it failed
abbrev pub Moved : ℤ → List ℕ → Type 0
Moved (pos n) slice = n ≤ length slice
Moved (negsuc n) slice = n ≡ 0

-- it took the bytes that it gave, none only at the end or where there is no room; and none where it failed
abbrev pub Taken : Option (List ℕ) → Option (List ℕ) → ℤ → List ℕ → Type 0
Taken old new (pos n) slice = Consumes old new (take n slice) × (n ≡ 0 → 0 < length slice → IsAtEnd new)
Taken old new (negsuc n) slice = Keeps old new
