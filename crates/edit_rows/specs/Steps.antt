-- "Old against new bytes", byte by byte.
-- Assumes nothing.
use Rattle.std.specs.Prelude.{List, ℕ, ◌-◌, ltb, leb, length, get_or}
use Rattle.lists.specs.Tests.{pick}
use Rattle.gf256.specs.Field.{add}

-- by what byte p of a file, which is `old`, changes where bytes are put from an offset on
abbrev pub changed_at : ℕ → List ℕ → ℕ → ℕ → ℕ
changed_at offset bytes p old =
    pick (ltb p offset) 0 (pick (leb (length bytes) (p - offset)) 0 (add old (get_or bytes (p - offset) 0)))
