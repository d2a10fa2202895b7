-- Bytes added to those of boards' parts of an area.
-- Assumes nothing.
use Rattle.std.specs.Prelude.{List, ℕ, ◌+◌, ◌*◌, length, get_or, take, drop}
use Rattle.polynomial.specs.Polynomial.{plus}
use Rattle.sizes.specs.declared.Sizes.{Sizes}
use Rattle.area_puts.specs.Steps.{puts}
use Rattle.kept_bytes.specs.Steps.{kept_of}

-- what board i keeps of a stripe, out of rows of values: f is byte i of each row, g is row i
abbrev pub kept_by : Sizes → List ℕ → ℕ → List ℕ
kept_by z values i = kept_of z (λ b. get_or values (b * 32 + i) 0) (λ b. get_or values (i * 32 + b) 0) i

-- for each of these boards, with parts of `part` bytes, f of the board added to its w bytes from `at` on
abbrev pub added : ℕ → ℕ → ℕ → (ℕ → List ℕ) → List ℕ → List ℕ → List ℕ
added w part at f boards area =
    puts (λ a. get_or boards a 0 * part + at) (λ a. plus (take w (drop (get_or boards a 0 * part + at) area)) (f (get_or boards a 0))) (length boards) area
