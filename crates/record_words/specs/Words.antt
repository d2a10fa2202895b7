-- The archive's record in twelve words: n, k, d, r, capacity, written, length, marks, and the points of boards 0 to 7, 8 to 15, 16 to 23, 24 to 31
-- (request A.9).
-- Assumes nothing.
use Rattle.std.specs.Prelude.{Bool, List, [], ◌∷◌, ℕ, zero, suc, ◌+◌, ◌*◌, ◌/◌, ◌%◌, ◌-◌, ltb, eqb, length, get_or, drop}
use Rattle.lists.specs.Tests.{pick, every, alls}
use Rattle.lists.specs.Lists.{tabulate, joined, piece}
use Rattle.sizes.specs.Sizing.{max_boards}
use Rattle.store_spec.specs.Record.{Record}

-- the lowest m bits of a number, the lowest first
abbrev pub bits : ℕ → ℕ → List Bool
bits zero w = []
bits (suc m) w = eqb (w % 2) 1 ∷ bits m (w / 2)

-- the number that has these bits
abbrev pub from_bits : List Bool → ℕ
from_bits [] = 0
from_bits (b ∷ marks) = pick b 1 0 + 2 * from_bits marks

-- the lowest m bytes of a number, the lowest first
abbrev pub bytes : ℕ → ℕ → List ℕ
bytes zero w = []
bytes (suc m) w = w % 256 ∷ bytes m (w / 256)

-- the number that has these bytes
abbrev pub from_bytes : List ℕ → ℕ
from_bytes [] = 0
from_bytes (b ∷ l) = b + 256 * from_bytes l

-- a word of the machine
abbrev pub word : ℕ → Bool
word w = ltb w 18446744073709551616

-- twelve words, of which written is 0 or 1, marks is below 2^32, and those of the points are words
unfoldable pub is_record : List ℕ → Bool
is_record ws = alls (eqb (length ws) 12 ∷ ltb (get_or ws 5 0) 2 ∷ ltb (get_or ws 7 0) 4294967296 ∷ every word (drop 8 ws) ∷ [])

-- the record that they tell: bit i of the marks is board i's; of the word 8 + q, byte j is the point of board 8q + j
abbrev pub record_from : List ℕ → Record
record_from ws =
    record {
      sizes = record { n = get_or ws 0 0; k = get_or ws 1 0; d = get_or ws 2 0; r = get_or ws 3 0 };
      points = joined (bytes 8) (drop 8 ws);
      capacity = get_or ws 4 0;
      written = eqb (get_or ws 5 0) 1;
      length = get_or ws 6 0;
      marks = bits max_boards (get_or ws 7 0);
    }

-- the words that tell a record
abbrev pub words_of : Record → List ℕ
words_of s =
    s.sizes.n ∷ s.sizes.k ∷ s.sizes.d ∷ s.sizes.r ∷ s.capacity ∷ pick s.written 1 0 ∷ s.length ∷ from_bits s.marks
    ∷ tabulate 4 (λ q. from_bytes (piece 8 q s.points))
