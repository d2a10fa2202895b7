-- Document 01, 'The calls', the store's record and its area.
-- Assumes nothing.
use Rattle.std.specs.Prelude.{Bool, true, false, not, List, [], ◌∷◌, ℕ, ◌*◌, leb, ltb, eqb, length, take, drop, get_or, set, replicate}
use Rattle.lists.specs.Tests.{pick, every, alls}
use Rattle.lists.specs.Lists.{tabulate, concat, put}
use Rattle.sizes.specs.declared.Sizes.{Sizes}
use Rattle.sizes.specs.Sizing.{max_boards, max_stripes, legal, α, B, stripes}
use Rattle.mbcr.specs.Share.{pointed}

-- "The record has the sizes, a capacity C of 1 to 4,096 stripes, whether a file was accepted, L, and a mark for each of 32 boards: in
-- service or not." Request A.9: "The record now keeps a point for each board".
pub record Record : Type 0 where
  pub sizes : Sizes
  pub points : List ℕ
  pub capacity : ℕ
  pub written : Bool
  pub length : ℕ
  pub marks : List Bool

abbrev pub in_service : Record → ℕ → Bool
in_service s i = get_or s.marks i false

-- the boards in service, in the order of their numbers
abbrev pub serving : Record → List ℕ
serving s = concat (tabulate s.sizes.n (λ i. pick (in_service s i) (i ∷ []) []))

-- no mark of the list is on
abbrev pub all_off : List Bool → Bool
all_off marks = every not marks

-- 1 SIZE does not hold: "sizes not legal, or C outside its range (store only). Also a record that no call returns: L above C × B, a mark on
-- a number from n up, or no file together with L above 0 or some mark." Request A.9: "A repeated point, or one other than 00 kept for a number
-- from n up, counts as SIZE."
unfoldable pub sound : Record → Bool
sound s =
    alls
    (legal s.sizes
    ∷ pointed s.sizes s.points
    ∷ leb 1 s.capacity
    ∷ leb s.capacity max_stripes
    ∷ leb s.length (s.capacity * B s.sizes)
    ∷ all_off (drop s.sizes.n s.marks)
    ∷ pick s.written true (alls (eqb s.length 0 ∷ all_off s.marks ∷ []))
    ∷ [])

-- "no file, L = 0, all marks off"; the points "given at set-up"
abbrev pub new_record : Sizes → List ℕ → ℕ → Record
new_record z xs c = record { sizes = z; points = xs; capacity = c; written = false; length = 0; marks = replicate max_boards false }

-- a file of this length was accepted, and "all n come into service"
abbrev pub written_record : Record → ℕ → Record
written_record s L = record { sizes = s.sizes; points = s.points; capacity = s.capacity; written = true; length = L; marks = tabulate max_boards (λ i. ltb i s.sizes.n) }

abbrev pub with_marks : Record → List Bool → Record
with_marks s marks = record { sizes = s.sizes; points = s.points; capacity = s.capacity; written = s.written; length = s.length; marks = marks }

-- the marks of these boards go on
abbrev pub turn_on : List ℕ → List Bool → List Bool
turn_on [] marks = marks
turn_on (i ∷ boards) marks = turn_on boards (set marks i true)

-- ---- the area

-- S of the record's L
abbrev pub stripe_count : Record → ℕ
stripe_count s = stripes s.sizes s.length

-- the bytes of one board: C stripes of α
abbrev pub part_len : Record → ℕ
part_len s = s.capacity * α s.sizes

-- the bytes that a file's stripes take of them: S stripes of α
abbrev pub used_len : Record → ℕ
used_len s = stripe_count s * α s.sizes

-- "The area has n × C × α bytes"
abbrev pub area_len : Record → ℕ
area_len s = s.sizes.n * part_len s

-- all bytes of board i
abbrev pub part : Record → List ℕ → ℕ → List ℕ
part s area i = take (part_len s) (drop (i * part_len s) area)

-- the first S stripes of board i
abbrev pub held : Record → List ℕ → ℕ → List ℕ
held s area i = take (used_len s) (drop (i * part_len s) area)

-- the area with a share for each of these boards
abbrev pub put_shares : Record → (ℕ → List ℕ) → List ℕ → List ℕ → List ℕ
put_shares s share [] area = area
put_shares s share (i ∷ boards) area = put_shares s share boards (put area (i * part_len s) (share i))
