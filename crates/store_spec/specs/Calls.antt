-- Document 01, 'The calls', the store: each call is a total function of record, area and arguments to its answer, the record it hands on, and
-- every lent byte after it. "Shares, packets and reads use" the record's own points (request A.9); `m` in the
-- lines is the area's length.
-- Assumes nothing.
use Rattle.std.specs.Prelude.{ℕ, ◌*◌, false, not, List, [], ◌∷◌, ◌++◌, leb, ltb, eqb, length, set, Ok, Err}
use Rattle.std.proofs.Math.Option.{Option}
use Rattle.lists.specs.Tests.{every, alls, different, apart, given}
use Rattle.lists.specs.Lists.{tabulate, joined, over}
use Rattle.sizes.specs.declared.Sizes.{Sizes}
use Rattle.sizes.specs.declared.Refusal.{Refusal}
use Rattle.sizes.specs.declared.Refusal.TheVariants.{Size, Area, Long, Count, Repeat, Short, Empty, Down, Disagree, Serving}
use Rattle.sizes.specs.Sizing.{B}
use Rattle.sizes.specs.Refusals.{Said, said, Line, ◌when◌, first, store_order, Check}
use Rattle.mbcr.specs.Share.{share}
use Rattle.mbcr.specs.Read.{read_file}
use Rattle.board_spec.specs.Calls.{file_of, node_line}
use Rattle.store_spec.specs.Record.{Record, in_service, sound, new_record, written_record, with_marks, turn_on, area_len, held, put_shares}
use Rattle.store_spec.specs.Packets.{hear_named, stand_ins_each, repair_packets, fresh_share, total}

-- what a call answers, the record that it hands on, and the lent bytes after it
pub record StoreOutcome : Type 0 where
  pub answer : Said
  pub handed : Record
  pub area : List ℕ
  pub output : List ℕ

-- a call that is accepted: the number that it reports, the record that it hands on, and the lent bytes after it
abbrev pub accepted : ℕ → Record → List ℕ → List ℕ → StoreOutcome
accepted v s area output = record { answer = said (Ok v); handed = s; area = area; output = output }

-- "All refusals behave alike: the number is answered, the record comes back unchanged, and lent memory is untouched."
abbrev pub refused : Record → List ℕ → List ℕ → Refusal → StoreOutcome
refused s area output x = record { answer = said (Err x); handed = s; area = area; output = output }

-- what is picked by a check: one thing for a refusal, another where it passes
abbrev pub settle : {A : Type 0} → Check → (Refusal → A) → A → A
settle (Ok tt) refuse go = go
settle (Err x) refuse go = refuse x

-- ---- who causes a refusal

-- "1 SIZE: .. Also a record that no call returns"
abbrev pub record_line : Record → Line
record_line s = Size when not (sound s)

-- "2 AREA: a lent area .. of another length than the sizes give"
abbrev pub lent_line : Record → ℕ → Line
lent_line s m = Area when not (eqb m (area_len s))

-- "8 EMPTY: repair or read before a write was accepted"
abbrev pub empty_line : Record → Line
empty_line s = Empty when not s.written

-- "9 DOWN: a named reader or helper board out of service"; a stand-in too
abbrev pub down_line : Record → List ℕ → Line
down_line s boards = Down when not (every (in_service s) boards)

-- "3 LONG: file longer than C × B (store)"
unfoldable pub write_lines : Record → ℕ → List ℕ → List Line
write_lines s m file = record_line s ∷ lent_line s m ∷ Long when ltb (s.capacity * B s.sizes) (length file) ∷ []

-- "Losing checks only 1 and 5."
unfoldable pub lose_lines : Record → ℕ → List Line
lose_lines s board = record_line s ∷ node_line s.sizes (board ∷ []) ∷ []

-- The lists of a repair. "A repair now names t fresh boards, 1 ≤ t ≤ r. For each it names d helpers and r − t stand-ins"; "t outside 1 to r is
-- COUNT". "All boards named for one fresh board are different and none of them is fresh." "14 SERVING, a fresh board that is in service".
unfoldable pub list_lines : Record → List ℕ → List ℕ → List ℕ → List Line
list_lines s fresh helpers stand_ins =
    Count when not (alls
    (leb 1 (length fresh)
    ∷ leb (length fresh) s.sizes.r
    ∷ eqb (length helpers) (length fresh * s.sizes.d)
    ∷ eqb (length stand_ins) (length fresh * stand_ins_each s fresh)
    ∷ []))
    ∷ node_line s.sizes (fresh ++ (helpers ++ stand_ins))
    ∷ Repeat when not (alls
    (different fresh
    ∷ every (λ h. different h.senders) (hear_named s.sizes.d (stand_ins_each s fresh) fresh helpers stand_ins)
    ∷ apart fresh (helpers ++ stand_ins)
    ∷ []))
    ∷ Serving when not (every (λ i. not (in_service s i)) fresh)
    ∷ down_line s (helpers ++ stand_ins)
    ∷ []

unfoldable pub repair_lines : Record → ℕ → List ℕ → List ℕ → List ℕ → List Line
repair_lines s m fresh helpers stand_ins = record_line s ∷ lent_line s m ∷ empty_line s ∷ list_lines s fresh helpers stand_ins

-- the file that the named boards hold, if there is one
abbrev pub file_held : Record → List ℕ → List ℕ → Option (List ℕ)
file_held s area boards = read_file s.sizes s.points s.length boards (joined (held s area) boards)

-- "6 REPEAT: a board twice among the k read". "7 SHORT: output shorter than what is to be written". "10 DISAGREE: no file of length L, padding
-- included, has these k shares."
unfoldable pub read_lines : Record → List ℕ → List ℕ → List ℕ → List Line
read_lines s area boards output =
    record_line s
    ∷ lent_line s (length area)
    ∷ empty_line s
    ∷ Count when not (eqb (length boards) s.sizes.k)
    ∷ node_line s.sizes boards
    ∷ Repeat when not (different boards)
    ∷ down_line s boards
    ∷ Short when ltb (length output) s.length
    ∷ Disagree when not (given (file_held s area boards))
    ∷ []

-- ---- the calls

-- "Set up, given sizes and C", and the points: "the record it is handed is not examined, and comes back only with a refusal"
unfoldable pub set_up_call : Record → Sizes → List ℕ → ℕ → StoreOutcome
set_up_call s z xs c =
    settle (first store_order (record_line (new_record z xs c) ∷ [])) (refused s [] []) (accepted 0 (new_record z xs c) [] [])

-- "Write: the first S stripes of every board get its share; all n come into service. Other bytes stay."
abbrev pub write_done : Record → List ℕ → List ℕ → StoreOutcome
write_done s area file =
    accepted 0 (written_record s (length file))
    (put_shares (written_record s (length file)) (share s.sizes s.points file) (tabulate s.sizes.n (λ i. i)) area) []

unfoldable pub write_call : Record → List ℕ → List ℕ → StoreOutcome
write_call s area file = settle (first store_order (write_lines s (length area) file)) (refused s area []) (write_done s area file)

-- "Lose a board: its mark goes off; already off is accepted."
abbrev pub lose_done : Record → List ℕ → ℕ → StoreOutcome
lose_done s area board = accepted 0 (with_marks s (set s.marks board false)) area []

unfoldable pub lose_call : Record → List ℕ → ℕ → StoreOutcome
lose_call s area board = settle (first store_order (lose_lines s board)) (refused s area []) (lose_done s area board)

-- "Repair: .. Fresh boards get their shares and come into service together. The answer reports the bytes moved, the summed length of all
-- packets". All packets are made from the area before the call.
abbrev pub repair_done : Record → List ℕ → List ℕ → List ℕ → List ℕ → StoreOutcome
repair_done s area fresh helpers stand_ins =
    accepted (total (repair_packets s area fresh helpers stand_ins)) (with_marks s (turn_on fresh s.marks))
    (put_shares s (fresh_share s area fresh helpers stand_ins) fresh area) []

unfoldable pub repair_call : Record → List ℕ → List ℕ → List ℕ → List ℕ → StoreOutcome
repair_call s area fresh helpers stand_ins =
    settle (first store_order (repair_lines s (length area) fresh helpers stand_ins)) (refused s area []) (repair_done s area fresh helpers stand_ins)

-- "Read: k boards; the file goes to the first L bytes of the output, the rest of it stays."
abbrev pub read_done : Record → List ℕ → List ℕ → List ℕ → StoreOutcome
read_done s area boards output = accepted 0 s area (over (file_of (file_held s area boards)) output)

unfoldable pub read_call : Record → List ℕ → List ℕ → List ℕ → StoreOutcome
read_call s area boards output =
    settle (first store_order (read_lines s area boards output)) (refused s area output) (read_done s area boards output)
