-- Request A.8, every store call with both records: the store's, and beside it that of a started repair. The calls of Calls.antt, Edit.antt,
-- Careful.antt and Move.antt go on as they were; `start` and `step` are new.
-- Assumes nothing.
use Rattle.std.specs.Prelude.{ℕ, ◌+◌, ◌-◌, true, not, List, [], ◌∷◌, ◌++◌, leb, eqb, length, drop, Ok, Err}
use Rattle.lists.specs.Tests.{pick, alls, among}
use Rattle.sizes.specs.declared.Sizes.{Sizes}
use Rattle.sizes.specs.declared.Refusal.TheVariants.{Size, Area, Busy, Idle}
use Rattle.sizes.specs.Refusals.{Said, said, Line, ◌when◌, first, store_order}
use Rattle.store_spec.specs.Record.{Record, sound, new_record, with_marks, turn_on, area_len, put_shares}
use Rattle.beside_spec.specs.Running.{Running, idle, running_by, with_carried, fresh_of, helpers_of, stand_ins_of, named_in, packet_count, packets_len, sound_beside}
use Rattle.beside_spec.specs.Lying.{share_lying, carry}
use Rattle.store_spec.specs.Calls.{StoreOutcome, accepted, settle, record_line, empty_line, write_lines, lose_lines, repair_lines, read_lines, write_done, lose_done, repair_done, read_done}
use Rattle.store_spec.specs.Edit.{edit_lines, edit_done}
use Rattle.store_spec.specs.Careful.{careful_lines, careful_done}
use Rattle.store_spec.specs.Move.{move_lines, move_done}

-- what a call answers, the two records that it hands on, and all lent bytes after it
pub record Outcome : Type 0 where
  pub answer : Said
  pub handed : Record
  pub running : Running
  pub area : List ℕ
  pub output : List ℕ
  pub packets : List ℕ

-- a call that takes no packet area, with this record of a repair handed on
abbrev pub beside : Running → StoreOutcome → Outcome
beside p o = record { answer = o.answer; handed = o.handed; running = p; area = o.area; output = o.output; packets = [] }

-- ---- who causes a refusal

-- 1 SIZE, by either record
abbrev pub both_line : Record → Running → Line
both_line s p = Size when not (alls (sound s ∷ sound_beside s p ∷ []))

-- "16 BUSY, a write, edit, repair or start during a repair"; a move is checked "as in a repair of one board, BUSY included"
abbrev pub busy_line : Running → Line
busy_line p = Busy when p.running

-- the lines of a call with both records: SIZE, every call's first line, is by both; these further lines; and its others
abbrev pub lines_both : Record → Running → List Line → List Line → List Line
lines_both s p further lines = both_line s p ∷ (further ++ drop 1 lines)

-- a call by its lines: refused, all comes back as it came
abbrev pub call_both : Record → Running → List ℕ → List ℕ → List ℕ → List Line → Outcome → Outcome
call_both s p area output packets lines done =
    settle (first store_order lines)
    (λ x. record { answer = said (Err x); handed = s; running = p; area = area; output = output; packets = packets }) done

unfoldable pub write_lines_both : Record → Running → ℕ → List ℕ → List Line
write_lines_both s p m file = lines_both s p (busy_line p ∷ []) (write_lines s m file)

unfoldable pub lose_lines_both : Record → Running → ℕ → List Line
lose_lines_both s p board = lines_both s p [] (lose_lines s board)

-- a start asks what a repair asks
unfoldable pub repair_lines_both : Record → Running → ℕ → List ℕ → List ℕ → List ℕ → List Line
repair_lines_both s p m fresh helpers stand_ins = lines_both s p (busy_line p ∷ []) (repair_lines s m fresh helpers stand_ins)

unfoldable pub read_lines_both : Record → Running → List ℕ → List ℕ → List ℕ → List Line
read_lines_both s p area boards output = lines_both s p [] (read_lines s area boards output)

unfoldable pub edit_lines_both : Record → Running → List ℕ → ℕ → List ℕ → List ℕ → List Line
edit_lines_both s p area offset bytes boards = lines_both s p (busy_line p ∷ []) (edit_lines s area offset bytes boards)

unfoldable pub careful_lines_both : Record → Running → List ℕ → List ℕ → List ℕ → List Line
careful_lines_both s p area boards output = lines_both s p [] (careful_lines s area boards output)

unfoldable pub move_lines_both : Record → Running → ℕ → ℕ → ℕ → List ℕ → List ℕ → List Line
move_lines_both s p m board point helpers partners = lines_both s p (busy_line p ∷ []) (move_lines s m board point helpers partners)

-- "with none running its length is not checked"; "17 IDLE, a step with none running". `m` and `mp` are the lengths of the two areas.
unfoldable pub step_lines : Record → Running → ℕ → ℕ → List Line
step_lines s p m mp =
    both_line s p
    ∷ Area when not (alls (eqb m (area_len s) ∷ pick p.running (eqb mp (packets_len s (length (fresh_of p)))) true ∷ []))
    ∷ empty_line s
    ∷ Idle when not p.running
    ∷ []

-- ---- the calls

-- "set up, unless refused, hands it on idle, unexamined"
unfoldable pub set_up_both : Record → Running → Sizes → List ℕ → ℕ → Outcome
set_up_both s p z xs c = call_both s p [] [] [] (record_line (new_record z xs c) ∷ []) (beside idle (accepted 0 (new_record z xs c) [] []))

unfoldable pub write_both : Record → Running → List ℕ → List ℕ → Outcome
write_both s p area file = call_both s p area [] [] (write_lines_both s p (length area) file) (beside p (write_done s area file))

-- "Losing a board named in the repair ends it, fresh boards out of service."
abbrev pub lost_beside : Record → Running → ℕ → Running
lost_beside s p board = pick (alls (p.running ∷ among (named_in s.sizes p) board ∷ [])) idle p

unfoldable pub lose_both : Record → Running → List ℕ → ℕ → Outcome
lose_both s p area board = call_both s p area [] [] (lose_lines_both s p board) (beside (lost_beside s p board) (lose_done s area board))

unfoldable pub repair_both : Record → Running → List ℕ → List ℕ → List ℕ → List ℕ → Outcome
repair_both s p area fresh helpers stand_ins =
    call_both s p area [] [] (repair_lines_both s p (length area) fresh helpers stand_ins) (beside p (repair_done s area fresh helpers stand_ins))

unfoldable pub read_both : Record → Running → List ℕ → List ℕ → List ℕ → Outcome
read_both s p area boards output = call_both s p area output [] (read_lines_both s p area boards output) (beside p (read_done s area boards output))

unfoldable pub edit_both : Record → Running → List ℕ → ℕ → List ℕ → List ℕ → Outcome
edit_both s p area offset bytes boards =
    call_both s p area [] [] (edit_lines_both s p area offset bytes boards) (beside p (edit_done s area offset bytes boards))

unfoldable pub careful_both : Record → Running → List ℕ → List ℕ → List ℕ → Outcome
careful_both s p area boards output =
    call_both s p area output [] (careful_lines_both s p area boards output) (beside p (careful_done s area boards output))

unfoldable pub move_both : Record → Running → List ℕ → ℕ → ℕ → List ℕ → List ℕ → Outcome
move_both s p area board point helpers partners =
    call_both s p area [] [] (move_lines_both s p (length area) board point helpers partners) (beside p (move_done s area board point helpers partners))

-- a start carries nothing
unfoldable pub start_call : Record → Running → List ℕ → List ℕ → List ℕ → List ℕ → Outcome
start_call s p area fresh helpers stand_ins =
    call_both s p area [] [] (repair_lines_both s p (length area) fresh helpers stand_ins) (beside (running_by fresh helpers stand_ins 0) (accepted 0 s area []))

module _ (s : Record) (p : Running) (area packets : List ℕ) where
  -- packets that are left
  abbrev pub left_of : ℕ
  left_of = packet_count s.sizes (length (fresh_of p)) - p.carried

  -- the packet area after m packets more
  abbrev pub carried_on : ℕ → List ℕ
  carried_on m = carry s (fresh_of p) (helpers_of s.sizes p) (stand_ins_of s.sizes p) area p.carried m packets

  -- "the fresh boards get their shares and enter service only with the last"
  abbrev pub step_last : Outcome
  step_last = record {
    answer = said (Ok left_of);
    handed = with_marks s (turn_on (fresh_of p) s.marks);
    running = idle;
    area = put_shares s (share_lying s (fresh_of p) (helpers_of s.sizes p) (stand_ins_of s.sizes p) (carried_on left_of)) (fresh_of p) area;
    output = [];
    packets = carried_on left_of;
  }

  abbrev pub step_on : ℕ → Outcome
  step_on m = record { answer = said (Ok m); handed = s; running = with_carried p (p.carried + m); area = area; output = []; packets = carried_on m }

  -- "at most the number of packets the caller allows, fewer only where fewer are left"
  abbrev pub step_done : ℕ → Outcome
  step_done allowance = pick (leb left_of allowance) step_last (step_on allowance)

  unfoldable pub step_call : ℕ → Outcome
  step_call allowance = call_both s p area [] packets (step_lines s p (length area) (length packets)) (step_done allowance)
