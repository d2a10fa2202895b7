-- Demand 1 of the store's calls with both records (request A.8): every call ends, on any two records, any areas and lists, with its result or with the
-- first refusal whose line holds, and a refusal hands back both records as they came and changes no byte. proofs/BothCalls.antt has
-- `both-calls : BothCalls`.
-- Assumes nothing.
use Rattle.std.specs.Prelude.{◌≡◌, true, false, ◌≢◌, ◌↔◌, ◌⊎◌, List, [], ◌∷◌, ◌++◌, ℕ, ◌+◌, ◌-◌, ◌*◌, ◌<◌, length, drop, Err}
use Rattle.lists.specs.Lists.{All}
use Rattle.sizes.specs.declared.Sizes.{Sizes}
use Rattle.sizes.specs.declared.Refusal.{Refusal}
use Rattle.sizes.specs.declared.Refusal.TheVariants.{Size, Area, Empty, Busy, Idle}
use Rattle.sizes.specs.Sizing.{α}
use Rattle.sizes.specs.Refusals.{said, Line, applies_in, store_order}
use Rattle.sizes.specs.Laws.{First}
use Rattle.board_spec.specs.Claims.{Claim, ◌means◌, LinesSay}
use Rattle.store_spec.specs.Record.{Record, sound, new_record, stripe_count}
use Rattle.beside_spec.specs.Running.{Running, idle, running_by, fresh_of, helpers_of, stand_ins_of, sound_beside}
use Rattle.store_spec.specs.Calls.{accepted, record_line, list_lines, write_done, lose_done, repair_done, read_done}
use Rattle.store_spec.specs.Edit.{edit_done}
use Rattle.store_spec.specs.Careful.{careful_done}
use Rattle.store_spec.specs.Move.{move_done}
use Rattle.beside_spec.specs.Both.{Outcome, beside, lost_beside, write_lines_both, lose_lines_both, repair_lines_both, read_lines_both, edit_lines_both, careful_lines_both, move_lines_both}
use Rattle.beside_spec.specs.Both.{step_lines, step_done, set_up_both}
use Rattle.store_spec.specs.Demand1.{write_claims, lose_claims, repair_claims, read_claims, edit_claims, careful_claims, move_claims}
use Rattle.beside_spec.specs.Acting.{Call, write, lose, repair, read, edit, start, step, careful, move, State, act, output_of, packets_of_call}

-- one call: its lines; records and lent bytes as they came; what it does where no line holds; and its outcome
pub record BothEnds (lines : List Line) (s : Record) (p : Running) (area output packets : List ℕ) (done o : Outcome) : Type 0 where
  -- some line is the first that holds, or none holds
  pub one : ((x : Refusal) × First store_order lines x) ⊎ All (λ x. applies_in lines x ≡ false) store_order
  -- "The first that applies is given", and all is as it came
  pub refuses : (x : Refusal) → First store_order lines x
      → o ≡ record { answer = said (Err x); handed = s; running = p; area = area; output = output; packets = packets }
  -- "otherwise the call does its work"
  pub works : All (λ x. applies_in lines x ≡ false) store_order → (o ≡ done) × (o.answer.refusal ≡ 0)

-- a call's lines by the store, and what it does where none holds
unfoldable pub store_lines : Record → Running → List ℕ → Call → List Line
store_lines s p area (write file) = write_lines_both s p (length area) file
store_lines s p area (lose board) = lose_lines_both s p board
store_lines s p area (repair fresh helpers stand_ins) = repair_lines_both s p (length area) fresh helpers stand_ins
store_lines s p area (read boards output) = read_lines_both s p area boards output
store_lines s p area (edit offset bytes boards) = edit_lines_both s p area offset bytes boards
store_lines s p area (start fresh helpers stand_ins) = repair_lines_both s p (length area) fresh helpers stand_ins
store_lines s p area (step allowance packets) = step_lines s p (length area) (length packets)
store_lines s p area (careful boards output) = careful_lines_both s p area boards output
store_lines s p area (move board point helpers partners) = move_lines_both s p (length area) board point helpers partners

unfoldable pub store_done : Record → Running → List ℕ → Call → Outcome
store_done s p area (write file) = beside p (write_done s area file)
store_done s p area (lose board) = beside (lost_beside s p board) (lose_done s area board)
store_done s p area (repair fresh helpers stand_ins) = beside p (repair_done s area fresh helpers stand_ins)
store_done s p area (read boards output) = beside p (read_done s area boards output)
store_done s p area (edit offset bytes boards) = beside p (edit_done s area offset bytes boards)
store_done s p area (start fresh helpers stand_ins) = beside (running_by fresh helpers stand_ins 0) (accepted 0 s area [])
store_done s p area (step allowance packets) = step_done s p area packets allowance
store_done s p area (careful boards output) = beside p (careful_done s area boards output)
store_done s p area (move board point helpers partners) = beside p (move_done s area board point helpers partners)

-- what the lines of each call say: SIZE by either record, these further claims, and those of the call alone behind its own SIZE
module _ (s : Record) (p : Running) where
  abbrev pub both_claims : List Claim → List Claim → List Claim
  both_claims further claims = Size means ((sound s ≡ false) ⊎ (sound_beside s p ≡ false)) ∷ (further ++ drop 1 claims)

  abbrev pub busy_claim : Claim
  busy_claim = Busy means (p.running ≡ true)

  abbrev pub store_claims : List ℕ → Call → List Claim
  store_claims area (write file) = both_claims (busy_claim ∷ []) (write_claims s (length area) file)
  store_claims area (lose board) = both_claims [] (lose_claims s board)
  store_claims area (repair fresh helpers stand_ins) = both_claims (busy_claim ∷ []) (repair_claims s (length area) fresh helpers stand_ins)
  store_claims area (read boards output) = both_claims [] (read_claims s area boards output)
  store_claims area (edit offset bytes boards) = both_claims (busy_claim ∷ []) (edit_claims s area offset bytes boards)
  store_claims area (start fresh helpers stand_ins) = both_claims (busy_claim ∷ []) (repair_claims s (length area) fresh helpers stand_ins)
  store_claims area (step allowance packets) =
      Size means ((sound s ≡ false) ⊎ (sound_beside s p ≡ false))
      ∷ Area means
      ((length area ≢ s.sizes.n * (s.capacity * α s.sizes))
      ⊎ ((p.running ≡ true) × (length packets ≢ stripe_count s * length (fresh_of p) * (2 * s.sizes.d + s.sizes.r - 1))))
      ∷ Empty means (s.written ≡ false)
      ∷ Idle means (p.running ≡ false)
      ∷ []
  store_claims area (careful boards output) = both_claims [] (careful_claims s area boards output)
  store_claims area (move board point helpers partners) = both_claims (busy_claim ∷ []) (move_claims s (length area) board point helpers partners)

pub record BothCalls : Type 0 where
  -- the lines of each call say this, and it has no others
  pub lines-say : (s : Record) (p : Running) (area : List ℕ) (c : Call) → LinesSay (store_lines s p area c) (store_claims s p area c)
  -- every call ends
  pub call_ends : (w : State) (c : Call)
      → BothEnds (store_lines w.kept w.running w.area c) w.kept w.running w.area (output_of c) (packets_of_call c)
      (store_done w.kept w.running w.area c) (act w c)
  pub set-up-ends : (old : Record) (p : Running) (z : Sizes) (xs : List ℕ) (c : ℕ)
      → BothEnds (record_line (new_record z xs c) ∷ []) old p [] [] [] (beside idle (accepted 0 (new_record z xs c) [] [])) (set_up_both old p z xs c)
  -- a record of a repair that is not SIZE beside the store's, in propositions
  pub beside-is : (s : Record) (p : Running) → (sound_beside s p ≡ true)
      ↔ (p.running ≡ true
      → All (λ x. applies_in (list_lines s (fresh_of p) (helpers_of s.sizes p) (stand_ins_of s.sizes p)) x ≡ false) store_order
      × (p.carried < length (fresh_of p) * (s.sizes.d + s.sizes.r - 1)))
