-- Demand 1 of the store's calls alone (BothCalls.antt has them with the record of a repair beside): every call ends, on any record, area and lists, with its result
-- or with the first refusal whose line holds, and a refusal hands back the record as it came and changes no byte. And what an accepted call does to record, area and output, over any area.
-- proofs/Demand1.antt has `demand-1 : StoreCalls`.
-- Assumes nothing.
use Rattle.std.specs.Prelude.{◌≡◌, true, false, ◌≢◌, ◌↔◌, ◌⊎◌, List, [], ◌∷◌, ◌++◌, ℕ, suc, ◌+◌, ◌-◌, ◌*◌, ◌≤◌, ◌<◌, ltb, length, take, drop, get_or, replicate, Err}
use Rattle.std.proofs.Math.Option.{none}
use Rattle.lists.specs.Tests.{every, alls, below, among, different, apart}
use Rattle.lists.specs.Lists.{All, Bytes, tabulate, piece, over}
use Rattle.sizes.specs.declared.Sizes.{Sizes}
use Rattle.sizes.specs.declared.Refusal.{Refusal}
use Rattle.sizes.specs.declared.Refusal.TheVariants.{Size, Area, Long, Count, Node, Repeat, Short, Empty, Down, Disagree, Serving, Range}
use Rattle.sizes.specs.Sizing.{max_stripes, legal, α, B, stripes}
use Rattle.sizes.specs.Refusals.{number, said, Line, applies_in, store_order}
use Rattle.sizes.specs.Laws.{First}
use Rattle.mbcr.specs.Share.{pointed, stripe, kept, share}
use Rattle.board_spec.specs.Claims.{Claim, ◌means◌, LinesSay}
use Rattle.store_spec.specs.Record.{Record, in_service, sound, new_record, written_record, stripe_count, part_len, used_len, area_len, held}
use Rattle.store_spec.specs.Calls.{StoreOutcome, accepted, refused, file_held, record_line, write_lines, lose_lines, list_lines, repair_lines, read_lines, set_up_call, write_done, write_call}
use Rattle.store_spec.specs.Calls.{lose_done, lose_call, repair_done, repair_call, read_done, read_call}
use Rattle.store_spec.specs.Edit.{edit_lines, edit_done, edit_call}
use Rattle.store_spec.specs.Careful.{careful_file, careful_lines, careful_done, careful_call}
use Rattle.store_spec.specs.Move.{move_lines, move_done, move_call}

-- one call: its lines; record, area and output as they came; what it does where no line holds; and its outcome
pub record StoreEnds (lines : List Line) (s : Record) (area output : List ℕ) (done o : StoreOutcome) : Type 0 where
  -- some line is the first that holds, or none holds
  pub one : ((x : Refusal) × First store_order lines x) ⊎ All (λ x. applies_in lines x ≡ false) store_order
  -- "The first that applies is given", and all is as it came
  pub refuses : (x : Refusal) → First store_order lines x → o ≡ record { answer = said (Err x); handed = s; area = area; output = output }
  -- "otherwise the call does its work"
  pub works : All (λ x. applies_in lines x ≡ false) store_order → (o ≡ done) × (o.answer.refusal ≡ 0)

-- "Other bytes stay": of an area, outside the first S stripes of these boards
pub record Stays (s : Record) (boards old new : List ℕ) : Type 0 where
  pub as_long : length new ≡ length old
  pub same_byte : (p : ℕ) → ((i : ℕ) → among boards i ≡ true → (p < i * part_len s) ⊎ (i * part_len s + used_len s ≤ p)) → get_or new p 0 ≡ get_or old p 0

-- what the lines of each call say
module _ (s : Record) where
  -- the first two of them, where an area is lent
  abbrev pub lent_claims : ℕ → List Claim
  lent_claims m = Size means (sound s ≡ false) ∷ Area means (m ≢ s.sizes.n * (s.capacity * α s.sizes)) ∷ []

  abbrev pub write_claims : ℕ → List ℕ → List Claim
  write_claims m file = lent_claims m ++ (Long means (s.capacity * B s.sizes < length file) ∷ [])

  abbrev pub lose_claims : ℕ → List Claim
  lose_claims board = Size means (sound s ≡ false) ∷ Node means (below s.sizes.n (board ∷ []) ≡ false) ∷ []

  -- those of a repair's lists, with r − t where t is at most r
  abbrev pub list_claims : List ℕ → List ℕ → List ℕ → List Claim
  list_claims fresh helpers stand_ins =
      Count means
      ((1 ≤ length fresh) × (length fresh ≤ s.sizes.r) × (length helpers ≡ length fresh * s.sizes.d)
      × (length stand_ins ≡ length fresh * (s.sizes.r - length fresh)) → ⊥)
      ∷ Node means (below s.sizes.n (fresh ++ (helpers ++ stand_ins)) ≡ false)
      ∷ Repeat means
      (alls
      (different fresh
      ∷ every different (tabulate (length fresh) (λ a. piece s.sizes.d a helpers ++ piece (s.sizes.r - length fresh) a stand_ins))
      ∷ apart fresh (helpers ++ stand_ins)
      ∷ []) ≡ false)
      ∷ Serving means ((i : ℕ) × (among fresh i ≡ true) × (in_service s i ≡ true))
      ∷ Down means (every (in_service s) (helpers ++ stand_ins) ≡ false)
      ∷ []

  abbrev pub repair_claims : ℕ → List ℕ → List ℕ → List ℕ → List Claim
  repair_claims m fresh helpers stand_ins = lent_claims m ++ (Empty means (s.written ≡ false) ∷ list_claims fresh helpers stand_ins)

  abbrev pub read_claims : List ℕ → List ℕ → List ℕ → List Claim
  read_claims area boards output =
      lent_claims (length area)
      ++ (Empty means (s.written ≡ false)
      ∷ Count means (length boards ≢ s.sizes.k)
      ∷ Node means (below s.sizes.n boards ≡ false)
      ∷ Repeat means (different boards ≡ false)
      ∷ Down means (every (in_service s) boards ≡ false)
      ∷ Short means (length output < s.length)
      ∷ Disagree means (file_held s area boards ≡ none)
      ∷ [])

  abbrev pub edit_claims : List ℕ → ℕ → List ℕ → List ℕ → List Claim
  edit_claims area offset bytes boards =
      lent_claims (length area)
      ++ (Empty means (s.written ≡ false)
      ∷ Range means (s.length < offset + length bytes)
      ∷ Count means (length boards ≢ s.sizes.k)
      ∷ Node means (below s.sizes.n boards ≡ false)
      ∷ Repeat means (different boards ≡ false)
      ∷ Down means (every (in_service s) boards ≡ false)
      ∷ Disagree means (file_held s area boards ≡ none)
      ∷ [])

  -- those of a careful read: "Where k + 2 exceeds n, COUNT."
  abbrev pub careful_claims : List ℕ → List ℕ → List ℕ → List Claim
  careful_claims area boards output =
      lent_claims (length area)
      ++ (Empty means (s.written ≡ false)
      ∷ Count means ((s.sizes.k + 2 ≤ s.sizes.n) × (length boards ≡ s.sizes.k + 2) → ⊥)
      ∷ Node means (below s.sizes.n boards ≡ false)
      ∷ Repeat means (different boards ≡ false)
      ∷ Down means (every (in_service s) boards ≡ false)
      ∷ Short means (length output < s.length)
      ∷ Disagree means (careful_file s area boards ≡ none)
      ∷ [])

  -- those of a move: "any board out of service is DOWN. A new byte that is some board's point, its own included, is REPEAT."
  abbrev pub move_claims : ℕ → ℕ → ℕ → List ℕ → List ℕ → List Claim
  move_claims m board point helpers partners =
      lent_claims m
      ++ (Empty means (s.written ≡ false)
      ∷ Count means ((length helpers ≡ s.sizes.d) × (length partners ≡ s.sizes.r - 1) → ⊥)
      ∷ Node means (below s.sizes.n (board ∷ (helpers ++ partners)) ≡ false)
      ∷ Repeat means ((different (board ∷ (helpers ++ partners)) ≡ false) ⊎ (among (take s.sizes.n s.points) point ≡ true))
      ∷ Down means ((i : ℕ) × (i < s.sizes.n) × (in_service s i ≡ false))
      ∷ [])

pub record StoreCalls : Type 0 where
  -- the lines of each call say this, and it has no others
  pub write-lines : (s : Record) (m : ℕ) (file : List ℕ) → LinesSay (write_lines s m file) (write_claims s m file)
  pub lose-lines : (s : Record) (board : ℕ) → LinesSay (lose_lines s board) (lose_claims s board)
  pub list-lines : (s : Record) (fresh helpers stand_ins : List ℕ) → LinesSay (list_lines s fresh helpers stand_ins) (list_claims s fresh helpers stand_ins)
  pub repair-lines : (s : Record) (m : ℕ) (fresh helpers stand_ins : List ℕ)
      → LinesSay (repair_lines s m fresh helpers stand_ins) (repair_claims s m fresh helpers stand_ins)
  pub read-lines : (s : Record) (area boards output : List ℕ)
      → LinesSay (read_lines s area boards output) (read_claims s area boards output)
  pub edit-lines : (s : Record) (area : List ℕ) (offset : ℕ) (bytes boards : List ℕ)
      → LinesSay (edit_lines s area offset bytes boards) (edit_claims s area offset bytes boards)
  pub careful-lines : (s : Record) (area boards output : List ℕ)
      → LinesSay (careful_lines s area boards output) (careful_claims s area boards output)
  pub move-lines : (s : Record) (m board point : ℕ) (helpers partners : List ℕ)
      → LinesSay (move_lines s m board point helpers partners) (move_claims s m board point helpers partners)
  pub set-up-ends : (old : Record) (z : Sizes) (xs : List ℕ) (c : ℕ)
      → StoreEnds (record_line (new_record z xs c) ∷ []) old [] [] (accepted 0 (new_record z xs c) [] []) (set_up_call old z xs c)
  pub write-ends : (s : Record) (area file : List ℕ)
      → StoreEnds (write_lines s (length area) file) s area [] (write_done s area file) (write_call s area file)
  pub lose-ends : (s : Record) (area : List ℕ) (board : ℕ) → StoreEnds (lose_lines s board) s area [] (lose_done s area board) (lose_call s area board)
  pub repair-ends : (s : Record) (area fresh helpers stand_ins : List ℕ)
      → StoreEnds (repair_lines s (length area) fresh helpers stand_ins) s area [] (repair_done s area fresh helpers stand_ins)
      (repair_call s area fresh helpers stand_ins)
  pub read-ends : (s : Record) (area boards output : List ℕ)
      → StoreEnds (read_lines s area boards output) s area output (read_done s area boards output) (read_call s area boards output)
  pub edit-ends : (s : Record) (area : List ℕ) (offset : ℕ) (bytes boards : List ℕ)
      → StoreEnds (edit_lines s area offset bytes boards) s area [] (edit_done s area offset bytes boards) (edit_call s area offset bytes boards)
  pub careful-ends : (s : Record) (area boards output : List ℕ)
      → StoreEnds (careful_lines s area boards output) s area output (careful_done s area boards output) (careful_call s area boards output)
  pub move-ends : (s : Record) (area : List ℕ) (board point : ℕ) (helpers partners : List ℕ)
      → StoreEnds (move_lines s (length area) board point helpers partners) s area [] (move_done s area board point helpers partners)
      (move_call s area board point helpers partners)
  -- an outcome by its parts
  pub accepted-is : (v : ℕ) (s : Record) (area output : List ℕ)
      → accepted v s area output ≡ record { answer = record { refusal = 0; reported = v }; handed = s; area = area; output = output }
  pub refused-is : (s : Record) (area output : List ℕ) (x : Refusal)
      → refused s area output x ≡ record { answer = record { refusal = number x; reported = 0 }; handed = s; area = area; output = output }
  -- all but a repair, a careful read and a move report 0; losing and reading leave the area, whatever they answer
  pub set-up-reports : (old : Record) (z : Sizes) (xs : List ℕ) (c : ℕ) → (set_up_call old z xs c).answer.reported ≡ 0
  pub write-reports : (s : Record) (area file : List ℕ) → (write_call s area file).answer.reported ≡ 0
  pub lose-reports : (s : Record) (area : List ℕ) (board : ℕ) → ((lose_call s area board).answer.reported ≡ 0) × ((lose_call s area board).area ≡ area)
  pub read-reports : (s : Record) (area boards output : List ℕ) → ((read_call s area boards output).answer.reported ≡ 0) × ((read_call s area boards output).area ≡ area)
  pub edit-reports : (s : Record) (area : List ℕ) (offset : ℕ) (bytes boards : List ℕ)
      → ((edit_call s area offset bytes boards).answer.reported ≡ 0) × ((edit_call s area offset bytes boards).output ≡ [])
  -- a careful read reports 0 or the number plus 1 of a board that it names, and leaves the area too
  pub careful-reports : (s : Record) (area boards output : List ℕ)
      → (((careful_call s area boards output).answer.reported ≡ 0)
      ⊎ ((i : ℕ) × ((careful_call s area boards output).answer.reported ≡ suc i) × (among boards i ≡ true)))
      × ((careful_call s area boards output).area ≡ area)
  -- a move reports what MoveLaws says where it is accepted, and has no output
  pub move-output : (s : Record) (area : List ℕ) (board point : ℕ) (helpers partners : List ℕ) → (move_call s area board point helpers partners).output ≡ []
  -- when a set-up is accepted
  pub set-up-accepted : (old : Record) (z : Sizes) (xs : List ℕ) (c : ℕ)
      → ((set_up_call old z xs c).answer.refusal ≡ 0) ↔ ((legal z ≡ true) × (pointed z xs ≡ true) × (1 ≤ c) × (c ≤ max_stripes))
  -- a new record, and the mark of a board
  pub new_is : (z : Sizes) (xs : List ℕ) (c : ℕ) → new_record z xs c ≡ record { sizes = z; points = xs; capacity = c; written = false; length = 0; marks = replicate 32 false }
  pub in-service-is : (s : Record) (i : ℕ) → in_service s i ≡ get_or s.marks i false
  -- the record that a write hands on
  pub written_is : (s : Record) (L : ℕ) → written_record s L
      ≡ record { sizes = s.sizes; points = s.points; capacity = s.capacity; written = true; length = L; marks = tabulate 32 (λ i. ltb i s.sizes.n) }
  -- a board's part of the area has C stripes, of which the first S are used: lengths and places by the sizes
  pub lengths-are : (s : Record) → (part_len s ≡ s.capacity * α s.sizes)
      × (used_len s ≡ stripes s.sizes s.length * α s.sizes)
      × (area_len s ≡ s.sizes.n * (s.capacity * α s.sizes))
  pub held-is : (s : Record) (area : List ℕ) (i : ℕ)
      → held s area i ≡ take (stripes s.sizes s.length * α s.sizes) (drop (i * (s.capacity * α s.sizes)) area)
  -- the records that are not SIZE, in propositions
  pub sound-is : (s : Record) → (sound s ≡ true)
      ↔ ((legal s.sizes ≡ true) × (pointed s.sizes s.points ≡ true) × (1 ≤ s.capacity) × (s.capacity ≤ max_stripes) × (s.length ≤ s.capacity * B s.sizes)
      × ((i : ℕ) → in_service s i ≡ true → i < s.sizes.n)
      × (s.written ≡ false → (s.length ≡ 0) × ((i : ℕ) → in_service s i ≡ true → ⊥)))
  -- "stripe s of board i starts at (i × C + s) × α", in what is held and after a write
  pub held_place : (s : Record) (area : List ℕ) (i t : ℕ) → t < stripe_count s
      → piece (α s.sizes) t (held s area i) ≡ take (α s.sizes) (drop ((i * s.capacity + t) * α s.sizes) area)
  pub write-place : (s : Record) (area file : List ℕ) → (write_call s area file).answer.refusal ≡ 0
      → (i t : ℕ) → i < s.sizes.n → t < stripes s.sizes (length file)
      → take (α s.sizes) (drop ((i * s.capacity + t) * α s.sizes) (write_call s area file).area) ≡ kept s.sizes s.points (stripe s.sizes file t) i
  -- "Other bytes stay." "Only the first S stripes of fresh boards change."
  pub write-stays : (s : Record) (area file : List ℕ) → (write_call s area file).answer.refusal ≡ 0
      → Stays (written_record s (length file)) (tabulate s.sizes.n (λ i. i)) area (write_call s area file).area
  pub repair-stays : (s : Record) (area fresh helpers stand_ins : List ℕ) → (repair_call s area fresh helpers stand_ins).answer.refusal ≡ 0
      → Stays s fresh area (repair_call s area fresh helpers stand_ins).area
  -- a read over any area, where no line but DISAGREE holds: it gives f exactly when f has length L and the k boards hold its shares, and
  -- DISAGREE exactly when there is no such file
  pub read-exact : (s : Record) (area boards output : List ℕ) → Bytes area
      → All (λ x. (x ≡ Disagree) ⊎ (applies_in (read_lines s area boards output) x ≡ false)) store_order
      → ((file : List ℕ) → length file ≡ s.length → Bytes file
      → (read_call s area boards output ≡ accepted 0 s area (over file output))
      ↔ All (λ i. held s area i ≡ share s.sizes s.points file i) boards)
      × ((read_call s area boards output ≡ refused s area output Disagree)
      ↔ ((file : List ℕ) → length file ≡ s.length → Bytes file → All (λ i. held s area i ≡ share s.sizes s.points file i) boards → ⊥))
