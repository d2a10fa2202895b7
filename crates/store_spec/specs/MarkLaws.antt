-- What an accepted call changes in the store's record: the marks that document 01 says, and no others. That a refused one changes nothing is in crate beside_spec
-- (HandedLaws). proofs/MarkLaws.antt has `mark-laws`.
-- Assumes nothing.
use Rattle.std.specs.Prelude.{◌≡◌, true, false, List, ℕ, ◌<◌, ltb, eqb, length, set}
use Rattle.lists.specs.Tests.{pick, among}
use Rattle.sizes.specs.Sizing.{max_boards}
use Rattle.store_spec.specs.Record.{Record, in_service}
use Rattle.store_spec.specs.Calls.{write_call, lose_call, repair_call, read_call}
use Rattle.store_spec.specs.Edit.{edit_call}
use Rattle.store_spec.specs.Careful.{careful_call}
use Rattle.store_spec.specs.Move.{move_call}

-- one record has the other's sizes, points and capacity
abbrev pub SameStore : Record → Record → Type 0
SameStore new old = (new.sizes ≡ old.sizes) × (new.points ≡ old.points) × (new.capacity ≡ old.capacity)

-- and it has its file
abbrev pub SameFile : Record → Record → Type 0
SameFile new old = (new.written ≡ old.written) × (new.length ≡ old.length)

pub record MarkLaws : Type 0 where
  -- "all n come into service", and none from n up
  pub writes : (s : Record) (area file : List ℕ) → (write_call s area file).answer.refusal ≡ 0
      → ((i : ℕ) → i < max_boards → in_service (write_call s area file).handed i ≡ ltb i s.sizes.n)
      × SameStore (write_call s area file).handed s
      × ((write_call s area file).handed.written ≡ true) × ((write_call s area file).handed.length ≡ length file)
  -- "its mark goes off"
  pub loses : (s : Record) (area : List ℕ) (board : ℕ) → (lose_call s area board).answer.refusal ≡ 0
      → ((i : ℕ) → in_service (lose_call s area board).handed i ≡ pick (eqb board i) false (in_service s i))
      × SameStore (lose_call s area board).handed s × SameFile (lose_call s area board).handed s
  -- "Fresh boards .. come into service together"
  pub repairs : (s : Record) (area fresh helpers stand_ins : List ℕ) → length s.marks ≡ max_boards
      → (repair_call s area fresh helpers stand_ins).answer.refusal ≡ 0
      → ((i : ℕ) → i < max_boards → in_service (repair_call s area fresh helpers stand_ins).handed i ≡ pick (among fresh i) true (in_service s i))
      × SameStore (repair_call s area fresh helpers stand_ins).handed s × SameFile (repair_call s area fresh helpers stand_ins).handed s
  -- an accepted move changes one point, and nothing else
  pub moves : (s : Record) (area : List ℕ) (board point : ℕ) (helpers partners : List ℕ) → (move_call s area board point helpers partners).answer.refusal ≡ 0
      → (move_call s area board point helpers partners).handed
      ≡ record { sizes = s.sizes; points = set s.points board point; capacity = s.capacity; written = s.written; length = s.length; marks = s.marks }
  -- a read hands on the record that it was given, a careful one too: the odd board stays in service
  pub reads : (s : Record) (area boards output : List ℕ) → (read_call s area boards output).handed ≡ s
  pub careful-reads : (s : Record) (area boards output : List ℕ) → (careful_call s area boards output).handed ≡ s
  -- and so does an edit
  pub edits : (s : Record) (area : List ℕ) (offset : ℕ) (bytes boards : List ℕ) → (edit_call s area offset bytes boards).handed ≡ s
