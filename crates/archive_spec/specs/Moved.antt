-- Request A.10, 'To the present points with the robot running', of the archive: an accepted move, over any words and any area.
-- proofs/Moved.antt has `archive-moves : ArchiveMoves`.
-- Assumes nothing.
use Rattle.std.specs.Prelude.{◌≡◌, true, false, List, ℕ, ◌+◌, ◌-◌, ◌*◌, ◌<◌, set}
use Rattle.store_spec.specs.Record.{stripe_count}
use Rattle.store_spec.specs.Move.{move_call}
use Rattle.store_spec.specs.MoveLaws.{Moved}
use Rattle.beside_spec.specs.Acting.{move}
use Rattle.record_words.specs.Words.{is_record, record_from}
use Rattle.repair_words.specs.RepairWords.{is_repair, repair_from}
use Rattle.archive_spec.specs.Lent.{zbk}

-- It is one of the definitions', over the record that the words tell, with no repair running: the bytes of the area are those that MoveLaws speaks of. The words then
-- tell the record with the new point and are else as they were, "the bytes reported are those of a repair of one board", and the repair's words stay.
pub record ArchiveMoved (ws ps area : List ℕ) (board point : ℕ) (helpers partners : List ℕ) : Type 0 where
  pub is-record : is_record ws ≡ true
  pub is-repair : is_repair ps ≡ true
  pub none_runs : (repair_from ps).running ≡ false
  pub moved : Moved (record_from ws) area board point helpers partners (set (record_from ws).points board point)
  pub reports : let s = record_from ws in (zbk ws ps area (move board point helpers partners)).answer ≡ 256 * (stripe_count s * (2 * s.sizes.d + s.sizes.r - 1))
  pub are_words : is_record (zbk ws ps area (move board point helpers partners)).words ≡ true
  pub words-tell : let s = record_from ws in record_from (zbk ws ps area (move board point helpers partners)).words
      ≡ record { sizes = s.sizes; points = set s.points board point; capacity = s.capacity; written = s.written; length = s.length; marks = s.marks }
  pub repair-stays : (zbk ws ps area (move board point helpers partners)).repair ≡ ps
  pub area-is : (zbk ws ps area (move board point helpers partners)).area ≡ (move_call (record_from ws) area board point helpers partners).area

-- a word that is a multiple of 256 is of an accepted call; the new point is a byte
abbrev pub ArchiveMoves : Type 0
ArchiveMoves =
    (ws ps area : List ℕ) (board point : ℕ) (helpers partners : List ℕ) (v : ℕ) → point < 256
    → (zbk ws ps area (move board point helpers partners)).answer ≡ 256 * v
    → ArchiveMoved ws ps area board point helpers partners
