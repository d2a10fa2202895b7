-- An accepted move of the archive is one of the definitions', with both records in words.
-- Assumes nothing.
use Prim.Native.Nat.{ℕ, ◌*◌}
use mathlib.Core.Path.{sym, ap, subst, ◌∙◌}
use mathlib.Core.List.{[]}
use Rattle.store_spec.specs.Record.{Record}
use Rattle.beside_spec.specs.Running.{Running}
use Rattle.beside_spec.specs.Both.{Outcome}
use Rattle.ledger_spec.specs.Ledger.{call}
use Rattle.beside_spec.specs.Acting.{move, State, act}
use Rattle.store_spec.proofs.MoveLaws.{move-laws}
use Rattle.beside_spec.proofs.BesideLaws.{move-beside}
use Rattle.answer_word.specs.Answers.{word_of}
use Rattle.record_words.specs.Words.{is_record, record_from, words_of}
use Rattle.record_words.specs.Laws.{Whole}
use Rattle.record_words.proofs.Laws.{word_laws}
use Rattle.repair_words.specs.RepairWords.{repair_from, repair_words_of}
use Rattle.repair_words.proofs.RepairWords.{repair-words}
use Rattle.archive_spec.specs.Lent.{Lent}
use Rattle.archive_spec.specs.Moved.{ArchiveMoves}
use Rattle.archive_spec.proofs.Demand3.{still-whole, byte-point, small, none-refused}
use Rattle.archive_spec.proofs.InWords.{lent as lent-call, taken}

pub archive-moves : ArchiveMoves
unfolding act
archive-moves ws ps area board point helpers partners v byte h =
    let s = record_from ws in
    let p = repair_from ps in
    let w : State = record { kept = s; running = p; area = area; packets = [] } in
    let calling : Record → Running → Outcome = λ x q. act (record { kept = x; running = q; area = area; packets = [] }) (move board point helpers partners) in
    let e = taken calling ws ps area [] [] v h in
    let is = sym (lent-call calling ws ps area [] [] e.0 e.1) in
    let ok = small w (move board point helpers partners) v (sym (ap (λ (o : Lent). o.answer) is) ∙ h) in
    let alone = (move-beside.taken-beside s p area board point helpers partners).0 ok in
    let q = move-beside.same_beside s p area board point helpers partners ok in
    let m = move-laws.moved s area board point helpers partners byte alone.0 in
    let bytes = byte-point (call (move board point helpers partners)) ((byte, tt), tt) in
    let record-now = ap (λ (o : Outcome). o.handed) q ∙ m.record_is in
    let whole = subst Whole record-now (still-whole w (move board point helpers partners) bytes (word_laws.is_whole ws e.0)) in
    let words = ap (λ (o : Lent). o.words) is ∙ ap words_of record-now in
    record {
      is-record = e.0;
      is-repair = e.1;
      none_runs = alone.1;
      moved = m;
      reports = ap (λ (o : Lent). o.answer) is ∙ ap (λ (o : Outcome). word_of o.answer) q ∙ ap word_of m.moved ∙ none-refused _ ∙ ap (λ (n : ℕ). 256 * n) m.moved-is;
      are_words = ap is_record words ∙ word_laws.are_words _ whole;
      words-tell = ap record_from words ∙ word_laws.record-back _ whole;
      repair-stays = ap (λ (o : Lent). o.repair) is ∙ ap (λ (o : Outcome). repair_words_of o.running) q ∙ repair-words.words_back ps e.1;
      area-is = ap (λ (o : Lent). o.area) is ∙ ap (λ (o : Outcome). o.area) q;
    }
