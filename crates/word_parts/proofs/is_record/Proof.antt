-- `word_parts::is_record` meets its contract.
-- Assumes nothing.
use native.Mathlib.Omega.{arith}
use borrow.Author.Rules.{rules}
use Rattle.record_words.proofs.Bits.{not-twelve, not_written, by-marks, last-words}
use Rattle.word_parts.proofs.is_record.Statement.{statement}
use Rattle.word_parts.proofs.is_record.Tie as tie

pub is_record_spec : {M : Type 1} → statement M
is_record_spec =
    tie.close
    (tie.spec
    (λ c. not-twelve c.before.args.words.now c.if-words-ne12.true)
    (λ c. search rules)
    (λ c. not_written c.before.before.before.args.words.now (omega arith) c.if-words-gt1.true)
    (λ c. search rules)
    (λ c. by-marks c.before.before.before.before.args.words.now (omega arith) (omega arith)
    (last-words c.before.before.before.before.args.words.now (λ i. omega (arith, c.shared_slice_known-2-1.given i)))))
