-- `archive_texts::gather` meets its contract: the gathering, with its answer in one word.
-- Assumes nothing.
use borrow.Author.Rules.{rules}
use Rattle.archive_spec.proofs.Bounds.{gather-fits}
use Rattle.archive_spec.proofs.Words.{fits, tells}
use Rattle.archive_texts.proofs.gather.Statement.{statement}
use Rattle.archive_texts.proofs.gather.Tie as tie

pub gather_spec : {M : Type 1} → statement M
gather_spec =
    tie.close
    (tie.spec
    (λ c κs. search rules)
    (λ c κs. let k = c.before.before in fits k.gather.result _ _ k.gather.ensures (gather-fits _ _))
    (λ c. search rules)
    (λ c. let k = c.before.before.before in tells k.gather.result _ _ k.gather.ensures _ c.word_of.ensures))
