-- `trial::refuse` meets its contract: the line has 10 bytes.
-- Assumes nothing.
use Rattle.trial.proofs.Walk.{refused-line}
use borrow.Author.Rules.{rules}
use Rattle.trial.proofs.refuse.Statement.{statement}
use Rattle.trial.proofs.refuse.Tie as tie

pub refuse_spec : {M : Type 1} → statement M
refuse_spec = tie.close (tie.spec
    (λ c κs. search rules)
    (λ c. refused-line _))
