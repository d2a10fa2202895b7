-- `store_edit::counted` meets its contract.
-- Assumes nothing.
use borrow.Author.Rules.{rules}
use Rattle.store_edit.proofs.On.{one_more, no_more}
use Rattle.store_edit.proofs.counted.Statement.{statement}
use Rattle.store_edit.proofs.counted.Tie as tie

pub counted_spec : {M : Type 1} → statement M
counted_spec =
    tie.close
    (tie.spec
    (λ c. search rules)
    (λ c. one_more c.before.args.m c.before.args.on c.if-on.true)
    (λ c. no_more c.before.args.m c.before.args.on c.if-on.false))
