-- `size_steps::next` meets its contract, case by case.
-- Assumes nothing.
use Rattle.std.proofs.Common.{sym, ◌∙◌, arith}
use Rattle.sizes.proofs.Legal.{legal-facts}
use Rattle.size_steps.proofs.Behind.{one_more, no_more}
use Rattle.size_steps.proofs.next.Goals as goal

pub overflow_add-z : goal.overflow_add-z
overflow_add-z c = let f = legal-facts c.args.z c.requires in omega arith

pub returns-then-z : goal.returns-then-z
returns-then-z c = sym (one_more _ _ c.if-z.true)

pub overflow_add-z-2 : goal.overflow_add-z-2
overflow_add-z-2 c = let f = legal-facts c.args.z c.requires in omega arith

pub from_helpers-requires : goal.from_helpers-requires
from_helpers-requires c = let f = legal-facts c.args.z c.requires in (f.few, omega arith)

pub returns : goal.returns
returns c = c.from_helpers.ensures ∙ sym (no_more _ _ c.if-z.false)
