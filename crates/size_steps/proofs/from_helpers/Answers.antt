-- `size_steps::from_helpers` meets its contract, case by case.
-- Assumes nothing.
use Rattle.std.proofs.Common.{sym}
use Rattle.size_steps.proofs.Behind.{some-helpers, next-read, next-boards, at-end}
use Rattle.size_steps.proofs.from_helpers.Goals as goal

pub returns-then-d-n : goal.returns-then-d-n
returns-then-d-n c = sym (some-helpers _ _ _ _ c.if-d-n.true)

pub returns-then-k-n : goal.returns-then-k-n
returns-then-k-n c = sym (next-read _ _ _ _ c.if-d-n.false c.if-k-n.true)

pub returns-then-n-most : goal.returns-then-n-most
returns-then-n-most c = sym (next-boards _ _ _ _ c.if-d-n.false c.if-k-n.false c.if-n-most.true)

pub returns : goal.returns
returns c = sym (at-end _ _ _ _ c.if-d-n.false c.if-k-n.false c.if-n-most.false)
