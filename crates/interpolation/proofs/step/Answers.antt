-- `interpolation::step` meets its contract.
-- Assumes nothing.
use Rattle.std.proofs.Common.{◌∙◌, ◌-◌, sym, arith}
use Rattle.interpolation.proofs.Loops.{step_end}
use Rattle.interpolation.proofs.step.Goals as goal

pub returns : goal.returns
returns c = sym (step_end c.args.a c.loop-j.q (c.loop-j.j - 1) (omega arith)) ∙ c.loop-j.invariant.0
