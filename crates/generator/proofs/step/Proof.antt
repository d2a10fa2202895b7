-- `generator::step` meets its contract: a sum of a remainder has the remainder of the sum.
-- Assumes nothing.
use Rattle.std.proofs.Common.{rules}
use Rattle.generator.specs.Generator.{step}
use Rattle.generator.proofs.step.Statement.{statement}
use Rattle.generator.proofs.step.Tie as tie

returns : tie.Need-returns
unfolding step
returns c = search rules

pub step_spec : {M : Type 1} → statement M
step_spec = tie.close (tie.spec (λ c κs. search rules) (λ c κs. search rules) returns)
