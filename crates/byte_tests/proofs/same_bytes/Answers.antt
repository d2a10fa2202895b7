-- `byte_tests::same_bytes` meets its contract: it is what `==` of two slices tells.
-- Assumes nothing.
use Rattle.std.proofs.Common.{◌∙◌}
use Rattle.byte_tests.proofs.Compared.{pointwise_same}
use Rattle.byte_tests.proofs.same_bytes.Goals as goal

pub returns : goal.returns
returns c = c.eq.ensures ∙ pointwise_same c.args.a.now c.args.b.now
