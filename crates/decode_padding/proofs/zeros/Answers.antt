-- `decode_padding::zeros` meets its contract: the bytes that are left are 00 if all are.
-- Assumes nothing.
use Rattle.std.proofs.Common.{sym, ◌∙◌}
use Rattle.decode_padding.proofs.Padded.{zeros-next, zeros-no, zeros-end}
use Rattle.decode_padding.proofs.zeros.Goals as goal

pub returns-then-a-i-ne0 : goal.returns-then-a-i-ne0
returns-then-a-i-ne0 c = sym (sym c.loop-i.invariant ∙ zeros-no _ _ c.loop-i-test.true c.if-a-i-ne0.true)

pub loop-i-preserved : goal.loop-i-preserved
loop-i-preserved c = zeros-next _ _ c.loop-i-test.true c.if-a-i-ne0.false ∙ c.loop-i.invariant

pub returns : goal.returns
returns c = sym (sym c.loop-i.invariant ∙ zeros-end _ _ c.loop-i-test.false)
