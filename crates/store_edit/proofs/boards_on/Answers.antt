-- `store_edit::boards_on` meets its contract. The loop's invariant: the beginning of the list has the boards in service so far.
-- Assumes nothing.
use Rattle.std.proofs.Common.{◌≡◌, ap, ◌∙◌, arith, false, ℕ, get_or, length-set}
use Rattle.edit_laws.specs.Steps.{serving_of}
use Rattle.store_edit.proofs.On.{few, turn}
use Rattle.store_edit.proofs.boards_on.Goals as goal

pub loop-i-preserved : goal.loop-i-preserved
loop-i-preserved c =
    let l = c.loop-i in
    let a = c.args in (
      turn l.out a.marks.now l.m l.i _ (omega (arith, c.loop-i-test.true, l.invariant.1, l.invariant.2, c.requires.0, c.requires.2)) l.invariant.0 c.counted-m.ensures,
      few l.m _ l.i (get_or a.marks.now l.i false) l.invariant.1 c.counted-m.ensures,
      length-set l.out l.m _ ∙ l.invariant.2,
    )

pub returns : goal.returns
returns c =
    let l = c.loop-i in
    let a = c.args in
    let e : l.i ≡ a.n = omega (arith, l.auto.i-end, c.loop-i-test.false) in
    (omega (arith, l.invariant.1, e), l.invariant.0 ∙ ap (λ (n : ℕ). serving_of n a.marks.now) e)
