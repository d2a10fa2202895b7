-- `horner::rows_at` meets its contract. The loop's invariant: the value of the rows from i on.
-- Assumes nothing.
use Rattle.std.proofs.Common.{◌≡◌, ◌∙◌, ◌-◌, ◌<◌, ap, length, arith, rules}
use Rattle.lists.proofs.Pieces.{part-piece}
use Rattle.horner.proofs.Turns.{values_from, values-none, values-turn}
use Rattle.horner.proofs.rows_at.Goals as goal

pub loop-i-init : goal.loop-i-init
loop-i-init c = (c.requires.2 ∙ values-none c.args.rows.now c.args.x c.args.d, ap length c.requires.2)

pub loop-i-preserved : goal.loop-i-preserved
loop-i-preserved c =
    let l = c.loop-i in
    let a = c.args in
    let k : 0 < l.i = omega arith in (
      values-turn a.rows.now a.x a.d l.i _ l.acc _ k (omega arith) (omega arith) (part-piece 32 (l.i - 1) a.rows.now) l.invariant.0 c.horner_row.ensures,
      search rules,
    )

pub returns : goal.returns
returns c =
    let e : c.loop-i.i ≡ 0 = omega arith in
    c.loop-i.invariant.0 ∙ ap (values_from c.args.rows.now c.args.x c.args.d) e
