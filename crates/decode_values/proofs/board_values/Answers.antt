-- `decode_values::board_values` meets its contract: what is filled in, before what was there.
-- Assumes nothing.
use Rattle.std.proofs.Common.{ap, ◌∙◌, ℕ, length, get_or, arith}
use Rattle.lists.proofs.Pieces.{fill-loop, fill_end, fill-all}
use Rattle.decode_laws.specs.Steps.{value_by}
use Rattle.decode_laws.proofs.Values.{offset-below}
use Rattle.kept_rows.proofs.Made.{board-below}
use Rattle.decode_values.proofs.board_values.Goals as goal

pub offset-o-requires : goal.offset-o-requires
offset-o-requires c = (c.requires.0, c.requires.3, board-below _ c.args.targets.now c.loop-i.i c.requires.4 c.loop-i-test.true)

pub value-requires : goal.value-requires
value-requires c =
    let a = c.args in
    let p = c.requires in
    let o = offset-below a.n a.b (get_or a.targets.now c.loop-i.i 0) p.3 (board-below _ a.targets.now c.loop-i.i p.4 c.loop-i-test.true) in
    (p.0, p.1, p.2, rw c.offset-o.ensures o, p.5, p.6)

pub loop-i-preserved : goal.loop-i-preserved
loop-i-preserved c =
    let a = c.args in
    let l = c.loop-i in
    fill-loop _ a.out.now l.out l.i _ (omega arith) (c.value.ensures ∙ ap (λ (o : ℕ). value_by a.c o a.m a.factors.now a.row.now) c.offset-o.ensures) l.invariant

pub returns : goal.returns
returns c =
    let a = c.args in
    let m : ℕ = length a.targets.now in
    fill_end _ a.out.now c.loop-i.out c.loop-i.i m (omega arith) c.loop-i.invariant ∙ fill-all _ a.out.now m (omega arith)
