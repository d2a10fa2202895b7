-- `decode_area::places` meets its contract: the places so far, before what was there.
-- Assumes nothing.
use Rattle.std.proofs.Common.{◌*◌, ◌≤◌, mul-le-mul, ◌<◌, length, get_or, length-set, refl, ◌∙◌, arith}
use Rattle.lists.proofs.Alls.{all-at}
use Rattle.lists.proofs.Boards.{below_all}
use Rattle.lists.proofs.Pieces.{fill-loop, tabulate-map}
use Rattle.row_dots.proofs.Rows.{changed}
use Rattle.decode_area.proofs.places.Goals as goal

pub overflow_mul-out : goal.overflow_mul-out
overflow_mul-out c =
    let l = c.loop-t in
    let b = c.args.boards.now in
    let known = all-at (λ b. b < 32) 0 b (below_all 32 b c.requires.0) l.t c.loop-t-test.true in
    let few : get_or b l.t 0 ≤ 32 = omega (arith, known) in
    omega (arith, mul-le-mul few c.requires.1)

pub loop-t-preserved : goal.loop-t-preserved
loop-t-preserved c =
    let l = c.loop-t in
    let a = c.args in (
      fill-loop (λ t. get_or a.boards.now t 0 * a.part) a.out.now l.out l.t _ (omega (arith, c.loop-t-test.true, l.invariant.1, c.requires.3)) refl l.invariant.0,
      length-set l.out l.t _ ∙ l.invariant.1,
    )

pub returns : goal.returns
returns c =
    let l = c.loop-t in
    let a = c.args in
    changed _ a.out.now l.out l.t (omega (arith, l.auto.t-end, c.requires.3)) (omega (arith, c.loop-t-test.false, c.requires.3)) l.invariant.0
    ∙ tabulate-map (λ b. b * a.part) (length a.out.now) a.boards.now 0 (omega (arith, c.requires.3))
