-- `row_values::emit_turned` meets its contract: the bytes so far, before what was there, and the place of the next.
-- Assumes nothing.
use Rattle.std.proofs.Common.{ℕ, ◌+◌, ◌%◌, get_or, ap, arith}
use native.Mathlib.Nat.{mod-lt}
use Rattle.lists.proofs.Pieces.{fill-loop}
use Rattle.row_dots.proofs.Rows.{changed}
use Rattle.lagrange_factors.proofs.Values.{board-turn}
use Rattle.row_values.specs.Steps.{turned}
use Rattle.row_values.proofs.emit_turned.Goals as goal

pub loop-t-preserved : goal.loop-t-preserved
loop-t-preserved c =
    let l = c.loop-t in
    let a = c.args in
    let e = c.next-b.ensures in (
      fill-loop (λ t. get_or a.row.now ((a.i + t) % a.n) 0) a.out.now l.out l.t _ (omega arith)
          (ap (λ (j : ℕ). get_or a.row.now j 0) l.invariant.1) l.invariant.0,
      board-turn a.i l.t a.n l.b _ l.invariant.1 e,
      rw e (mod-lt (l.b + 1) {m = a.n} (omega arith)),
    )

pub returns : goal.returns
unfolding turned
returns c = changed _ c.args.out.now c.loop-t.out c.loop-t.t (omega arith) (omega arith) c.loop-t.invariant.0
