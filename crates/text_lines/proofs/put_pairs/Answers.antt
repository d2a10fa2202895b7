-- `text_lines::put_pairs` meets its contract: a turn writes two digits.
-- Assumes nothing.
use Rattle.std.proofs.Common.{◌≡◌, ◌≤◌, length, arith, length-set}
use lib.Seq.{take_all}
use Rattle.text_lines.proofs.Writes.{none, length_pairs, pair_turn}
use Rattle.text_lines.proofs.put_pairs.Goals as goal

pub bounds-out-p : goal.bounds-out-p
bounds-out-p c = omega (arith, length_pairs c.args.share.now)

pub overflow_add-out : goal.overflow_add-out
overflow_add-out c = omega (arith, length_pairs c.args.share.now)

pub bounds-out-p-in-loop-b : goal.bounds-out-p-in-loop-b
bounds-out-p-in-loop-b c = simp length-set (omega (arith, length_pairs c.args.share.now))

pub overflow_add-p : goal.overflow_add-p
overflow_add-p c = omega (arith, length_pairs c.args.share.now)

pub loop-b-init : goal.loop-b-init
loop-b-init c = (none c.args.out.now c.args.at, omega arith)

pub loop-b-preserved : goal.loop-b-preserved
loop-b-preserved c = (
  pair_turn c.args.share.now c.loop-b.b-index _ _ c.loop-b-test.true c.requires c.hex_digit.ensures c.hex_digit-in-loop-b.ensures c.loop-b.invariant.0,
  omega arith,
)

pub returns : goal.returns
returns c =
    let b = c.args.share.now in
    let e : c.loop-b.b-index ≡ length b = omega arith in
    let f : length b ≤ length b = omega arith in
    rw (e, take_all (length b) b) at c.loop-b.invariant.0
