-- `horner::horner_row` meets its contract. The loop's invariant: what is done, before the sum of what is left, is the answer.
-- Assumes nothing.
use Rattle.std.proofs.Common.{◌≡◌, ◌++◌, length, take, drop}
use Rattle.polynomial.specs.Polynomial.{plus, scale}
use Rattle.horner.proofs.horner_row.Given as goal

abbrev pub invariant-loop-j : goal.invariant-loop-j
invariant-loop-j l =
    (take l.j l.acc ++ plus (drop l.j l.row) (scale l.x (drop l.j l.acc)) ≡ plus l.row (scale l.x l.initial.acc)) × (length l.acc ≡ length l.initial.acc)
