-- `multiples::double_all` meets its contract. The loop's invariant: what is done, before the double of what is left, is the double of all.
-- Assumes nothing.
use Rattle.std.proofs.Common.{◌≡◌, ◌++◌, length, take, drop}
use Rattle.polynomial.specs.Polynomial.{scale}
use Rattle.multiples.proofs.double_all.Given as goal

abbrev pub invariant-loop-byte : goal.invariant-loop-byte
invariant-loop-byte l =
    (take l.byte-index l.byte-items ++ scale 2 (drop l.byte-index l.byte-items) ≡ scale 2 l.fn.a) × (length l.byte-items ≡ length l.fn.a)
