-- `text_lines::decimal_len` meets its contract. The loop's invariant: the digits counted and those of y are one more than those of x.
-- Assumes nothing.
use mathlib.Core.Path.{◌≡◌}
use Prim.Native.Nat.{◌+◌, ◌≤◌}
use native.Mathlib.Nat.{div-add-mod'}
use native.Mathlib.Omega.{arith}
use lib.ListN.{length}
use Rattle.board_spec.specs.Text.{decimal}
use Rattle.text_lines.proofs.Decimals.{length-one, length_more}
use Rattle.text_lines.proofs.decimal_len.Statement.{statement}
use Rattle.text_lines.proofs.decimal_len.Tie as tie

abbrev invariant-loop : tie.invariant-loop-y
invariant-loop x count₀ y₀ count y = (count + length (decimal y) ≡ length (decimal x) + 1) × (count + y ≤ x + 1)

abbrev decreases-loop : tie.decreases-loop-y
decreases-loop x count₀ y₀ count y = y

loop-holds : tie.Need-loop-y-init invariant-loop decreases-loop
loop-holds c = (omega arith, omega arith)

add-count : tie.Need-overflow_add-count invariant-loop decreases-loop
add-count c = omega (arith, div-add-mod' c.before.loop-y.y 10)

loop-less : tie.Need-loop-y-smaller invariant-loop decreases-loop
loop-less c = omega (arith, div-add-mod' c.before.loop-y.y 10)

loop-again : tie.Need-loop-y-preserved invariant-loop decreases-loop
loop-again c = (omega (arith, length_more c.before.loop-y.y (omega arith)), omega (arith, div-add-mod' c.before.loop-y.y 10))

returns : tie.Need-returns invariant-loop decreases-loop
returns c = omega (arith, length-one c.before.loop-y.y (omega arith))

pub decimal_len_spec : {M : Type 1} → statement M
decimal_len_spec =
    tie.close (tie.spec invariant-loop decreases-loop loop-holds add-count loop-less loop-again returns)
