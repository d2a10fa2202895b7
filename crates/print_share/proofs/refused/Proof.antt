-- `print_share::refused` meets its contract: there is room for the line, or there is none.
-- Assumes nothing.
use Prim.Native.Nat.{◌+◌, ◌≤◌}
use native.Mathlib.Omega.{arith}
use lib.ListN.{length}
use Rattle.text_lines.proofs.Decimals.{decimal-most}
use Rattle.printer.specs.Printer.{refused_line}
use Rattle.print_share.proofs.Telling.{fits, no-room, line-length}
use borrow.Author.Rules.{rules}
use Rattle.print_share.proofs.refused.Statement.{statement}
use Rattle.print_share.proofs.refused.Tie as tie

room : (c : tie.After-put_line-arg-2-1) → let a = c.args in 0 + length (refused_line a.x) ≤ length a.out.now
room c = omega (arith, line-length c.args.x, c.if-out-count.false, c.decimal_len-count.ensures)

add-count : tie.Need-overflow_add-count
add-count c = record { fits = omega (arith, c.ranges.x, c.decimal_len-count.ensures, decimal-most c.args.x) }

returns : tie.Need-returns-then-out-count
returns c =
    let a = c.args in
    no-room (refused_line a.x) a.out.now (omega (arith, line-length a.x, c.if-out-count.true, c.decimal_len-count.ensures))

put-line-requires : tie.Need-put_line-requires
put-line-requires c κs = room c.before

returns-2 : tie.Need-returns
returns-2 c = fits (room c.before.before.before.before) c.put_line.ensures

pub refused_spec : {M : Type 1} → statement M
refused_spec =
    tie.close
    (tie.spec
    (λ c κs. search rules)
    add-count
    returns
    put-line-requires
    (λ c. search rules)
    returns-2)
