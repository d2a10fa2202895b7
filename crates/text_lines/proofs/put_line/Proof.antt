-- `text_lines::put_line` meets its contract: four pieces, one behind the other.
-- Assumes nothing.
use mathlib.Core.List.{[], ◌∷◌, ◌++◌}
use native.Mathlib.Omega.{arith}
use lib.ListN.{length-set}
use Rattle.board_spec.specs.Text.{decimal}
use Rattle.text_lines.specs.Steps.{Wrote}
use Rattle.text_lines.proofs.Lines.{length-line, line-front, line-room, line}
use Rattle.text_lines.proofs.Writes.{same-room}
use borrow.Author.Rules.{rules}
use Rattle.text_lines.proofs.put_line.Statement.{statement}
use Rattle.text_lines.proofs.put_line.Tie as tie

-- the name, the equals sign and the decimal
front : (c : tie.After-put_decimal-end)
    → let a = c.args in Wrote a.out.now a.at (a.name.now ++ (0x3D ∷ []) ++ decimal a.x) c.put_decimal-end.new.out c.put_decimal-end.result
front c =
    let a = c.args in
    line-front _ _ a.name.now (decimal a.x) c.requires c.put_bytes-equals.ensures c.put_decimal-end.ensures

returns : tie.Need-returns
returns c = line _ _ c.args.name.now (decimal c.args.x) c.requires (front c.before.before)

pub put_line_spec : {M : Type 1} → statement M
put_line_spec =
    tie.close
    (tie.spec
    (λ c κs. let a = c.args in omega (arith, length-line a.name.now (decimal a.x)))
    (λ c. let a = c.args in omega (arith, length-line a.name.now (decimal a.x)))
    (λ c. search rules)
    (λ c κs. let a = c.args in simp length-set (omega (arith, length-line a.name.now (decimal a.x))))
    (λ c. line-room _ _ c.args.name.now (decimal c.args.x) c.requires (front c.before.before))
    (λ c. let w = returns c in omega (arith, w.ends, c.requires))
    (λ c. same-room (returns c) c.requires)
    returns)
