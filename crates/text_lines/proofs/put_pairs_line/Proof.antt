-- `text_lines::put_pairs_line` meets its contract: four pieces, one behind the other.
-- Assumes nothing.
use mathlib.Core.List.{[], ◌∷◌, ◌++◌}
use native.Mathlib.Omega.{arith}
use lib.ListN.{length-set}
use Rattle.lists.specs.Lists.{joined}
use Rattle.board_spec.specs.Text.{hex_pair}
use Rattle.text_lines.specs.Steps.{Wrote}
use Rattle.text_lines.proofs.Lines.{length-line, line-front, line-room, line}
use Rattle.text_lines.proofs.Writes.{same-room}
use borrow.Author.Rules.{rules}
use Rattle.text_lines.proofs.put_pairs_line.Statement.{statement}
use Rattle.text_lines.proofs.put_pairs_line.Tie as tie

-- the name, the equals sign and the pairs
front : (c : tie.After-put_pairs-end)
    → let a = c.args in Wrote a.out.now a.at (a.name.now ++ (0x3D ∷ []) ++ joined hex_pair a.bytes.now) c.put_pairs-end.new.out c.put_pairs-end.result
front c =
    let a = c.args in
    line-front _ _ a.name.now (joined hex_pair a.bytes.now) c.requires c.put_bytes-equals.ensures c.put_pairs-end.ensures

returns : tie.Need-returns
returns c = line _ _ c.args.name.now (joined hex_pair c.args.bytes.now) c.requires (front c.before.before)

pub put_pairs_line_spec : {M : Type 1} → statement M
put_pairs_line_spec =
    tie.close
    (tie.spec
    (λ c κs. let a = c.args in omega (arith, length-line a.name.now (joined hex_pair a.bytes.now)))
    (λ c. let a = c.args in omega (arith, length-line a.name.now (joined hex_pair a.bytes.now)))
    (λ c. search rules)
    (λ c κs. let a = c.args in simp length-set (omega (arith, length-line a.name.now (joined hex_pair a.bytes.now))))
    (λ c. line-room _ _ c.args.name.now (joined hex_pair c.args.bytes.now) c.requires (front c.before.before))
    (λ c. let w = returns c in omega (arith, w.ends, c.requires))
    (λ c. same-room (returns c) c.requires)
    returns)
