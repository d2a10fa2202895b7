-- `print_parser::start` meets its contract, by those of the readers'.
-- Assumes nothing.
use mathlib.Core.Path.{ap₂, ◌∙◌}
use mathlib.Core.Bool.{false}
use Rattle.point_lines.specs.declared.PointReader.{PointReader}
use Rattle.point_lines.specs.Steps as points
use Rattle.printer.specs.declared.Parser.{Parser}
use Rattle.printer.specs.Steps.{begin, moved, points_moved}
use borrow.Author.Rules.{rules}
use Rattle.print_parser.proofs.start.Statement.{statement}
use Rattle.print_parser.proofs.start.Tie as tie

returns : tie.Need-returns
returns c =
    let b = begin c.args.asked in
    ap₂ {C = Parser} (λ x y. points_moved (moved b x false) y) c.start-line.ensures
    (c.turned-points.ensures ∙ ap₂ {C = PointReader} points.turned c.start-first.ensures c.first_part.ensures)

pub start_spec : {M : Type 1} → statement M
start_spec = tie.close (tie.spec (λ c κs. search rules) (λ c κs. search rules) (λ c κs. search rules) (λ c κs. search rules) returns)
