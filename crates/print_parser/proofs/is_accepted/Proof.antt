-- `print_parser::is_accepted` meets its contract, by the tests.
-- Assumes nothing.
use mathlib.Core.Path.{◌≡◌, sym, ap, ap₂, ◌∙◌}
use mathlib.Core.Bool.{Bool, true, false}
use mathlib.Core.List.{[], ◌∷◌}
use Rattle.lists.specs.Tests.{alls}
use Rattle.sizes.specs.Sizing.{legal}
use Rattle.mbcr.specs.Share.{pointed}
use Rattle.number_lines.proofs.Picks.{no}
use Rattle.printer.specs.Steps.{sizes_read}
use borrow.Author.Rules.{rules}
use Rattle.print_parser.proofs.is_accepted.Statement.{statement}
use Rattle.print_parser.proofs.is_accepted.Tie as tie

-- two tests, the first of which holds
second : (t u : Bool) → t ≡ true → u ≡ alls (t ∷ u ∷ [])
second t true e = rw e
second t false e = rw e

-- what was asked of the sizes
asked : (c : tie.After-legal) → let at = c.before in (legal (sizes_read at.before.args.p) ≡ c.legal.result) × (legal at.sizes-z.result ≡ c.legal.result)
asked c = (ap legal (sym c.before.sizes-z.ensures) ∙ sym c.legal.ensures, sym c.legal.ensures)

returns : tie.Need-returns-then-legal
returns c =
    let read = c.before.before in
    let at = read.before in
    let k = at.before in
    let z = sizes_read k.before.before.args.p in
    c.points_taken.ensures ∙ ap₂ pointed k.before.sizes-z.ensures read.points-xs.ensures ∙ second (legal z) _ ((asked k).0 ∙ at.if-legal.true)

returns-2 : tie.Need-returns
returns-2 c = let k = c.before in sym (no _ _ _ ((asked k).0 ∙ c.if-legal.false))

pub is_accepted_spec : {M : Type 1} → statement M
is_accepted_spec =
    tie.close
    (tie.spec
    (λ c κs. search rules)
    (λ c κs. search rules)
    (λ c κs. search rules)
    (λ c. search rules)
    (λ c κs. let at = c.before.before in (asked at.before).1 ∙ at.if-legal.true)
    returns
    returns-2)
