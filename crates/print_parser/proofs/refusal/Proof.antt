-- `print_parser::refusal` meets its contract, by the tests.
-- Assumes nothing.
use mathlib.Core.Bool.{not}
use mathlib.Core.Path.{◌≡◌, sym, ◌∙◌, ap}
use borrow.Author.Tests.{not-true, not-false}
use lib.Dec.{ltb}
use Rattle.lists.specs.Tests.{pick}
use Rattle.printer.specs.Printer.{max_file}
use Rattle.printer.specs.Steps.{accepted, sizes_read, points_read, refusal_of}
use Rattle.number_lines.proofs.Picks.{yes, no, if-lt, if-le}
use borrow.Author.Rules.{rules}
use Rattle.print_parser.proofs.refusal.Statement.{statement}
use Rattle.print_parser.proofs.refusal.Tie as tie

-- the places
abbrev st : tie.After-in_file → tie.Start
st c = c.before.before

abbrev at-file : tie.After-is_accepted → tie.Else-not-in_file
at-file c = c.before

abbrev st-file : tie.After-is_accepted → tie.Start
st-file c = st (at-file c).before

returns-2 : tie.Need-returns-then-not-in_file
returns-2 c =
    let k = c.before in
    let p = (st k).args.p in
    sym (no p.bad _ _ k.before.if-p.false ∙ no _ _ _ (sym k.in_file.ensures ∙ not-true _ (ap not c.if-not-in_file.true)))

-- all lines are read, and none is malformed
read : (c : tie.After-is_accepted) → let p = (st-file c).args.p in refusal_of p ≡ pick (accepted (sizes_read p) (points_read p)) (pick (ltb max_file p.count) 3 0) 1
read c =
    let at = at-file c in
    let k = at.before in
    no (st k).args.p.bad _ _ k.before.if-p.false ∙ yes _ _ _ (sym k.in_file.ensures ∙ not-false _ (ap not at.if-not-in_file.false))

returns-3 : tie.Need-returns-then-not-is_accepted
returns-3 c = let at = c.before in sym (read at ∙ no _ _ _ (sym at.is_accepted.ensures ∙ not-true _ (ap not c.if-not-is_accepted.true)))

-- sizes and points are taken
file : (c : tie.Else-not-is_accepted) → let p = (st-file c.before).args.p in refusal_of p ≡ pick (ltb max_file p.count) 3 0
file c = let at = c.before in read at ∙ yes _ _ _ (sym at.is_accepted.ensures ∙ not-false _ (ap not c.if-not-is_accepted.false))

returns-4 : tie.Need-returns-then-p-gt-MOST
returns-4 c = sym (file c.before.before ∙ if-lt max_file _ _ _ c.if-p-gt-MOST.true)

returns-5 : tie.Need-returns
returns-5 c = sym (file c.before.before ∙ if-le max_file _ _ _ c.if-p-gt-MOST.false)

pub refusal_spec : {M : Type 1} → statement M
refusal_spec =
    tie.close
    (tie.spec (λ c. sym (yes c.before.args.p.bad _ _ c.if-p.true)) (λ c κs. search rules) returns-2 (λ c κs. search rules) returns-3 returns-4 returns-5)
