-- `print_parser::stored` meets its contract, by those of `choose` and the reader's start.
-- Assumes nothing.
use Rattle.printer.proofs.Fed.{stored-by}
use borrow.Author.Rules.{rules}
use Rattle.print_parser.proofs.stored.Statement.{statement}
use Rattle.print_parser.proofs.stored.Tie as tie

-- the places
abbrev at-r : tie.After-choose-5 → tie.After-choose-4
at-r c = c.before.before

abbrev at-d : tie.After-choose-5 → tie.After-choose-3
at-d c = let at = at-r c in at.before.before

abbrev at-k : tie.After-choose-5 → tie.After-choose-2
at-k c = let at = at-d c in at.before.before

abbrev at_n : tie.After-choose-5 → tie.After-choose
at_n c = let at = at-k c in at.before.before

abbrev at-line : tie.After-choose → tie.After-start-line
at-line c = c.before.before.before.before

returns : tie.Need-returns
returns c =
    let n = at_n c in
    let l = at-line n in
    let a = l.before.args in
    stored-by a.p a.p.left a.v _ _ _ _ _ _ l.start-line.ensures n.choose.ensures (at-k c).choose-2.ensures (at-d c).choose-3.ensures
    (at-r c).choose-4.ensures c.choose-5.ensures

pub stored_spec : {M : Type 1} → statement M
stored_spec =
    tie.close
    (tie.spec
    (λ c κs. search rules)
    (λ c. search rules)
    (λ c κs. search rules)
    (λ c κs. search rules)
    (λ c κs. search rules)
    (λ c κs. search rules)
    (λ c κs. search rules)
    returns)
