-- `kept_rows::padded` meets its contract.
-- Assumes nothing.
use borrow.Author.Rules.{rules}
use Rattle.kept_rows.proofs.Made.{padded-made}
use Rattle.kept_rows.proofs.padded.Statement.{statement}
use Rattle.kept_rows.proofs.padded.Tie as tie

-- places in the code
abbrev at_clear : tie.After-copy → tie.After-clear
at_clear c = c.before.before.before.before

abbrev start : tie.After-clear → tie.Start
start c = c.before.before.before.before

returns : tie.Need-returns
returns c =
    let w = c.before.before in
    let z = at_clear w in
    let a = (start z).args in
    padded-made a.a.now a.out.now _ _ (start z).requires z.clear.ensures w.copy.ensures

pub padded_spec : {M : Type 1} → statement M
padded_spec =
    tie.close
    (tie.spec
    (λ c κs. search rules)
    (λ c. search rules)
    (λ c. search rules)
    (λ c. search rules)
    (λ c κs. search rules)
    (λ c. search rules)
    returns)
