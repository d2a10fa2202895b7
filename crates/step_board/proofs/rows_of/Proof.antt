-- `step_board::rows_of` meets its contract: space is lent.
-- Assumes nothing.
use borrow.Author.Rules.{rules}
use Rattle.step_board.proofs.rows_of.Statement.{statement}
use Rattle.step_board.proofs.rows_of.Tie as tie

-- the places
abbrev st-arg : tie.After-rows_in-arg-1 → tie.Start
st-arg c = c.before.before.before.before.before.before.before.before.before

rows-in-requires : tie.Need-rows_in-requires
rows-in-requires c κs =
    let p = (st-arg c).requires in
    (p.0, p.1, p.2, p.3, p.4, p.5, p.6, search rules, search rules, search rules)

pub rows_of_spec : {M : Type 1} → statement M
rows_of_spec =
    tie.close
    (tie.spec
    (λ c. search rules)
    (λ c. search rules)
    (λ c. search rules)
    (λ c. search rules)
    (λ c. search rules)
    (λ c. search rules)
    (λ c. search rules)
    (λ c. search rules)
    (λ c. search rules)
    (λ c. search rules)
    rows-in-requires
    (λ c. search rules)
    (λ c. search rules))
