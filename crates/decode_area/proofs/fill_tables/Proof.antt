-- `decode_area::fill_tables` meets its contract: the inverses are made first.
-- Assumes nothing.
use borrow.Author.Rules.{rules}
use Rattle.decode_area.proofs.fill_tables.Statement.{statement}
use Rattle.decode_area.proofs.fill_tables.Tie as tie

-- places in the code
abbrev st-at-fill-inverses : tie.After-fill_inverses → tie.Start
st-at-fill-inverses c = c.before.before.before.before.before

pub fill_tables_spec : {M : Type 1} → statement M
fill_tables_spec =
    tie.close
    (tie.spec
    (λ c. search rules)
    (λ c κs. search rules)
    (λ c. search rules)
    (λ c κs. let f = c.before.before.before in let p = (st-at-fill-inverses f).requires in (p.0, f.fill_inverses.ensures, p.1, p.2))
    (λ c. search rules)
    (λ c. c.before.before.fill.ensures))
