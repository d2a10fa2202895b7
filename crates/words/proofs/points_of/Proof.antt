-- `words::points_of` meets its contract: the last four words are a row.
-- Assumes nothing.
use mathlib.Core.Path.{◌∙◌}
use borrow.Author.Rules.{rules}
use Rattle.word_parts.proofs.Twelve.{row-points}
use Rattle.words.proofs.points_of.Statement.{statement}
use Rattle.words.proofs.points_of.Tie as tie

-- places in the code
abbrev st-at-points2 : tie.After-points-2-1 → tie.Start
st-at-points2 c = c.before.before.before.before.before.before.before.before

pub points_of_spec : {M : Type 1} → statement M
points_of_spec =
    tie.close
    (tie.spec
    (λ c. search rules)
    (λ c. search rules)
    (λ c. search rules)
    (λ c. search rules)
    (λ c. search rules)
    (λ c κs. search rules)
    (λ c. let g = st-at-points2 c in c.before.put_row.ensures ∙ row-points g.args.words.now g.requires))
