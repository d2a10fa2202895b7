-- `word_parts::put_points` meets its contract: a row of points, a word each.
-- Assumes nothing.
use mathlib.Core.Path.{ap, ◌∙◌}
use mathlib.Core.List.{◌++◌}
use native.Mathlib.Omega.{arith}
use lib.ListN.{take}
use borrow.Author.Rules.{rules}
use Rattle.word_parts.proofs.Twelve.{four-set, row_words}
use Rattle.word_parts.proofs.put_points.Statement.{statement}
use Rattle.word_parts.proofs.put_points.Tie as tie

returns : tie.Need-returns
returns c =
    let g = c.before.before.before in
    let x = c.row_at-row.result in
    four-set g.args.words.now x.a x.b x.c x.d g.requires.1
    ∙ ap (λ l. take 8 g.args.words.now ++ l) (row_words g.args.points.now x g.requires.0 c.row_at-row.ensures (omega arith) (omega arith) (omega arith) (omega arith))

pub put_points_spec : {M : Type 1} → statement M
put_points_spec =
    tie.close
    (tie.spec
    (λ c κs. search rules)
    (λ c. search rules)
    (λ c. search rules)
    (λ c. search rules)
    (λ c. search rules)
    (λ c. search rules)
    returns)
