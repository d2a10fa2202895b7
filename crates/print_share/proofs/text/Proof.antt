-- `print_share::text` meets its contract: what the call says.
-- Assumes nothing.
use mathlib.Core.Path.{sym, ap, ◌∙◌}
use Rattle.sizes.specs.Refusals.{Answer}
use Rattle.board_lines.specs.Outcomes.{outcome}
use Rattle.print_share.specs.Steps.{wrote_in}
use borrow.Author.Rules.{rules}
use Rattle.print_share.proofs.text.Statement.{statement}
use Rattle.print_share.proofs.text.Tie as tie

returns : tie.Need-returns-in-Ok
returns c =
    let t = c.text-answer in
    ap (λ (x : Answer). wrote_in (outcome x t.new.out)) (sym c.in-Ok.is) ∙ ap wrote_in t.ensures

returns-2 : tie.Need-returns-in-Err
returns-2 c =
    let t = c.text-answer in
    ap (λ (x : Answer). wrote_in (outcome x t.new.out)) (sym c.in-Err.is) ∙ ap wrote_in t.ensures

pub text_spec : {M : Type 1} → statement M
text_spec =
    tie.close
    (tie.spec
    (λ c κs. search rules)
    (λ c. search rules)
    (λ c. search rules)
    (λ c. search rules)
    returns
    (λ c. search rules)
    returns-2)
