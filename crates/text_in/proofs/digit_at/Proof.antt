-- `text_in::digit_at` meets its contract: behind the text there is no digit.
-- Assumes nothing.
use mathlib.Core.Path.{sym, ap}
use lib.ListN.{get_or-eq_default}
use Rattle.point_lines.specs.Lines.{hexadecimal}
use borrow.Author.Rules.{rules}
use Rattle.text_in.proofs.digit_at.Statement.{statement}
use Rattle.text_in.proofs.digit_at.Tie as tie

returns-2 : tie.Need-returns-else-at-text
returns-2 c = let a = c.before.before.args in ap hexadecimal (sym (get_or-eq_default a.text.now 0 {n = a.at} c.if-at-text.false))

pub digit_at_spec : {M : Type 1} → statement M
digit_at_spec = tie.close (tie.spec (λ c. search rules) (λ c κs. search rules) (λ c. search rules) returns-2)
