-- `text_in::nibble` meets its contract.
-- Assumes nothing.
use mathlib.Core.Path.{sym, ◌∙◌}
use Rattle.number_lines.proofs.Picks.{yes, no}
use borrow.Author.Rules.{rules}
use Rattle.text_in.proofs.nibble.Statement.{statement}
use Rattle.text_in.proofs.nibble.Tie as tie

pub nibble_spec : {M : Type 1} → statement M
nibble_spec =
    tie.close
    (tie.spec
    (λ c κs. search rules)
    (λ c κs. sym c.before.is_hexadecimal.ensures ∙ c.if-is_hexadecimal.true)
    (λ c. c.digit_value.ensures ∙ sym (yes _ _ _ (sym c.before.before.is_hexadecimal.ensures ∙ c.before.if-is_hexadecimal.true)))
    (λ c. sym (no _ _ _ (sym c.before.is_hexadecimal.ensures ∙ c.if-is_hexadecimal.false))))
