-- `print_parser::feed` meets its contract, case by case.
-- Assumes nothing.
use mathlib.Core.Path.{◌≡◌, refl, sym, ap, ◌∙◌}
use Rattle.number_lines.specs.declared.Read.{Read}
use Rattle.printer.specs.declared.Parser.{Parser}
use Rattle.printer.specs.Steps.{taken, fed}
use Rattle.printer.proofs.Fed.{fed-bad, fed-behind, fed-line}
use borrow.Author.Rules.{rules}
use Rattle.print_parser.proofs.feed.Statement.{statement}
use Rattle.print_parser.proofs.feed.Tie as tie

-- a byte of a line, and what it gave
line-fed : (c : tie.After-feed_line-x) → let a = c.args in taken a.p c.feed_line-x.result ≡ fed a.p a.b
line-fed c =
    let a = c.args in
    ap (taken a.p) c.feed_line-x.ensures ∙ sym (fed-line a.p a.b c.if-p.false c.if-p-eq0.false)

gave : (c : tie.After-feed_line-x) (x : Read) (q : Parser) → let a = c.args in q ≡ taken a.p x → c.feed_line-x.result ≡ x → q ≡ fed a.p a.b
gave c x q e g = e ∙ sym (ap (taken c.args.p) g) ∙ line-fed c

returns-2 : tie.Need-returns-then-p-eq0
returns-2 c = c.feed_behind.ensures ∙ sym (fed-behind _ c.args.b c.if-p.false c.if-p-eq0.true)

pub feed_spec : {M : Type 1} → statement M
feed_spec =
    tie.close
    (tie.spec
    (λ c. sym (fed-bad _ _ c.if-p.true))
    (λ c κs. search rules)
    returns-2
    (λ c κs. search rules)
    (λ c. search rules)
    (λ c. search rules)
    (λ c κs. search rules)
    (λ c. search rules)
    (λ c κs. search rules)
    (λ c. gave c.before _ _ refl c.in-More.is)
    (λ c. gave c.before.before _ _ c.stored.ensures c.in-Whole.is)
    (λ c. gave c.before.before _ _ c.wrong.ensures c.in-Malformed.is))
