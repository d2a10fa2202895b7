-- `print_parser::feed_line` meets its contract: each arm has its name.
-- Assumes nothing.
use mathlib.Core.Path.{sym, ap, ◌∙◌}
use mathlib.Core.List.{List}
use Prim.Native.Nat.{ℕ}
use Rattle.number_lines.specs.Steps as steps
use Rattle.printer.specs.Steps.{max_number}
use Rattle.printer.proofs.Fed.{name-rest}
use borrow.Author.Rules.{rules}
use Rattle.print_parser.proofs.feed_line.Statement.{statement}
use Rattle.print_parser.proofs.feed_line.Tie as tie

returns : tie.Need-returns-in-5
returns c = c.feed.ensures ∙ (rw c.in-5.is)

returns-2 : tie.Need-returns-in-4
returns-2 c = c.feed-in-4.ensures ∙ (rw c.in-4.is)

returns-3 : tie.Need-returns-in-3
returns-3 c = c.feed-in-3.ensures ∙ (rw c.in-3.is)

returns-4 : tie.Need-returns-in-2
returns-4 c = c.feed-in-2.ensures ∙ (rw c.in-2.is)

returns-5 : tie.Need-returns-in_default
returns-5 c =
    let a = c.args in
    let r = c.in_default.in_default-own.rest in
    c.feed-in_default.ensures ∙ ap (λ (l : List ℕ). steps.fed l max_number a.line a.b) (sym (name-rest _ r.0.0.0.1 r.0.0.1 r.0.1 r.1))

pub feed_line_spec : {M : Type 1} → statement M
feed_line_spec =
    tie.close
    (tie.spec
    (λ c κs. search rules)
    (λ c κs. search rules)
    (λ c κs. search rules)
    (λ c κs. search rules)
    (λ c κs. search rules)
    returns
    returns-2
    returns-3
    returns-4
    returns-5)
