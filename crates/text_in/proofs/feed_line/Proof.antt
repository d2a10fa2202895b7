-- `text_in::feed_line` meets its contract: each arm has its name.
-- Assumes nothing.
use mathlib.Core.Path.{◌≡◌, sym, ap, ◌∙◌}
use mathlib.Core.Logic.{◌≢◌}
use mathlib.Core.List.{List}
use Prim.Native.Nat.{ℕ}
use borrow.Author.Tests.{ne_eqb}
use Rattle.number_lines.specs.Steps as steps
use Rattle.text_in.specs.Steps.{most, name_of}
use borrow.Author.Rules.{rules}
use Rattle.text_in.proofs.feed_line.Statement.{statement}
use Rattle.text_in.proofs.feed_line.Tie as tie

-- of another number the line is length=
other : (x : ℕ) → x ≢ 0 → x ≢ 1 → x ≢ 2 → x ≢ 3 → x ≢ 4 → name_of x ≡ name_of 5
other x a b c d e = rw (ne_eqb x 0 a, ne_eqb x 1 b, ne_eqb x 2 c, ne_eqb x 3 d, ne_eqb x 4 e)

returns : tie.Need-returns-in-0
returns c = c.feed.ensures ∙ (rw c.in-0.is)

returns-2 : tie.Need-returns-in-1
returns-2 c = c.feed-in-1.ensures ∙ (rw c.in-1.is)

returns-3 : tie.Need-returns-in-2
returns-3 c = c.feed-in-2.ensures ∙ (rw c.in-2.is)

returns-4 : tie.Need-returns-in-3
returns-4 c = c.feed-in-3.ensures ∙ (rw c.in-3.is)

returns-5 : tie.Need-returns-in-4
returns-5 c = c.feed-in-4.ensures ∙ (rw c.in-4.is)

returns-6 : tie.Need-returns-in_default
returns-6 c =
    let a = c.args in
    let r = c.in_default.in_default-own.rest in
    c.feed-in_default.ensures ∙ ap (λ (l : List ℕ). steps.fed l most a.line a.b) (sym (other _ r.0.0.0.0.1 r.0.0.0.1 r.0.0.1 r.0.1 r.1))

pub feed_line_spec : {M : Type 1} → statement M
feed_line_spec =
    tie.close
    (tie.spec
    (λ c κs. search rules)
    (λ c κs. search rules)
    (λ c κs. search rules)
    (λ c κs. search rules)
    (λ c κs. search rules)
    (λ c κs. search rules)
    returns
    returns-2
    returns-3
    returns-4
    returns-5
    returns-6)
