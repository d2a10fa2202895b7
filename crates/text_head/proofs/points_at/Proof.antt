-- `text_head::points_at` meets its contract: a p, or none.
-- Assumes nothing.
use mathlib.Core.Path.{sym, ◌∙◌}
use mathlib.Core.Logic.{◌≢◌}
use mathlib.Core.List.{List}
use Prim.Native.Nat.{ℕ, ◌≤◌}
use native.Mathlib.Omega.{arith}
use lib.ListN.{length, get_or, get_or-eq_default}
use Rattle.number_lines.proofs.Picks.{if-eq, if-ne}
use Rattle.text_head.specs.Steps.{pointed_at}
use borrow.Author.Rules.{rules}
use Rattle.text_head.proofs.points_at.Statement.{statement}
use Rattle.text_head.proofs.points_at.Tie as tie

-- behind the text there is no p
none-there : (text : List ℕ) (at : ℕ) → length text ≤ at → get_or text at 0 ≢ 0x70
none-there text at h e = omega (arith, sym (get_or-eq_default text 0 {n = at} h) ∙ e)

returns : tie.Need-returns-then-text-at
unfolding pointed_at
returns c =
    let a = c.args in
    c.unsaid.ensures ∙ sym (if-ne (get_or a.text.now a.at 0) 0x70 _ _ (none-there a.text.now a.at c.if-text-at.true))

returns-2 : tie.Need-returns-then-text-at-eq112
unfolding pointed_at
returns-2 c =
    let a = c.args in
    c.said_at.ensures ∙ sym (if-eq (get_or a.text.now a.at 0) 0x70 _ _ c.if-text-at-eq112.true)

returns-3 : tie.Need-returns
unfolding pointed_at
returns-3 c =
    let a = c.args in
    c.unsaid-2.ensures ∙ sym (if-ne (get_or a.text.now a.at 0) 0x70 _ _ c.if-text-at-eq112.false)

pub points_at_spec : {M : Type 1} → statement M
points_at_spec = tie.close (tie.spec (λ c κs. search rules) returns (λ c. search rules) (λ c κs. search rules) returns-2 (λ c κs. search rules) returns-3)
