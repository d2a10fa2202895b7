-- `text_in::pairs_line_at` meets its contract: each line has its name.
-- Assumes nothing.
use mathlib.Core.Path.{◌≡◌, sym, ap, ◌∙◌}
use mathlib.Core.List.{List}
use Prim.Native.Nat.{ℕ}
use Rattle.number_lines.proofs.Picks.{if-eq, if-ne}
use Rattle.text_in.specs.declared.Told.{Told}
use Rattle.text_in.specs.Steps.{name_at, pairs_at}
use borrow.Author.Rules.{rules}
use Rattle.text_in.proofs.pairs_line_at.Statement.{statement}
use Rattle.text_in.proofs.pairs_line_at.Tie as tie

-- behind the name
behind : (text : List ℕ) (at count : ℕ) (name name' : List ℕ) (t r : Told) → r ≡ pairs_at text t.next count → t ≡ name_at text at name → name' ≡ name
    → r ≡ pairs_at text (name_at text at name').next count
behind text at count name name' t r p n e =
    p ∙ ap (λ (t : Told). pairs_at text t.next count) n ∙ ap (λ (l : List ℕ). pairs_at text (name_at text at l).next count) (sym e)

returns : tie.Need-returns-then-which-eq0
returns c =
    let a = c.args in
    behind a.text.now a.at a.count _ _ c.name_at-points.result c.pairs_at.result c.pairs_at.ensures c.name_at-points.ensures
    (if-eq a.which 0 _ _ c.if-which-eq0.true)

returns-2 : tie.Need-returns
returns-2 c =
    let a = c.args in
    behind a.text.now a.at a.count _ _ c.name_at-data.result c.pairs_at-2.result c.pairs_at-2.ensures c.name_at-data.ensures
    (if-ne a.which 0 _ _ c.if-which-eq0.false)

pub pairs_line_at_spec : {M : Type 1} → statement M
pairs_line_at_spec =
    tie.close
    (tie.spec
    (λ c κs. search rules)
    (λ c κs. search rules)
    returns
    (λ c κs. search rules)
    (λ c κs. search rules)
    returns-2)
