-- `check_careful::check_many` meets its contract: where k + 2 boards are there, the lines of k + 2 boards.
-- Assumes nothing.
use Rattle.std.proofs.Common.{◌≡◌, ℕ, ◌+◌, ◌≤◌, Bool, true, false, not, List, [], ◌∷◌, length, drop, refl, sym, ap, ◌∙◌, arith}
use Rattle.std.specs.Prelude.{leb, eqb}
use borrow.Author.Tests.{le-leb}
use Rattle.lists.specs.Tests.{alls}
use Rattle.sizes.specs.declared.Sizes.{Sizes}
use Rattle.sizes.specs.declared.Refusal.TheVariants.{Count}
use Rattle.sizes.specs.Refusals.{Line, ◌when◌, first, store_order}
use Rattle.check_begin.specs.Steps.{board_lines}
use Rattle.check_careful.specs.Steps.{careful_board_lines}
use Rattle.check_careful.proofs.check_many.Goals as goal

one : (c : Bool) → c ≡ alls (true ∷ c ∷ [])
one true = refl
one false = refl

enough : (z : Sizes) (marks : List Bool) (boards : List ℕ) → z.k + 2 ≤ z.n
    → first store_order (board_lines z (z.k + 2) marks boards) ≡ first store_order (careful_board_lines z marks boards)
enough z marks boards h =
    let rest : List Line = drop 1 (careful_board_lines z marks boards) in
    let e : leb (z.k + 2) z.n ≡ true = le-leb (z.k + 2) z.n h in
    ap (λ (b : Bool). first store_order (Count when not b ∷ rest)) (one (eqb (length boards) (z.k + 2)))
    ∙ sym (ap (λ (b : Bool). first store_order (Count when not (alls (b ∷ eqb (length boards) (z.k + 2) ∷ [])) ∷ rest)) e)

pub returns : goal.returns
returns c = let a = c.args in c.check_boards.ensures ∙ enough a.sizes a.marks.now a.boards.now (omega (arith, c.if-sizes-lt2.false, c.if-sizes.false))
