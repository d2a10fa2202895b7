-- What the parser is after a byte, case by case; the last name.
-- Assumes nothing.
use mathlib.Core.Path.{◌≡◌, ◌∙◌}
use mathlib.Core.Bool.{true, false}
use mathlib.Core.List.{[], ◌∷◌}
use Prim.Native.Nat.{ℕ, ◌-◌}
use lib.Dec.{eqb}
use borrow.Author.Tests.{eq-eqb, ne_eqb}
use Rattle.lists.specs.Tests.{pick}
use Rattle.number_lines.specs.declared.Reader.{Reader}
use Rattle.number_lines.specs.Steps as steps
use Rattle.point_lines.specs.Steps as points
use Rattle.number_lines.proofs.Picks.{yes, no, if-eq, if-ne}
use Rattle.printer.specs.declared.Parser.{Parser}
use Rattle.printer.specs.Steps.{name_of, stored, counted, line_fed, taken, points_moved, behind_fed, fed, in_file}

pub name-rest : (x : ℕ) → (x ≡ 5 → ⊥) → (x ≡ 4 → ⊥) → (x ≡ 3 → ⊥) → (x ≡ 2 → ⊥) → name_of x ≡ 0x6E ∷ 0x6F ∷ 0x64 ∷ 0x65 ∷ 0x3D ∷ []
name-rest x a b c d = if-ne x 5 _ _ a ∙ if-ne x 4 _ _ b ∙ if-ne x 3 _ _ c ∙ if-ne x 2 _ _ d

-- the parser behind a line, part by part
pub stored-by : (p : Parser) (left v n k d r node : ℕ) (line : Reader) → line ≡ steps.begin → n ≡ pick (eqb left 5) v p.n → k ≡ pick (eqb left 4) v p.k
    → d ≡ pick (eqb left 3) v p.d → r ≡ pick (eqb left 2) v p.r → node ≡ pick (eqb left 1) v p.node
    → record { left = left - 1; line = line; n = n; k = k; d = d; r = r; node = node; asked = p.asked; points = p.points; count = p.count; bad = p.bad } ≡ stored left p v
stored-by p left v n k d r node line e en ek ed er eo = rw (e, en, ek, ed, er, eo)

-- whether all lines are read
module _ (p : Parser) where
  pub behind-all : p.left ≡ 0 → p.points.part ≡ 2 → in_file p ≡ true
  behind-all e f = if-eq p.left 0 _ _ e ∙ eq-eqb p.points.part 2 f

  pub in_lines : (p.left ≡ 0 → ⊥) → in_file p ≡ false
  in_lines e = if-ne p.left 0 _ _ e

  pub in-points : p.left ≡ 0 → (p.points.part ≡ 2 → ⊥) → in_file p ≡ false
  in-points e f = if-eq p.left 0 _ _ e ∙ ne_eqb p.points.part 2 f

module _ (p : Parser) (b : ℕ) where
  pub fed-bad : p.bad ≡ true → fed p b ≡ p
  unfolding fed
  fed-bad e = yes p.bad _ _ e

  module _ (good : p.bad ≡ false) where
    pub fed-behind : p.left ≡ 0 → fed p b ≡ behind_fed p b
    unfolding fed
    fed-behind e = no p.bad _ _ good ∙ if-eq p.left 0 _ _ e

    pub fed-file : p.left ≡ 0 → p.points.part ≡ 2 → fed p b ≡ counted p
    fed-file e f = fed-behind e ∙ if-eq p.points.part 2 _ _ f

    pub fed-points : p.left ≡ 0 → (p.points.part ≡ 2 → ⊥) → fed p b ≡ points_moved p (points.fed p.n p.points b)
    fed-points e f = fed-behind e ∙ if-ne p.points.part 2 _ _ f

    pub fed-line : (p.left ≡ 0 → ⊥) → fed p b ≡ taken p (line_fed p.left p.line b)
    unfolding fed
    fed-line e = no p.bad _ _ good ∙ if-ne p.left 0 _ _ e
