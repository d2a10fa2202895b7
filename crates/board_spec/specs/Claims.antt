-- What the lines of a call say: a claim for each line that it has, and no line besides.
-- Assumes nothing.
use Rattle.std.specs.Prelude.{◌≡◌, true, ◌↔◌, List, [], ◌∷◌, eqb}
use Rattle.lists.specs.Tests.{pick}
use Rattle.sizes.specs.declared.Refusal.{Refusal}
use Rattle.sizes.specs.Refusals.{number, Line, applies_in}

-- that a refusal applies just where this holds
pub record Claim : Type 1 where
  pub refusal : Refusal
  pub says : Type 0

infix 90 ◌means◌
abbrev pub ◌means◌ : Refusal → Type 0 → Claim
◌means◌ x A = record { refusal = x; says = A }

-- what is claimed of a refusal; one that is not among the claims never applies
abbrev pub says_of : List Claim → Refusal → Type 0
says_of [] x = ⊥
says_of (c ∷ cs) x = pick (eqb (number c.refusal) (number x)) c.says (says_of cs x)

abbrev pub LinesSay : List Line → List Claim → Type 0
LinesSay lines claims = (x : Refusal) → (applies_in lines x ≡ true) ↔ says_of claims x
