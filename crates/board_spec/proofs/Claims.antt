-- Lines say what is claimed of them where each line says what its own claim does; and what a line of two tests says.
-- Assumes nothing.
use mathlib.Core.Path.{◌≡◌, refl}
use mathlib.Core.Bool.{Bool, true, false, not}
use mathlib.Core.Logic.{◌↔◌, ◌⊎◌, inl, inr}
use mathlib.Core.List.{List, [], ◌∷◌}
use lib.Dec.{eqb}
use Rattle.lists.specs.Tests.{pick, alls}
use Rattle.lists.proofs.Tests.{true-false}
use Rattle.sizes.specs.declared.Refusal.{Refusal}
use Rattle.sizes.specs.Refusals.{number, Line, ◌when◌, applies_in}
use Rattle.board_spec.specs.Claims.{Claim, ◌means◌, says_of, LinesSay}

-- line by line: `says-not _ and says_less _ _ and end`
infixr 20 ◌and◌
pub data EachSays : List Line → List Claim → Type 1 where
  end : EachSays [] []
  ◌and◌ : {y : Refusal} {t : Bool} {A : Type 0} {lines : List Line} {claims : List Claim}
      → (t ≡ true) ↔ A → EachSays lines claims → EachSays ((y when t) ∷ lines) ((y means A) ∷ claims)

either : (b : Bool) (t u : Bool) (A B : Type 0) → (t ≡ true) ↔ A → (u ≡ true) ↔ B → (pick b t u ≡ true) ↔ pick b A B
either true t u A B h k = h
either false t u A B h k = k

say-at : {lines : List Line} {claims : List Claim} → EachSays lines claims → LinesSay lines claims
say-at end x = (λ e. true-false e refl, λ e. absurd e)
say-at (◌and◌ {y} {t} {A} {lines} {claims} h r) x = either (eqb (number y) (number x)) t (applies_in lines x) A (says_of claims x) h (say-at r x)

pub lines-say : (lines : List Line) (claims : List Claim) → EachSays lines claims → LinesSay lines claims
lines-say lines claims h = say-at h

-- a line that asks two tests
pub says-either : (a b : Bool) → (not (alls (a ∷ b ∷ [])) ≡ true) ↔ ((a ≡ false) ⊎ (b ≡ false))
says-either true true = (λ e. absurd (true-false e refl), no)
  where
    no : (true ≡ false) ⊎ (true ≡ false) → not (alls (true ∷ true ∷ [])) ≡ true
    no (inl e) = absurd (true-false refl e)
    no (inr e) = absurd (true-false refl e)
says-either true false = (λ e. inr refl, λ e. refl)
says-either false b = (λ e. inl refl, λ e. refl)
