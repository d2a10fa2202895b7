-- A check's answer by its line: what holds where it passes, and where it refuses.
-- Assumes nothing.
use Prim.Native.Nat.{ℕ}
use mathlib.Core.Path.{◌≡◌, refl, ap}
use mathlib.Core.Bool.{Bool, true, false, not}
use mathlib.Core.List.{[], ◌∷◌}
use lib.Dec.{eqb}
use borrow.Author.Tests.{eq-eqb}
use Rattle.lists.specs.Tests.{alls}
use Rattle.lists.proofs.Tests.{hold-alls}
use Rattle.sizes.specs.declared.Refusal.{Refusal}
use Rattle.std.specs.Prelude.{Ok, Err}
use Rattle.sizes.specs.Refusals.{Line, ◌when◌}
use Rattle.sizes.proofs.Lines.{refuse-pass}
use Rattle.line_checks.specs.Steps.{asked}

pub passes : (l : Line) → l.applies ≡ false → Ok tt ≡ asked l
passes l h = rw h refl

pub refuses : (l : Line) → l.applies ≡ true → Err l.refusal ≡ asked l
refuses l h = rw h refl

-- and back
pub passed : (l : Line) → asked l ≡ Ok tt → l.applies ≡ false
passed l e = go l.applies e
  where
    go : (t : Bool) → asked (l.refusal when t) ≡ Ok tt → t ≡ false
    go true e = absurd (refuse-pass refl e)
    go false e = refl

pub refused : (l : Line) (x : Refusal) → asked l ≡ Err x → (l.applies ≡ true) × (l.refusal ≡ x)
refused l x e = go l.applies e
  where
    go : (t : Bool) → asked (l.refusal when t) ≡ Err x → (t ≡ true) × (l.refusal ≡ x)
    go true e = (refl, cc)
    go false e = absurd (refuse-pass e refl)

-- a list or slice of the right length
pub one_right : (a b : ℕ) → a ≡ b → not (alls (eqb a b ∷ [])) ≡ false
one_right a b e = ap not (hold-alls (eqb a b ∷ []) (eq-eqb a b e, tt))
