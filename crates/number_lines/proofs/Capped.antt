-- Numbers up to a bound: those that are held alike stay so with every digit.
-- Assumes nothing.
use mathlib.Core.Path.{◌≡◌, refl, sym, ap, ap₂, ◌∙◌}
use mathlib.Core.Bool.{Bool, true, false}
use mathlib.Core.Logic.{◌⊎◌, inl, inr}
use mathlib.Core.List.{List, [], ◌∷◌}
use Prim.Native.Nat.{ℕ, ◌+◌, ◌*◌, ◌-◌, ◌≤◌, ◌<◌}
use native.Mathlib.Omega.{arith}
use lib.Dec.{ltb, eqb}
use borrow.Author.Tests.{ltb-false}
use Rattle.lists.specs.Tests.{pick}
use Rattle.number_lines.specs.Lines.{digit, read_digits}
use Rattle.number_lines.specs.Steps.{capped}
use Rattle.number_lines.proofs.Picks.{yes, no, if-lt, if-le}

module _ (most : ℕ) where
  pub capped-low : (v : ℕ) → v < most → capped most v ≡ v
  capped-low v h = if-lt v most _ _ h

  pub capped-high : (v : ℕ) → most ≤ v → capped most v ≡ most
  capped-high v h = if-le v most _ _ h

  pub capped-zero : capped most 0 ≡ 0
  capped-zero = go (ltb 0 most) refl
    where
      go : (t : Bool) → ltb 0 most ≡ t → capped most 0 ≡ 0
      go true e = yes (ltb 0 most) _ _ e
      go false e = let h = ltb-false 0 most e in no (ltb 0 most) _ _ e ∙ omega arith

  -- the number itself, or both are the bound or more
  pub capped-like : (v : ℕ) → (capped most v ≡ v) ⊎ ((most ≤ v) × (capped most v ≡ most))
  capped-like v = go (ltb v most) refl
    where
      go : (t : Bool) → ltb v most ≡ t → (capped most v ≡ v) ⊎ ((most ≤ v) × (capped most v ≡ most))
      go true e = inl (yes (ltb v most) _ _ e)
      go false e = inr (ltb-false v most e, no (ltb v most) _ _ e)

  -- a further digit does not tell a number from what is held of it
  pub capped-grown : (v x : ℕ) → capped most (10 * capped most v + x) ≡ capped most (10 * v + x)
  capped-grown v x = go (capped-like v)
    where
      go : (capped most v ≡ v) ⊎ ((most ≤ v) × (capped most v ≡ most)) → capped most (10 * capped most v + x) ≡ capped most (10 * v + x)
      go (inl e) = ap (λ (w : ℕ). capped most (10 * w + x)) e
      go (inr h) = capped-high _ (omega (arith, h.1)) ∙ sym (capped-high _ (omega (arith, h.0)))

  module _ {A : Type 0} (bad : A) (go : ℕ → List ℕ → A) where
    abbrev go-capped : ℕ → List ℕ → A
    go-capped v rest = go (capped most v) rest

    -- numbers that are held alike
    digits-like : (input : List ℕ) (v w : ℕ) → ((x : ℕ) → capped most (10 * v + x) ≡ capped most (10 * w + x)) → capped most v ≡ capped most w
        → read_digits bad v input go-capped ≡ read_digits bad w input go-capped
    digits-like [] v w g h = refl
    digits-like (b ∷ input) v w g h =
        ap₂ {C = A} (λ x y. pick (eqb b 0x0A) x (pick (digit b) y bad)) (ap (λ (v : ℕ). go v input) h)
        (digits-like input (10 * v + (b - 0x30)) (10 * w + (b - 0x30))
        (λ x. sym (capped-grown (10 * v + (b - 0x30)) x) ∙ ap (λ (v : ℕ). capped most (10 * v + x)) (g (b - 0x30)) ∙ capped-grown (10 * w + (b - 0x30)) x) (g (b - 0x30)))

    pub digits-capped : (input : List ℕ) (v : ℕ) → read_digits bad (capped most v) input go-capped ≡ read_digits bad v input go-capped
    digits-capped input v = digits-like input (capped most v) v (capped-grown v) (again (capped-like v))
      where
        again : (capped most v ≡ v) ⊎ ((most ≤ v) × (capped most v ≡ most)) → capped most (capped most v) ≡ capped most v
        again (inl e) = ap (capped most) e
        again (inr h) = capped-high _ (omega (arith, h.1)) ∙ sym h.1
