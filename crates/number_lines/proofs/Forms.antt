-- The form of a line: what is taken, and that anything else is malformed.
-- Assumes nothing.
use mathlib.Core.Path.{◌≡◌, refl, sym, ap, ap₂, ◌∙◌}
use mathlib.Core.Bool.{Bool, true, false}
use mathlib.Core.Logic.{◌⊎◌, inl, inr, ⊎_elim}
use mathlib.Core.List.{List, [], ◌∷◌, ◌++◌}
use Prim.Native.Nat.{ℕ, ◌+◌, ◌*◌, ◌-◌, ◌≤◌}
use native.Mathlib.Nat.{eq-or-lt_of_le}
use native.Mathlib.Omega.{arith}
use lib.Dec.{eqb}
use borrow.Author.Tests.{eqb-true, eqb-false}
use Rattle.lists.specs.Lists.{All}
use Rattle.number_lines.specs.Lines.{digit, read_digits, read_lone, read_number, line}
use Rattle.number_lines.specs.Laws.{Number, spelled, Starts}
use Rattle.number_lines.proofs.Picks.{yes, no, if-eq, if-ne}
use Rattle.number_lines.proofs.Fed.{Digit, digit-yes, digit-range}

module _ {A : Type 0} (bad : A) where
  -- ---- what is taken

  digits-taken : (l : List ℕ) (v : ℕ) (input : List ℕ) (go : ℕ → List ℕ → A) → All Digit l → read_digits bad v (l ++ (0x0A ∷ input)) go ≡ go (spelled l v) input
  digits-taken [] v input go h = refl
  digits-taken (c ∷ l) v input go h =
      if-ne c 0x0A _ _ (λ e. omega (arith, h.0.0)) ∙ yes (digit c) _ _ (digit-yes c h.0) ∙ digits-taken l (10 * v + (c - 0x30)) input go h.1

  number-taken : (l input : List ℕ) (go : ℕ → List ℕ → A) → Number l → read_number bad (l ++ (0x0A ∷ input)) go ≡ go (spelled l 0) input
  number-taken l input go (inl e) = rw e
  number-taken [] input go (inr h) = absurd (omega (arith, h.1))
  number-taken (c ∷ l) input go (inr h) =
      let e : c - 0x30 ≡ 10 * 0 + (c - 0x30) = omega arith in
      if-ne c 0x30 _ _ (λ e. omega (arith, h.1)) ∙ yes (digit c) _ _ (digit-yes c h.0.0)
      ∙ ap (λ (x : ℕ). read_digits bad x (l ++ (0x0A ∷ input)) go) e ∙ digits-taken l (10 * 0 + (c - 0x30)) input go h.0.1

  name-taken : (name input : List ℕ) (go : ℕ → List ℕ → A) → line bad name (name ++ input) go ≡ read_number bad input go
  name-taken [] input go = refl
  name-taken (c ∷ name) input go = if-eq c c _ _ refl ∙ name-taken name input go

  pub line_taken : (name l : List ℕ) → Number l → (input : List ℕ) (go : ℕ → List ℕ → A) → line bad name (name ++ (l ++ (0x0A ∷ input))) go ≡ go (spelled l 0) input
  line_taken name l h input go = name-taken name (l ++ (0x0A ∷ input)) go ∙ number-taken l input go h

  -- ---- anything else is malformed

  -- the input is bytes, a list as P says, byte 0A, and what follows; or `said` finds it malformed
  abbrev Found : List ℕ → (List ℕ → Type 0) → ((ℕ → List ℕ → A) → A) → List ℕ → Type 0
  Found name P said input =
      ((l : List ℕ) × (rest : List ℕ) × P l × (input ≡ name ++ (l ++ (0x0A ∷ rest)))) ⊎ ((go : ℕ → List ℕ → A) → said go ≡ bad)

  digits-found : (input : List ℕ) (v : ℕ) → Found [] (All Digit) (read_digits bad v input) input
  digits-found [] v = inr (λ go. refl)
  digits-found (b ∷ input) v = go (eqb b 0x0A) refl (digit b) refl (digits-found input (10 * v + (b - 0x30)))
    where
      go : (t : Bool) → eqb b 0x0A ≡ t → (u : Bool) → digit b ≡ u → Found [] (All Digit) (read_digits bad (10 * v + (b - 0x30)) input) input
          → Found [] (All Digit) (read_digits bad v (b ∷ input)) (b ∷ input)
      go true e u f ih = inl ([], input, tt, ap (λ (c : ℕ). c ∷ input) (eqb-true b 0x0A e))
      go false e true f (inl h) = inl (b ∷ h.0, h.1, (digit-range b f, h.2), ap {B = List ℕ} (λ l. b ∷ l) h.3)
      go false e true f (inr h) = inr (λ then. no (eqb b 0x0A) _ _ e ∙ yes (digit b) _ _ f ∙ h then)
      go false e false f ih = inr (λ then. no (eqb b 0x0A) _ _ e ∙ no (digit b) _ _ f)

  lone-found : (input : List ℕ) → Found [] (λ l. l ≡ []) (read_lone bad input) input
  lone-found [] = inr (λ go. refl)
  lone-found (b ∷ input) = go (eqb b 0x0A) refl
    where
      go : (t : Bool) → eqb b 0x0A ≡ t → Found [] (λ l. l ≡ []) (read_lone bad (b ∷ input)) (b ∷ input)
      go true e = inl ([], input, refl, ap (λ (c : ℕ). c ∷ input) (eqb-true b 0x0A e))
      go false e = inr (λ then. no (eqb b 0x0A) _ _ e)

  number-found : (input : List ℕ) → Found [] Number (read_number bad input) input
  number-found [] = inr (λ go. refl)
  number-found (b ∷ input) = go (eqb b 0x30) refl (digit b) refl (lone-found input) (digits-found input (b - 0x30))
    where
      go : (t : Bool) → eqb b 0x30 ≡ t → (u : Bool) → digit b ≡ u → Found [] (λ l. l ≡ []) (read_lone bad input) input
          → Found [] (All Digit) (read_digits bad (b - 0x30) input) input → Found [] Number (read_number bad (b ∷ input)) (b ∷ input)
      go true e u f (inl h) s =
          inl (b ∷ h.0, h.1, inl (ap₂ {C = List ℕ} (λ (x : ℕ) y. x ∷ y) (eqb-true b 0x30 e) h.2), ap {B = List ℕ} (λ l. b ∷ l) h.3)
      go true e u f (inr h) s = inr (λ then. yes (eqb b 0x30) _ _ e ∙ h then)
      go false e true f r (inl h) =
          let d = digit-range b f in
          let first : 0x31 ≤ b = ⊎_elim (λ q. absurd (eqb-false b 0x30 e (sym q))) (λ q. omega arith) (eq-or-lt_of_le d.0) in
          inl (b ∷ h.0, h.1, inr ((d, h.2), first), ap {B = List ℕ} (λ l. b ∷ l) h.3)
      go false e true f r (inr h) = inr (λ then. no (eqb b 0x30) _ _ e ∙ yes (digit b) _ _ f ∙ h then)
      go false e false f r s = inr (λ then. no (eqb b 0x30) _ _ e ∙ no (digit b) _ _ f)

  line-found : (name input : List ℕ) → Found name Number (line bad name input) input
  line-found [] input = number-found input
  line-found (c ∷ name) [] = inr (λ go. refl)
  line-found (c ∷ name) (b ∷ input) = go (eqb b c) refl (line-found name input)
    where
      go : (t : Bool) → eqb b c ≡ t → Found name Number (line bad name input) input → Found (c ∷ name) Number (line bad (c ∷ name) (b ∷ input)) (b ∷ input)
      go true e (inl h) = inl (h.0, h.1, h.2, ap₂ {C = List ℕ} (λ (x : ℕ) y. x ∷ y) (eqb-true b c e) h.3)
      go true e (inr h) = inr (λ then. yes (eqb b c) _ _ e ∙ h then)
      go false e h = inr (λ then. no (eqb b c) _ _ e)

  pub line-else : (name input : List ℕ) → Starts name input ⊎ ((go : ℕ → List ℕ → A) → line bad name input go ≡ bad)
  line-else name input =
      ⊎_elim (λ h. inl (record { figures = h.0; behind = h.1; is_number = h.2; whole = h.3 })) inr (line-found name input)
