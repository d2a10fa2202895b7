-- The form of the printer's lines: those of the crate `number_lines`, with = behind the name.
-- Assumes nothing.
use mathlib.Core.Path.{◌≡◌, refl, sym, ap, ◌∙◌}
use mathlib.Core.Logic.{◌⊎◌, inl, inr, ⊎_elim}
use mathlib.Core.List.{List, [], ◌∷◌, ◌++◌, append_assoc}
use Prim.Native.Nat.{ℕ, zero, suc, ◌+◌, ◌*◌, ◌-◌}
use native.Mathlib.Omega.{arith}
use Rattle.number_lines.specs.Lines.{line}
use Rattle.number_lines.specs.Laws.{Number, spelled}
use Rattle.number_lines.proofs.Laws.{line-laws}
use Rattle.board_spec.specs.Demand1.{value}
use Rattle.board_spec.specs.Text.{decimal, text_line}
use Rattle.board_spec.proofs.Text.{text-laws}
use Rattle.printer.specs.Laws.{Begins, Asked}
use Rattle.printer.specs.Printer.{five_lines}
use Rattle.sizes.specs.declared.Sizes.{Sizes}

whole-line : (name l input : List ℕ) → text_line name l ++ input ≡ name ++ (0x3D ∷ []) ++ (l ++ (0x0A ∷ input))
whole-line name l input =
    append_assoc (name ++ (0x3D ∷ []) ++ l) (0x0A ∷ []) input ∙ append_assoc (name ++ (0x3D ∷ [])) l (0x0A ∷ input)

pub spelled-value : (l : List ℕ) (v : ℕ) → spelled l v ≡ value l v
spelled-value [] v = refl
spelled-value (c ∷ l) v = spelled-value l (10 * v + (c - 0x30))

module _ {A : Type 0} (bad : A) where
  pub line_taken : (name l : List ℕ) → Number l → (input : List ℕ) (go : ℕ → List ℕ → A)
      → line bad (name ++ (0x3D ∷ [])) (text_line name l ++ input) go ≡ go (value l 0) input
  line_taken name l h input go =
      ap (λ (m : List ℕ). line bad (name ++ (0x3D ∷ [])) m go) (whole-line name l input)
      ∙ line-laws.taken bad (name ++ (0x3D ∷ [])) l h input go
      ∙ ap (λ (v : ℕ). go v input) (spelled-value l 0)

  pub line-else : (name input : List ℕ) → Begins name input ⊎ ((go : ℕ → List ℕ → A) → line bad (name ++ (0x3D ∷ [])) input go ≡ bad)
  line-else name input =
      ⊎_elim
      (λ s. inl (record { figures = s.figures; behind = s.behind; is_number = s.is_number; whole = s.whole ∙ sym (whole-line name s.figures s.behind) }))
      inr (line-laws.else-malformed bad (name ++ (0x3D ∷ [])) input)

  decimal-number : (x : ℕ) → Number (decimal x)
  decimal-number zero = inl text-laws.decimal-zero
  decimal-number (suc x) = inr (text-laws.decimal-digits (suc x), text-laws.decimal-first (suc x) (omega arith))

  pub decimal-taken : (name : List ℕ) (x : ℕ) (input : List ℕ) (go : ℕ → List ℕ → A)
      → line bad (name ++ (0x3D ∷ [])) (text_line name (decimal x) ++ input) go ≡ go x input
  decimal-taken name x input go =
      line_taken name (decimal x) (decimal-number x) input go ∙ ap (λ (v : ℕ). go v input) (text-laws.decimal-value x)

  -- a line in its form and then something else, or malformed
  pub step : {P : Type 0} (name input : List ℕ) (go : ℕ → List ℕ → A) → ((s : Begins name input) → P ⊎ (go (value s.figures 0) s.behind ≡ bad))
      → P ⊎ (line bad (name ++ (0x3D ∷ [])) input go ≡ bad)
  step name input go f =
      ⊎_elim
      (λ s. ⊎_elim inl (λ e. inr (ap (λ (m : List ℕ). line bad (name ++ (0x3D ∷ [])) m go) s.whole ∙ line_taken name s.figures s.is_number s.behind go ∙ e)) (f s))
      (λ g. inr (g go)) (line-else name input)

  pub five-else : (input : List ℕ) (go : Sizes → ℕ → List ℕ → A) → Asked input ⊎ (five_lines bad input go ≡ bad)
  five-else input go =
      step (0x6E ∷ []) input _ (λ a.
      step (0x6B ∷ []) a.behind _ (λ b.
      step (0x64 ∷ []) b.behind _ (λ c.
      step (0x72 ∷ []) c.behind _ (λ d.
      step (0x6E ∷ 0x6F ∷ 0x64 ∷ 0x65 ∷ []) d.behind _ (λ e. inl (record {
        n = a.figures;
        k = b.figures;
        d = c.figures;
        r = d.figures;
        node = e.figures;
        file = e.behind;
        numbers = (a.is_number, b.is_number, c.is_number, d.is_number, e.is_number);
        whole = a.whole ∙ ap (λ (l : List ℕ). text_line (0x6E ∷ []) a.figures ++ l) (b.whole ∙ ap (λ (l : List ℕ). text_line (0x6B ∷ []) b.figures ++ l)
            (c.whole ∙ ap (λ (l : List ℕ). text_line (0x64 ∷ []) c.figures ++ l) (d.whole ∙ ap (λ (l : List ℕ). text_line (0x72 ∷ []) d.figures ++ l) e.whole)));
      }))))))
