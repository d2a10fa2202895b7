-- What is read at a place: each line by what is told of it.
-- Assumes nothing.
use mathlib.Core.Path.{◌≡◌, refl, sym, ap, ap₂, subst⁻¹, ◌∙◌}
use mathlib.Core.Bool.{Bool, true, false}
use mathlib.Core.Logic.{◌⊎◌, inl, inr, ⊎_elim}
use mathlib.Core.Option.{Option, none}
use mathlib.Core.List.{List, [], ◌∷◌, ◌++◌, append_assoc}
use Prim.Native.Nat.{ℕ, ◌+◌, ◌-◌, ◌≤◌, ◌<◌}
use native.Mathlib.Omega.{arith}
use lib.ListN.{length, take, drop, length-append, length-drop, take-append-drop}
use lib.Seq.{drop_at}
use Rattle.lists.specs.Tests.{pick}
use Rattle.lists.proofs.Tests.{true-false}
use Rattle.number_lines.specs.Lines.{line}
use Rattle.number_lines.specs.Laws.{Starts, spelled}
use Rattle.number_lines.specs.Steps.{capped}
use Rattle.number_lines.proofs.Laws.{line-laws}
use Rattle.text_spec.specs.Texts.{Found}
use Rattle.text_in.specs.declared.Told.{Told}
use Rattle.text_in.specs.Steps.{most, lost, name_of, number_told, number_at}

-- what stands behind the beginning of what is left
pub behind-place : (text : List ℕ) (at : ℕ) (pre behind : List ℕ) → drop at text ≡ pre ++ behind → drop (length text - length behind) text ≡ behind
behind-place text at pre behind e =
    let whole : text ≡ (take at text ++ pre) ++ behind = sym (take-append-drop at text) ∙ ap (λ (l : List ℕ). take at text ++ l) e ∙ sym (append_assoc (take at text) pre behind) in
    let l = ap length whole ∙ length-append (take at text ++ pre) behind in
    let m : length text - length behind ≡ length (take at text ++ pre) = omega (arith, l) in
    ap₂ {C = List ℕ} (λ (n : ℕ) (l : List ℕ). drop n l) m whole ∙ drop_at (take at text ++ pre) behind (length (take at text ++ pre)) refl

-- a line does not stand, or the place grows
pub record Told-at (text : List ℕ) (at : ℕ) (t : Told) : Type 0 where
  pub lost-at : t.ok ≡ false → t.next ≡ length text
  pub ends : t.ok ≡ true → t.next ≤ length text
  pub grows : t.ok ≡ true → at < t.next

module _ (text : List ℕ) (at which : ℕ) where
  abbrev name : List ℕ
  name = name_of which

  -- the line stands there, or it is malformed for either kind of answer
  Either : Type 0
  Either = Starts name (drop at text) ⊎ (((go : ℕ → List ℕ → Told) → line (lost text) name (drop at text) go ≡ lost text)
      × ((go : ℕ → List ℕ → Option Found) → line none name (drop at text) go ≡ none))

  either : Either
  unfolding Either
  either = ⊎_elim inl (λ f. ⊎_elim inl (λ g. inr (f, g)) (line-laws.else-malformed none name (drop at text))) (line-laws.else-malformed (lost text) name (drop at text))

  -- what is told where the line stands
  module _ (s : Starts name (drop at text)) where
    pub told-there : number_at text at which ≡ number_told text (capped most (spelled s.figures 0)) s.behind
    unfolding number_at
    told-there =
        ap (λ (l : List ℕ). line (lost text) name l (λ v rest. number_told text (capped most v) rest)) s.whole
        ∙ line-laws.taken (lost text) name s.figures s.is_number s.behind (λ v rest. number_told text (capped most v) rest)

    place-there : drop (length text - length s.behind) text ≡ s.behind
    place-there =
        behind-place text at (name ++ (s.figures ++ (0x0A ∷ []))) s.behind
        (s.whole ∙ sym (append_assoc name (s.figures ++ (0x0A ∷ [])) s.behind ∙ ap (λ (l : List ℕ). name ++ l) (append_assoc s.figures (0x0A ∷ []) s.behind)))

    -- there are bytes before what is behind
    shorter : length s.behind + at < length text
    shorter =
        let l = ap length s.whole ∙ length-append name (s.figures ++ (0x0A ∷ s.behind)) in
        let m = length-append s.figures (0x0A ∷ s.behind) in
        omega (arith, l, m, length-drop at text)

  malformed : ((go : ℕ → List ℕ → Told) → line (lost text) name (drop at text) go ≡ lost text) → number_at text at which ≡ lost text
  unfolding number_at
  malformed f = f (λ v rest. number_told text (capped most v) rest)

  -- the line, by what is told of it: whatever is done with the number as it is held
  pub number_by : (K : ℕ → List ℕ → Option Found)
      → line none name (drop at text) (λ v rest. K (capped most v) rest)
      ≡ pick (number_at text at which).ok (K (number_at text at which).value (drop (number_at text at which).next text)) none
  unfolding Either
  number_by K = by either
    where
      by : Either → line none name (drop at text) (λ v rest. K (capped most v) rest)
          ≡ pick (number_at text at which).ok (K (number_at text at which).value (drop (number_at text at which).next text)) none
      by (inl s) =
          ap (λ (l : List ℕ). line none name l (λ v rest. K (capped most v) rest)) s.whole
          ∙ line-laws.taken none name s.figures s.is_number s.behind (λ v rest. K (capped most v) rest)
          ∙ ap (K (capped most (spelled s.figures 0))) (sym (place-there s))
          ∙ ap (λ (t : Told). pick t.ok (K t.value (drop t.next text)) none) (sym (told-there s))
      by (inr f) = f.1 (λ v rest. K (capped most v) rest) ∙ ap (λ (t : Told). pick t.ok (K t.value (drop t.next text)) none) (sym (malformed f.0))

  pub number-told : Told-at text at (number_at text at which)
  unfolding Either
  number-told = by either
    where
      by : Either → Told-at text at (number_at text at which)
      by (inl s) =
          subst⁻¹ (λ (t : Told). Told-at text at t) (told-there s) (record {
            lost-at = λ e. absurd (true-false refl e);
            ends = λ e. omega arith;
            grows = λ e. omega (arith, shorter s);
          })
      by (inr f) =
          subst⁻¹ (λ (t : Told). Told-at text at t) (malformed f.0) (record {
            lost-at = λ e. refl;
            ends = λ e. absurd (true-false e refl);
            grows = λ e. absurd (true-false e refl);
          })

-- behind the text no line stands
pub number-lost : (text : List ℕ) (which : ℕ) → (number_at text (length text) which).ok ≡ false
number-lost text which = by (number_at text (length text) which).ok refl
  where
    by : (t : Bool) → (number_at text (length text) which).ok ≡ t → (number_at text (length text) which).ok ≡ false
    by false e = e
    by true e = let h = number-told text (length text) which in absurd (omega (arith, h.ends e, h.grows e))
