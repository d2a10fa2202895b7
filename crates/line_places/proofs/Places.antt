-- Lines one after another, each by what is told of it.
-- Assumes nothing.
use mathlib.Core.Path.{◌≡◌, refl, sym, ap, ◌∙◌}
use mathlib.Core.Bool.{Bool, true, false}
use mathlib.Core.Logic.{⊎_elim}
use mathlib.Core.Option.{Option, none}
use mathlib.Core.List.{List, [], ◌∷◌, ◌++◌, append_assoc}
use Prim.Native.Nat.{ℕ, ◌-◌}
use native.Mathlib.Omega.{arith}
use lib.ListN.{length, take, drop, length-append, take-append-drop, drop_of_length-le}
use lib.Seq.{drop_at}
use Rattle.lists.specs.Tests.{pick}
use Rattle.lists.proofs.Tests.{true-false}
use Rattle.number_lines.specs.Lines.{line}
use Rattle.number_lines.specs.Laws.{Starts, spelled}
use Rattle.number_lines.specs.Steps.{capped}
use Rattle.number_lines.proofs.Laws.{line-laws}
use Rattle.text_in.specs.declared.Told.{Told}
use Rattle.text_in.specs.Steps.{lost, number_told}
use Rattle.line_places.specs.Steps.{most, line_at}

-- what stands behind the beginning of what is left
behind-place : (text : List ℕ) (at : ℕ) (pre behind : List ℕ) → drop at text ≡ pre ++ behind → drop (length text - length behind) text ≡ behind
behind-place text at pre behind e =
    let whole : text ≡ (take at text ++ pre) ++ behind = sym (take-append-drop at text) ∙ ap (λ (l : List ℕ). take at text ++ l) e ∙ sym (append_assoc (take at text) pre behind) in
    let l = ap length whole ∙ length-append (take at text ++ pre) behind in
    let m : length text - length behind ≡ length (take at text ++ pre) = omega (arith, l) in
    ap (λ (n : ℕ). drop n text) m ∙ ap (λ (l : List ℕ). drop (length (take at text ++ pre)) l) whole ∙ drop_at (take at text ++ pre) behind (length (take at text ++ pre)) refl

-- ---- one line

module _ (text : List ℕ) (at : ℕ) (name : List ℕ) where
  -- what is told where the line stands
  module _ (s : Starts name (drop at text)) where
    told-there : line_at text at name ≡ number_told text (capped most (spelled s.figures 0)) s.behind
    unfolding line_at
    told-there =
        ap (λ (l : List ℕ). line (lost text) name l (λ v rest. number_told text (capped most v) rest)) s.whole
        ∙ line-laws.taken (lost text) name s.figures s.is_number s.behind (λ v rest. number_told text (capped most v) rest)

    place-there : drop (length text - length s.behind) text ≡ s.behind
    place-there =
        behind-place text at (name ++ (s.figures ++ (0x0A ∷ []))) s.behind
        (s.whole ∙ sym (append_assoc name (s.figures ++ (0x0A ∷ [])) s.behind ∙ ap (λ (l : List ℕ). name ++ l) (append_assoc s.figures (0x0A ∷ []) s.behind)))

  malformed : ((go : ℕ → List ℕ → Told) → line (lost text) name (drop at text) go ≡ lost text) → line_at text at name ≡ lost text
  unfolding line_at
  malformed f = f (λ v rest. number_told text (capped most v) rest)

  -- where a line does not stand, the place is behind the text
  lost-at : (line_at text at name).ok ≡ false → (line_at text at name).next ≡ length text
  lost-at e =
      ⊎_elim (λ s. absurd (true-false (ap (λ (t : Told). t.ok) (told-there s)) e)) (λ f. ap (λ (t : Told). t.next) (malformed f))
      (line-laws.else-malformed (lost text) name (drop at text))

  -- the line, by what is told of it: whatever is done with the number as it is held
  pub line-by : {A : Type 0} (K : ℕ → List ℕ → Option A)
      → line none name (drop at text) (λ v rest. K (capped most v) rest)
      ≡ pick (line_at text at name).ok (K (line_at text at name).value (drop (line_at text at name).next text)) none
  line-by {A} K =
      ⊎_elim there (λ f. ⊎_elim there (λ g. nowhere f g) (line-laws.else-malformed none name (drop at text))) (line-laws.else-malformed (lost text) name (drop at text))
    where
      there : Starts name (drop at text) → line none name (drop at text) (λ v rest. K (capped most v) rest)
          ≡ pick (line_at text at name).ok (K (line_at text at name).value (drop (line_at text at name).next text)) none
      there s =
          ap (λ (l : List ℕ). line none name l (λ v rest. K (capped most v) rest)) s.whole
          ∙ line-laws.taken none name s.figures s.is_number s.behind (λ v rest. K (capped most v) rest)
          ∙ ap (K (capped most (spelled s.figures 0))) (sym (place-there s))
          ∙ ap (λ (t : Told). pick t.ok (K t.value (drop t.next text)) none) (sym (told-there s))

      nowhere : ((go : ℕ → List ℕ → Told) → line (lost text) name (drop at text) go ≡ lost text)
          → ((go : ℕ → List ℕ → Option A) → line none name (drop at text) go ≡ none)
          → line none name (drop at text) (λ v rest. K (capped most v) rest)
          ≡ pick (line_at text at name).ok (K (line_at text at name).value (drop (line_at text at name).next text)) none
      nowhere f g = g (λ v rest. K (capped most v) rest) ∙ ap (λ (t : Told). pick t.ok (K t.value (drop t.next text)) none) (sym (malformed f))

-- ---- lines one after another

-- behind the text no line stands
none-behind : (text name : List ℕ) → line_at text (length text) name ≡ lost text
unfolding line_at
none-behind text name = ap (λ (l : List ℕ). line (lost text) name l (λ v rest. number_told text (capped most v) rest)) (drop_of_length-le text {i = length text} (omega arith)) ∙ by name
  where
    by : (name : List ℕ) → line (lost text) name [] (λ v rest. number_told text (capped most v) rest) ≡ lost text
    by [] = refl
    by (c ∷ name) = refl

-- a line behind another, which may not stand
pub next-line : {A : Type 0} (text : List ℕ) (at : ℕ) (before name : List ℕ) (K : ℕ → List ℕ → Option A)
    → let t = line_at text at before in let u = line_at text t.next name in
    pick t.ok (line none name (drop t.next text) (λ v rest. K (capped most v) rest)) none ≡ pick u.ok (K u.value (drop u.next text)) none
next-line text at before name K = by (line_at text at before).ok refl
  where
    by : (b : Bool) → (line_at text at before).ok ≡ b
        → let t = line_at text at before in let u = line_at text t.next name in
        pick b (line none name (drop t.next text) (λ v rest. K (capped most v) rest)) none ≡ pick u.ok (K u.value (drop u.next text)) none
    by true e = line-by text (line_at text at before).next name K
    by false e =
        let u = ap (λ (m : ℕ). line_at text m name) (lost-at text at before e) ∙ none-behind text name in
        sym (ap (λ (u : Told). pick u.ok (K u.value (drop u.next text)) none) u)
