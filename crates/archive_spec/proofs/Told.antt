-- From what the text reader leaves to the words that the archive tells.
-- Assumes nothing.
use Prim.Native.Nat.{ℕ}
use mathlib.Core.Path.{◌≡◌, sym, ap, ap₂, ◌∙◌}
use mathlib.Core.Bool.{Bool, true, false}
use mathlib.Core.List.{List, [], ◌∷◌}
use native.Mathlib.Omega.{arith}
use lib.Dec.{eqb}
use lib.ListN.{length}
use borrow.Author.Tests.{eq-eqb, ne_eqb}
use Rattle.lists.specs.Tests.{pick, alls}
use Rattle.lists.proofs.Tests.{hold-alls}
use Rattle.sizes.specs.Refusals.{said}
use Rattle.text_spec.specs.Calls.{ReadOutcome, read_text_call}
use Rattle.board_read_text.specs.declared.TextRead.{TextRead}
use Rattle.answer_word.specs.Answers.{word_of}
use Rattle.text_words.specs.Words.{head_of}
use Rattle.archive_spec.specs.Texts.{TextLent, no_room, read_in_words, zbk_read_text}
use Rattle.archive_spec.proofs.Bounds.{Fits, read-text-fits}

-- what was read, and the output
abbrev pub outcome : TextRead → List ℕ → ReadOutcome
outcome r output = record { answer = said r.answer; sizes = r.sizes; points = r.points; node = r.node; length = r.length; output = output }

module _ (text head points output : List ℕ) where
  abbrev by : Bool → TextLent
  by t = pick t (read_in_words (read_text_call text output) head points) (no_room head points output)

  is-by : (t : Bool) → alls (eqb (length head) 6 ∷ eqb (length points) 32 ∷ []) ≡ t → by t ≡ zbk_read_text text head points output
  unfolding zbk_read_text
  is-by t e = ap by (sym e)

  -- another head than of six words, and other points than of 32 bytes
  pub no-head : (length head ≡ 6 → ⊥) → no_room head points output ≡ zbk_read_text text head points output
  no-head h = is-by false (ap (λ (b : Bool). alls (b ∷ eqb (length points) 32 ∷ [])) (ne_eqb (length head) 6 h))

  pub no-points : length head ≡ 6 → (length points ≡ 32 → ⊥) → no_room head points output ≡ zbk_read_text text head points output
  no-points six h =
      is-by false (ap₂ {C = Bool} (λ (a b : Bool). alls (a ∷ b ∷ [])) (eq-eqb (length head) 6 six) (ne_eqb (length points) 32 h))

  module _ (r : TextRead) (written : List ℕ) (e : outcome r written ≡ read_text_call text output) where
    -- the answer's number is the definition's, so it is small
    pub read_fits : Fits (said r.answer).reported
    read_fits = omega (arith, ap (λ (o : ReadOutcome). o.answer.reported) e, read-text-fits text output)

    -- the words are the definition's
    pub told : length head ≡ 6 → length points ≡ 32 → (w : ℕ) (hs ps : List ℕ)
        → let accepts = eqb (said r.answer).refusal 0 in
        (w ≡ word_of (said r.answer)) × (hs ≡ pick accepts (head_of r.sizes r.node r.length) head) × (ps ≡ pick accepts r.points points)
        → record { answer = w; head = hs; points = ps; output = written } ≡ zbk_read_text text head points output
    told six all w hs ps h =
        ap (λ (a : ℕ). record { answer = a; head = hs; points = ps; output = written }) h.0
        ∙ ap₂ {C = TextLent} (λ (l m : List ℕ). record { answer = word_of (said r.answer); head = l; points = m; output = written }) h.1 h.2
        ∙ ap (λ (o : ReadOutcome). read_in_words o head points) e
        ∙ is-by true (hold-alls (eqb (length head) 6 ∷ eqb (length points) 32 ∷ []) (eq-eqb (length head) 6 six, (eq-eqb (length points) 32 all, tt)))
