-- From what a board-level call leaves to the word that the archive answers.
-- Assumes nothing.
use Prim.Native.Nat.{ℕ}
use mathlib.Core.Path.{◌≡◌, ap, ◌∙◌}
use mathlib.Core.List.{List}
use native.Mathlib.Omega.{arith}
use Rattle.sizes.specs.Refusals.{said, Answer}
use Rattle.board_spec.specs.Calls.{BoardOutcome}
use Rattle.board_lines.specs.Outcomes.{outcome}
use Rattle.answer_word.specs.Answers.{word_of}
use Rattle.archive_spec.proofs.Bounds.{Fits}

module _ (a : Answer) (output : List ℕ) (o : BoardOutcome) (e : outcome a output ≡ o) where
  -- the answer's number is the definition's, so it is small where that is
  pub fits : Fits o.answer.reported → Fits (said a).reported
  fits h = omega (arith, ap (λ (p : BoardOutcome). p.answer.reported) e, h)

  -- the word and the output are the definition's
  pub tells : (w : ℕ) → w ≡ word_of (said a) → (w ≡ word_of o.answer) × (output ≡ o.output)
  tells w h = (h ∙ ap (λ (p : BoardOutcome). word_of p.answer) e, ap (λ (p : BoardOutcome). p.output) e)
