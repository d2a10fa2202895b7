-- `archive_texts::text_prefix` meets its contract: the length in one word.
-- Assumes nothing.
use mathlib.Core.Path.{sym, ap, subst, ◌∙◌}
use Prim.Native.Nat.{ℕ}
use borrow.Author.Rules.{rules}
use Rattle.std.specs.Prelude.{Ok}
use Rattle.sizes.specs.Refusals.{said}
use Rattle.answer_word.specs.Answers.{word_of}
use Rattle.archive_spec.proofs.Bounds.{Fits, prefix-fits}
use Rattle.archive_texts.proofs.text_prefix.Statement.{statement}
use Rattle.archive_texts.proofs.text_prefix.Tie as tie

pub text_prefix_spec : {M : Type 1} → statement M
text_prefix_spec =
    tie.close
    (tie.spec
    (λ c κs. search rules)
    (λ c κs. subst Fits (sym c.prefix.ensures) (prefix-fits _))
    (λ c. c.word_of.ensures ∙ ap (λ (v : ℕ). word_of (said (Ok v))) c.before.prefix.ensures))
