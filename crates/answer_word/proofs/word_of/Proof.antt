-- `answer_word::word_of` meets its contract.
-- Assumes nothing.
use mathlib.Core.Path.{ap}
use native.Mathlib.Omega.{arith}
use borrow.Author.Rules.{rules}
use Rattle.sizes.specs.Refusals.{said, Answer}
use Rattle.answer_word.specs.Answers.{word_of}
use Rattle.answer_word.proofs.word_of.Statement.{statement}
use Rattle.answer_word.proofs.word_of.Tie as tie

pub word_of_spec : {M : Type 1} → statement M
word_of_spec =
    tie.close
    (tie.spec
    (λ c. search rules)
    (λ c. let e = ap (λ (a : Answer). (said a).reported) c.in-Ok.is in omega (arith, c.requires, e))
    (λ c. search rules)
    (λ c κs. search rules)
    (λ c. search rules)
    (λ c. let e = ap (λ (a : Answer). word_of (said a)) c.in-Ok.is in omega (arith, e))
    (λ c. let e = ap (λ (a : Answer). word_of (said a)) c.in-Err.is in omega (arith, e, c.number.ensures)))
