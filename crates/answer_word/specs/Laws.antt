-- An answer's word taken apart: the low eight bits are the refusal's number, what is above them the number reported.
-- proofs/Laws.antt has `answer-laws : AnswerLaws`.
-- Assumes nothing.
use Rattle.std.specs.Prelude.{◌≡◌, ◌/◌, ◌%◌}
use Rattle.sizes.specs.Refusals.{said, Answer}
use Rattle.answer_word.specs.Answers.{word_of}

pub record AnswerLaws : Type 0 where
  pub refusal_is : (a : Answer) → word_of (said a) % 256 ≡ (said a).refusal
  pub value-is : (a : Answer) → word_of (said a) / 256 ≡ (said a).reported
