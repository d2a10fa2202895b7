-- The archive's call of the text reader: what it answers, and head, points and output after it. The head stands in six words, the points in 32 bytes.
-- Assumes nothing.
use Rattle.std.specs.Prelude.{List, [], ◌∷◌, ℕ, eqb, length, Err}
use Rattle.lists.specs.Tests.{pick, alls}
use Rattle.sizes.specs.declared.Refusal.TheVariants.{Size}
use Rattle.sizes.specs.Refusals.{said}
use Rattle.text_spec.specs.Calls.{ReadOutcome, read_text_call}
use Rattle.answer_word.specs.Answers.{word_of}
use Rattle.text_words.specs.Words.{head_of}

pub record TextLent : Type 0 where
  pub answer : ℕ
  pub head : List ℕ
  pub points : List ℕ
  pub output : List ℕ

-- "a head of another length than six words, or points of another than 32 bytes, is SIZE before all else", and nothing changes
abbrev pub no_room : List ℕ → List ℕ → List ℕ → TextLent
no_room head points output = record { answer = word_of (said (Err Size)); head = head; points = points; output = output }

-- what the reader gives, in words; where it refuses, head and points stay
abbrev pub read_in_words : ReadOutcome → List ℕ → List ℕ → TextLent
read_in_words o head points =
    let accepts = eqb o.answer.refusal 0 in
    record {
      answer = word_of o.answer;
      head = pick accepts (head_of o.sizes o.node o.length) head;
      points = pick accepts o.points points;
      output = o.output;
    }

unfoldable pub zbk_read_text : List ℕ → List ℕ → List ℕ → List ℕ → TextLent
zbk_read_text text head points output =
    pick (alls (eqb (length head) 6 ∷ eqb (length points) 32 ∷ [])) (read_in_words (read_text_call text output) head points) (no_room head points output)
