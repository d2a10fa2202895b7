-- Request A.1: the text reader and the gathering, each a total function of its arguments to its answer and to every byte that it was lent.
-- Assumes nothing.
use Rattle.std.specs.Prelude.{Bool, not, List, [], ◌∷◌, map, ℕ, leb, eqb, length, replicate, Ok, Err}
use Rattle.std.proofs.Math.Option.{Option, some, none}
use Rattle.lists.specs.Tests.{alls, every, same, given}
use Rattle.lists.specs.Lists.{concat, over}
use Rattle.sizes.specs.declared.Sizes.{Sizes}
use Rattle.sizes.specs.declared.Refusal.TheVariants.{Text, Mixed, Disagree}
use Rattle.sizes.specs.Sizing.{max_boards}
use Rattle.sizes.specs.Refusals.{Said, said, Line, ◌when◌, first, board_order, Check}
use Rattle.mbcr.specs.Read.{read_file}
use Rattle.board_spec.specs.Calls.{BoardOutcome, settled, file_of, count_line, repeat_line, short_line}
use Rattle.text_spec.specs.Texts.{ShareTold, read_text, texts_of}

-- nothing told: all numbers 0
abbrev pub blank : ShareTold
blank = record { sizes = record { n = 0; k = 0; d = 0; r = 0 }; points = replicate max_boards 0; length = 0; node = 0; share = [] }

abbrev pub told_of : Option ShareTold → ShareTold
told_of none = blank
told_of (some t) = t

-- ---- "a reader over the lent text that .. gives sizes, board number and length, writes the share to an output"; the points too (request A.9)

-- what the reader answers, what it gives, and its output after it
pub record ReadOutcome : Type 0 where
  pub answer : Said
  pub sizes : Sizes
  pub points : List ℕ
  pub node : ℕ
  pub length : ℕ
  pub output : List ℕ

-- an answer with what a text tells
abbrev pub giving : Said → ShareTold → List ℕ → ReadOutcome
giving answer t output = record { answer = answer; sizes = t.sizes; points = t.points; node = t.node; length = t.length; output = output }

-- a refusal gives its number, nothing told, and the output as it came
abbrev pub read_settled : Check → ShareTold → List ℕ → ReadOutcome
read_settled (Err x) t output = giving (said (Err x)) blank output
read_settled (Ok tt) t output = giving (said (Ok (length t.share))) t (over t.share output)

-- "12 TEXT for any other text, before all else"
unfoldable pub read_text_lines : List ℕ → List ℕ → List Line
read_text_lines text output = Text when not (given (read_text text)) ∷ short_line output (length (told_of (read_text text)).share) ∷ []

unfoldable pub read_text_call : List ℕ → List ℕ → ReadOutcome
read_text_call text output = read_settled (first board_order (read_text_lines text output)) (told_of (read_text text)) output

-- ---- "a gathering of k texts, one after another in one lent slice, into a file, whose length it answers"

abbrev pub texts_told : Option (List ShareTold) → List ShareTold
texts_told none = []
texts_told (some ts) = ts

-- the first text, by which the others are measured
abbrev pub first_of : List ShareTold → ShareTold
first_of [] = blank
first_of (t ∷ ts) = t

-- the same sizes
abbrev pub like_sizes : Sizes → Sizes → Bool
like_sizes y z = alls (eqb y.n z.n ∷ eqb y.k z.k ∷ eqb y.d z.d ∷ eqb y.r z.r ∷ [])

-- the same sizes, points and length
abbrev pub like : ShareTold → ShareTold → Bool
like t u = alls (like_sizes t.sizes u.sizes ∷ same t.points u.points ∷ eqb t.length u.length ∷ [])

abbrev pub nodes_of : List ShareTold → List ℕ
nodes_of ts = map (λ (t : ShareTold). t.node) ts

abbrev pub shares_of : List ShareTold → List ℕ
shares_of ts = concat (map (λ (t : ShareTold). t.share) ts)

-- the file that has these shares
unfoldable pub gathered : List ShareTold → Option (List ℕ)
gathered ts = let t = first_of ts in read_file t.sizes t.points t.length (nodes_of ts) (shares_of ts)

-- "12 TEXT for any other text, before all else; 13 MIXED where the texts differ in sizes or length", "MIXED covers points too"; "No text at all is COUNT"
unfoldable pub gather_lines : List ℕ → List ℕ → List Line
gather_lines text output =
    let ts = texts_told (texts_of text) in
    Text when not (given (texts_of text))
    ∷ Mixed when not (every (like (first_of ts)) ts)
    ∷ count_line (leb 1 (length ts) ∷ eqb (length ts) (first_of ts).sizes.k ∷ [])
    ∷ repeat_line (nodes_of ts)
    ∷ short_line output (first_of ts).length
    ∷ Disagree when not (given (gathered ts))
    ∷ []

unfoldable pub gather_call : List ℕ → List ℕ → BoardOutcome
gather_call text output = settled (first board_order (gather_lines text output)) (file_of (gathered (texts_told (texts_of text)))) output
