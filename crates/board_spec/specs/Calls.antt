-- Document 01, 'The calls', board level: each call is a total function of its arguments to its answer and to every byte of the output
-- that it was lent. `z` are the sizes, `xs` the boards' points, which each call "is given .. with the sizes" (request A.9), `L` the file's length.
-- Assumes nothing.
use Rattle.std.specs.Prelude.{Bool, not, List, [], ◌∷◌, ◌++◌, ℕ, ◌*◌, ◌-◌, ltb, eqb, length, Ok, Err}
use Rattle.std.proofs.Math.Option.{Option, some, none}
use Rattle.lists.specs.Tests.{alls, below, different, given}
use Rattle.lists.specs.Lists.{over}
use Rattle.sizes.specs.declared.Sizes.{Sizes}
use Rattle.sizes.specs.declared.Refusal.TheVariants.{Size, Area, Long, Count, Node, Repeat, Short, Disagree}
use Rattle.sizes.specs.Sizing.{max_stripes, legal, α, B, stripes}
use Rattle.sizes.specs.Refusals.{Said, said, Line, ◌when◌, first, board_order, Check}
use Rattle.mbcr.specs.Share.{pointed, share}
use Rattle.mbcr.specs.Rebuild.{helper_packet, exchange_packet, finished_share}
use Rattle.mbcr.specs.Read.{read_file}
use Rattle.board_spec.specs.Text.{share_text}

-- what a call answers, and its output after it
pub record BoardOutcome : Type 0 where
  pub answer : Said
  pub output : List ℕ

-- a refusal gives its number and leaves the output as it came; else the bytes are written, and their number answered.
-- "Output beyond the bytes written stays."
abbrev pub settled : Check → List ℕ → List ℕ → BoardOutcome
settled (Err x) bytes output = record { answer = said (Err x); output = output }
settled (Ok tt) bytes output = record { answer = said (Ok (length bytes)); output = over bytes output }

-- the bytes of a file, of which there are none where there is no file
abbrev pub file_of : Option (List ℕ) → List ℕ
file_of none = []
file_of (some file) = file

-- "1 SIZE: sizes not legal"; request A.9: "A repeated point, or one other than 00 kept for a number from n up, counts as SIZE"
abbrev pub size_line : Sizes → List ℕ → Line
size_line z xs = Size when not (alls (legal z ∷ pointed z xs ∷ []))

-- "3 LONG: L above 4,096 × B (board level)"
abbrev pub long_line : Sizes → ℕ → Line
long_line z L = Long when ltb (max_stripes * B z) L

-- "4 COUNT: a list of the wrong length": the tests are that each has the right one
abbrev pub count_line : List Bool → Line
count_line counts = Count when not (alls counts)

-- "5 NODE: a board number of n or more"
abbrev pub node_line : Sizes → List ℕ → Line
node_line z boards = Node when not (below z.n boards)

-- "6 REPEAT: at board level any board twice among all those named, the worker and receiver included"
abbrev pub repeat_line : List ℕ → Line
repeat_line boards = Repeat when not (different boards)

-- "2 AREA: a lent area, share or packet slice of another length than the sizes give": the tests are that each has the right one
abbrev pub area_line : List Bool → Line
area_line lengths = Area when not (alls lengths)

-- "7 SHORT: output shorter than what is to be written"
abbrev pub short_line : List ℕ → ℕ → Line
short_line output count = Short when ltb (length output) count

module _ (z : Sizes) (xs : List ℕ) where
  open z use {n, k, d, r}

  -- "one share of a file": "for a share of a file it is the file's own length"
  unfoldable pub share_lines : ℕ → List ℕ → List ℕ → List Line
  share_lines node file output =
      size_line z xs
      ∷ long_line z (length file)
      ∷ node_line z (node ∷ [])
      ∷ short_line output (stripes z (length file) * α z)
      ∷ []

  unfoldable pub share_call : ℕ → List ℕ → List ℕ → BoardOutcome
  share_call node file output = settled (first board_order (share_lines node file output)) (share z xs file node) output

  -- "a file from k shares"
  unfoldable pub file_lines : ℕ → List ℕ → List ℕ → List ℕ → List Line
  file_lines L boards held output =
      size_line z xs
      ∷ long_line z L
      ∷ count_line (eqb (length boards) k ∷ [])
      ∷ node_line z boards
      ∷ repeat_line boards
      ∷ area_line (eqb (length held) (k * (stripes z L * α z)) ∷ [])
      ∷ short_line output L
      ∷ Disagree when not (given (read_file z xs L boards held))
      ∷ []

  unfoldable pub file_call : ℕ → List ℕ → List ℕ → List ℕ → BoardOutcome
  file_call L boards held output = settled (first board_order (file_lines L boards held output)) (file_of (read_file z xs L boards held)) output

  -- "a helper packet for another board"
  unfoldable pub helper_lines : ℕ → ℕ → ℕ → List ℕ → List ℕ → List Line
  helper_lines L helper receiver held output =
      size_line z xs
      ∷ long_line z L
      ∷ node_line z (helper ∷ receiver ∷ [])
      ∷ repeat_line (helper ∷ receiver ∷ [])
      ∷ area_line (eqb (length held) (stripes z L * α z) ∷ [])
      ∷ short_line output (2 * stripes z L)
      ∷ []

  unfoldable pub helper_call : ℕ → ℕ → ℕ → List ℕ → List ℕ → BoardOutcome
  helper_call L helper receiver held output =
      settled (first board_order (helper_lines L helper receiver held output)) (helper_packet z xs (stripes z L) helper receiver held) output

  -- "an exchange packet, from a board number, d helper numbers, their packets and a receiver"
  unfoldable pub exchange_lines : ℕ → ℕ → List ℕ → List ℕ → ℕ → List ℕ → List Line
  exchange_lines L board helpers packets receiver output =
      size_line z xs
      ∷ long_line z L
      ∷ count_line (eqb (length helpers) d ∷ [])
      ∷ node_line z (board ∷ receiver ∷ helpers)
      ∷ repeat_line (board ∷ receiver ∷ helpers)
      ∷ area_line (eqb (length packets) (d * (2 * stripes z L)) ∷ [])
      ∷ short_line output (stripes z L)
      ∷ []

  unfoldable pub exchange_call : ℕ → ℕ → List ℕ → List ℕ → ℕ → List ℕ → BoardOutcome
  exchange_call L board helpers packets receiver output =
      settled (first board_order (exchange_lines L board helpers packets receiver output)) (exchange_packet z xs (stripes z L) helpers packets receiver) output

  -- "a finished share, from the same without a receiver, and from r − 1 partner numbers with their packets"
  unfoldable pub finished_lines : ℕ → ℕ → List ℕ → List ℕ → List ℕ → List ℕ → List ℕ → List Line
  finished_lines L board helpers packets partners exchanges output =
      size_line z xs
      ∷ long_line z L
      ∷ count_line (eqb (length helpers) d ∷ eqb (length partners) (r - 1) ∷ [])
      ∷ node_line z (helpers ++ partners ++ (board ∷ []))
      ∷ repeat_line (helpers ++ partners ++ (board ∷ []))
      ∷ area_line (eqb (length packets) (d * (2 * stripes z L)) ∷ eqb (length exchanges) ((r - 1) * stripes z L) ∷ [])
      ∷ short_line output (stripes z L * α z)
      ∷ []

  unfoldable pub finished_call : ℕ → ℕ → List ℕ → List ℕ → List ℕ → List ℕ → List ℕ → BoardOutcome
  finished_call L board helpers packets partners exchanges output =
      settled (first board_order (finished_lines L board helpers packets partners exchanges output))
      (finished_share z xs (stripes z L) board helpers packets partners exchanges) output

  -- "a share as text"
  unfoldable pub text_lines : ℕ → ℕ → List ℕ → List ℕ → List Line
  text_lines L node held output =
      size_line z xs
      ∷ long_line z L
      ∷ node_line z (node ∷ [])
      ∷ area_line (eqb (length held) (stripes z L * α z) ∷ [])
      ∷ short_line output (length (share_text z xs L node held))
      ∷ []

  unfoldable pub text_call : ℕ → ℕ → List ℕ → List ℕ → BoardOutcome
  text_call L node held output = settled (first board_order (text_lines L node held output)) (share_text z xs L node held) output
