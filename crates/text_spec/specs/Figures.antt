-- Figures of share texts that are read again, with numbers that all differ: a text without a line of points and one with it; texts that nothing writes,
-- each wrong in one thing; and for both calls each refusal that they have, then each before the next. proofs/Figures.antt has `figures`.
-- Assumes nothing.
use Rattle.std.specs.Prelude.{◌≡◌, false, List, [], ◌∷◌, ◌++◌, map, ℕ, ◌*◌, length, take, drop, replicate}
use Rattle.std.proofs.Math.Option.{some}
use Rattle.lists.specs.Tests.{given}
use Rattle.lists.specs.Lists.{joined}
use Rattle.sizes.specs.declared.Sizes.{Sizes}
use Rattle.board_spec.specs.Text.{hex_pair, text_line}
use Rattle.board_spec.specs.Calls.{BoardOutcome}
use Rattle.text_spec.specs.Texts.{read_text, texts_of}
use Rattle.text_spec.specs.Calls.{read_text_call, gather_call}

-- the lines n=, k=, d=, r=, node=, length= with these bytes behind each =, and what follows
abbrev six : List ℕ → List ℕ → List ℕ → List ℕ → List ℕ → List ℕ → List ℕ → List ℕ
six n k d r node L rest =
    text_line (0x6E ∷ []) n
    ++ text_line (0x6B ∷ []) k
    ++ text_line (0x64 ∷ []) d
    ++ text_line (0x72 ∷ []) r
    ++ text_line (0x6E ∷ 0x6F ∷ 0x64 ∷ 0x65 ∷ []) node
    ++ text_line (0x6C ∷ 0x65 ∷ 0x6E ∷ 0x67 ∷ 0x74 ∷ 0x68 ∷ []) L
    ++ rest

abbrev points_text : List ℕ → List ℕ
points_text pairs = text_line (0x70 ∷ 0x6F ∷ 0x69 ∷ 0x6E ∷ 0x74 ∷ 0x73 ∷ []) pairs

abbrev data_text : List ℕ → List ℕ
data_text pairs = text_line (0x64 ∷ 0x61 ∷ 0x74 ∷ 0x61 ∷ []) pairs

-- n=8, k=2, d=3, r=4: α is 9, B is 16; node=5, length=11
abbrev eight : List ℕ → List ℕ
eight rest = six (0x38 ∷ []) (0x32 ∷ []) (0x33 ∷ []) (0x34 ∷ []) (0x35 ∷ []) (0x31 ∷ 0x31 ∷ []) rest

abbrev eight_sizes : Sizes
eight_sizes = record { n = 8; k = 2; d = 3; r = 4 }

-- the same with another board, and another length
abbrev other : List ℕ → List ℕ → List ℕ → List ℕ
other node L rest = six (0x38 ∷ []) (0x32 ∷ []) (0x33 ∷ []) (0x34 ∷ []) node L rest

-- n=2, k=d=r=1, this length and so many bytes 00
abbrev longest : List ℕ → ℕ → List ℕ
longest L count = six (0x32 ∷ []) (0x31 ∷ []) (0x31 ∷ []) (0x31 ∷ []) (0x30 ∷ []) L (data_text (replicate (2 * count) 0x30))

-- nine bytes, as the digits that spell them
abbrev nine : List ℕ
nine = 0x1A ∷ 0x2B ∷ 0x3C ∷ 0x4D ∷ 0x5E ∷ 0x6F ∷ 0x70 ∷ 0x81 ∷ 0x9F ∷ []

abbrev nine_spelled : List ℕ
nine_spelled = 0x31 ∷ 0x61 ∷ 0x32 ∷ 0x62 ∷ 0x33 ∷ 0x63 ∷ 0x34 ∷ 0x64 ∷ 0x35 ∷ 0x65 ∷ 0x36 ∷ 0x66 ∷ 0x37 ∷ 0x30 ∷ 0x38 ∷ 0x31 ∷ 0x39 ∷ 0x66 ∷ []

-- eight points, and 00 from n up
abbrev points8 : List ℕ
points8 = 0x92 ∷ 0xA3 ∷ 0xB4 ∷ 0xC5 ∷ 0x00 ∷ 0xE7 ∷ 0xF8 ∷ 0x06 ∷ replicate 24 0

abbrev points_spelled : List ℕ
points_spelled = 0x39 ∷ 0x32 ∷ 0x61 ∷ 0x33 ∷ 0x62 ∷ 0x34 ∷ 0x63 ∷ 0x35 ∷ 0x30 ∷ 0x30 ∷ 0x65 ∷ 0x37 ∷ 0x66 ∷ 0x38 ∷ 0x30 ∷ 0x36 ∷ []

abbrev in_order : List ℕ
in_order = joined hex_pair (0 ∷ 1 ∷ 2 ∷ 3 ∷ 4 ∷ 5 ∷ 6 ∷ 7 ∷ [])

-- the text of this share; with board 6, and with board 6 and length=12; at other points; of other sizes
abbrev plain : List ℕ
plain = eight (data_text nine_spelled)

abbrev six6 : List ℕ
six6 = other (0x36 ∷ []) (0x31 ∷ 0x31 ∷ []) (data_text nine_spelled)

abbrev seven7 : List ℕ
seven7 = other (0x37 ∷ []) (0x31 ∷ 0x31 ∷ []) (data_text nine_spelled)

abbrev longer : List ℕ
longer = other (0x36 ∷ []) (0x31 ∷ 0x32 ∷ []) (data_text nine_spelled)

abbrev pointed6 : List ℕ
pointed6 = other (0x36 ∷ []) (0x31 ∷ 0x31 ∷ []) (points_text points_spelled ++ data_text nine_spelled)

abbrev nine6 : List ℕ
nine6 = six (0x39 ∷ []) (0x32 ∷ []) (0x33 ∷ []) (0x34 ∷ []) (0x36 ∷ []) (0x31 ∷ 0x31 ∷ []) (data_text nine_spelled)

-- n=2, k=d=r=1, board and length, at document 01's points
abbrev small : ℕ → ℕ → List ℕ → List ℕ
small node L share = six (0x32 ∷ []) (0x31 ∷ []) (0x31 ∷ []) (0x31 ∷ []) (node ∷ []) (L ∷ []) (data_text (joined hex_pair share))

abbrev answers : List BoardOutcome → List ℕ
answers l = map (λ (o : BoardOutcome). o.answer.refusal) l

pub record TextFigures : Type 0 where
  pub without-points : read_text plain
      ≡ some (record { sizes = eight_sizes; points = 0 ∷ 1 ∷ 2 ∷ 3 ∷ 4 ∷ 5 ∷ 6 ∷ 7 ∷ replicate 24 0; length = 11; node = 5; share = nine })
  pub with-points : read_text (eight (points_text points_spelled ++ data_text nine_spelled))
      ≡ some (record { sizes = eight_sizes; points = points8; length = 11; node = 5; share = nine })
  -- two texts, one after another
  pub two-texts : texts_of (pointed6 ++ plain)
      ≡ some (record { sizes = eight_sizes; points = points8; length = 11; node = 6; share = nine }
      ∷ record { sizes = eight_sizes; points = 0 ∷ 1 ∷ 2 ∷ 3 ∷ 4 ∷ 5 ∷ 6 ∷ 7 ∷ replicate 24 0; length = 11; node = 5; share = nine }
      ∷ [])
  -- no bytes; a leading zero in the first and in the last number; a number missing; byte 0D; a blank; another name; a line missing; lines in another order
  pub lines : map (λ l. given (read_text l))
      ([]
      ∷ six (0x30 ∷ 0x38 ∷ []) (0x32 ∷ []) (0x33 ∷ []) (0x34 ∷ []) (0x35 ∷ []) (0x31 ∷ 0x31 ∷ []) (data_text nine_spelled)
      ∷ other (0x35 ∷ []) (0x30 ∷ 0x31 ∷ 0x31 ∷ []) (data_text nine_spelled)
      ∷ other [] (0x31 ∷ 0x31 ∷ []) (data_text nine_spelled)
      ∷ other (0x35 ∷ 0x0D ∷ []) (0x31 ∷ 0x31 ∷ []) (data_text nine_spelled)
      ∷ other (0x20 ∷ 0x35 ∷ []) (0x31 ∷ 0x31 ∷ []) (data_text nine_spelled)
      ∷ (0x4E ∷ drop 1 plain)
      ∷ drop 4 plain
      ∷ eight (data_text nine_spelled ++ points_text points_spelled)
      ∷ [])
      ≡ replicate 9 false
  -- upper case; half a pair too few; a pair too few, a pair too many; byte 0D before the end; no end; a byte behind, and a text behind
  pub shares : map (λ l. given (read_text l))
      (eight (data_text (0x31 ∷ 0x41 ∷ drop 2 nine_spelled))
      ∷ eight (data_text (drop 1 nine_spelled))
      ∷ eight (data_text (drop 2 nine_spelled))
      ∷ eight (data_text (0x30 ∷ 0x30 ∷ nine_spelled))
      ∷ eight (data_text (nine_spelled ++ (0x0D ∷ [])))
      ∷ take 56 plain
      ∷ (plain ++ (0x0A ∷ []))
      ∷ (plain ++ six6)
      ∷ [])
      ≡ replicate 8 false
  pub whole : length plain ≡ 57
  -- points 0 to n − 1 in order; one point twice; a pair too few; upper case
  pub points : map (λ l. given (read_text (eight (points_text l ++ data_text nine_spelled))))
      (in_order
      ∷ (take 14 points_spelled ++ (0x39 ∷ 0x32 ∷ []))
      ∷ take 14 points_spelled
      ∷ (0x39 ∷ 0x32 ∷ 0x41 ∷ drop 3 points_spelled)
      ∷ [])
      ≡ replicate 4 false
  -- n=6; r=0; node=8; a length of 4,096 × B and one more, with all its pairs
  pub values : map (λ l. given (read_text l))
      (six (0x36 ∷ []) (0x32 ∷ []) (0x33 ∷ []) (0x34 ∷ []) (0x35 ∷ []) (0x31 ∷ 0x31 ∷ []) (data_text nine_spelled)
      ∷ six (0x38 ∷ []) (0x32 ∷ []) (0x33 ∷ []) (0x30 ∷ []) (0x35 ∷ []) (0x31 ∷ 0x31 ∷ []) (data_text nine_spelled)
      ∷ other (0x38 ∷ []) (0x31 ∷ 0x31 ∷ []) (data_text nine_spelled)
      ∷ longest (0x38 ∷ 0x31 ∷ 0x39 ∷ 0x33 ∷ []) 8194
      ∷ [])
      ≡ replicate 4 false
  -- the reader: all that it gives; 12, 7; 12 before 7
  pub read : read_text_call (eight (points_text points_spelled ++ data_text nine_spelled)) (replicate 10 0xEE)
      ≡ record { answer = record { refusal = 0; reported = 9 }; sizes = eight_sizes; points = points8; node = 5; length = 11; output = nine ++ (0xEE ∷ []) }
  pub short : read_text_call plain (replicate 8 0xEE)
      ≡ record { answer = record { refusal = 7; reported = 0 }; sizes = record { n = 0; k = 0; d = 0; r = 0 }; points = replicate 32 0; node = 0; length = 0; output = replicate 8 0xEE }
  pub read-refusals : map (λ l. (read_text_call l []).answer.refusal) ([] ∷ (plain ++ (0x0A ∷ [])) ∷ plain ∷ []) ≡ 12 ∷ 12 ∷ 7 ∷ []
  -- 12 of a stray byte, of one behind, of a text cut short behind texts that differ; 13 of lengths, points, sizes; 4 of none, of too few, of too many;
  -- 6; 7; 10; then 13 before 4, 4 before 6, 6 before 7, 7 before 10
  pub gather-refusals :
      answers
      (gather_call (0x0A ∷ []) (replicate 16 0)
      ∷ gather_call (plain ++ six6 ++ (0x00 ∷ [])) (replicate 16 0)
      ∷ gather_call (plain ++ longer ++ take 56 plain) (replicate 16 0)
      ∷ gather_call (plain ++ longer) (replicate 16 0)
      ∷ gather_call (plain ++ pointed6) (replicate 16 0)
      ∷ gather_call (plain ++ nine6) (replicate 16 0)
      ∷ gather_call [] (replicate 16 0)
      ∷ gather_call plain (replicate 16 0)
      ∷ gather_call (plain ++ six6 ++ seven7) (replicate 16 0)
      ∷ gather_call (plain ++ plain) (replicate 16 0)
      ∷ gather_call (plain ++ six6) (replicate 10 0)
      ∷ gather_call (small 0x30 0x31 (0x05 ∷ 0x06 ∷ [])) (replicate 3 0)
      ∷ gather_call (plain ++ six6 ++ longer) (replicate 16 0)
      ∷ gather_call (plain ++ plain ++ plain) (replicate 16 0)
      ∷ gather_call (plain ++ plain) []
      ∷ gather_call (small 0x30 0x31 (0x05 ∷ 0x06 ∷ [])) []
      ∷ [])
      ≡ 12 ∷ 12 ∷ 12 ∷ 13 ∷ 13 ∷ 13 ∷ 4 ∷ 4 ∷ 4 ∷ 6 ∷ 7 ∷ 10 ∷ 13 ∷ 4 ∷ 6 ∷ 7 ∷ []
  -- the file 05 03 07 from board 1's share
  pub gathered : gather_call (small 0x31 0x33 (0x06 ∷ 0x05 ∷ 0x07 ∷ 0x07 ∷ [])) (replicate 4 0xEE)
      ≡ record { answer = record { refusal = 0; reported = 3 }; output = 0x05 ∷ 0x03 ∷ 0x07 ∷ 0xEE ∷ [] }
