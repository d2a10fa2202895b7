-- Figures of the share printer over its definition: the example of document 01, sizes and a board that all differ, the longest file, and
-- each reason to refuse, with the order among them.
-- Assumes nothing.
use Rattle.std.specs.Prelude.{◌≡◌, List, [], ◌∷◌, ◌++◌, map, ℕ, suc, take, replicate}
use Rattle.lists.specs.Lists.{tabulate}
use Rattle.board_spec.specs.Text.{text_line}
use Rattle.printer.specs.Printer.{refused_line, printed}
use Rattle.printer.specs.Laws.{asks}

abbrev zero_digit : List ℕ
zero_digit = 0x30 ∷ []

abbrev one : List ℕ
one = 0x31 ∷ []

abbrev two : List ℕ
two = 0x32 ∷ []

-- n=2, k=1, d=1, r=1, a board and a file
abbrev small : List ℕ → List ℕ → List ℕ
small node file = asks two one one one node file

-- n=9, k=2, d=4, r=3, node=5 and a file: B is 18
abbrev differing : List ℕ → List ℕ
differing file = asks (0x39 ∷ []) two (0x34 ∷ []) (0x33 ∷ []) (0x35 ∷ []) file

-- a number of 23 digits
abbrev vast : List ℕ
vast = replicate 23 0x39

-- the two lines behind the five
abbrev length_and_data : List ℕ → List ℕ → List ℕ
length_and_data figures pairs = text_line (0x6C ∷ 0x65 ∷ 0x6E ∷ 0x67 ∷ 0x74 ∷ 0x68 ∷ []) figures ++ text_line (0x64 ∷ 0x61 ∷ 0x74 ∷ 0x61 ∷ []) pairs

pub record PrinterFigures : Type 0 where
  -- "one line `refused=` with the number"
  pub refused-lines : map refused_line (1 ∷ 11 ∷ [])
      ≡ (0x72 ∷ 0x65 ∷ 0x66 ∷ 0x75 ∷ 0x73 ∷ 0x65 ∷ 0x64 ∷ 0x3D ∷ 0x31 ∷ 0x0A ∷ [])
      ∷ (0x72 ∷ 0x65 ∷ 0x66 ∷ 0x75 ∷ 0x73 ∷ 0x65 ∷ 0x64 ∷ 0x3D ∷ 0x31 ∷ 0x31 ∷ 0x0A ∷ [])
      ∷ []
  -- "Input n=2, k=1, d=1, r=1, node=0 and bytes 05 03 give, whole"
  pub example : printed (small zero_digit (5 ∷ 3 ∷ [])) ≡ small zero_digit (length_and_data two (0x30 ∷ 0x35 ∷ 0x30 ∷ 0x36 ∷ []))
  pub empty : printed (small zero_digit []) ≡ small zero_digit (length_and_data zero_digit [])
  -- bytes 01 to 14, two stripes: aa120a509d269b5d272f 576b7fb313073b575757
  pub all-differ : printed (differing (tabulate 20 suc))
      ≡ differing (length_and_data (0x32 ∷ 0x30 ∷ [])
      (0x61 ∷ 0x61 ∷ 0x31 ∷ 0x32 ∷ 0x30 ∷ 0x61 ∷ 0x35 ∷ 0x30 ∷ 0x39 ∷ 0x64 ∷ 0x32 ∷ 0x36 ∷ 0x39 ∷ 0x62 ∷ 0x35 ∷ 0x64 ∷ 0x32 ∷ 0x37 ∷ 0x32 ∷ 0x66
      ∷ 0x35 ∷ 0x37 ∷ 0x36 ∷ 0x62 ∷ 0x37 ∷ 0x66 ∷ 0x62 ∷ 0x33 ∷ 0x31 ∷ 0x33 ∷ 0x30 ∷ 0x37 ∷ 0x33 ∷ 0x62 ∷ 0x35 ∷ 0x37 ∷ 0x35 ∷ 0x37 ∷ 0x35 ∷ 0x37 ∷ []))
  -- 16,384 bytes have a text, which begins so; one more has none
  pub most : take 45 (printed (differing (replicate 16384 0)))
      ≡ differing (text_line (0x6C ∷ 0x65 ∷ 0x6E ∷ 0x67 ∷ 0x74 ∷ 0x68 ∷ []) (0x31 ∷ 0x36 ∷ 0x33 ∷ 0x38 ∷ 0x34 ∷ [])
      ++ (0x64 ∷ 0x61 ∷ 0x74 ∷ 0x61 ∷ 0x3D ∷ 0x30 ∷ 0x30 ∷ 0x30 ∷ 0x30 ∷ []))
  pub one_more : printed (differing (replicate 16385 0)) ≡ refused_line 3
  -- no number, leading zeros, a sign, blanks, byte 0D, another name, lines in another order or missing, a last line without its end
  pub malformed : map printed
      (asks [] one one one zero_digit []
      ∷ asks (0x30 ∷ two) one one one zero_digit []
      ∷ small (0x30 ∷ zero_digit) []
      ∷ asks (0x2B ∷ two) one one one zero_digit []
      ∷ asks (0x20 ∷ two) one one one zero_digit []
      ∷ asks (two ++ (0x20 ∷ [])) one one one zero_digit []
      ∷ asks (two ++ (0x0D ∷ [])) one one one zero_digit []
      ∷ (0x20 ∷ small zero_digit [])
      ∷ text_line (0x4E ∷ []) two
      ∷ text_line (0x6B ∷ []) one
      ∷ (text_line (0x6E ∷ []) two ++ text_line (0x64 ∷ []) one)
      ∷ []
      ∷ asks two one one one [] zero_digit
      ∷ [])
      ≡ replicate 13 (refused_line 1)
  pub unended : printed (text_line (0x6E ∷ []) two ++ text_line (0x6B ∷ []) one ++ text_line (0x64 ∷ []) one ++ text_line (0x72 ∷ []) one
      ++ (0x6E ∷ 0x6F ∷ 0x64 ∷ 0x65 ∷ 0x3D ∷ 0x30 ∷ []))
      ≡ refused_line 1
  -- n=1, n=33, r=0, and numbers that no machine holds
  pub illegal : map printed
      (asks one one one one zero_digit []
      ∷ asks (0x33 ∷ 0x33 ∷ []) one one one zero_digit []
      ∷ asks two one one zero_digit zero_digit []
      ∷ asks vast one one one zero_digit []
      ∷ asks two vast one one vast []
      ∷ asks one one one one zero_digit (replicate 16385 0)
      ∷ [])
      ≡ replicate 6 (refused_line 1)
  -- a file too long for the printer at B = 3, then one too long for B = 2; with a board of n or more, too
  pub long : map printed
      (asks (0x33 ∷ []) one one two zero_digit (replicate 16385 0)
      ∷ asks (0x33 ∷ []) one one two vast (replicate 16385 0)
      ∷ small zero_digit (replicate 8193 0)
      ∷ small vast (replicate 8193 0)
      ∷ [])
      ≡ replicate 4 (refused_line 3)
  pub boards : map printed (small two [] ∷ small vast [] ∷ small vast (5 ∷ 3 ∷ []) ∷ []) ≡ replicate 3 (refused_line 5)
