-- What holds of the printer. A line is taken in just the form of document 01; of five lines and a file it is said what is written, for any
-- sizes, board and file; byte by byte the same is written as the definition says: that numbers are held up to 1,000, that file bytes are
-- counted up to 16,385 and that at most 16,384 of them are kept changes nothing; and an input of which a read failed is refused.
-- Assumes nothing.
use Rattle.std.specs.Prelude.{◌≡◌, true, false, ◌⊎◌, List, [], ◌∷◌, ◌++◌, ℕ, ◌*◌, ◌≤◌, ◌<◌, length}
use Rattle.lists.specs.Lists.{joined}
use Rattle.number_lines.specs.Lines.{line}
use Rattle.number_lines.specs.Laws.{Number}
use Rattle.sizes.specs.declared.Sizes.{Sizes}
use Rattle.sizes.specs.Sizing.{legal, α, B, stripes}
use Rattle.mbcr.specs.Share.{standard, share}
use Rattle.board_spec.specs.Calls.{share_call}
use Rattle.board_spec.specs.Demand1.{value}
use Rattle.board_spec.specs.Text.{decimal, hex_pair, text_line}
use Rattle.printer.specs.declared.Parser.{Parser}
use Rattle.printer.specs.Printer.{refused_line, told, shared, printed}
use Rattle.printer.specs.Steps.{begin, wrong, runs}

-- the input begins with the line of a number
pub record Begins (name input : List ℕ) : Type 0 where
  pub figures : List ℕ
  pub behind : List ℕ
  pub is_number : Number figures
  pub whole : input ≡ text_line name figures ++ behind

-- the five lines, by the bytes of each number, and the file
abbrev pub asks : List ℕ → List ℕ → List ℕ → List ℕ → List ℕ → List ℕ → List ℕ
asks n k d r node file =
    text_line (0x6E ∷ []) n
    ++ (text_line (0x6B ∷ []) k
    ++ (text_line (0x64 ∷ []) d
    ++ (text_line (0x72 ∷ []) r
    ++ (text_line (0x6E ∷ 0x6F ∷ 0x64 ∷ 0x65 ∷ []) node ++ file))))

-- "n, k, d, r, node, length as decimals with no leading zero, then data as lower-case hexadecimal pairs of the share"
abbrev pub seven_lines : Sizes → ℕ → ℕ → List ℕ → List ℕ
seven_lines z L node share =
    asks (decimal z.n) (decimal z.k) (decimal z.d) (decimal z.r) (decimal node)
    (text_line (0x6C ∷ 0x65 ∷ 0x6E ∷ 0x67 ∷ 0x74 ∷ 0x68 ∷ []) (decimal L) ++ text_line (0x64 ∷ 0x61 ∷ 0x74 ∷ 0x61 ∷ []) (joined hex_pair share))

-- what is written for sizes, a board and a file, at document 01's points: the refusals in their order, and else the share's text
pub record PrintedFor (z : Sizes) (node : ℕ) (file written : List ℕ) : Type 0 where
  pub illegal : legal z ≡ false → written ≡ refused_line 1
  pub over-16384 : legal z ≡ true → 16384 < length file → written ≡ refused_line 3
  pub over-stripes : legal z ≡ true → 4096 * B z < length file → written ≡ refused_line 3
  pub no-board : legal z ≡ true → length file ≤ 16384 → length file ≤ 4096 * B z → z.n ≤ node → written ≡ refused_line 5
  pub text : legal z ≡ true → length file ≤ 16384 → length file ≤ 4096 * B z → node < z.n
      → written ≡ seven_lines z (length file) node (share z (standard z) file node)

-- the input is five lines in their form, and a file
pub record Asked (input : List ℕ) : Type 0 where
  pub n : List ℕ
  pub k : List ℕ
  pub d : List ℕ
  pub r : List ℕ
  pub node : List ℕ
  pub file : List ℕ
  pub numbers : Number n × Number k × Number d × Number r × Number node
  pub whole : input ≡ asks n k d r node file

pub record PrinterLaws : Type 0 where
  -- "a malformed line gives 1", whichever it is
  pub all-else : (input : List ℕ) → Asked input ⊎ (printed input ≡ refused_line 1)
  -- and of every input that has its form it is said what is written, in whatever digits it has its numbers
  pub asked-for : (n k d r node file : List ℕ) → Number n × Number k × Number d × Number r × Number node
      → PrintedFor (record { n = value n 0; k = value k 0; d = value d 0; r = value r 0 }) (value node 0) file (printed (asks n k d r node file))
  -- "one line `refused=` with the number"
  pub refused-is : (x : ℕ) → refused_line x ≡ (0x72 ∷ 0x65 ∷ 0x66 ∷ 0x75 ∷ 0x73 ∷ 0x65 ∷ 0x64 ∷ 0x3D ∷ []) ++ (decimal x ++ (0x0A ∷ []))
  pub taken : (name l : List ℕ) → Number l → (input : List ℕ) (go : ℕ → List ℕ → List ℕ)
      → line (refused_line 1) (name ++ (0x3D ∷ [])) (text_line name l ++ input) go ≡ go (value l 0) input
  pub else-refused : (name input : List ℕ)
      → Begins name input ⊎ ((go : ℕ → List ℕ → List ℕ) → line (refused_line 1) (name ++ (0x3D ∷ [])) input go ≡ refused_line 1)
  -- a decimal is taken as its number
  pub decimals : (name : List ℕ) (x : ℕ) (input : List ℕ) (go : ℕ → List ℕ → List ℕ)
      → line (refused_line 1) (name ++ (0x3D ∷ [])) (text_line name (decimal x) ++ input) go ≡ go x input
  pub printed-for : (z : Sizes) (node : ℕ) (file : List ℕ)
      → PrintedFor z node file (printed (asks (decimal z.n) (decimal z.k) (decimal z.d) (decimal z.r) (decimal node) file))
  pub byte-by-byte : (input : List ℕ) → runs (begin false) [] input ≡ printed input
  pub failed-read : (p : Parser) (kept input : List ℕ) → runs (wrong p) kept input ≡ refused_line 1
  -- any room that is enough does for the call
  pub any-room : (z : Sizes) (xs : List ℕ) (node : ℕ) (file output : List ℕ) → stripes z (length file) * α z ≤ length output
      → shared z xs node file ≡ told z xs (length file) node (share_call z xs node file output)
