-- Document 01, 'Share text', the share printer: from the whole input to the whole output. What it writes of sizes, a board and a file is said for
-- any points (request A.9); the share printer's are document 01's.
-- Assumes nothing.
use Rattle.std.specs.Prelude.{List, [], ◌∷◌, ℕ, ◌*◌, ltb, eqb, length, take}
use Rattle.lists.specs.Tests.{pick, alls}
use Rattle.lists.specs.Lists.{fit}
use Rattle.number_lines.specs.Lines.{line}
use Rattle.sizes.specs.declared.Sizes.{Sizes}
use Rattle.sizes.specs.Sizing.{legal, α, stripes}
use Rattle.mbcr.specs.Share.{standard, pointed}
use Rattle.board_spec.specs.Text.{decimal, text_line, share_text}
use Rattle.board_spec.specs.Calls.{BoardOutcome, share_call}

-- "one line `refused=` with the number"
abbrev pub refused_line : ℕ → List ℕ
refused_line x = text_line (0x72 ∷ 0x65 ∷ 0x66 ∷ 0x75 ∷ 0x73 ∷ 0x65 ∷ 0x64 ∷ []) (decimal x)

-- "more than 16,384 file bytes give 3"
abbrev pub max_file : ℕ
max_file = 16384

-- what a call answers, as text: that of the bytes which it wrote
abbrev pub told : Sizes → List ℕ → ℕ → ℕ → BoardOutcome → List ℕ
told z xs L node o = pick (eqb o.answer.refusal 0) (share_text z xs L node (take o.answer.reported o.output)) (refused_line o.answer.refusal)

-- "one share of a file", into room for it
unfoldable pub shared : Sizes → List ℕ → ℕ → List ℕ → List ℕ
shared z xs node file = told z xs (length file) node (share_call z xs node file (fit (stripes z (length file) * α z) []))

-- sizes or points that are not taken, then a file too long, then the call
abbrev pub answered : Sizes → List ℕ → ℕ → List ℕ → List ℕ
answered z xs node file = pick (alls (legal z ∷ pointed z xs ∷ [])) (pick (ltb max_file (length file)) (refused_line 3) (shared z xs node file)) (refused_line 1)

-- "the lines n=, k=, d=, r=, node= in that form"; the first argument is what a malformed line gives
abbrev pub five_lines : {A : Type 0} → A → List ℕ → (Sizes → ℕ → List ℕ → A) → A
five_lines bad input go =
    line bad (0x6E ∷ 0x3D ∷ []) input (λ n input.
    line bad (0x6B ∷ 0x3D ∷ []) input (λ k input.
    line bad (0x64 ∷ 0x3D ∷ []) input (λ d input.
    line bad (0x72 ∷ 0x3D ∷ []) input (λ r input.
    line bad (0x6E ∷ 0x6F ∷ 0x64 ∷ 0x65 ∷ 0x3D ∷ []) input (λ node input.
    go (record { n = n; k = k; d = d; r = r }) node input)))))

-- "reads from standard input the lines n=, k=, d=, r=, node= in that form and then the file's bytes to the end"; "a malformed line gives 1"
unfoldable pub printed : List ℕ → List ℕ
printed input = five_lines (refused_line 1) input (λ z node file. answered z (standard z) node file)
