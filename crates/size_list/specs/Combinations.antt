-- Request A.12, all sizes for the order form: the list of legal combinations up to a limit, a line for each, and the program's output.
-- Assumes nothing.
use Rattle.std.specs.Prelude.{Bool, true, false, List, [], ◌∷◌, ◌++◌, map, ℕ, zero, suc, ◌-◌, eqb, leb}
use Rattle.lists.specs.Tests.{pick, alls}
use Rattle.lists.specs.Lists.{concat}
use Rattle.number_lines.specs.Lines.{line}
use Rattle.sizes.specs.declared.Sizes.{Sizes}
use Rattle.sizes.specs.Sizing.{max_boards, α, B}
use Rattle.board_spec.specs.Text.{decimal}
use Rattle.printer.specs.Printer.{refused_line}

-- what f gives for a, a + 1, .. , for m numbers, one after another
abbrev pub each : {A : Type 0} → ℕ → ℕ → (ℕ → List A) → List A
each a zero f = []
each a (suc m) f = f a ++ each (suc a) m f

-- "every legal combination .. in rising order of n, k, d, r, for n up to a limit": n from 2 to N, k from 1 to n − 1, d from k to n − 1, r from 1
-- to n − d
unfoldable pub combinations : ℕ → List Sizes
combinations N =
    each 2 (N - 1) (λ n.
    each 1 (n - 1) (λ k.
    each k (n - k) (λ d.
    each 1 (n - d) (λ r.
    record { n = n; k = k; d = d; r = r } ∷ []))))

-- a name with its =, and a number
abbrev pub named : List ℕ → ℕ → List ℕ
named name v = name ++ decimal v

-- "one line each, n= k= d= r= share= stripe=, separated by single spaces": "share is α and stripe is B"
unfoldable pub row : Sizes → List ℕ
row z =
    named (0x6E ∷ 0x3D ∷ []) z.n
    ++ named (0x20 ∷ 0x6B ∷ 0x3D ∷ []) z.k
    ++ named (0x20 ∷ 0x64 ∷ 0x3D ∷ []) z.d
    ++ named (0x20 ∷ 0x72 ∷ 0x3D ∷ []) z.r
    ++ named (0x20 ∷ 0x73 ∷ 0x68 ∷ 0x61 ∷ 0x72 ∷ 0x65 ∷ 0x3D ∷ []) (α z)
    ++ named (0x20 ∷ 0x73 ∷ 0x74 ∷ 0x72 ∷ 0x69 ∷ 0x70 ∷ 0x65 ∷ 0x3D ∷ []) (B z)
    ++ (0x0A ∷ [])

abbrev pub rows : List Sizes → List ℕ
rows l = concat (map row l)

abbrev pub none : List ℕ → Bool
none [] = true
none (b ∷ l) = false

-- "a limit read as one line, a decimal in the share printer's form; a limit outside 2 to 32, or any other input": the limit, or 0 for what is refused
unfoldable pub limit : List ℕ → ℕ
limit input = line 0 [] input (λ v behind. pick (alls (leb 2 v ∷ leb v max_boards ∷ none behind ∷ [])) v 0)

-- "prints refused=1"
unfoldable pub listed : List ℕ → List ℕ
listed input = pick (eqb (limit input) 0) (refused_line 1) (rows (combinations (limit input)))
