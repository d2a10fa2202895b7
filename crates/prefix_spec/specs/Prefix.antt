-- Request A.14: 'How far a share text still makes sense': how many bytes of a text go along with some accepted text. It goes by the lines of a share text
-- (text_spec/specs/Texts.antt), and of each line by what may still stand there. specs/Laws.antt says what it is, without these lines.
-- Assumes nothing.
use Rattle.std.specs.Prelude.{Bool, true, false, not, List, [], ◌∷◌, ◌++◌, ℕ, zero, suc, ◌+◌, ◌*◌, ◌-◌, leb, eqb, get_or}
use Rattle.lists.specs.Tests.{pick, alls, same, different}
use Rattle.lists.specs.Lists.{tabulate}
use Rattle.number_lines.specs.Lines.{digit}
use Rattle.point_lines.specs.Lines.{hexadecimal, digit_value}
use Rattle.sizes.specs.declared.Sizes.{Sizes}
use Rattle.sizes.specs.Sizing.{max_boards, max_stripes, α, B, stripes}
use Rattle.text_spec.specs.Texts.{data_name}

-- a byte that may stand there, and what follows it; else nothing
abbrev pub on : Bool → ℕ → ℕ
on true count = suc count
on false count = 0

-- ---- a line: these bytes, a number from lo to hi, byte 0A; behind it as `go` says

abbrev pub name_on : List ℕ → List ℕ → (List ℕ → ℕ) → ℕ
name_on [] input go = go input
name_on (c ∷ name) [] go = 0
name_on (c ∷ name) (b ∷ input) go = on (eqb b c) (name_on name input go)

-- some number from lo to hi begins with the digits of v, or is v: at most one digit more is asked
unfoldable pub opens : ℕ → ℕ → ℕ → Bool
opens lo hi v = pick (alls (leb lo v ∷ leb v hi ∷ [])) true (alls (leb (10 * v) hi ∷ leb lo (10 * v + 9) ∷ []))

-- behind digits of which the number is v so far
abbrev pub digits_on : ℕ → ℕ → ℕ → List ℕ → (ℕ → List ℕ → ℕ) → ℕ
digits_on lo hi v [] go = 0
digits_on lo hi v (b ∷ input) go =
    pick (eqb b 0x0A) (on (leb lo v) (go v input))
    (on (alls (digit b ∷ opens lo hi (10 * v + (b - 0x30)) ∷ [])) (digits_on lo hi (10 * v + (b - 0x30)) input go))

-- behind a first digit 0
abbrev pub lone_on : List ℕ → (ℕ → List ℕ → ℕ) → ℕ
lone_on [] go = 0
lone_on (b ∷ input) go = on (eqb b 0x0A) (go 0 input)

abbrev pub number_on : ℕ → ℕ → List ℕ → (ℕ → List ℕ → ℕ) → ℕ
number_on lo hi [] go = 0
number_on lo hi (b ∷ input) go =
    pick (eqb b 0x30) (on (eqb lo 0) (lone_on input go))
    (on (alls (digit b ∷ opens lo hi (b - 0x30) ∷ [])) (digits_on lo hi (b - 0x30) input go))

abbrev pub line_on : ℕ → ℕ → List ℕ → List ℕ → (ℕ → List ℕ → ℕ) → ℕ
line_on lo hi name input go = name_on name input (λ input. number_on lo hi input go)

-- ---- pairs, by what may stand

-- some number below m passes the test
abbrev pub some : ℕ → (ℕ → Bool) → Bool
some zero p = false
some (suc m) p = pick (p m) true (some m p)

-- the second digit of a pair
abbrev pub low_on : (ℕ → Bool) → List ℕ → (ℕ → List ℕ → ℕ) → ℕ
low_on may [] go = 0
low_on may (b ∷ input) go = on (alls (hexadecimal b ∷ may (digit_value b) ∷ [])) (go (digit_value b) input)

-- a pair: `may` tells which bytes may stand there
abbrev pub pair_on : (ℕ → Bool) → List ℕ → (ℕ → List ℕ → ℕ) → ℕ
pair_on may [] go = 0
pair_on may (b ∷ input) go =
    on (alls (hexadecimal b ∷ some 16 (λ low. may (16 * digit_value b + low)) ∷ []))
    (low_on (λ low. may (16 * digit_value b + low)) input (λ low input. go (16 * digit_value b + low) input))

-- m pairs behind the bytes xs, and byte 0A: `may m xs` tells whether m pairs more can make a line of xs
abbrev pub pairs_on : (ℕ → List ℕ → Bool) → ℕ → List ℕ → List ℕ → (List ℕ → ℕ) → ℕ
pairs_on may zero xs input go = name_on (0x0A ∷ []) input go
pairs_on may (suc m) xs input go = pair_on (λ x. may m (xs ++ (x ∷ []))) input (λ x input. pairs_on may m (xs ++ (x ∷ [])) input go)

-- "n different bytes", "not 0 to n − 1 in order": while a pair is left, another byte can still be taken
abbrev pub may_point : ℕ → ℕ → List ℕ → Bool
may_point n m xs = alls (different xs ∷ pick (eqb m 0) (not (same xs (tabulate n (λ i. i)))) true ∷ [])

-- ---- the lines of a text

-- data=, of S × α bytes; nothing is behind it
abbrev pub data_on : Sizes → ℕ → List ℕ → ℕ
data_on z L input = name_on data_name input (λ input. pairs_on (λ m xs. true) (stripes z L * α z) [] input (λ rest. 0))

-- points= or not
unfoldable pub points_on : Sizes → ℕ → List ℕ → ℕ
points_on z L input =
    pick (eqb (get_or input 0 0) 0x70)
    (name_on (0x70 ∷ 0x6F ∷ 0x69 ∷ 0x6E ∷ 0x74 ∷ 0x73 ∷ 0x3D ∷ []) input (λ input. pairs_on (may_point z.n) z.n [] input (data_on z L)))
    (data_on z L input)

-- "the length of its longest beginning that also begins some accepted text, with points= or without". Of sizes that are legal, k is 1 to n − 1, d is k to
-- n − 1, and r is 1 to n − d.
unfoldable pub longest : List ℕ → ℕ
longest text =
    line_on 2 max_boards (0x6E ∷ 0x3D ∷ []) text (λ n input.
    line_on 1 (n - 1) (0x6B ∷ 0x3D ∷ []) input (λ k input.
    line_on k (n - 1) (0x64 ∷ 0x3D ∷ []) input (λ d input.
    line_on 1 (n - d) (0x72 ∷ 0x3D ∷ []) input (λ r input.
    line_on 0 (n - 1) (0x6E ∷ 0x6F ∷ 0x64 ∷ 0x65 ∷ 0x3D ∷ []) input (λ node input.
    line_on 0 (max_stripes * B (record { n = n; k = k; d = d; r = r })) (0x6C ∷ 0x65 ∷ 0x6E ∷ 0x67 ∷ 0x74 ∷ 0x68 ∷ 0x3D ∷ []) input (λ L input.
    points_on (record { n = n; k = k; d = d; r = r }) L input))))))
