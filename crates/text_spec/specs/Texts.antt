-- Request A.1, 'Shares come back from the workshop as text': what a share text tells, which texts are read, and how. "Accepted are just the texts that
-- the share-as-text call can write." Document 01, 'Share text', has the lines.
-- Assumes nothing.
use Rattle.std.specs.Prelude.{Bool, not, List, [], ◌∷◌, map, ℕ, zero, suc, ◌*◌, ltb, leb, eqb, length, get_or}
use Rattle.std.proofs.Math.Option.{Option, some, none}
use Rattle.lists.specs.Tests.{pick, alls, same}
use Rattle.lists.specs.Lists.{tabulate, concat, fit}
use Rattle.number_lines.specs.Lines.{line}
use Rattle.point_lines.specs.Lines.{read_name, read_pairs, read_points}
use Rattle.sizes.specs.declared.Sizes.{Sizes}
use Rattle.sizes.specs.Sizing.{max_boards, max_stripes, legal, α, B, stripes}
use Rattle.mbcr.specs.Share.{standard, pointed}
use Rattle.board_spec.specs.Text.{share_text}

-- what a share text tells
pub record ShareTold : Type 0 where
  pub sizes : Sizes
  pub points : List ℕ
  pub length : ℕ
  pub node : ℕ
  pub share : List ℕ

-- its text
abbrev pub text_of : ShareTold → List ℕ
text_of t = share_text t.sizes t.points t.length t.node t.share

-- texts one after another
abbrev pub texts_joined : List ShareTold → List ℕ
texts_joined ts = concat (map text_of ts)

-- sizes, a board and a length that a text may tell
unfoldable pub admitted : Sizes → ℕ → ℕ → Bool
admitted z node L = alls (legal z ∷ leb L (max_stripes * B z) ∷ ltb node z.n ∷ [])

-- what the share-as-text call can write
unfoldable pub writable : ShareTold → Bool
writable t =
    alls (admitted t.sizes t.node t.length ∷ pointed t.sizes t.points ∷ eqb (length t.share) (stripes t.sizes t.length * α t.sizes) ∷ [])

-- ---- one text, line by line: each part is read with what is to be done behind it, and the first argument is what another text gives

-- "n, k, d, r, node, length as decimals with no leading zero"
abbrev pub six_lines : {A : Type 0} → A → List ℕ → (Sizes → ℕ → ℕ → List ℕ → A) → A
six_lines bad input go =
    line bad (0x6E ∷ 0x3D ∷ []) input (λ n input.
    line bad (0x6B ∷ 0x3D ∷ []) input (λ k input.
    line bad (0x64 ∷ 0x3D ∷ []) input (λ d input.
    line bad (0x72 ∷ 0x3D ∷ []) input (λ r input.
    line bad (0x6E ∷ 0x6F ∷ 0x64 ∷ 0x65 ∷ 0x3D ∷ []) input (λ node input.
    line bad (0x6C ∷ 0x65 ∷ 0x6E ∷ 0x67 ∷ 0x74 ∷ 0x68 ∷ 0x3D ∷ []) input (λ L input.
    go (record { n = n; k = k; d = d; r = r }) node L input))))))

-- points that a line of points may give: n different bytes, "not 0 to n − 1 in order"
abbrev pub tellable : Sizes → List ℕ → Bool
tellable z xs = alls (pointed z (fit max_boards xs) ∷ not (same xs (tabulate z.n (λ i. i))) ∷ [])

-- "A share text has the line points=, n lower-case pairs, after length= just where the points are not 0 to n − 1 in order": no other line begins with p
unfoldable pub some_points : {A : Type 0} → A → Sizes → List ℕ → (List ℕ → List ℕ → A) → A
some_points bad z input go =
    pick (eqb (get_or input 0 0) 0x70) (read_points bad z.n input (λ xs input. pick (tellable z xs) (go (fit max_boards xs) input) bad)) (go (standard z) input)

-- data=
abbrev pub data_name : List ℕ
data_name = 0x64 ∷ 0x61 ∷ 0x74 ∷ 0x61 ∷ 0x3D ∷ []

-- "then data as lower-case hexadecimal pairs of the share", which has S × α bytes
abbrev pub data_line : {A : Type 0} → A → Sizes → ℕ → List ℕ → (List ℕ → List ℕ → A) → A
data_line bad z L input go = read_name bad data_name input (λ input. read_pairs bad (stripes z L * α z) input go)

-- a text that stands at the beginning, and what is behind it
pub record Found : Type 0 where
  pub told : ShareTold
  pub behind : List ℕ

abbrev pub found : Sizes → ℕ → ℕ → List ℕ → List ℕ → List ℕ → Option Found
found z node L xs share behind = some (record { told = record { sizes = z; points = xs; length = L; node = node; share = share }; behind = behind })

-- from the line of data on
abbrev pub data_at : Sizes → ℕ → ℕ → List ℕ → List ℕ → Option Found
data_at z node L xs input = data_line none z L input (found z node L xs)

-- from the line of points on
abbrev pub points_at : Sizes → ℕ → ℕ → List ℕ → Option Found
points_at z node L input = pick (admitted z node L) (some_points none z input (data_at z node L)) none

unfoldable pub text_at : List ℕ → Option Found
text_at input = six_lines none input points_at

-- ---- one text, and any number of them

-- a text with nothing behind it
abbrev pub whole : Option Found → Option ShareTold
whole none = none
whole (some f) = pick (eqb (length f.behind) 0) (some f.told) none

unfoldable pub read_text : List ℕ → Option ShareTold
read_text text = whole (text_at text)

abbrev pub before : ShareTold → Option (List ShareTold) → Option (List ShareTold)
before t none = none
before t (some ts) = some (t ∷ ts)

abbrev pub onward : Option Found → (List ℕ → Option (List ShareTold)) → Option (List ShareTold)
onward none go = none
onward (some f) go = before f.told (go f.behind)

-- no text where there are no bytes, and else these
abbrev pub or_no_text : List ℕ → Option (List ShareTold) → Option (List ShareTold)
or_no_text [] texts = some []
or_no_text (b ∷ input) texts = texts

-- at most m texts, one after another to the end
abbrev pub texts_up_to : ℕ → List ℕ → Option (List ShareTold)
texts_up_to zero input = or_no_text input none
texts_up_to (suc m) input = or_no_text input (onward (text_at input) (λ rest. texts_up_to m rest))

-- "texts, one after another in one lent slice": there are no more of them than bytes
unfoldable pub texts_of : List ℕ → Option (List ShareTold)
texts_of text = texts_up_to (length text) text
