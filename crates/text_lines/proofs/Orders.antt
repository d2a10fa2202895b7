-- Points in order, and out of it.
-- Assumes nothing.
use mathlib.Core.Path.{◌≡◌, refl, sym, ap, ◌∙◌}
use mathlib.Core.Bool.{Bool, true, false}
use mathlib.Core.Logic.{◌≢◌}
use mathlib.Core.List.{List, [], ◌∷◌}
use Prim.Native.Nat.{ℕ, ◌+◌, ◌*◌, ◌≤◌, ◌<◌}
use native.Mathlib.Decide.{dec_lt}
use native.Mathlib.Omega.{arith}
use lib.ListN.{length, get_or, take}
use lib.Seq.{length-take-le, ext_get_or}
use Rattle.lists.specs.Tests.{pick, same}
use Rattle.lists.specs.Lists.{tabulate, joined}
use Rattle.lists.proofs.Pieces.{length-tabulate, tabulate-at}
use Rattle.lists.proofs.Tests.{same-eq, same_refl, is_false}
use Rattle.sizes.specs.declared.Sizes.{Sizes}
use Rattle.board_spec.specs.Text.{hex_pair, text_line, points_line}
use Rattle.text_lines.specs.Steps.{in_order, points_said}
use Rattle.text_lines.proofs.Writes.{length_pairs}
use Rattle.text_lines.proofs.Lines.{length-line}

-- each point before this place is its place
abbrev pub Passed : List ℕ → ℕ → Type 0
Passed points i = (t : ℕ) → t < i → get_or points t 0 ≡ t

pub passed-one : (points : List ℕ) (i : ℕ) → Passed points i → get_or points i 0 ≡ i → Passed points (i + 1)
passed-one points i h e t l = go (dec_lt t i)
  where
    go : Dec (t < i) → get_or points t 0 ≡ t
    go (yes k) = h t k
    go (no k) = let q : t ≡ i = omega arith in rw q e

module _ (points : List ℕ) where
  abbrev numbers : List ℕ
  numbers = tabulate (length points) (λ i. i)

  pub ordered : Passed points (length points) → in_order points ≡ true
  ordered h =
      let all : points ≡ numbers =
      ext_get_or 0 points numbers (sym (length-tabulate (length points) (λ i. i))) (λ i l. h i l ∙ sym (tabulate-at (length points) (λ i. i) 0 i l)) in
      ap (same points) (sym all) ∙ same_refl points

  pub unordered : (i : ℕ) → i < length points → get_or points i 0 ≢ i → in_order points ≡ false
  unordered i h e =
      is_false (in_order points) (λ q. e (ap (λ (l : List ℕ). get_or l i 0) (same-eq points numbers q) ∙ tabulate-at (length points) (λ i. i) 0 i h))

  pub unsaid : in_order points ≡ true → points_said points ≡ []
  unsaid e = rw e

  pub said : in_order points ≡ false → points_said points ≡ text_line (0x70 ∷ 0x6F ∷ 0x69 ∷ 0x6E ∷ 0x74 ∷ 0x73 ∷ []) (joined hex_pair points)
  said e = rw e

  pub length-said : in_order points ≡ false → length (points_said points) ≡ 8 + length points * 2
  length-said e = ap length (said e) ∙ length-line (0x70 ∷ 0x6F ∷ 0x69 ∷ 0x6E ∷ 0x74 ∷ 0x73 ∷ []) (joined hex_pair points) ∙ omega (arith, length_pairs points)

  pub said-most : length (points_said points) ≤ 8 + length points * 2
  said-most = go (in_order points) refl
    where
      go : (t : Bool) → in_order points ≡ t → length (points_said points) ≤ 8 + length points * 2
      go true e = omega (arith, ap length (unsaid e))
      go false e = omega (arith, length-said e)

-- the line of a share's text
pub points-line : (z : Sizes) (xs : List ℕ) → z.n ≤ length xs → points_line z xs ≡ points_said (take z.n xs)
unfolding points_line
points-line z xs h =
    ap (λ (m : ℕ). pick (same (take z.n xs) (tabulate m (λ i. i))) [] (text_line (0x70 ∷ 0x6F ∷ 0x69 ∷ 0x6E ∷ 0x74 ∷ 0x73 ∷ []) (joined hex_pair (take z.n xs))))
    (sym (length-take-le z.n xs h))
