-- The line of a combination, piece by piece; it has at most 40 bytes.
-- Assumes nothing.
use mathlib.Core.List.{List, [], ◌∷◌, ◌++◌}
use Prim.Native.Nat.{ℕ, ◌+◌, ◌/◌, ◌≤◌, ◌<◌}
use native.Mathlib.Nat.{div-add-mod'}
use native.Mathlib.Decide.{dec_lt}
use native.Mathlib.Omega.{arith}
use lib.ListN.{length, length-append}
use Rattle.sizes.specs.declared.Sizes.{Sizes}
use Rattle.sizes.specs.Sizing.{α, B}
use Rattle.sizes.proofs.Legal.{Legal, B-most}
use Rattle.board_spec.specs.Text.{decimal}
use Rattle.text_lines.proofs.Decimals.{length-one, length_more}
use Rattle.text_lines.proofs.Writes.{less}
use Rattle.size_list.specs.Combinations.{named, row}

module _ (z : Sizes) where
  abbrev pub to_n : List ℕ
  to_n = named (0x6E ∷ 0x3D ∷ []) z.n

  abbrev pub to_k : List ℕ
  to_k = to_n ++ named (0x20 ∷ 0x6B ∷ 0x3D ∷ []) z.k

  abbrev pub to_d : List ℕ
  to_d = to_k ++ named (0x20 ∷ 0x64 ∷ 0x3D ∷ []) z.d

  abbrev pub to_r : List ℕ
  to_r = to_d ++ named (0x20 ∷ 0x72 ∷ 0x3D ∷ []) z.r

  abbrev pub to_share : List ℕ
  to_share = to_r ++ named (0x20 ∷ 0x73 ∷ 0x68 ∷ 0x61 ∷ 0x72 ∷ 0x65 ∷ 0x3D ∷ []) (α z)

  abbrev pub to_stripe : List ℕ
  to_stripe = to_share ++ named (0x20 ∷ 0x73 ∷ 0x74 ∷ 0x72 ∷ 0x69 ∷ 0x70 ∷ 0x65 ∷ 0x3D ∷ []) (B z)

two_digits : (x : ℕ) → x < 100 → length (decimal x) ≤ 2
two_digits x h = go (dec_lt x 10)
  where
    go : Dec (x < 10) → length (decimal x) ≤ 2
    go (yes l) = omega (arith, length-one x l)
    go (no l) = omega (arith, length_more x (omega arith), length-one (x / 10) (omega (arith, div-add-mod' x 10)))

three-digits : (x : ℕ) → x < 1000 → length (decimal x) ≤ 3
three-digits x h = go (dec_lt x 10)
  where
    go : Dec (x < 10) → length (decimal x) ≤ 3
    go (yes l) = omega (arith, length-one x l)
    go (no l) = omega (arith, length_more x (omega arith), two_digits (x / 10) (omega (arith, div-add-mod' x 10)))

pub row-most : (z : Sizes) → Legal z → length (row z) ≤ 40
unfolding row
row-most z f =
    let n : length (decimal z.n) ≤ 2 = two_digits z.n (omega (arith, f.few)) in
    let k : length (decimal z.k) ≤ 2 = two_digits z.k (omega (arith, f.few, f.enough, f.read-helpers)) in
    let d : length (decimal z.d) ≤ 2 = two_digits z.d (omega (arith, f.few, f.enough)) in
    let r : length (decimal z.r) ≤ 2 = two_digits z.r (omega (arith, f.few, f.enough)) in
    let share : length (decimal (α z)) ≤ 2 = two_digits (α z) (omega (arith, f.few, f.enough, f.some-fresh)) in
    let stripe : length (decimal (B z)) ≤ 3 = three-digits (B z) (omega (arith, B-most z f)) in
    simp length-append (omega arith)

-- where there is room for 40 bytes, there is for each piece
pub record Rooms (z : Sizes) (at m : ℕ) : Type 0 where
  pub n : at + length (to_n z) ≤ m
  pub k : at + length (to_k z) ≤ m
  pub d : at + length (to_d z) ≤ m
  pub r : at + length (to_r z) ≤ m
  pub share : at + length (to_share z) ≤ m
  pub stripe : at + length (to_stripe z) ≤ m
  pub whole : at + length (to_stripe z ++ (0x0A ∷ [])) ≤ m

pub rooms : (z : Sizes) (at m : ℕ) → Legal z → at + 40 ≤ m → Rooms z at m
unfolding row
rooms z at m f h =
    let h7 : at + length (to_stripe z ++ (0x0A ∷ [])) ≤ m = omega (arith, row-most z f) in
    let h6 = less (to_stripe z) _ at m h7 in
    let h5 = less (to_share z) _ at m h6 in
    let h4 = less (to_r z) _ at m h5 in
    let h3 = less (to_d z) _ at m h4 in
    let h2 = less (to_k z) _ at m h3 in
    record { n = less (to_n z) _ at m h2; k = h2; d = h3; r = h4; share = h5; stripe = h6; whole = h7 }
