-- The lengths of a line and of the whole text, which depend on the length of the share alone.
-- Assumes nothing.
use mathlib.Core.Path.{◌≡◌, ap, ◌∙◌}
use mathlib.Core.List.{List, [], ◌∷◌, ◌++◌}
use Prim.Native.Nat.{ℕ, ◌+◌, ◌*◌, ◌≤◌, ◌<◌}
use native.Mathlib.Nat.{zero-add}
use native.Mathlib.Omega.{arith}
use lib.ListN.{length, drop, set, length-append}
use Rattle.lists.specs.Lists.{put, joined, over}
use Rattle.sizes.specs.declared.Sizes.{Sizes}
use Rattle.board_spec.specs.Text.{decimal, hex_pair, text_line, points_line, share_text}
use Rattle.text_lines.specs.Steps.{Wrote}
use Rattle.text_lines.proofs.Writes.{length_pairs, room, then, more, less}

-- a line, with the value's length apart
pub length-line : (name value : List ℕ) → length (text_line name value) ≡ length name + length value + 2
length-line name value = simp length-append (omega arith)

-- a line is written: its name and =, the value, byte 0A
module _ (l : List ℕ) (at : ℕ) (name value : List ℕ) (fits : at + length (text_line name value) ≤ length l) where
  pub line-front : {l1 l2 : List ℕ} {e e2 : ℕ} → Wrote l at name l1 e → Wrote (set l1 e 0x3D) (e + 1) value l2 e2
      → Wrote l at (name ++ (0x3D ∷ []) ++ value) l2 e2
  line-front v w =
      let f = less (name ++ (0x3D ∷ []) ++ value) (0x0A ∷ []) at (length l) fits in
      then (more v 0x3D (less (name ++ (0x3D ∷ [])) value at (length l) f)) w f

  module _ {l2 : List ℕ} {e2 : ℕ} (w : Wrote l at (name ++ (0x3D ∷ []) ++ value) l2 e2) where
    pub line-room : e2 < length l2
    line-room = omega (arith, room w (0x0A ∷ []) fits)

    pub line : Wrote l at (text_line name value) (set l2 e2 0x0A) (e2 + 1)
    line = more w 0x0A fits

-- the lines of a text up to each
module _ (z : Sizes) where
  abbrev pub to_n : List ℕ
  to_n = text_line (0x6E ∷ []) (decimal z.n)

  abbrev pub to_k : List ℕ
  to_k = to_n ++ text_line (0x6B ∷ []) (decimal z.k)

  abbrev pub to_d : List ℕ
  to_d = to_k ++ text_line (0x64 ∷ []) (decimal z.d)

  abbrev pub to_r : List ℕ
  to_r = to_d ++ text_line (0x72 ∷ []) (decimal z.r)

  abbrev pub to_node : ℕ → List ℕ
  to_node node = to_r ++ text_line (0x6E ∷ 0x6F ∷ 0x64 ∷ 0x65 ∷ []) (decimal node)

  abbrev pub to_length : ℕ → ℕ → List ℕ
  to_length L node = to_node node ++ text_line (0x6C ∷ 0x65 ∷ 0x6E ∷ 0x67 ∷ 0x74 ∷ 0x68 ∷ []) (decimal L)

  abbrev pub to_points : List ℕ → ℕ → ℕ → List ℕ
  to_points xs L node = to_length L node ++ points_line z xs

  abbrev pub to_data : List ℕ → ℕ → ℕ → List ℕ → List ℕ
  to_data xs L node share = to_points xs L node ++ text_line (0x64 ∷ 0x61 ∷ 0x74 ∷ 0x61 ∷ []) (joined hex_pair share)

-- where there is room for the text, there is for the lines up to each
pub record Rooms (z : Sizes) (xs : List ℕ) (L node : ℕ) (share : List ℕ) (m : ℕ) : Type 0 where
  pub n : 0 + length (to_n z) ≤ m
  pub k : 0 + length (to_k z) ≤ m
  pub d : 0 + length (to_d z) ≤ m
  pub r : 0 + length (to_r z) ≤ m
  pub node-too : 0 + length (to_node z node) ≤ m
  pub length-too : 0 + length (to_length z L node) ≤ m
  pub points-too : 0 + length (to_points z xs L node) ≤ m
  pub data-too : 0 + length (to_data z xs L node share) ≤ m

module _ (z : Sizes) (xs : List ℕ) (L node : ℕ) (share : List ℕ) where
  pub rooms : (m : ℕ) → length (share_text z xs L node share) ≤ m → Rooms z xs L node share m
  unfolding share_text
  rooms m h =
      let h8 : 0 + length (to_data z xs L node share) ≤ m = omega arith in
      let h7 = less (to_points z xs L node) _ 0 m h8 in
      let h6 = less (to_length z L node) _ 0 m h7 in
      let h5 = less (to_node z node) _ 0 m h6 in
      let h4 = less (to_r z) _ 0 m h5 in
      let h3 = less (to_d z) _ 0 m h4 in
      let h2 = less (to_k z) _ 0 m h3 in
      record { n = less (to_n z) _ 0 m h2; k = h2; d = h3; r = h4; node-too = h5; length-too = h6; points-too = h7; data-too = h8 }

  pub length-text : length (share_text z xs L node share)
      ≡ 32 + (length (decimal z.n) + length (decimal z.k) + length (decimal z.d) + length (decimal z.r)) + length (decimal node) + length (decimal L)
      + length (points_line z xs) + length share * 2
  unfolding share_text
  length-text = simp length-append (omega (arith, length_pairs share))

-- bytes written from the start
pub from_start : {l a l1 : List ℕ} {e : ℕ} → Wrote l 0 a l1 e → l1 ≡ over a l
unfolding put
from_start {l = l} {a = a} w = w.written ∙ ap (λ (m : ℕ). a ++ drop m l) (zero-add (length a))
