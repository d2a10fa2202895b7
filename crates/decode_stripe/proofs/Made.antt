-- Parts of tables and of lists of boards, as the borrow checker has them.
-- Assumes nothing.
use mathlib.Core.Path.{◌≡◌, ap, ap₂, ◌∙◌}
use mathlib.Core.List.{List, ◌++◌}
use Prim.Native.Nat.{ℕ, ◌+◌, ◌*◌, ◌-◌, ◌<◌, ◌≤◌}
use native.Mathlib.Nat.{sub-zero, mul-le-mul}
use native.Mathlib.Omega.{arith}
use lib.ListN.{length, get_or, take, drop, length-append, length-drop, take-append-drop}
use lib.Seq.{take_at, length-take-le}
use borrow.Rule.Slice.PartMut.{put_mid}
use Rattle.lists.specs.Lists.{All, Bytes, tabulate, join, fit}
use Rattle.lists.proofs.Pieces.{length-join, length-fit}
use Rattle.sizes.specs.declared.Sizes.{Sizes}
use Rattle.sizes.proofs.Legal.{Legal}
use Rattle.polynomial.specs.Polynomial.{interpolate}
use Rattle.lagrange.specs.Steps.{unit}
use Rattle.mbcr.specs.Share.{DifferentPoints, points}
use Rattle.mbcr.specs.Rebuild.{own_g}
use Rattle.mbcr.proofs.Points.{Boards, boards-left}
use Rattle.decode_laws.specs.Steps.{g_row, values_of, factor_rows, held_at, Placed, unit_rows, top_rows, tops_of, seeds, seed_rows}
use Rattle.decode_laws.proofs.Held.{g-tops}

-- the first boards of a list
pub first-boards : (z : Sizes) (m : ℕ) (l : List ℕ) → Boards z l → Boards z (take m l)
first-boards z m l b = boards-left z (take m l) (drop m l) (rw (take-append-drop m l) b)

-- ---- lengths

rows_of : (m : ℕ) (f : ℕ → List ℕ) → length (join m (λ t. fit 32 (f t))) ≡ m * 32
rows_of m f = length-join m 32 (λ t. fit 32 (f t)) (λ t h. length-fit 32 (f t))

pub length-units : (xs : List ℕ) → length (unit_rows xs) ≡ length xs * 32
unfolding unit_rows
length-units xs = rows_of (length xs) (λ t. interpolate xs (unit (length xs) t))

pub length-seed-rows : (d : ℕ) (xs : List ℕ) → length (seed_rows d xs) ≡ d * 32
unfolding seed_rows
length-seed-rows d xs = rows_of d (λ s. interpolate xs (seeds xs s))

pub length-tops : (k : ℕ) (xs : List ℕ) → length (top_rows k xs) ≡ (length xs - k) * 32
unfolding top_rows
length-tops k xs = rows_of (length xs - k) (λ i. tabulate (length xs) (λ s. get_or (interpolate xs (unit (length xs) s)) (k + i) 0))

-- k and d are at most 31
pub square-few : (z : Sizes) → Legal z → z.k * z.d ≤ 961
square-few z f =
    let h : z.d ≤ 31 = omega (arith, f.some-fresh, f.enough, f.few) in
    let q : z.k ≤ 31 = omega (arith, f.read-helpers) in
    let p : z.k * z.d ≤ 31 * 31 = mul-le-mul q h in
    omega arith

-- values put to the beginning of a longer list
pub values-long : (q : ℕ) (vg vals l : List ℕ) → length vg ≡ 1024 → q ≤ 1024 → vals ≡ l → length l ≡ q → length (put_mid 0 (q - 0) vg vals) ≡ 1024
values-long q vg vals l lg h ev e = length-append vals (drop (q - 0) vg) ∙ ap₂ ◌+◌ (ap length ev ∙ e) (length-drop (q - 0) vg) ∙ omega (arith, sub-zero q)

-- the coefficients of g from them
pub tops-part : (z : Sizes) (xs : List ℕ) → (legal : Legal z) → DifferentPoints z xs → (bs : List ℕ) → All (λ i. i < z.n) bs → length bs ≡ z.k
    → (starts bytes : List ℕ) → length starts ≡ z.k → (s : ℕ) → Placed z starts bytes (s + 1) → Bytes bytes
    → (gf gs : List ℕ) → gf ≡ factor_rows z xs z.d bs
    → gs ≡ join (length starts) (λ t. g_row (z.d + z.r) (take (z.d + z.r + (z.d - 1)) (drop (get_or starts t 0 + s * (z.d + z.r + (z.d - 1))) bytes)))
    → (m : ℕ) → z.d ≤ m → m ≤ 32 → (targets : List ℕ) → Boards z (take z.d targets) → length (take z.d targets) ≡ z.d
    → (q : ℕ) (tr vg vals tp : List ℕ) → tr ≡ top_rows z.k (points xs (take z.d targets))
    → vals ≡ values_of z.n z.d m bs (take (z.d - 0) (drop 0 targets)) gf gs → tp ≡ tops_of (z.d - z.k) z.k z.d m tr (put_mid 0 (q - 0) vg vals)
    → (i t : ℕ) → i < z.d - z.k → t < z.k → get_or tp (i * z.k + t) 0 ≡ get_or (own_g z xs (get_or bs t 0) (held_at z starts bytes s t)) (z.k + i) 0
tops-part z xs legal pts bs known lb starts bytes ls s placed bb gf gs ef es m lm hm targets boards l_c q tr vg vals tp er ev et i t hi ht =
    ap (λ (l : List ℕ). get_or l (i * z.k + t) 0) (et ∙ ap (λ (l : List ℕ). tops_of (z.d - z.k) z.k z.d m l (vals ++ drop (q - 0) vg)) er)
    ∙ g-tops z xs legal pts bs known lb starts bytes ls s placed bb gf gs ef es m lm hm (take z.d targets) boards l_c vals (drop (q - 0) vg)
    (ev ∙ ap (λ (n : ℕ). values_of z.n z.d m bs (take n targets) gf gs) (sub-zero z.d)) i t hi ht

-- as much of a list as is lent
pub part-long : (m : ℕ) (l : List ℕ) → m ≤ length l → length (take (m - 0) (drop 0 l)) ≡ m
part-long m l h = ap (λ (v : ℕ). length (take v l)) (sub-zero m) ∙ length-take-le m l h

-- the first rows, put in place, again
pub first_rows : (k : ℕ) (rows cf : List ℕ) → length cf ≡ k * 32 → take (k * 32) (put_mid 0 (k * 32 - 0) rows cf) ≡ cf
first_rows k rows cf l = take_at cf _ (k * 32) l

-- and as many rows as before
pub rows-still : (k d : ℕ) (rows cf : List ℕ) → k ≤ d → length rows ≡ d * 32 → length cf ≡ k * 32 → length (put_mid 0 (k * 32 - 0) rows cf) ≡ d * 32
rows-still k d rows cf h l e = length-append cf (drop (k * 32 - 0) rows) ∙ ap₂ ◌+◌ e (length-drop (k * 32 - 0) rows) ∙ omega (arith, sub-zero (k * 32))
