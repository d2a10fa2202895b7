-- What is made of rows that stand in a longer array: the tables of their multiples, and the coefficients of the highest powers.
-- Assumes nothing.
use mathlib.Core.Path.{◌≡◌, sym, ap, ◌∙◌}
use mathlib.Core.List.{List}
use Prim.Native.Nat.{ℕ, ◌+◌, ◌*◌, ◌-◌, ◌≤◌}
use native.Mathlib.Omega.{arith}
use lib.ListN.{length, take, drop}
use borrow.Rule.Slice.PartMut.{put_mid}
use Rattle.lists.specs.Lists.{tabulate, join, fit, put}
use Rattle.mbcr.specs.Share.{points}
use Rattle.mbcr.proofs.Points.{length-points}
use Rattle.decode_laws.specs.Steps.{cell, seed_rows, unit_rows, top_rows}
use Rattle.decode_laws.proofs.Loops.{back-part}
use Rattle.decode_tables.proofs.Made.{units-are, tops-made}
use Rattle.setup_rows.specs.Steps.{tables_of}
use Rattle.setup_rows.proofs.Parts.{put-part}

-- the tables of their multiples
pub tables-put : (at d : ℕ) (xs zs rows l out : List ℕ) → rows ≡ seed_rows d xs → length rows ≡ d * 32
    → out ≡ tables_of d (take (d * 32 - 0) (drop 0 (put_mid 0 (d * 32 - 0) zs rows))) → length out ≡ d * 512
    → put_mid at (at + d * 512 - at) l out ≡ put l at (tables_of d (seed_rows d xs))
tables-put at d xs zs rows l out er lr eo lo =
    put-part at (d * 512) l out lo ∙ ap (put l at) (eo ∙ ap (tables_of d) (back-part (d * 32) zs rows lr ∙ er))

-- the coefficients of the highest powers
pub tops-put : (at k : ℕ) (xs bs zs rows l out : List ℕ) → length bs ≤ 32 → rows ≡ seed_rows (length bs) (points xs bs) → length rows ≡ length bs * 32
    → out ≡ join (length bs - k) (λ i. fit 32 (tabulate (length bs) (λ s. cell (take (length bs * 32 - 0) (drop 0 (put_mid 0 (length bs * 32 - 0) zs rows))) s (k + i))))
    → length out ≡ (length bs - k) * 32
    → put_mid at (at + (length bs - k) * 32 - at) l out ≡ put l at (top_rows k (points xs bs))
tops-put at k xs bs zs rows l out few er lr eo lo =
    let ps : List ℕ = points xs bs in
    let lp : length ps ≡ length bs = length-points xs bs in
    let e : rows ≡ unit_rows ps = er ∙ ap (λ (m : ℕ). seed_rows m ps) (sym lp) ∙ units-are ps in
    let t : out ≡ top_rows k ps =
    eo ∙ ap (λ (l : List ℕ). join (length bs - k) (λ i. fit 32 (tabulate (length bs) (λ s. cell l s (k + i))))) (back-part (length bs * 32) zs rows lr ∙ e)
    ∙ ap (λ (m : ℕ). join (m - k) (λ i. fit 32 (tabulate m (λ s. cell (unit_rows ps) s (k + i))))) (sym lp)
    ∙ tops-made k ps (omega (arith, lp, few)) in
    put-part at ((length bs - k) * 32) l out lo ∙ ap (put l at) t

-- rows for as many boards as there are coefficients
pub units-put : (at w : ℕ) (xs bs ts l out : List ℕ) → bs ≡ ts → length ts ≡ w → out ≡ put l at (tables_of w (seed_rows w (points xs bs)))
    → out ≡ put l at (tables_of w (unit_rows (points xs ts)))
units-put at w xs bs ts l out eb lt eo =
    eo ∙ ap (λ (v : List ℕ). put l at (tables_of w v))
    (ap (λ (v : List ℕ). seed_rows w (points xs v)) eb ∙ ap (λ (m : ℕ). seed_rows m (points xs ts)) (sym (length-points xs ts ∙ lt)) ∙ units-are (points xs ts))
