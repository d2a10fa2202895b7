-- Sums of rows: a turn of the loop, and what the sums of Lagrange's rows are.
-- Assumes nothing.
use mathlib.Core.Path.{◌≡◌, refl, sym, ap, ap₂, ◌∙◌}
use mathlib.Core.List.{List, [], ◌∷◌}
use Prim.Native.Nat.{ℕ, zero, suc, ◌+◌, ◌*◌, ◌-◌, ◌%◌, ◌<◌, ◌≤◌}
use native.Mathlib.Nat.{mod-lt}
use native.Mathlib.Numerals.{add-one}
use native.Mathlib.Omega.{arith}
use lib.ListN.{length, get_or, take, drop, length-take, length-drop}
use Rattle.lists.specs.Lists.{Bytes, tabulate}
use Rattle.lists.proofs.Alls.{Distinct}
use Rattle.lists.proofs.Boards.{distinct-different}
use Rattle.lists.proofs.Pieces.{length-tabulate, tabulate-at, tabulate-ext, part-piece, piece-at}
use Rattle.gf256.specs.Field.{add, mul, add_scaled}
use Rattle.polynomial.specs.Polynomial.{eval, interpolate, sum}
use Rattle.mbcr.specs.Share.{point, points}
use Rattle.mbcr.proofs.Points.{length-points}
use Rattle.lagrange.specs.Steps.{weight}
use Rattle.lagrange.proofs.Lagrange.{lagrange}
use Rattle.row_dots.proofs.Rows.{sum-suc, sum_same}
use Rattle.lagrange_rows.specs.Steps.{lagrange_rows}
use Rattle.lagrange_rows.proofs.Weights.{lagrange-at}
use Rattle.row_values.specs.Steps.{row_sums, turned}

-- ---- the loop

-- the sum of the first t rows
unfoldable pub sums_to : ℕ → ℕ → List ℕ → List ℕ → List ℕ
sums_to t L values rows = tabulate L (λ m. sum t (λ s. mul (get_or values s 0) (get_or rows (s * 32 + m) 0)))

added : (c : ℕ) (row : List ℕ) (L : ℕ) (f : ℕ → ℕ) → L ≤ length row → add_scaled c row (tabulate L f) ≡ tabulate L (λ m. add (f m) (mul c (get_or row m 0)))
added c [] zero f h = refl
added c [] (suc L) f h = absurd (omega arith)
added c (x ∷ row) zero f h = refl
added c (x ∷ row) (suc L) f h = ap {B = List ℕ} (λ l. add (f 0) (mul c x) ∷ l) (added c row L (λ i. f (suc i)) (omega arith))

pub sums-start : (L n : ℕ) (values rows out : List ℕ) → out ≡ tabulate n (λ j. 0) → n ≡ L → out ≡ sums_to 0 L values rows
unfolding sums_to
sums-start L n values rows out e h = e ∙ ap (λ (i : ℕ). tabulate i (λ j. 0)) h

pub sums-turn : (t L : ℕ) (values rows out out' : List ℕ) → L ≤ 32 → t * 32 + 32 ≤ length rows → out ≡ sums_to t L values rows
    → out' ≡ add_scaled (get_or values t 0) (take (t * 32 + 32 - t * 32) (drop (t * 32) rows)) out → out' ≡ sums_to (t + 1) L values rows
unfolding sums_to
sums-turn t L values rows out out' l h e e' =
    let row : List ℕ = take (t * 32 + 32 - t * 32) (drop (t * 32) rows) in
    let f : ℕ → ℕ → ℕ = λ m s. mul (get_or values s 0) (get_or rows (s * 32 + m) 0) in
    let at : (m : ℕ) → m < 32 → get_or row m 0 ≡ get_or rows (t * 32 + m) 0 =
    λ m k. ap (λ (q : List ℕ). get_or q m 0) (part-piece 32 t rows) ∙ piece-at 32 t rows m 0 k in
    e' ∙ ap (add_scaled (get_or values t 0) row) e
    ∙ added (get_or values t 0) row L (λ m. sum t (f m)) (simp (length-take, length-drop) (omega arith))
    ∙ tabulate-ext L (λ m. add (sum t (f m)) (mul (get_or values t 0) (get_or row m 0))) (λ m. sum (t + 1) (f m))
    (λ m k. ap (λ (b : ℕ). add (sum t (f m)) (mul (get_or values t 0) b)) (at m (omega arith)) ∙ sym (sum-suc t (f m)) ∙ ap (λ (i : ℕ). sum i (f m)) (sym (add-one t)))

pub sums-end : (t L n : ℕ) (values rows out : List ℕ) → t ≡ length values → L ≡ n → out ≡ sums_to t L values rows → out ≡ row_sums n values rows
unfolding sums_to row_sums
sums-end t L n values rows out e h i =
    i ∙ ap₂ {C = List ℕ} (λ (s m : ℕ). tabulate m (λ m. sum s (λ s. mul (get_or values s 0) (get_or rows (s * 32 + m) 0)))) e h

-- ---- what the sums are

-- a polynomial at the point of each board
pub sums-values : (pts boards vs rows : List ℕ) (L : ℕ) → rows ≡ lagrange_rows pts boards → L ≤ 32 → length boards ≡ length vs
    → Bytes (points pts boards) → Distinct (points pts boards) → Bytes vs
    → row_sums L vs rows ≡ tabulate L (λ m. eval (interpolate (points pts boards) vs) (point pts m))
unfolding row_sums
sums-values pts boards vs rows L er h l bx dx bv =
    let n : length (points pts boards) ≡ length boards = length-points pts boards in
    tabulate-ext L (λ m. sum (length vs) (λ t. mul (get_or vs t 0) (get_or rows (t * 32 + m) 0))) (λ m. eval (interpolate (points pts boards) vs) (point pts m))
    (λ m k. sum_same (length vs) (λ t. mul (get_or vs t 0) (get_or rows (t * 32 + m) 0)) (λ t. mul (get_or vs t 0) (weight (points pts boards) t (point pts m)))
    (λ t q. ap (mul (get_or vs t 0)) (ap (λ (r : List ℕ). get_or r (t * 32 + m) 0) er ∙ lagrange-at pts boards t m (omega arith) (omega arith)))
    ∙ ap (λ (i : ℕ). sum i (λ t. mul (get_or vs t 0) (weight (points pts boards) t (point pts m)))) (sym (n ∙ l))
    ∙ sym (lagrange.value (points pts boards) vs (point pts m) (n ∙ l) bx bv (distinct-different (points pts boards) dx)))

pub length-sums : (L : ℕ) (vs rows : List ℕ) → length (row_sums L vs rows) ≡ L
unfolding row_sums
length-sums L vs rows = length-tabulate L (λ m. sum (length vs) (λ t. mul (get_or vs t 0) (get_or rows (t * 32 + m) 0)))

pub turned-values : (n i m L : ℕ) (f : ℕ → ℕ) → 0 < n → n ≤ L → turned n i m (tabulate L f) ≡ tabulate m (λ t. f ((i + t) % n))
unfolding turned
turned-values n i m L f z h =
    tabulate-ext m (λ t. get_or (tabulate L f) ((i + t) % n) 0) (λ t. f ((i + t) % n))
    (λ t k. tabulate-at L f 0 ((i + t) % n) (omega (arith, mod-lt (i + t) {m = n} z)))
