-- Sums of power rows are values: a polynomial's coefficients times the rows of the powers of points are its values at the points.
-- Assumes nothing.
use mathlib.Core.Path.{◌≡◌, refl, sym, ap, ap₂, ◌∙◌}
use mathlib.Core.List.{List, [], ◌∷◌, ◌++◌}
use Prim.Native.Nat.{ℕ, zero, suc, ◌+◌, ◌*◌, ◌-◌, ◌<◌, ◌≤◌}
use native.Mathlib.Nat.{add-mul, mul-le-mul_right}
use native.Mathlib.Omega.{arith}
use lib.ListN.{length, get_or, take, drop, replicate, length-map, length-take, length-drop, length-append}
use lib.Seq.{ext_get_or, drop-drop, get_or-drop, take_all}
use Rattle.lists.specs.Lists.{Bytes, tabulate, piece}
use Rattle.lists.proofs.Alls.{append-all, drop-alls}
use Rattle.lists.proofs.Pieces.{length-tabulate, tabulate-at, map_at, length-piece, piece_bytes}
use Rattle.sizes.proofs.Legal.{row_fits}
use Rattle.gf256.specs.Field.{add, mul}
use Rattle.polynomial.specs.Polynomial.{plus, scale, eval, evals, sum, power}
use Rattle.polynomial.proofs.Linear.{plus-at, scale_at}
use Rattle.polynomial.proofs.Sums.{eval-sum, sum-ext}
use Rattle.row_sums.specs.Steps.{multiples, Tabled, Wide, combined}
use Rattle.row_sums.proofs.Tables.{length-combined, plus_assoc, zeros-plus}
use Rattle.powers.specs.Steps.{power_row, power_rows}
use Rattle.powers.proofs.Turns.{powers-wide}

none-at : (n m : ℕ) → get_or {A = ℕ} (replicate n 0) m 0 ≡ 0
none-at zero m = refl
none-at (suc n) zero = refl
none-at (suc n) (suc m) = none-at n m

-- byte m of a sum of rows
combined-at : (cs : List ℕ) (n : ℕ) (f : ℕ → List ℕ) (m : ℕ) → length cs ≤ n
    → get_or (combined cs (tabulate n f)) m 0 ≡ sum (length cs) (λ i. mul (get_or cs i 0) (get_or (f i) m 0))
combined-at [] n f m h = none-at 32 m
combined-at (c ∷ cs) zero f m h = absurd (omega arith)
combined-at (c ∷ cs) (suc n) f m h =
    plus-at (scale c (f 0)) (combined cs (tabulate n (λ i. f (suc i)))) m
    ∙ ap₂ add (scale_at c (f 0) m) (combined-at cs n (λ i. f (suc i)) m (omega arith))

-- the sum of power rows
pub values-sum : (p xs : List ℕ) (w : ℕ) → length xs ≡ 32 → length p ≤ w → Bytes p → combined p (power_rows xs w) ≡ evals p xs
values-sum p xs w l h b =
    let le : length (evals p xs) ≡ 32 = length-map xs (λ x. eval p x) ∙ l in
    let lc : length (combined p (power_rows xs w)) ≡ 32 = length-combined p (power_rows xs w) (powers-wide xs w l) in
    ext_get_or 0 (combined p (power_rows xs w)) (evals p xs) (lc ∙ sym le)
    (λ m k. let mx : m < length xs = omega arith in
    combined-at p w (power_row xs) m h
    ∙ sum-ext (length p) (λ i. mul (get_or p i 0) (get_or (power_row xs i) m 0)) (λ i. mul (get_or p i 0) (power (get_or xs m 0) i))
    (λ i. ap (mul (get_or p i 0)) (map_at (λ x. power x i) xs m mx))
    ∙ sym (eval-sum (length p) p (get_or xs m 0) (omega arith) b)
    ∙ sym (map_at (λ x. eval p x) xs m mx))

-- a sum in two parts
pub combined-append : (p q : List ℕ) (rows : List (List ℕ)) → Wide rows → length p ≤ length rows
    → combined (p ++ q) rows ≡ plus (combined p rows) (combined q (drop (length p) rows))
combined-append [] q rows w h = sym (zeros-plus 32 (combined q rows) (length-combined q rows w))
combined-append (c ∷ p) q [] w h = absurd (omega arith)
combined-append (c ∷ p) q (row ∷ rows) w h =
    ap (plus (scale c row)) (combined-append p q rows w.1 (omega arith)) ∙ sym (plus_assoc (scale c row) (combined p rows) (combined q (drop (length p) rows)))

-- the tables from row k on
pub tabled-drop : (rows : List (List ℕ)) (tables : List ℕ) (k : ℕ) → Tabled rows tables → Tabled (drop k rows) (drop (k * 512) tables)
unfolding piece
tabled-drop rows tables k t i h =
    ap (take 512) (drop-drop (i * 512) (k * 512) tables ∙ ap (λ (m : ℕ). drop m tables) (sym (add-mul k i 512)))
    ∙ t (k + i) (omega (arith, length-drop k rows)) ∙ ap multiples (sym (get_or-drop k rows i []))

-- the tables of fewer rows
pub tabled-fewer : (xs tables : List ℕ) (k w : ℕ) → k ≤ w → Tabled (power_rows xs w) tables → Tabled (power_rows xs k) tables
tabled-fewer xs tables k w h t i l =
    let hk : i < k = omega (arith, length-tabulate k (power_row xs)) in
    t i (omega (arith, length-tabulate w (power_row xs)))
    ∙ ap multiples (tabulate-at w (power_row xs) [] i (omega arith) ∙ sym (tabulate-at k (power_row xs) [] i hk))

-- ---- one row of the first k, and what its places are

-- where the i-th of k runs of m elements ends
pub run_end : (i k m : ℕ) → i < k → k ≤ 32 → m ≤ 32 → (i * m + m ≤ k * m) × (k * m ≤ 1024)
run_end i k m h hk hm =
    let p : k * m ≤ 32 * m = mul-le-mul_right m hk in
    (row_fits i k m h, omega arith)

-- the i-th run of m elements behind the first o
pub part-behind : (o m i : ℕ) (u : List ℕ) → take (o + i * m + m - (o + i * m)) (drop (o + i * m) u) ≡ piece m i (drop o u)
unfolding piece
part-behind o m i u =
    let e : o + i * m + m - (o + i * m) ≡ m = omega arith in
    ap (λ (v : ℕ). take v (drop (o + i * m) u)) e ∙ ap (take m) (sym (drop-drop (i * m) o u))

pub part-most : (o m i : ℕ) (u : List ℕ) → length (take (o + i * m + m - (o + i * m)) (drop (o + i * m) u)) ≤ m
part-most o m i u = simp length-take (omega arith)

-- the tables from row k on, as a part that goes to the end
pub tabled-rest : (rows : List (List ℕ)) (tables : List ℕ) (k : ℕ) → Tabled rows tables
    → Tabled (drop k rows) (take (length tables - k * 512) (drop (k * 512) tables))
tabled-rest rows tables k t i h =
    ap (piece 512 i) (take_all (length tables - k * 512) (drop (k * 512) tables) (omega (arith, length-drop (k * 512) tables))) ∙ tabled-drop rows tables k t i h

-- the two sums of a row are its values
pub upper_is : (xs u : List ℕ) (k w i : ℕ) (p q a b r : List ℕ) → Bytes u → length xs ≡ 32 → i < k → k ≤ w → w ≤ 32 → k * k + k * (w - k) ≤ length u
    → p ≡ piece k i u → q ≡ piece (w - k) i (drop (k * k) u) → a ≡ combined p (power_rows xs w) → b ≡ combined q (drop k (power_rows xs w)) → r ≡ plus a b
    → r ≡ evals (piece k i u ++ piece (w - k) i (drop (k * k) u)) xs
upper_is xs u k w i p q a b r hu lx hi hk hw lu ep eq ea eb er =
    let p' : List ℕ = piece k i u in
    let q' : List ℕ = piece (w - k) i (drop (k * k) u) in
    let lp : length p' ≡ k = length-piece k i u (omega (arith, row_fits i k k hi)) in
    let lq : length q' ≡ w - k = length-piece (w - k) i (drop (k * k) u) (omega (arith, row_fits i k (w - k) hi, length-drop (k * k) u)) in
    let rows : List (List ℕ) = power_rows xs w in
    let lr : length rows ≡ w = length-tabulate w (power_row xs) in
    er ∙ ap₂ plus (ea ∙ ap (λ (l : List ℕ). combined l rows) ep) (eb ∙ ap₂ combined eq (ap (λ (m : ℕ). drop m rows) (sym lp)))
    ∙ sym (combined-append p' q' rows (powers-wide xs w lx) (omega arith))
    ∙ values-sum (p' ++ q') xs w lx (omega (arith, length-append p' q'))
    (append-all (λ b. b < 256) p' q' (piece_bytes k i u hu) (piece_bytes (w - k) i (drop (k * k) u) (drop-alls (λ b. b < 256) (k * k) u hu)))

-- row i of the first k
abbrev pub upper_values : List ℕ → ℕ → ℕ → List ℕ → ℕ → List ℕ
upper_values xs k w u i = evals (piece k i u ++ piece (w - k) i (drop (k * k) u)) xs

pub length-values : (p xs : List ℕ) → length xs ≡ 32 → length (evals p xs) ≡ 32
length-values p xs l = length-map xs (λ x. eval p x) ∙ l

pub length-upper : (xs : List ℕ) (k w : ℕ) (u : List ℕ) (i : ℕ) → length xs ≡ 32 → length (upper_values xs k w u i) ≡ 32
length-upper xs k w u i l = length-values (piece k i u ++ piece (w - k) i (drop (k * k) u)) xs l

piece-most : (w s : ℕ) (l : List ℕ) → length (piece w s l) ≤ w
unfolding piece
piece-most w s l = simp length-take (omega arith)

-- the sum over a run of coefficients
pub run-values : (xs u : List ℕ) (k i : ℕ) (p r : List ℕ) → Bytes u → length xs ≡ 32 → p ≡ piece k i u → r ≡ combined p (power_rows xs k)
    → r ≡ evals (piece k i u) xs
run-values xs u k i p r hu lx ep er =
    er ∙ ap (λ (l : List ℕ). combined l (power_rows xs k)) ep
    ∙ values-sum (piece k i u) xs k lx (piece-most k i u) (piece_bytes k i u hu)
