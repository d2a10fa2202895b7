-- What the factors give: the sum of values times them is the value of the polynomial through these values.
-- Assumes nothing.
use mathlib.Core.Path.{◌≡◌, refl, sym, ap, ap₂, ◌∙◌}
use mathlib.Core.Bool.{true}
use mathlib.Core.List.{List, [], ◌∷◌, ◌++◌}
use Prim.Native.Nat.{ℕ, zero, suc, ◌+◌, ◌*◌, ◌%◌, ◌<◌, ◌≤◌}
use native.Mathlib.Nat.{add_assoc, mod-lt, mod-add-mod}
use native.Mathlib.Omega.{arith}
use lib.ListN.{length, get_or, drop, get_or-eq_default}
use lib.Seq.{get_or-drop}
use Rattle.lists.specs.Tests.{below}
use Rattle.lists.specs.Lists.{Bytes, tabulate, fit}
use Rattle.lists.proofs.Alls.{Distinct, all-at, all-imp}
use Rattle.lists.proofs.Boards.{below_all, all-below, distinct-different}
use Rattle.lists.proofs.Pieces.{length-tabulate, tabulate-at, tabulate-ext, tabulate-all, length-fit, fit_at}
use Rattle.gf256.specs.Field.{mul}
use Rattle.gf256.proofs.Field.{mul_comm, mul-zero}
use Rattle.polynomial.specs.Polynomial.{eval, interpolate, sum}
use Rattle.mbcr.specs.Share.{point, points}
use Rattle.mbcr.proofs.Points.{length-points}
use Rattle.lagrange.specs.Steps.{weight}
use Rattle.lagrange.proofs.Lagrange.{lagrange}
use Rattle.row_dots.proofs.Rows.{sum_same, sum-cut, fit-zeros}
use Rattle.lagrange_rows.specs.Steps.{lagrange_rows}
use Rattle.lagrange_rows.proofs.Weights.{lagrange-at}
use Rattle.lagrange_factors.specs.Steps.{factors_for, factors_at, dot_of}

-- ---- boards modulo n

-- a turn of a loop over the boards from b on
pub board-turn : (b t n a a' : ℕ) → a ≡ (b + t) % n → a' ≡ (a + 1) % n → a' ≡ (b + (t + 1)) % n
board-turn b t n a a' e e' = e' ∙ ap (λ (m : ℕ). (m + 1) % n) e ∙ mod-add-mod (b + t) n 1 ∙ ap (λ (m : ℕ). m % n) (add_assoc b t 1)

pub boards-below : (n b m : ℕ) → b < n → n ≤ 32 → below 32 (tabulate m (λ t. (b + t) % n)) ≡ true
boards-below n b m h l =
    all-below 32 (tabulate m (λ t. (b + t) % n)) (tabulate-all (λ i. i < 32) m (λ t. (b + t) % n) (λ t k. omega (arith, mod-lt (b + t) {m = n} (omega arith))))

-- ---- a column of the rows

pub row_fits : (t m : ℕ) → t < m → t * 32 + 32 ≤ m * 32
row_fits t m h = omega arith

pub column-end : (f : ℕ → ℕ) (m L t : ℕ) (out₀ out : List ℕ) → t ≡ m → m ≤ L → out₀ ≡ tabulate L (λ j. 0) → out ≡ tabulate t f ++ drop t out₀
    → out ≡ fit L (tabulate m f)
column-end f m L t out₀ out e h z i =
    i ∙ ap₂ {C = List ℕ} (λ (s : ℕ) (l : List ℕ). tabulate s f ++ drop s l) e z
    ∙ ap (λ (s : ℕ). tabulate m f ++ drop s (tabulate L (λ j. 0))) (sym (length-tabulate m f))
    ∙ fit-zeros (tabulate m f) L (omega (arith, length-tabulate m f))

pub column-is : (pts boards rows out : List ℕ) (i L : ℕ) → i < 32 → rows ≡ lagrange_rows pts boards
    → out ≡ fit L (tabulate (length boards) (λ t. get_or rows (t * 32 + i) 0)) → out ≡ fit L (factors_at pts boards i)
unfolding factors_at
column-is pts boards rows out i L h er eo =
    eo ∙ ap (fit L) (tabulate-ext (length boards) (λ t. get_or rows (t * 32 + i) 0) (λ t. weight (points pts boards) t (point pts i))
    (λ t k. ap (λ (l : List ℕ). get_or l (t * 32 + i) 0) er ∙ lagrange-at pts boards t i k h))

-- ---- a sum of products is a value

-- by any factors that are Lagrange's where there are values
dot-value : (xs vs fs : List ℕ) (y : ℕ) → length xs ≡ length vs → Bytes xs → Bytes vs → Distinct xs → length xs ≤ length fs
    → ((t : ℕ) → t < length xs → get_or fs t 0 ≡ weight xs t y) → dot_of fs vs ≡ eval (interpolate xs vs) y
dot-value xs vs fs y l bx bv dx lf w =
    let f : ℕ → ℕ = λ t. mul (get_or fs t 0) (get_or vs t 0) in
    sum-cut (length xs) (length fs) f lf
    (λ t k. ap (mul (get_or fs t 0)) (get_or-eq_default vs 0 {n = t} (omega arith)) ∙ mul-zero (get_or fs t 0))
    ∙ sum_same (length xs) f (λ t. mul (get_or vs t 0) (weight xs t y))
    (λ t k. ap (λ (a : ℕ). mul a (get_or vs t 0)) (w t k) ∙ mul_comm (weight xs t y) (get_or vs t 0))
    ∙ sym (lagrange.value xs vs y l bx bv (distinct-different xs dx))

length-factors : (pts boards : List ℕ) (y : ℕ) → length (factors_for pts boards y) ≡ length boards
unfolding factors_for
length-factors pts boards y = length-tabulate (length boards) (λ t. weight (points pts boards) t y)

factor-at : (pts boards : List ℕ) (y t : ℕ) → t < length boards → get_or (factors_for pts boards y) t 0 ≡ weight (points pts boards) t y
unfolding factors_for
factor-at pts boards y t h = tabulate-at (length boards) (λ t. weight (points pts boards) t y) 0 t h

-- by the factors of boards for a byte, filled up with 00
pub factors-for : (pts boards vs fs : List ℕ) (y L : ℕ) → fs ≡ fit L (factors_for pts boards y) → length boards ≤ L → length boards ≡ length vs
    → Bytes (points pts boards) → Distinct (points pts boards) → Bytes vs → dot_of fs vs ≡ eval (interpolate (points pts boards) vs) y
factors-for pts boards vs fs y L ef h l bx dx bv =
    let n : length (points pts boards) ≡ length boards = length-points pts boards in
    let m : length fs ≡ L = ap length ef ∙ length-fit L (factors_for pts boards y) in
    dot-value (points pts boards) vs fs y (n ∙ l) bx bv dx (omega arith)
    (λ t k. ap (λ (q : List ℕ). get_or q t 0) ef ∙ fit_at L (factors_for pts boards y) t (omega arith) ∙ factor-at pts boards y t (omega arith))

-- the point of a board is one
pub factors-at : (pts boards : List ℕ) (i : ℕ) → factors_at pts boards i ≡ factors_for pts boards (point pts i)
unfolding factors_at factors_for
factors-at pts boards i = refl

pub factors-value : (pts boards vs fs : List ℕ) (i L : ℕ) → fs ≡ fit L (factors_at pts boards i) → length boards ≤ L → length boards ≡ length vs
    → Bytes (points pts boards) → Distinct (points pts boards) → Bytes vs → dot_of fs vs ≡ eval (interpolate (points pts boards) vs) (point pts i)
factors-value pts boards vs fs i L ef h l bx dx bv =
    factors-for pts boards vs fs (point pts i) L (ef ∙ ap (fit L) (factors-at pts boards i)) h l bx dx bv

-- of boards that were listed
pub near-made : (pts near out : List ℕ) (n j i m k L : ℕ) → near ≡ tabulate k (λ t. (j + t) % n) → k ≡ m → out ≡ fit L (factors_at pts near i)
    → out ≡ fit L (factors_at pts (tabulate m (λ t. (j + t) % n)) i)
near-made pts near out n j i m k L e h eo =
    eo ∙ ap (λ (l : List ℕ). fit L (factors_at pts l i)) (e ∙ ap (λ (q : ℕ). tabulate q (λ t. (j + t) % n)) h)

-- ---- 00 behind

zeros-at : (m j : ℕ) → get_or {A = ℕ} (tabulate m (λ j. 0)) j 0 ≡ 0
zeros-at zero j = refl
zeros-at (suc m) zero = refl
zeros-at (suc m) (suc j) = zeros-at m j

behind : (vs zs : List ℕ) → ((j : ℕ) → get_or zs j 0 ≡ 0) → (j : ℕ) → get_or (vs ++ zs) j 0 ≡ get_or vs j 0
behind [] zs h j = h j
behind (v ∷ vs) zs h zero = refl
behind (v ∷ vs) zs h (suc j) = behind vs zs h j

-- a row that is 00 behind its values counts as these
pub dot-row : (fs vs row row₀ : List ℕ) (m r : ℕ) → row₀ ≡ tabulate 32 (λ j. 0) → row ≡ vs ++ drop m row₀
    → r ≡ sum (length fs) (λ j. mul (get_or fs j 0) (get_or row j 0)) → r ≡ dot_of fs vs
dot-row fs vs row row₀ m r z e h =
    h ∙ sum_same (length fs) (λ j. mul (get_or fs j 0) (get_or row j 0)) (λ j. mul (get_or fs j 0) (get_or vs j 0))
    (λ j k. ap (mul (get_or fs j 0)) (ap (λ (l : List ℕ). get_or l j 0) e
    ∙ behind vs (drop m row₀) (λ i. get_or-drop m row₀ i 0 ∙ ap (λ (l : List ℕ). get_or l (m + i) 0) z ∙ zeros-at 32 (m + i)) j))

-- ---- boards of a list

pub board-below : (n : ℕ) (boards : List ℕ) (t : ℕ) → below n boards ≡ true → t < length boards → get_or boards t 0 < n
board-below n boards t h l = all-at (λ x. x < n) 0 boards (below_all n boards h) t l

pub below_more : (n m : ℕ) (boards : List ℕ) → n ≤ m → below n boards ≡ true → below m boards ≡ true
below_more n m boards l h = all-below m boards (all-imp (λ x. x < n) (λ x. x < m) (λ x e. omega arith) boards (below_all n boards h))
