-- The loops over a row and over the rows: a turn of each, and its start or end.
-- Assumes nothing.
use mathlib.Core.Path.{◌≡◌, refl, sym, ap, ap₂, ◌∙◌}
use mathlib.Core.List.{List, [], ◌∷◌, ◌++◌}
use Prim.Native.Nat.{ℕ, zero, suc, ◌+◌, ◌*◌, ◌-◌, ◌<◌, ◌≤◌}
use native.Mathlib.Numerals.{add-one}
use native.Mathlib.Omega.{arith}
use lib.Bits.{bit_xor}
use lib.ListN.{length, get_or, take, drop, set, drop_of_length-le}
use lib.Seq.{ext_get_or}
use Rattle.lists.specs.Lists.{tabulate, piece}
use Rattle.lists.proofs.Pieces.{length-tabulate, tabulate-at, tabulate-ext, length-piece, piece-at}
use Rattle.gf256.specs.Field.{add, mul}
use Rattle.polynomial.specs.Polynomial.{eval, plus, scale}
use Rattle.polynomial.proofs.Poly.{eval-drop}
use Rattle.polynomial.proofs.Linear.{plus-at, scale_at, length-plus, length-scale}

-- for j in 0 .. n: acc[j] = row[j] + x acc[j]
row_step : (x : ℕ) (row acc : List ℕ) (j : ℕ) → j < length row → j < length acc
    → let new : List ℕ = set acc j (add (get_or row j 0) (mul x (get_or acc j 0))) in
    take (suc j) new ++ plus (drop (suc j) row) (scale x (drop (suc j) new)) ≡ take j acc ++ plus (drop j row) (scale x (drop j acc))
row_step x [] acc j h k = absurd (omega arith)
row_step x (c ∷ row) [] j h k = absurd (omega arith)
row_step x (c ∷ row) (a ∷ acc) zero h k = refl
row_step x (c ∷ row) (a ∷ acc) (suc j) h k = ap {B = List ℕ} (λ l. a ∷ l) (row_step x row acc j (omega arith) (omega arith))

-- the same as code has it; y is the factor of which the multiples are made
pub row-turn : (x y : ℕ) (row acc acc₀ : List ℕ) (j t : ℕ) → j < length row → j < length acc → y ≡ x → t ≡ mul y (get_or acc j 0)
    → take j acc ++ plus (drop j row) (scale x (drop j acc)) ≡ acc₀
    → let new : List ℕ = set acc j (bit_xor (get_or row j 0) t) in take (j + 1) new ++ plus (drop (j + 1) row) (scale x (drop (j + 1) new)) ≡ acc₀
unfolding add
row-turn x y row acc acc₀ j t h k ey et e =
    let et' : t ≡ mul x (get_or acc j 0) = cc in
    rw (add-one j, et') (row_step x row acc j h k ∙ e)

pub row-end : (x : ℕ) (row acc : List ℕ) (j : ℕ) → length row ≡ length acc → length acc ≤ j → take j acc ++ plus (drop j row) (scale x (drop j acc)) ≡ acc
row-end x [] [] zero l h = refl
row-end x [] [] (suc j) l h = refl
row-end x [] (a ∷ acc) j l h = absurd (omega arith)
row-end x (c ∷ row) [] j l h = absurd (omega arith)
row-end x (c ∷ row) (a ∷ acc) zero l h = absurd (omega arith)
row-end x (c ∷ row) (a ∷ acc) (suc j) l h = ap {B = List ℕ} (λ l. a ∷ l) (row-end x row acc j (omega arith) (omega arith))

-- ---- the loop over the rows

-- the coefficients for byte m
abbrev pub coefficients : List ℕ → ℕ → ℕ → List ℕ
coefficients rows d m = tabulate d (λ i. get_or rows (i * 32 + m) 0)

-- the values of the coefficients from the i-th on
abbrev pub values_from : List ℕ → ℕ → ℕ → ℕ → List ℕ
values_from rows x d i = tabulate 32 (λ m. eval (drop i (coefficients rows d m)) x)

pub values-none : (rows : List ℕ) (x d : ℕ) → tabulate 32 (λ _. 0) ≡ values_from rows x d d
values-none rows x d =
    tabulate-ext 32 (λ _. 0) (λ m. eval (drop d (coefficients rows d m)) x)
    (λ m h. ap (λ (p : List ℕ). eval p x) (sym (drop_of_length-le (coefficients rows d m) {i = d} (omega (arith, length-tabulate d (λ i. get_or rows (i * 32 + m) 0))))))

pub values-turn : (rows : List ℕ) (x d i : ℕ) (row acc new : List ℕ) → 0 < i → i ≤ d → d * 32 ≤ length rows → row ≡ piece 32 (i - 1) rows
    → acc ≡ values_from rows x d i → new ≡ plus row (scale x acc) → new ≡ values_from rows x d (i - 1)
values-turn rows x d i row acc new h k l er ea en =
    let j : ℕ = i - 1 in
    let s : suc j ≡ i = omega arith in
    let lr : length row ≡ 32 = ap length er ∙ length-piece 32 j rows (omega arith) in
    let la : length acc ≡ 32 = ap length ea ∙ length-tabulate 32 (λ m. eval (drop i (coefficients rows d m)) x) in
    let lp : length (plus row (scale x acc)) ≡ 32 = length-plus row (scale x acc) (lr ∙ sym (length-scale x acc ∙ la)) ∙ lr in
    en ∙ ext_get_or 0 (plus row (scale x acc)) (values_from rows x d j) (lp ∙ sym (length-tabulate 32 (λ m. eval (drop j (coefficients rows d m)) x)))
    (λ m b. let hm : m < 32 = omega arith in
    plus-at row (scale x acc) m
    ∙ ap₂ add
    (ap (λ (t : List ℕ). get_or t m 0) er ∙ piece-at 32 j rows m 0 hm ∙ sym (tabulate-at d (λ i. get_or rows (i * 32 + m) 0) 0 j (omega arith)))
    (scale_at x acc m ∙ ap (mul x) (ap (λ (t : List ℕ). get_or t m 0) ea ∙ tabulate-at 32 (λ m. eval (drop i (coefficients rows d m)) x) 0 m hm
    ∙ ap (λ (e : ℕ). eval (drop e (coefficients rows d m)) x) (sym s)))
    ∙ sym (eval-drop (coefficients rows d m) j x)
    ∙ sym (tabulate-at 32 (λ m. eval (drop j (coefficients rows d m)) x) 0 m hm))
