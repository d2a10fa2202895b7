-- Sums of rows of powers are values; rows of 32 bytes.
-- Assumes nothing.
use mathlib.Core.Path.{◌≡◌, sym, ap, fun_ext, ◌∙◌}
use mathlib.Core.List.{List, ◌++◌, map}
use Prim.Native.Nat.{ℕ, ◌+◌, ◌*◌, ◌-◌, ◌<◌, ◌≤◌}
use native.Mathlib.Omega.{arith}
use lib.ListN.{length, get_or, take, drop, length-drop, length-append}
use lib.Seq.{take-append-le, drop-append-le}
use borrow.Rule.Slice.PartMut.{put_mid}
use Rattle.lists.specs.Lists.{Bytes, join, piece, fit}
use Rattle.lists.proofs.Pieces.{tabulate-ext, tabulate-map, join-ext, length-join, piece-join, piece-at, length-piece, piece_bytes, map_at}
use Rattle.gf256.specs.Field.{mul}
use Rattle.polynomial.specs.Polynomial.{eval, evals, sum, power}
use Rattle.polynomial.proofs.Linear.{eval-fit}
use Rattle.polynomial.proofs.Sums.{eval-sum}
use Rattle.powers.specs.Steps.{power_row}
use Rattle.powers.proofs.Turns.{length-power_row}
use Rattle.row_dots.proofs.Rows.{sum_same}
use Rattle.row_values.specs.Steps.{row_sums}
use Rattle.edit_powers.specs.Steps.{powers_of}

-- ---- sums

module _ (xs : List ℕ) (lx : length xs ≡ 32) where
  -- byte m of the row of t-th powers
  power-byte : (t m : ℕ) → t < 32 → m < 32 → get_or (join 32 (power_row xs)) (t * 32 + m) 0 ≡ power (get_or xs m 0) t
  power-byte t m ht hm =
      sym (piece-at 32 t (join 32 (power_row xs)) m 0 hm)
      ∙ ap (λ (l : List ℕ). get_or l m 0) (piece-join 32 32 (power_row xs) (λ j h. length-power_row xs j ∙ lx) t ht)
      ∙ map_at (λ x. power x t) xs m (omega (arith, hm, lx))

  -- coefficients times rows of powers
  pub sums-evals : (cs powers : List ℕ) → powers ≡ powers_of xs → length cs ≤ 32 → Bytes cs → row_sums 32 cs powers ≡ evals cs xs
  unfolding row_sums powers_of
  sums-evals cs powers ep h b =
      tabulate-ext 32 (λ m. sum (length cs) (λ t. mul (get_or cs t 0) (get_or powers (t * 32 + m) 0))) (λ m. eval cs (get_or xs m 0))
      (λ m k. sum_same (length cs) (λ t. mul (get_or cs t 0) (get_or powers (t * 32 + m) 0)) (λ t. mul (get_or cs t 0) (power (get_or xs m 0) t))
      (λ t q. ap (mul (get_or cs t 0)) (ap (λ (l : List ℕ). get_or l (t * 32 + m) 0) ep ∙ power-byte t m (omega (arith, q, h)) k))
      ∙ sym (eval-sum (length cs) cs (get_or xs m 0) (omega arith) b))
      ∙ tabulate-map (λ x. eval cs x) 32 xs 0 lx

  -- of rows of coefficients
  pub values-made : (count : ℕ) (rows powers : List ℕ) → count ≤ 32 → length rows ≡ 1024 → Bytes rows → powers ≡ powers_of xs
      → join count (λ t. row_sums 32 (piece 32 t rows) powers) ≡ join count (λ t. evals (piece 32 t rows) xs)
  values-made count rows powers h lr b ep =
      join-ext count (λ t. row_sums 32 (piece 32 t rows) powers) (λ t. evals (piece 32 t rows) xs)
      (λ t k. sums-evals (piece 32 t rows) powers ep (omega (arith, length-piece 32 t rows (omega (arith, k, h, lr)))) (piece_bytes 32 t rows b))

-- coefficients 00 behind the others
pub evals-fit : (m : ℕ) (p xs : List ℕ) → ((i : ℕ) → m ≤ i → get_or p i 0 ≡ 0) → evals (fit m p) xs ≡ evals p xs
evals-fit m p xs h = ap (λ (f : ℕ → ℕ). map f xs) (fun_ext (λ x. eval-fit m p x h))

-- ---- rows of 32 bytes

-- a row, where something stands behind all of them
pub row_first : (n : ℕ) (f : ℕ → List ℕ) (rest : List ℕ) → ((i : ℕ) → i < n → length (f i) ≡ 32) → (t : ℕ) → t < n → piece 32 t (join n f ++ rest) ≡ f t
unfolding piece
row_first n f rest long t h =
    let lj : length (join n f) ≡ n * 32 = length-join n 32 f long in
    ap (take 32) (drop-append-le (t * 32) (join n f) rest (omega (arith, lj, h)))
    ∙ take-append-le 32 (drop (t * 32) (join n f)) rest (omega (arith, lj, h, length-drop (t * 32) (join n f)))
    ∙ piece-join n 32 f long t h

-- bytes put over as many at the beginning
pub put-long : (m : ℕ) (l ys : List ℕ) → m ≤ length l → length ys ≡ m → length (put_mid 0 (m - 0) l ys) ≡ length l
put-long m l ys h e =
    let g : length (ys ++ drop (m - 0) l) ≡ length l = omega (arith, length-append ys (drop (m - 0) l), length-drop (m - 0) l, h, e) in
    g
