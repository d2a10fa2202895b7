-- What a loop in place keeps: what is done, before what is left to do, is the answer. Laws of a turn and of an end.
-- Assumes nothing.
use mathlib.Core.Path.{◌≡◌, refl, ap, ◌∙◌}
use mathlib.Core.List.{List, [], ◌∷◌, ◌++◌}
use Prim.Native.Nat.{ℕ, zero, suc, ◌<◌, ◌≤◌, ◌+◌}
use native.Mathlib.Numerals.{add-one}
use native.Mathlib.Omega.{arith}
use lib.ListN.{length, get_or, take, drop, set}
use Rattle.lists.specs.Lists.{tabulate}
use Rattle.lists.proofs.Pieces.{tabulate-at}
use Rattle.gf256.specs.Field.{add, mul, inverse}
use Rattle.polynomial.specs.Polynomial.{stepped, slope, slopes}

-- the loop of `step`, at its end
pub step_end : (a : ℕ) (q : List ℕ) (j : ℕ) → length q ≤ suc j → take j q ++ stepped a (drop j q) ≡ q
step_end a [] zero h = refl
step_end a [] (suc j) h = refl
step_end a (v ∷ []) zero h = refl
step_end a (v ∷ c ∷ q) zero h = absurd (omega arith)
step_end a (v ∷ q) (suc j) h = ap {B = List ℕ} (λ l. v ∷ l) (step_end a q j (omega arith))

-- for j in 0 .. n: w[j] = (w[j] - v) / (y[j] - a)
pub slopes-turn : (a v : ℕ) (ys ws : List ℕ) (j : ℕ) → j < length ys → j < length ws
    → take (suc j) (set ws j (slope a v (get_or ys j 0) (get_or ws j 0))) ++ slopes a v (drop (suc j) ys) (drop (suc j) (set ws j (slope a v (get_or ys j 0) (get_or ws j 0))))
    ≡ take j ws ++ slopes a v (drop j ys) (drop j ws)
slopes-turn a v [] ws j h k = absurd (omega arith)
slopes-turn a v (y ∷ ys) [] j h k = absurd (omega arith)
slopes-turn a v (y ∷ ys) (w ∷ ws) zero h k = refl
slopes-turn a v (y ∷ ys) (w ∷ ws) (suc j) h k = ap {B = List ℕ} (λ l. w ∷ l) (slopes-turn a v ys ws j (omega arith) (omega arith))

-- the turn as code has it
pub slopes-loop : (a v : ℕ) (ys ws ws₀ : List ℕ) (j d n u r : ℕ) → j < length ys → j < length ws
    → d ≡ add (get_or ys j 0) a → n ≡ inverse d → u ≡ add (get_or ws j 0) v → r ≡ mul u n
    → take j ws ++ slopes a v (drop j ys) (drop j ws) ≡ ws₀ → take (j + 1) (set ws j r) ++ slopes a v (drop (j + 1) ys) (drop (j + 1) (set ws j r)) ≡ ws₀
slopes-loop a v ys ws ws₀ j d n u r h k ed en eu er e =
    let er' : r ≡ slope a v (get_or ys j 0) (get_or ws j 0) = cc in
    rw (add-one j, er') (slopes-turn a v ys ws j h k ∙ e)

-- a table of what f is at each place
pub table_at : (f : ℕ → ℕ) (m : ℕ) (t : List ℕ) (i : ℕ) → t ≡ tabulate m f → i < m → get_or t i 0 ≡ f i
table_at f m t i e h = ap (λ (l : List ℕ). get_or l i 0) e ∙ tabulate-at m f 0 i h
