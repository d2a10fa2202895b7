-- Bytes, and others behind them with 00 behind those.
-- Assumes nothing.
use mathlib.Core.Path.{◌≡◌, sym, ap, ap₂, ◌∙◌}
use mathlib.Core.List.{List, [], ◌∷◌, ◌++◌, append-nil}
use Prim.Native.Nat.{ℕ, ◌+◌, ◌-◌, ◌≤◌}
use native.Mathlib.Nat.{zero-add, suc-add}
use native.Mathlib.Omega.{arith}
use lib.ListN.{length, take, drop, length-take, length-drop, drop_of_length-le}
use lib.Seq.{take_at, drop_at}
use borrow.Rule.Slice.PartMut.{put_mid}
use Rattle.lists.specs.Lists.{fit}

-- bytes first, and others with 00 behind them
pub fit_append : (a b : List ℕ) (m : ℕ) → fit (length a + m) (a ++ b) ≡ a ++ fit m b
fit_append [] b m = ap (λ (n : ℕ). fit n b) (zero-add m)
fit_append (x ∷ a) b m = ap (λ (n : ℕ). fit n (x ∷ (a ++ b))) (suc-add (length a) m) ∙ ap {B = List ℕ} (λ l. x ∷ l) (fit_append a b m)

-- k bytes put first, and others with 00 behind them
pub upper-made : (k : ℕ) (out a b bs ys zs : List ℕ) → length out ≡ 32 → k ≤ 32 → length a ≡ k → ys ≡ a → bs ≡ b
    → zs ≡ fit (length (take (32 - k) (drop k (put_mid 0 (k - 0) out ys)))) bs → put_mid k (32 - k) (put_mid 0 (k - 0) out ys) zs ≡ fit 32 (a ++ b)
upper-made k out a b bs ys zs lo h la ey eb ez =
    let rest : List ℕ = drop (k - 0) out in
    let front : take k (put_mid 0 (k - 0) out ys) ≡ a = ap (λ (l : List ℕ). take k (l ++ rest)) ey ∙ take_at a rest k la in
    let back : drop k (put_mid 0 (k - 0) out ys) ≡ rest = ap (λ (l : List ℕ). drop k (l ++ rest)) ey ∙ drop_at a rest k la in
    let lr : length rest ≡ 32 - k = simp length-drop (omega (arith, lo, h)) in
    let lt : length (take (32 - k) rest) ≡ 32 - k = simp length-take (omega (arith, lr)) in
    let lz : length (take (32 - k) (drop k (put_mid 0 (k - 0) out ys))) ≡ 32 - k = ap (λ (l : List ℕ). length (take (32 - k) l)) back ∙ lt in
    let none : drop (32 - k) (drop k (put_mid 0 (k - 0) out ys)) ≡ [] = ap (drop (32 - k)) back ∙ drop_of_length-le rest {i = 32 - k} (omega (arith, lr)) in
    let all : length a + (32 - k) ≡ 32 = omega (arith, la, h) in
    ap₂ {C = List ℕ} (λ (x y : List ℕ). x ++ (zs ++ y)) front none
    ∙ ap (λ (l : List ℕ). a ++ l) (append-nil zs ∙ ez ∙ ap₂ {C = List ℕ} (λ (n : ℕ) (l : List ℕ). fit n l) lz eb)
    ∙ sym (fit_append a b (32 - k)) ∙ ap (λ (n : ℕ). fit n (a ++ b)) all
