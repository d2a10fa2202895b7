-- The last of a list put anew, and some number below another by the last of them.
-- Assumes nothing.
use mathlib.Core.Path.{◌≡◌, sym, ap, ◌∙◌}
use mathlib.Core.Bool.{Bool, true, false}
use mathlib.Core.List.{List, [], ◌∷◌, ◌++◌}
use Prim.Native.Nat.{ℕ, zero, suc, ◌-◌, ◌≤◌, ◌<◌}
use native.Mathlib.Omega.{arith}
use lib.ListN.{length, take, set, length-set}
use lib.Seq.{take-length, take-suc-set, take-set-le}
use Rattle.number_lines.proofs.Picks.{yes, no}
use Rattle.prefix_spec.specs.Prefix.{some}

pub last_set : (l l₀ : List ℕ) (x : ℕ) → length l ≡ length l₀ → 1 ≤ length l₀ → take (length l₀ - 1) l ≡ take (length l₀ - 1) l₀
    → set l (length l₀ - 1) x ≡ take (length l₀ - 1) l₀ ++ (x ∷ [])
last_set l l₀ x e h t =
    let n : suc (length l₀ - 1) ≡ length (set l (length l₀ - 1) x) = omega (arith, h, e, length-set l (length l₀ - 1) x) in
    sym (ap (λ (m : ℕ). take m (set l (length l₀ - 1) x)) n ∙ take-length (set l (length l₀ - 1) x))
    ∙ take-suc-set l (length l₀ - 1) x (omega (arith, h, e)) ∙ ap (λ (m : List ℕ). m ++ (x ∷ [])) t

pub last-kept : (l l₀ : List ℕ) (x : ℕ) → take (length l₀ - 1) l ≡ take (length l₀ - 1) l₀ → take (length l₀ - 1) (set l (length l₀ - 1) x) ≡ take (length l₀ - 1) l₀
last-kept l l₀ x t = take-set-le (length l₀ - 1) l (length l₀ - 1) x (omega arith) ∙ t

-- some number below m, by the last of them
pub some-last : (m : ℕ) (p : ℕ → Bool) → 0 < m → (p (m - 1) ≡ true → some m p ≡ true) × (p (m - 1) ≡ false → some m p ≡ some (m - 1) p)
some-last zero p h = absurd (omega (arith, h))
some-last (suc m) p h =
    let e : suc m - 1 ≡ m = omega arith in
    (λ q. yes (p m) true (some m p) (ap p (sym e) ∙ q), λ q. no (p m) true (some m p) (ap p (sym e) ∙ q) ∙ ap (λ (k : ℕ). some k p) (sym e))
