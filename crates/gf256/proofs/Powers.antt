-- Each byte but 0 is a power of z: what holds of 1, and of z times each byte of which it holds, holds of each byte but 0.
-- Assumes nothing.
use mathlib.Core.Path.{subst}
use mathlib.Core.Bool.{Bool, true, false}
use mathlib.Core.List.{List, [], ◌∷◌}
use Prim.Native.Nat.{ℕ, zero, suc, ◌<◌}
use native.Mathlib.Nat.{not-suc-le-zero, le_of_suc-le-suc}
use lib.Dec.{T, eqb, eqb→eq}
use Rattle.gf256.specs.Field.{add, product, reduce, mul}
use Rattle.gf256.proofs.Field.{all, all-at}

-- x, 2 x, 4 x ..: n of them
powers : ℕ → ℕ → List ℕ
powers zero x = []
powers (suc n) x = x ∷ powers n (mul 2 x)

abbrev either : Bool → Bool → Bool
either true b = true
either false b = b

either-cases : {A : Type 0} (a b : Bool) → (T a → A) → (T b → A) → T (either a b) → A
either-cases true b f g t = f tt
either-cases false b f g t = g t

-- suc i is in a list
has : List ℕ → ℕ → Bool
has [] i = false
has (x ∷ xs) i = either (eqb x (suc i)) (has xs i)

power-test : T (all 255 (has (powers 255 1)))
unfolding add product reduce mul powers has all
power-test = tt

module _ (P : ℕ → Type 0) (step : (x : ℕ) → P x → P (mul 2 x)) where
  each-power : (n x i : ℕ) → P x → T (has (powers n x) i) → P (suc i)
  unfolding powers has
  each-power zero x i p t = absurd t
  each-power (suc n) x i p t =
      either-cases (eqb x (suc i)) (has (powers n (mul 2 x)) i) (λ e. subst P (eqb→eq x (suc i) e) p)
      (λ r. each-power n (mul 2 x) i (step x p) r) t

  pub each-byte : P 1 → (a : ℕ) → 0 < a → a < 256 → P a
  each-byte p zero h l = absurd (not-suc-le-zero h)
  each-byte p (suc i) h l =
      each-power 255 1 i p (all-at 255 (has (powers 255 1)) power-test i (le_of_suc-le-suc l))
