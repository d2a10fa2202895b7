-- The polynomial through sums of some values and of what powers of the points add, as one sum of rows of coefficients.
-- Assumes nothing.
use mathlib.Core.Path.{◌≡◌, refl, sym, ap, ap₂, ◌∙◌}
use mathlib.Core.List.{List, ◌++◌, map}
use Prim.Native.Nat.{ℕ, zero, suc, ◌+◌, ◌-◌, ◌<◌, ◌≤◌}
use native.Mathlib.Nat.{add-sub_of_le}
use native.Mathlib.Omega.{arith}
use lib.ListN.{length, get_or, replicate, length-append, length-replicate, length-map, get_or-append}
use lib.Seq.{get_or-append-add}
use borrow.Author.Tests.{lt-ltb, le-ltb}
use Rattle.lists.specs.Lists.{Bytes, tabulate}
use Rattle.lists.proofs.Alls.{Distinct, append-all, zeros-bytes}
use Rattle.lists.proofs.Pieces.{length-tabulate, tabulate-at, tabulate-all, map_at, map-bytes}
use Rattle.gf256.specs.Field.{add, mul}
use Rattle.gf256.proofs.Field.{mul_comm, zero-mul, mul-lt}
use Rattle.gf256.proofs.Sums.{add_zero_l}
use Rattle.gf256.proofs.Ring.{ring}
use Rattle.polynomial.specs.Polynomial.{eval, interpolate, sum, power}
use Rattle.polynomial.proofs.Poly.{add-byte, eval-byte}
use Rattle.polynomial.proofs.Sums.{sum-scale, eval-sum}
use Rattle.lagrange.specs.Steps.{unit}
use Rattle.decode_laws.specs.Steps.{seeds}
use Rattle.decode_laws.proofs.Sums.{sum_below, sum-none, sum-add, sum-split, sum-swap}
use Rattle.decode_laws.proofs.Rows.{coefficient}

power-byte : (x s : ℕ) → power x s < 256
power-byte x zero = omega arith
power-byte x (suc s) = mul-lt x (power x s)

zeros-at : (i m : ℕ) → get_or {A = ℕ} (replicate m 0) i 0 ≡ 0
zeros-at i zero = refl
zeros-at zero (suc m) = refl
zeros-at (suc i) (suc m) = zeros-at i m

apart : (a b u : ℕ) → mul (add a b) u ≡ add (mul u a) (mul b u)
apart a b u = simp ring

turn : (a b u : ℕ) → mul u (mul a b) ≡ mul a (mul b u)
turn a b u = simp ring

module _ (xs : List ℕ) (bx : Bytes xs) (dx : Distinct xs) (d : ℕ) (few : length xs ≤ d) (β : ℕ → ℕ) (bb : (s : ℕ) → s < d → β s < 256) where
  abbrev k : ℕ
  k = length xs

  abbrev h : ℕ
  h = d - k

  -- 00, then the numbers from k on
  abbrev γ : List ℕ
  γ = replicate k 0 ++ tabulate h (λ i. β (k + i))

  x : ℕ → ℕ
  x t = get_or xs t 0

  length-γ : length γ ≡ d
  length-γ = length-append (replicate k 0) (tabulate h (λ i. β (k + i))) ∙ ap₂ ◌+◌ (length-replicate {A = ℕ} k 0) (length-tabulate h _) ∙ omega arith

  γ-bytes : Bytes γ
  γ-bytes = append-all (λ a. a < 256) (replicate k 0) (tabulate h (λ i. β (k + i))) (zeros-bytes k) (tabulate-all (λ a. a < 256) h _ (λ i l. bb (k + i) (omega arith)))

  γ-low : (s : ℕ) → s < k → get_or γ s 0 ≡ 0
  γ-low s l = get_or-append (replicate k 0) (tabulate h (λ i. β (k + i))) 0 s (omega (arith, length-replicate {A = ℕ} k 0)) ∙ zeros-at s k

  γ-high : (i : ℕ) → i < h → get_or γ (k + i) 0 ≡ β (k + i)
  γ-high i l =
      ap (λ (q : ℕ). get_or γ (q + i) 0) (sym (length-replicate {A = ℕ} k 0))
      ∙ get_or-append-add (replicate k 0) (tabulate h (λ i. β (k + i))) i 0 ∙ tabulate-at h (λ i. β (k + i)) 0 i l

  -- its value
  γ-value : (y : ℕ) → eval γ y ≡ sum h (λ i. mul (β (k + i)) (power y (k + i)))
  γ-value y =
      eval-sum d γ y (omega (arith, length-γ)) γ-bytes
      ∙ ap (λ (m : ℕ). sum m (λ i. mul (get_or γ i 0) (power y i))) (sym (add-sub_of_le few))
      ∙ sum-split k h (λ i. mul (get_or γ i 0) (power y i))
      ∙ ap₂ add (sum-none k (λ i. mul (get_or γ i 0) (power y i)) (λ i l. ap (λ (q : ℕ). mul q (power y i)) (γ-low i l) ∙ zero-mul _))
      (sum_below h (λ i. mul (get_or γ (k + i) 0) (power y (k + i))) (λ i. mul (β (k + i)) (power y (k + i))) (λ i l. ap (λ (q : ℕ). mul q (power y (k + i))) (γ-high i l)))
      ∙ add_zero_l _

  -- the values that are interpolated
  abbrev vals : ℕ → ℕ
  vals t = add (β t) (eval γ (get_or xs t 0))

  module _ (i : ℕ) where
    U : ℕ → ℕ
    U t = get_or (interpolate xs (unit k t)) i 0

    E : ℕ → ℕ
    E s = get_or (interpolate xs (seeds xs s)) i 0

    E-low : (s : ℕ) → s < k → E s ≡ U s
    unfolding E U
    E-low s l = rw (lt-ltb s k l) refl

    E-high : (s : ℕ) → k ≤ s → E s ≡ sum k (λ t. mul (power (x t) s) (U t))
    unfolding E U x
    E-high s l =
        let ps : List ℕ = map (λ x. power x s) xs in
        rw (le-ltb s k l)
        (sym (coefficient xs bx dx ps (sym (length-map xs (λ x. power x s))) (map-bytes (λ x. power x s) xs (λ x. power-byte x s)) i)
        ∙ sum_below k _ _ (λ t q. ap (λ (v : ℕ). mul v (get_or (interpolate xs (unit k t)) i 0)) (map_at (λ x. power x s) xs t q)))

    high_part : sum k (λ t. mul (eval γ (x t)) (U t)) ≡ sum h (λ i. mul (E (k + i)) (β (k + i)))
    high_part =
        sum_below k _ (λ t. sum h (λ i. mul (β (k + i)) (mul (power (x t) (k + i)) (U t))))
        (λ t q. mul_comm (eval γ (x t)) (U t) ∙ ap (mul (U t)) (γ-value (x t)) ∙ sum-scale h (U t) (λ i. mul (β (k + i)) (power (x t) (k + i)))
        ∙ sum_below h _ _ (λ i l. turn (β (k + i)) (power (x t) (k + i)) (U t)))
        ∙ sum-swap k h (λ t i. mul (β (k + i)) (mul (power (x t) (k + i)) (U t)))
        ∙ sum_below h _ _ (λ i l. sym (sum-scale k (β (k + i)) (λ t. mul (power (x t) (k + i)) (U t))) ∙ ap (mul (β (k + i))) (sym (E-high (k + i) (omega arith)))
        ∙ mul_comm (β (k + i)) (E (k + i)))

    mixed : sum d (λ s. mul (E s) (β s)) ≡ get_or (interpolate xs (tabulate k vals)) i 0
    unfolding U x
    mixed =
        ap (λ (m : ℕ). sum m (λ s. mul (E s) (β s))) (sym (add-sub_of_le few))
        ∙ sum-split k h (λ s. mul (E s) (β s))
        ∙ ap₂ add (sum_below k (λ s. mul (E s) (β s)) (λ t. mul (U t) (β t)) (λ s l. ap (λ (q : ℕ). mul q (β s)) (E-low s l))) (sym high_part)
        ∙ sym (sum-add k (λ t. mul (U t) (β t)) (λ t. mul (eval γ (x t)) (U t)))
        ∙ sum_below k _ (λ t. mul (get_or (tabulate k vals) t 0) (U t))
        (λ t l. sym (ap (λ (v : ℕ). mul v (U t)) (tabulate-at k vals 0 t l) ∙ apart (β t) (eval γ (x t)) (U t)))
        ∙ coefficient xs bx dx (tabulate k vals) (sym (length-tabulate k vals))
        (tabulate-all (λ a. a < 256) k vals (λ t l. add-byte _ _ (bb t (omega arith)) (eval-byte γ (get_or xs t 0) γ-bytes))) i

    -- as the seeds say it
    pub mixed-rows : sum d (λ s. mul (get_or (interpolate xs (seeds xs s)) i 0) (β s)) ≡ get_or (interpolate xs (tabulate k vals)) i 0
    unfolding E
    mixed-rows = mixed
