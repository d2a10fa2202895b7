-- The stripes from one on and around: each is looked at, so that their order does not matter.
-- Assumes nothing.
use mathlib.Core.Path.{◌≡◌, sym, ap, ◌∙◌}
use mathlib.Core.Bool.{Bool}
use Prim.Native.Nat.{ℕ, ◌+◌, ◌-◌, ◌<◌, ◌≤◌}
use native.Mathlib.Decide.{dec_lt}
use native.Mathlib.Omega.{arith}
use lib.Dec.{ltb}
use borrow.Author.Tests.{lt-ltb, le-ltb}
use Rattle.lists.specs.Tests.{pick, alls}
use Rattle.lists.specs.Lists.{tabulate}
use Rattle.decode_laws.proofs.Agree.{alls-true, true-alls, same_truth}
use Rattle.stripe_holds.specs.Steps.{turned}

module _ (from S : ℕ) where
  -- from the first on
  pub turned_none : (t : ℕ) → S ≤ from → turned from S t ≡ t
  turned_none t h = ap (λ (b : Bool). pick b (pick (ltb t (S - from)) (from + t) (t - (S - from))) t) (le-ltb from S h)

  -- from another on
  pub turned_on : (t : ℕ) → from < S → t < S - from → turned from S t ≡ from + t
  turned_on t h l =
      ap (λ (b : Bool). pick b (pick (ltb t (S - from)) (from + t) (t - (S - from))) t) (lt-ltb from S h)
      ∙ ap (λ (b : Bool). pick b (from + t) (t - (S - from))) (lt-ltb t (S - from) l)

  -- and around
  pub turned_round : (t : ℕ) → from < S → S - from ≤ t → turned from S t ≡ t - (S - from)
  turned_round t h l =
      ap (λ (b : Bool). pick b (pick (ltb t (S - from)) (from + t) (t - (S - from))) t) (lt-ltb from S h)
      ∙ ap (λ (b : Bool). pick b (from + t) (t - (S - from))) (le-ltb t (S - from) l)

  -- one of the stripes
  pub turned-low : (t : ℕ) → t < S → turned from S t < S
  turned-low t l = go (dec_lt from S) (dec_lt t (S - from))
    where
      go : Dec (from < S) → Dec (t < S - from) → turned from S t < S
      go (no k) d = omega (arith, turned_none t (omega arith))
      go (yes k) (yes h) = omega (arith, turned_on t k h)
      go (yes k) (no h) = omega (arith, turned_round t k (omega arith))

  -- and each of them
  some_turn : (s : ℕ) → s < S → (t : ℕ) × (t < S) × (turned from S t ≡ s)
  some_turn s l = go (dec_lt from S) (dec_lt s from)
    where
      go : Dec (from < S) → Dec (s < from) → (t : ℕ) × (t < S) × (turned from S t ≡ s)
      go (no k) d = (s, l, turned_none s (omega arith))
      go (yes k) (yes h) = (s + (S - from), omega arith, turned_round (s + (S - from)) k (omega arith) ∙ omega arith)
      go (yes k) (no h) = (s - from, omega arith, turned_on (s - from) k (omega arith) ∙ omega arith)

  -- so all are looked at
  pub all-turned : (q : ℕ → Bool) → alls (tabulate S (λ t. q (turned from S t))) ≡ alls (tabulate S q)
  all-turned q =
      same_truth (alls (tabulate S (λ t. q (turned from S t)))) (alls (tabulate S q))
      (λ a. true-alls S q (λ s h. let w = some_turn s h in ap q (sym w.2) ∙ alls-true S (λ t. q (turned from S t)) a w.0 w.1))
      (λ a. true-alls S (λ t. q (turned from S t)) (λ t h. alls-true S q a (turned from S t) (turned-low t h)))
