-- The boards in service are different boards of the store.
-- Assumes nothing.
use Prim.Native.Nat.{ℕ, zero, suc, ◌<◌, ◌≤◌}
use mathlib.Core.Path.{◌≡◌}
use mathlib.Core.Bool.{Bool, true, false}
use mathlib.Core.Logic.{◌≢◌}
use mathlib.Core.List.{List, [], ◌∷◌, ◌++◌}
use native.Mathlib.Omega.{arith}
use Rattle.lists.specs.Lists.{All, tabulate, concat}
use Rattle.lists.specs.Tests.{pick, below, different}
use Rattle.lists.proofs.Alls.{all-imp, Distinct}
use Rattle.lists.proofs.Boards.{all-below, distinct-different}
use Rattle.store_spec.specs.Record.{Record, in_service, serving}
use Rattle.store_spec.proofs.Sums.{serving-low}

-- numbers that rise, some of them left out
abbrev some : ℕ → (ℕ → ℕ) → (ℕ → Bool) → List ℕ
some n h b = concat (tabulate n (λ i. pick (b i) (h i ∷ []) []))

rising : (n : ℕ) (h : ℕ → ℕ) (b : ℕ → Bool) → ((i : ℕ) → h i < h (suc i)) → Distinct (some n h b) × All (λ x. h 0 ≤ x) (some n h b)
rising zero h b up = (tt, tt)
rising (suc n) h b up = go (b 0) (rising n (λ i. h (suc i)) (λ i. b (suc i)) (λ i. up (suc i)))
  where
    rest : List ℕ
    rest = some n (λ i. h (suc i)) (λ i. b (suc i))

    go : (t : Bool) → Distinct rest × All (λ x. h 1 ≤ x) rest → Distinct (pick t (h 0 ∷ []) [] ++ rest) × All (λ x. h 0 ≤ x) (pick t (h 0 ∷ []) [] ++ rest)
    go true p = (
      (all-imp (λ x. h 1 ≤ x) (λ x. x ≢ h 0) (λ x l e. let k = up 0 in absurd (omega arith)) rest p.1, p.0),
      (omega arith, all-imp (λ x. h 1 ≤ x) (λ x. h 0 ≤ x) (λ x l. let k = up 0 in omega arith) rest p.1),
    )
    go false p = (p.0, all-imp (λ x. h 1 ≤ x) (λ x. h 0 ≤ x) (λ x l. let k = up 0 in omega arith) rest p.1)

pub serving-different : (s : Record) → different (serving s) ≡ true
serving-different s = distinct-different (serving s) (rising s.sizes.n (λ i. i) (in_service s) (λ i. omega arith)).0

pub serving-below : (s : Record) → below s.sizes.n (serving s) ≡ true
serving-below s = all-below s.sizes.n (serving s) (serving-low s)
