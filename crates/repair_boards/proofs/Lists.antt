-- What holds of all helpers and all stand-ins holds of the boards named in one list.
-- Assumes nothing.
use Prim.Native.Nat.{ℕ, zero, suc, ◌<◌}
use mathlib.Core.Path.{◌≡◌}
use mathlib.Core.Bool.{true, not}
use mathlib.Core.List.{List, ◌++◌}
use Rattle.lists.specs.Lists.{All, join, piece}
use Rattle.lists.specs.Tests.{among, below, apart}
use Rattle.lists.proofs.Alls.{append-all}
use Rattle.lists.proofs.Boards.{below_all, all-below}
use Rattle.lists.proofs.Tests.{every-all, all-every}
use Rattle.repair_stripe.proofs.Partners.{all-piece}

all_join : (P : ℕ → Type 0) (m : ℕ) (f : ℕ → List ℕ) → ((a : ℕ) → All P (f a)) → All P (join m f)
all_join P zero f h = tt
all_join P (suc m) f h = append-all P (f 0) (join m (λ a. f (suc a))) (h 0) (all_join P m (λ a. f (suc a)) (λ a. h (suc a)))

module _ (t d e : ℕ) (helpers standins : List ℕ) where
  abbrev named : List ℕ
  named = join t (λ a. piece d a helpers ++ piece e a standins)

  all_named : (P : ℕ → Type 0) → All P helpers → All P standins → All P named
  all_named P h s =
      all_join P t (λ a. piece d a helpers ++ piece e a standins)
      (λ a. append-all P (piece d a helpers) (piece e a standins) (all-piece P d a helpers h) (all-piece P e a standins s))

  pub named-below : (n : ℕ) → below n helpers ≡ true → below n standins ≡ true → below n named ≡ true
  named-below n h s = all-below n named (all_named (λ x. x < n) (below_all n helpers h) (below_all n standins s))

  pub named-apart : (fresh : List ℕ) → apart fresh helpers ≡ true → apart fresh standins ≡ true → apart fresh named ≡ true
  named-apart fresh h s =
      all-every (λ x. not (among fresh x)) named
      (all_named (λ x. not (among fresh x) ≡ true) (every-all (λ x. not (among fresh x)) helpers h) (every-all (λ x. not (among fresh x)) standins s))
