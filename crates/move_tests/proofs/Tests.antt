-- What the tests of a move come to: of a board and two lists, and of every board's mark.
-- Assumes nothing.
use Prim.Native.Nat.{ℕ, ◌+◌, ◌<◌, ◌≤◌}
use mathlib.Core.Path.{◌≡◌, refl, ap, ◌∙◌}
use mathlib.Core.Bool.{Bool, true, false}
use mathlib.Core.List.{List, ◌∷◌, ◌++◌}
use native.Mathlib.Omega.{arith}
use lib.ListN.{drop, drop_of_length-le}
use Rattle.lists.specs.Tests.{every, among, different}
use Rattle.lists.specs.Lists.{tabulate}
use Rattle.lists.proofs.Boards.{among-append-left, among-append-none}
use Rattle.lists.proofs.Pieces.{length-tabulate, tabulate-at}
use Rattle.store_lines.proofs.Walks.{every-no, every-next}

-- ---- a board and two lists

module _ (x : ℕ) (xs ys : List ℕ) where
  -- the board stands in the first, in the second, in neither
  pub first-has : among xs x ≡ true → false ≡ different (x ∷ (xs ++ ys))
  first-has e = rw (among-append-left xs ys x e) refl

  pub second-has : among xs x ≡ false → among ys x ≡ true → false ≡ different (x ∷ (xs ++ ys))
  second-has e k = rw (among-append-none xs ys x e, k) refl

  pub neither-has : among xs x ≡ false → among ys x ≡ false → different (xs ++ ys) ≡ different (x ∷ (xs ++ ys))
  neither-has e k = rw (among-append-none xs ys x e, k) refl

-- ---- every number below n

module _ (p : ℕ → Bool) (n : ℕ) where
  abbrev pub all : List ℕ
  all = tabulate n (λ i. i)

  pub walk-next : (i : ℕ) → i < n → p i ≡ true → every p (drop (i + 1) all) ≡ every p (drop i all)
  walk-next i h e = every-next p all i (omega (arith, h, length-tabulate n (λ t. t))) (ap p (tabulate-at n (λ t. t) 0 i h) ∙ e)

  pub walk_no : (i : ℕ) → i < n → p i ≡ false → every p (drop i all) ≡ false
  walk_no i h e = every-no p all i (omega (arith, h, length-tabulate n (λ t. t))) (ap p (tabulate-at n (λ t. t) 0 i h) ∙ e)

  pub walk_ends : (i : ℕ) → n ≤ i → every p (drop i all) ≡ true
  walk_ends i h = ap (every p) (drop_of_length-le all {i = i} (omega (arith, h, length-tabulate n (λ t. t))))
