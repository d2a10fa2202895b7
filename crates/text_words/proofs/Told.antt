-- What stands in head and points after a text was read, and after it was refused.
-- Assumes nothing.
use Prim.Native.Nat.{ℕ}
use mathlib.Core.Path.{◌≡◌, sym, ap, ◌∙◌}
use mathlib.Core.Bool.{Bool}
use mathlib.Core.List.{List, [], ◌∷◌}
use native.Mathlib.Omega.{arith}
use lib.Dec.{eqb}
use lib.ListN.{length, set, take, drop, drop_of_length-le}
use lib.Seq.{sets-eq, take_all}
use borrow.Author.Tests.{ne_eqb}
use Rattle.lists.specs.Tests.{pick}
use Rattle.std.specs.Prelude.{Ok, Err}
use Rattle.sizes.specs.declared.Refusal.{Refusal}
use Rattle.sizes.specs.Refusals.{number, said, Answer}
use Rattle.sizes.proofs.Laws.{number-low}

-- one list where the answer is no refusal, and else the other
abbrev picked : Answer → List ℕ → List ℕ → List ℕ
picked a x y = pick (eqb (said a).refusal 0) x y

pub done-picks : (a : Answer) (v : ℕ) (x y : List ℕ) → a ≡ Ok v → x ≡ picked a x y
done-picks a v x y e = sym (ap (λ (b : Answer). picked b x y) e)

pub refused-picks : (a : Answer) (r : Refusal) (x y : List ℕ) → a ≡ Err r → y ≡ picked a x y
refused-picks a r x y e =
    sym (ap (λ (b : Answer). picked b x y) e ∙ ap (λ (t : Bool). pick t x y) (ne_eqb (number r) 0 (λ q. omega (arith, number-low r, q))))

-- six words, each in its place
pub six-set : (ws : List ℕ) (a b c d e f : ℕ) → length ws ≡ 6 → set (set (set (set (set (set ws 0 a) 1 b) 2 c) 3 d) 4 e) 5 f ≡ a ∷ b ∷ c ∷ d ∷ e ∷ f ∷ []
six-set ws a b c d e f l =
    sets-eq (a ∷ b ∷ c ∷ d ∷ e ∷ f ∷ []) ws 0 (omega arith)
    ∙ ap (λ (r : List ℕ). a ∷ b ∷ c ∷ d ∷ e ∷ f ∷ r) (drop_of_length-le ws {i = 6} (omega arith))

-- all points by their row
pub all-points : (xs ys : List ℕ) → length xs ≡ 32 → ys ≡ take 32 (drop 0 xs) → ys ≡ xs
all-points xs ys l e = e ∙ take_all 32 xs (omega arith)
