-- What the tests of two lists come to, and one step of the walk of marks.
-- Assumes nothing.
use Prim.Native.Nat.{ℕ, ◌+◌, ◌<◌}
use mathlib.Core.Path.{◌≡◌, refl, sym, ap, ◌∙◌}
use mathlib.Core.Bool.{Bool, true, false}
use mathlib.Core.List.{List, [], ◌∷◌, ◌++◌}
use native.Mathlib.Numerals.{add-one}
use lib.ListN.{length, get_or, drop, set}
use lib.Seq.{drop-cons}
use Rattle.lists.specs.Tests.{alls, below}
use Rattle.store_spec.specs.Record.{turn_on}
use Rattle.lists.proofs.Tests.{true-false}
use Rattle.store_spec.proofs.Asked.{both_below}

-- ---- NODE of two lists

both-tests : (a b : Bool) → a ≡ true → b ≡ alls (a ∷ b ∷ [])
both-tests true true h = refl
both-tests true false h = refl
both-tests false b h = absurd (true-false h refl)

first-test : (a b : Bool) → a ≡ false → alls (a ∷ b ∷ []) ≡ false
first-test true b h = absurd (true-false refl h)
first-test false b h = refl

pub below_left : (n : ℕ) (l m : List ℕ) → below n l ≡ false → below n (l ++ m) ≡ false
below_left n l m h = both_below n l m ∙ first-test (below n l) (below n m) h

pub below_right : (n : ℕ) (l m : List ℕ) → below n l ≡ true → below n m ≡ below n (l ++ m)
below_right n l m h = both-tests (below n l) (below n m) h ∙ sym (both_below n l m)

-- ---- the marks

pub turn-next : (boards : List ℕ) (marks : List Bool) (t : ℕ) → t < length boards → turn_on (drop (t + 1) boards) (set marks (get_or boards t 0) true) ≡ turn_on (drop t boards) marks
turn-next boards marks t h =
    ap (λ (m : ℕ). turn_on (drop m boards) (set marks (get_or boards t 0) true)) (add-one t)
    ∙ sym (ap (λ (l : List ℕ). turn_on l marks) (drop-cons boards t 0 h))
