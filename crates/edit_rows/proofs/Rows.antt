-- Sums of rows byte by byte; and old against new of one byte, by where it stands.
-- Assumes nothing.
use mathlib.Core.Path.{◌≡◌, refl, ap}
use mathlib.Core.List.{List, [], ◌∷◌}
use Prim.Native.Nat.{ℕ, ◌-◌, ◌<◌, ◌≤◌}
use native.Mathlib.Omega.{arith}
use lib.ListN.{length, get_or}
use borrow.Author.Tests.{lt-ltb, le-ltb, le-leb, lt-leb}
use Rattle.lists.specs.Lists.{tabulate}
use Rattle.gf256.specs.Field.{add}
use Rattle.polynomial.specs.Polynomial.{plus}
use Rattle.edit_rows.specs.Steps.{changed_at}

pub plus-bytes : (p q : List ℕ) → length q ≡ length p → tabulate (length p) (λ j. add (get_or p j 0) (get_or q j 0)) ≡ plus p q
plus-bytes [] [] h = refl
plus-bytes [] (b ∷ q) h = absurd (omega arith)
plus-bytes (a ∷ p) [] h = absurd (omega arith)
plus-bytes (a ∷ p) (b ∷ q) h = ap {B = List ℕ} (λ l. add a b ∷ l) (plus-bytes p q (omega arith))

module _ (offset : ℕ) (bytes : List ℕ) (p old : ℕ) where
  pub before : p < offset → 0 ≡ changed_at offset bytes p old
  before h = rw (lt-ltb p offset h) refl

  pub behind : offset ≤ p → length bytes ≤ p - offset → 0 ≡ changed_at offset bytes p old
  behind h k = rw (le-ltb p offset h, le-leb (length bytes) (p - offset) k) refl

  pub inside : offset ≤ p → p - offset < length bytes → add old (get_or bytes (p - offset) 0) ≡ changed_at offset bytes p old
  inside h k = rw (le-ltb p offset h, lt-leb (length bytes) (p - offset) k) refl
