-- A file that is found from shares is what they decode to.
-- Assumes nothing.
use Prim.Native.Nat.{ℕ}
use mathlib.Core.Path.{◌≡◌, refl}
use mathlib.Core.Bool.{Bool, true, false}
use mathlib.Core.Option.{some, none}
use mathlib.Core.List.{List}
use Rattle.lists.specs.Tests.{pick, same, given}
use Rattle.lists.proofs.Tests.{true-false}
use Rattle.sizes.specs.declared.Sizes.{Sizes}
use Rattle.mbcr.specs.Share.{shares}
use Rattle.mbcr.specs.Read.{decoded_file, read_file}
use Rattle.board_spec.specs.Calls.{file_of}

found : (t : Bool) (l : List ℕ) → given (pick t (some l) none) ≡ true → file_of (pick t (some l) none) ≡ l
found true l h = refl
found false l h = absurd (true-false h refl)

pub file-is : (z : Sizes) (xs : List ℕ) (L : ℕ) (boards bytes : List ℕ) → given (read_file z xs L boards bytes) ≡ true
    → file_of (read_file z xs L boards bytes) ≡ decoded_file z xs L boards bytes
unfolding read_file
file-is z xs L boards bytes h = found (same (shares z xs (decoded_file z xs L boards bytes) boards) bytes) (decoded_file z xs L boards bytes) h
