-- What texts that are alike leave to be asked: k boards of these sizes, points and length, and where the pairs of their shares begin.
-- Assumes nothing.
use Rattle.std.specs.Prelude.{◌≡◌, true, List, ℕ, ◌*◌, length}
use Rattle.lists.specs.Tests.{below}
use Rattle.sizes.specs.declared.Sizes.{Sizes}
use Rattle.sizes.specs.Sizing.{α, stripes}
use Rattle.mbcr.specs.Share.{pointed}
use Rattle.board_spec.specs.Calls.{BoardOutcome, file_call}
use Rattle.line_checks.specs.Steps.{Stated}
use Rattle.text_stripes.specs.Steps.{spelled, Spelled}

pub record Ready (text : List ℕ) (z : Sizes) (xs : List ℕ) (L : ℕ) (boards places : List ℕ) : Type 0 where
  pub stated : Stated z L
  pub is-pointed : pointed z xs ≡ true
  pub enough : length boards ≡ z.k
  pub known : below z.n boards ≡ true
  pub as_many : length places ≡ z.k
  pub spelt : Spelled text places 0 (stripes z L * α z)

-- a file from the shares whose pairs begin at these places
abbrev pub file_told : List ℕ → Sizes → List ℕ → ℕ → List ℕ → List ℕ → List ℕ → BoardOutcome
file_told text z xs L boards places output = file_call z xs L boards (spelled text places 0 (stripes z L * α z)) output
