-- How long an input is that is taken: a program that reads 128 bytes has read enough. proofs/Short.antt has `input-laws : InputLaws`.
-- Assumes nothing.
use Rattle.std.specs.Prelude.{◌≡◌, List, ◌++◌, ℕ, ◌≤◌, length}
use Rattle.std.proofs.Math.Option.{some, none}
use Rattle.trial_spec.specs.Trial.{Load, loaded}

pub record InputLaws : Type 0 where
  pub short : (input : List ℕ) (l : Load) → loaded input ≡ some l → length input ≤ 73
  -- where 128 bytes came, the input is refused, with whatever may follow and without it
  pub cut : (input rest : List ℕ) → 128 ≤ length input → (loaded input ≡ none) × (loaded (input ++ rest) ≡ none)
