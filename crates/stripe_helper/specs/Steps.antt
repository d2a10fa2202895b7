-- A helper's two bytes by factors.
-- Assumes nothing.
use Rattle.std.specs.Prelude.{List, [], ◌∷◌, ◌++◌, ℕ, take, drop}
use Rattle.lagrange_factors.specs.Steps.{dot_of}

-- by the factors ff of f and gf of g, from the bytes that the helper keeps of a stripe, of which w are of f
unfoldable pub pair_by : ℕ → List ℕ → List ℕ → List ℕ → List ℕ
pair_by w ff gf held = dot_of ff (take w held) ∷ dot_of gf (take 1 held ++ drop w held) ∷ []
