-- The six words of a text's head: sizes, board number and length.
-- Assumes nothing.
use Rattle.std.specs.Prelude.{List, [], ◌∷◌, ℕ}
use Rattle.sizes.specs.declared.Sizes.{Sizes}

abbrev pub head_of : Sizes → ℕ → ℕ → List ℕ
head_of z node L = z.n ∷ z.k ∷ z.d ∷ z.r ∷ node ∷ L ∷ []
