-- The six words of a text's head, with numbers that all differ. proofs/Figures.antt has `figures`.
-- Assumes nothing.
use Rattle.std.specs.Prelude.{◌≡◌, [], ◌∷◌}
use Rattle.text_words.specs.Words.{head_of}

pub record HeadFigures : Type 0 where
  pub head-words : head_of (record { n = 8; k = 2; d = 3; r = 4 }) 5 11 ≡ 8 ∷ 2 ∷ 3 ∷ 4 ∷ 5 ∷ 11 ∷ []
