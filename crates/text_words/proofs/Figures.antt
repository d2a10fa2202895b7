-- The figures of the head's words hold.
-- Assumes nothing.
use mathlib.Core.Path.{refl}
use Rattle.text_words.specs.Figures.{HeadFigures}

pub figures : HeadFigures
figures = record { head-words = refl }
