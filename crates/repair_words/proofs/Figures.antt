-- The figures of the words: antt computes them.
-- Assumes nothing.
use mathlib.Core.Path.{refl}
use Rattle.lists.specs.Lists.{piece}
use Rattle.repair_words.specs.RepairWords.{is_repair}
use Rattle.repair_words.specs.Figures.{RepairWordFigures}

pub repair-word-figures : RepairWordFigures
unfolding is_repair piece
repair-word-figures = record { words_are = refl; record_is = refl; are-repairs = refl }
