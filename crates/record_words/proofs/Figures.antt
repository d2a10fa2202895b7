-- The figures of the words: antt computes them.
-- Assumes nothing.
use mathlib.Core.Path.{refl}
use Rattle.lists.specs.Lists.{piece}
use Rattle.record_words.specs.Words.{is_record}
use Rattle.record_words.specs.Figures.{WordFigures}

pub word-figures : WordFigures
unfolding is_record piece
word-figures = record { words_are = refl; record_is = refl; last-words = refl; last-record = refl; are-records = refl }
