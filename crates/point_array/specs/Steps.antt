-- Points that are lent, as an array of 32: where there are not 32 of them, 32 times 00, which are no boards' points.
-- Assumes nothing.
use Rattle.std.specs.Prelude.{List, ℕ, eqb, length, replicate}
use Rattle.lists.specs.Tests.{pick}

abbrev pub array_of : List ℕ → List ℕ
array_of xs = pick (eqb (length xs) 32) xs (replicate 32 0)
