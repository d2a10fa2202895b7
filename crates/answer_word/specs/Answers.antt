-- The archive's answer in one word.
-- Assumes nothing.
use Rattle.std.specs.Prelude.{ℕ, ◌+◌, ◌*◌}
use Rattle.sizes.specs.Refusals.{Said}

-- the refusal's number in the low eight bits, the number reported above them
abbrev pub word_of : Said → ℕ
word_of a = a.refusal + 256 * a.reported
