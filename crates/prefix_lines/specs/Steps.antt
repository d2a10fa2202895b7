-- A byte of a number, as functions tell it.
-- Assumes nothing.
use Rattle.std.specs.Prelude.{[], ◌∷◌, ℕ, ◌+◌, ◌*◌, ◌-◌, leb, eqb}
use Rattle.lists.specs.Tests.{pick, alls}
use Rattle.number_lines.specs.Lines.{digit}
use Rattle.prefix_spec.specs.Prefix.{opens}
use Rattle.prefix_lines.specs.declared.Digit.{Digit}
use Rattle.prefix_lines.specs.declared.Digit.TheVariants.{More, End, Stop}

-- a byte behind digits of which the number is v so far
abbrev pub digit_next : ℕ → ℕ → ℕ → ℕ → Digit
digit_next lo hi v b =
    pick (eqb b 0x0A) (pick (leb lo v) End Stop) (pick (alls (digit b ∷ opens lo hi (10 * v + (b - 0x30)) ∷ [])) (More (10 * v + (b - 0x30))) Stop)
