-- The laws of specs/Laws.antt.
-- Assumes nothing.
use mathlib.Core.Path.{◌≡◌, refl}
use mathlib.Core.Bool.{Bool, true, false}
use mathlib.Core.Logic.{◌⊎◌, inl, inr}
use Prim.Native.Nat.{ℕ, ◌≤◌}
use native.Mathlib.Omega.{arith}
use lib.Dec.{ltb}
use borrow.Author.Tests.{ltb-true, ltb-false}
use Rattle.point_lines.specs.Lines.{hexadecimal}
use Rattle.point_lines.specs.Laws.{PointLaws}
use Rattle.point_lines.proofs.Digits.{digit-range}
use Rattle.point_lines.proofs.Reading.{line_read, reads_none, line-bad}

digits : (b : ℕ) → hexadecimal b ≡ true → ((0x30 ≤ b) × (b ≤ 0x39)) ⊎ ((0x61 ≤ b) × (b ≤ 0x66))
digits b h = go (ltb b 0x3A) refl
  where
    go : (t : Bool) → ltb b 0x3A ≡ t → ((0x30 ≤ b) × (b ≤ 0x39)) ⊎ ((0x61 ≤ b) × (b ≤ 0x66))
    go true e = inl ((digit-range b h).low, omega (arith, ltb-true b 0x3A e))
    go false e = inr ((digit-range b h).apart (ltb-false b 0x3A e), omega (arith, (digit-range b h).high))

pub point-laws : PointLaws
point-laws = record {
  digits = digits;
  byte-by-byte = λ bad n few go input. line_read bad n go few input;
  all-malformed = λ bad n go none input. (line-bad bad n input go none, λ r. reads_none bad n go none input r);
}
