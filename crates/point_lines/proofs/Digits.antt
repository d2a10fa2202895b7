-- Which bytes are lower-case hexadecimal digits, and what they count.
-- Assumes nothing.
use mathlib.Core.Path.{◌≡◌, refl, sym, ◌∙◌}
use mathlib.Core.Bool.{Bool, true, false}
use Prim.Native.Nat.{ℕ, ◌-◌, ◌≤◌, ◌<◌}
use native.Mathlib.Omega.{arith}
use lib.Dec.{ltb}
use borrow.Author.Tests.{ltb-true, ltb-false}
use Rattle.lists.proofs.Tests.{true-false}
use Rattle.number_lines.proofs.Picks.{yes, no, if-lt, if-le}
use Rattle.point_lines.specs.Lines.{hexadecimal, digit_value}

-- 0 to 9, or a to f
pub record Digit (b : ℕ) : Type 0 where
  pub low : 0x30 ≤ b
  pub high : b < 0x67
  pub apart : 0x3A ≤ b → 0x61 ≤ b

pub digit-range : (b : ℕ) → hexadecimal b ≡ true → Digit b
digit-range b e = go (ltb b 0x30) refl (ltb b 0x3A) refl (ltb b 0x61) refl
  where
    go : (t : Bool) → ltb b 0x30 ≡ t → (u : Bool) → ltb b 0x3A ≡ u → (w : Bool) → ltb b 0x61 ≡ w → Digit b
    go true h u k w m = absurd (true-false e (yes (ltb b 0x30) _ _ h))
    go false h true k w m =
        let x = ltb-false b 0x30 h in
        let y = ltb-true b 0x3A k in
        record { low = x; high = omega arith; apart = λ q. absurd (omega arith) }
    go false h false k true m = absurd (true-false e (no (ltb b 0x30) _ _ h ∙ no (ltb b 0x3A) _ _ k ∙ yes (ltb b 0x61) _ _ m))
    go false h false k false m =
        let x = ltb-false b 0x30 h in
        let y = ltb-false b 0x61 m in
        let z = ltb-true b 0x67 (sym (no (ltb b 0x30) _ _ h ∙ no (ltb b 0x3A) _ _ k ∙ no (ltb b 0x61) _ _ m) ∙ e) in
        record { low = x; high = omega arith; apart = λ q. y }

pub digit_low : (b : ℕ) → hexadecimal b ≡ true → digit_value b < 16
digit_low b e = go (ltb b 0x3A) refl (digit-range b e)
  where
    go : (t : Bool) → ltb b 0x3A ≡ t → Digit b → digit_value b < 16
    go true h d = let k = ltb-true b 0x3A h in omega (arith, if-lt b 0x3A (b - 0x30) (b - 0x57) k)
    go false h d = let k = ltb-false b 0x3A h in omega (arith, if-le b 0x3A (b - 0x30) (b - 0x57) k, d.apart k)
