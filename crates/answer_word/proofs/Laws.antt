-- An answer's word taken apart.
-- Assumes nothing.
use Prim.Native.Nat.{ℕ, ◌+◌, ◌*◌, ◌/◌, ◌%◌, ◌<◌}
use mathlib.Core.Path.{◌≡◌}
use native.Mathlib.Nat.{mod-lt, div-add-mod'}
use native.Mathlib.Omega.{arith}
use Rattle.std.specs.Prelude.{Ok, Err}
use Rattle.sizes.specs.Refusals.{said, Answer}
use Rattle.sizes.proofs.Laws.{number-high}
use Rattle.answer_word.specs.Laws.{AnswerLaws}

small : (a : Answer) → (said a).refusal < 256
small (Ok v) = omega arith
small (Err x) = number-high x

full : 0 < 256
full = omega arith

low : (r v : ℕ) → r < 256 → (r + 256 * v) % 256 ≡ r
low r v h = omega (arith, div-add-mod' (r + 256 * v) 256, mod-lt (r + 256 * v) full, h)

high : (r v : ℕ) → r < 256 → (r + 256 * v) / 256 ≡ v
high r v h = omega (arith, div-add-mod' (r + 256 * v) 256, mod-lt (r + 256 * v) full, h)

pub answer-laws : AnswerLaws
answer-laws = record {
  refusal_is = λ a. low (said a).refusal (said a).reported (small a);
  value-is = λ a. high (said a).refusal (said a).reported (small a);
}
