-- What it says of a board-level call that its first two checks pass, and what a call answers by what its check answered.
-- Assumes nothing.
use Prim.Native.Nat.{ℕ}
use mathlib.Core.Path.{◌≡◌, refl, sym, ap, ◌∙◌}
use mathlib.Core.Bool.{true, false}
use mathlib.Core.List.{List, ◌++◌}
use lib.ListN.{length, drop}
use borrow.Author.Tests.{ltb-false}
use Rattle.sizes.specs.declared.Sizes.{Sizes}
use Rattle.sizes.specs.declared.Refusal.{Refusal}
use Rattle.sizes.specs.declared.Refusal.TheVariants.{Size, Long}
use Rattle.std.specs.Prelude.{Ok, Err}
use Rattle.sizes.specs.Refusals.{first, board_order, Check}
use Rattle.sizes.specs.Sizing.{legal}
use Rattle.sizes.proofs.Legal.{legal-facts}
use Rattle.sizes.proofs.Orders.{clear-off}
use Rattle.mbcr.specs.Share.{pointed, DifferentPoints}
use Rattle.mbcr.proofs.PointLaws.{pointed-facts, pointed-differ}
use Rattle.board_spec.specs.Calls.{size_line, long_line, settled}
use Rattle.board_spec.proofs.Runs.{size-facts}
use Rattle.line_checks.specs.Steps.{stated_lines, Stated}
use Rattle.board_lines.specs.Outcomes.{outcome}

-- what the first two lines leave of the sizes and the length, and of the points
module _ (z : Sizes) (xs : List ℕ) where
  pub stated-of : (L : ℕ) → (size_line z xs).applies ≡ false → (long_line z L).applies ≡ false → Stated z L
  stated-of L e l = record { is-legal = (size-facts z xs e).0; not-long = ltb-false _ _ l }

  pub stated-facts : (L : ℕ) → first board_order (stated_lines z xs L) ≡ Ok tt → Stated z L
  stated-facts L h = let off = clear-off (stated_lines z xs L) board_order h in stated-of L (off Size refl) (off Long refl)

-- what kernels ask of points
pub record Taken (z : Sizes) (xs : List ℕ) : Type 0 where
  pub long : length xs ≡ 32
  pub differ : DifferentPoints z xs

module _ (z : Sizes) (xs : List ℕ) where
  pub taken : legal z ≡ true → pointed z xs ≡ true → Taken z xs
  taken ok h = record { long = (pointed-facts z xs (legal-facts z ok).few h).long; differ = pointed-differ z xs ok h }

  pub taken_of : (size_line z xs).applies ≡ false → Taken z xs
  taken_of e = let f = size-facts z xs e in taken f.0 f.1

  pub taken-facts : (L : ℕ) → first board_order (stated_lines z xs L) ≡ Ok tt → Taken z xs
  taken-facts L h = taken_of (clear-off (stated_lines z xs L) board_order h Size refl)

-- a call whose check refuses answers so and leaves its output
pub refused-by : {c : Check} {x : Refusal} (bytes output : List ℕ) → c ≡ Err x → outcome (Err x) output ≡ settled c bytes output
refused-by bytes output e = sym (ap (λ (k : Check). settled k bytes output) e)

-- a call whose check passes writes its bytes and answers how many
pub done-by : {c : Check} (bytes output written : List ℕ) (count : ℕ) → c ≡ Ok tt → length bytes ≡ count → written ≡ bytes ++ drop count output
    → outcome (Ok count) written ≡ settled c bytes output
done-by bytes output written count p l e =
    ap (λ (w : List ℕ). outcome (Ok count) w) e
    ∙ ap (λ (m : ℕ). outcome (Ok m) (bytes ++ drop m output)) (sym l)
    ∙ sym (ap (λ (k : Check). settled k bytes output) p)
