-- A finished share: what it says of the call that its check passes, and what the call answers where it refuses and where it passes.
-- Assumes nothing.
use Prim.Native.Nat.{ℕ, ◌-◌, ◌*◌, ◌≤◌}
use mathlib.Core.Path.{◌≡◌, refl, ap, ◌∙◌}
use mathlib.Core.Bool.{true}
use mathlib.Core.List.{List, [], ◌∷◌, ◌++◌}
use borrow.Author.Tests.{ltb-false, eqb-true}
use lib.Dec.{eqb}
use lib.ListN.{length, drop}
use Rattle.lists.specs.Tests.{below, different}
use Rattle.lists.proofs.Tests.{not-no, alls-hold}
use Rattle.sizes.specs.declared.Sizes.{Sizes}
use Rattle.sizes.specs.declared.Refusal.{Refusal}
use Rattle.sizes.specs.declared.Refusal.TheVariants.{Size, Long, Count, Node, Repeat, Area, Short}
use Rattle.std.specs.Prelude.{Ok, Err}
use Rattle.sizes.specs.Refusals.{first, board_order, Check}
use Rattle.sizes.specs.Sizing.{α, stripes}
use Rattle.sizes.proofs.Orders.{clear-off}
use Rattle.sizes.proofs.Legal.{legal-facts}
use Rattle.mbcr.specs.Rebuild.{finished_share}
use Rattle.mbcr.proofs.Repair.{length-finished}
use Rattle.board_spec.specs.Calls.{finished_lines, finished_call}
use Rattle.line_checks.specs.Steps.{Stated}
use Rattle.board_lines.specs.Outcomes.{outcome}
use Rattle.board_lines.proofs.Facts.{stated-of, Taken, taken_of, refused-by, done-by}

pub record Finishes (z : Sizes) (xs : List ℕ) (L board : ℕ) (helpers packets partners exchanges output : List ℕ) : Type 0 where
  pub stated : Stated z L
  pub points-taken : Taken z xs
  pub helpers-enough : length helpers ≡ z.d
  pub partners-enough : length partners ≡ z.r - 1
  pub known : below z.n (helpers ++ partners ++ (board ∷ [])) ≡ true
  pub once : different (helpers ++ partners ++ (board ∷ [])) ≡ true
  pub packets-are : length packets ≡ z.d * (2 * stripes z L)
  pub exchanges-are : length exchanges ≡ (z.r - 1) * stripes z L
  pub room : stripes z L * α z ≤ length output

module _ (z : Sizes) (xs : List ℕ) (L board : ℕ) (helpers packets partners exchanges output : List ℕ) where
  abbrev pub checked : Check
  checked = first board_order (finished_lines z xs L board helpers packets partners exchanges output)

  pub finishes : checked ≡ Ok tt → Finishes z xs L board helpers packets partners exchanges output
  unfolding finished_lines
  finishes h =
      let off = clear-off (finished_lines z xs L board helpers packets partners exchanges output) board_order h in
      let counts = alls-hold (eqb (length helpers) z.d ∷ eqb (length partners) (z.r - 1) ∷ []) (not-no _ (off Count refl)) in
      let lents = eqb (length packets) (z.d * (2 * stripes z L)) ∷ eqb (length exchanges) ((z.r - 1) * stripes z L) ∷ [] in
      let lengths = alls-hold lents (not-no _ (off Area refl)) in
      record {
        stated = stated-of z xs L (off Size refl) (off Long refl);
        points-taken = taken_of z xs (off Size refl);
        helpers-enough = eqb-true _ _ counts.0;
        partners-enough = eqb-true _ _ counts.1.0;
        known = not-no _ (off Node refl);
        once = not-no _ (off Repeat refl);
        packets-are = eqb-true _ _ lengths.0;
        exchanges-are = eqb-true _ _ lengths.1.0;
        room = ltb-false _ _ (off Short refl);
      }

  pub finish-refuses : {x : Refusal} → checked ≡ Err x → outcome (Err x) output ≡ finished_call z xs L board helpers packets partners exchanges output
  unfolding finished_call
  finish-refuses e = refused-by (finished_share z xs (stripes z L) board helpers packets partners exchanges) output e

  pub finish-works : (written : List ℕ) (s count : ℕ) → checked ≡ Ok tt → s ≡ stripes z L → count ≡ stripes z L * α z
      → written ≡ finished_share z xs s board helpers packets partners exchanges ++ drop (s * α z) output
      → outcome (Ok count) written ≡ finished_call z xs L board helpers packets partners exchanges output
  unfolding finished_call
  finish-works written s count p many total e =
      ap (λ (m : ℕ). outcome (Ok m) written) total
      ∙ done-by (finished_share z xs (stripes z L) board helpers packets partners exchanges) output written (stripes z L * α z) p
      (length-finished z xs (legal-facts z (finishes p).stated.is-legal) (stripes z L) board helpers packets partners exchanges)
      (e ∙ ap (λ (m : ℕ). finished_share z xs m board helpers packets partners exchanges ++ drop (m * α z) output) many)
