-- A helper packet: what it says of the call that its check passes, and what the call answers where it refuses and where it passes.
-- Assumes nothing.
use Prim.Native.Nat.{ℕ, ◌*◌, ◌≤◌, ◌<◌}
use mathlib.Core.Path.{◌≡◌, refl, ap, ◌∙◌}
use mathlib.Core.List.{List, [], ◌∷◌, ◌++◌}
use borrow.Author.Tests.{ltb-false, eqb-true}
use lib.Dec.{eqb}
use lib.ListN.{length, drop}
use Rattle.lists.proofs.Tests.{not-no, alls-hold}
use Rattle.lists.proofs.Boards.{below_all}
use Rattle.sizes.specs.declared.Sizes.{Sizes}
use Rattle.sizes.specs.declared.Refusal.{Refusal}
use Rattle.sizes.specs.declared.Refusal.TheVariants.{Size, Long, Node, Area, Short}
use Rattle.std.specs.Prelude.{Ok, Err}
use Rattle.sizes.specs.Refusals.{first, board_order, Check}
use Rattle.sizes.specs.Sizing.{α, stripes}
use Rattle.sizes.proofs.Orders.{clear-off}
use Rattle.mbcr.specs.Rebuild.{helper_packet}
use Rattle.mbcr.proofs.Repair.{length-packet}
use Rattle.board_spec.specs.Calls.{helper_lines, helper_call}
use Rattle.line_checks.specs.Steps.{Stated}
use Rattle.board_lines.specs.Outcomes.{outcome}
use Rattle.board_lines.proofs.Facts.{stated-of, Taken, taken_of, refused-by, done-by}

pub record Helps (z : Sizes) (xs : List ℕ) (L helper receiver : ℕ) (held output : List ℕ) : Type 0 where
  pub stated : Stated z L
  pub points-taken : Taken z xs
  pub helper-known : helper < z.n
  pub receiver-known : receiver < z.n
  pub held-is : length held ≡ stripes z L * α z
  pub room : 2 * stripes z L ≤ length output

module _ (z : Sizes) (xs : List ℕ) (L helper receiver : ℕ) (held output : List ℕ) where
  abbrev pub checked : Check
  checked = first board_order (helper_lines z xs L helper receiver held output)

  pub helps : checked ≡ Ok tt → Helps z xs L helper receiver held output
  unfolding helper_lines
  helps h =
      let off = clear-off (helper_lines z xs L helper receiver held output) board_order h in
      let known = below_all z.n (helper ∷ receiver ∷ []) (not-no _ (off Node refl)) in
      record {
        stated = stated-of z xs L (off Size refl) (off Long refl);
        points-taken = taken_of z xs (off Size refl);
        helper-known = known.0;
        receiver-known = known.1.0;
        held-is = eqb-true _ _ (alls-hold (eqb (length held) (stripes z L * α z) ∷ []) (not-no _ (off Area refl))).0;
        room = ltb-false _ _ (off Short refl);
      }

  pub helper-refuses : {x : Refusal} → checked ≡ Err x → outcome (Err x) output ≡ helper_call z xs L helper receiver held output
  unfolding helper_call
  helper-refuses e = refused-by (helper_packet z xs (stripes z L) helper receiver held) output e

  pub helper-works : (written : List ℕ) (s : ℕ) → checked ≡ Ok tt → s ≡ stripes z L
      → written ≡ helper_packet z xs s helper receiver held ++ drop (2 * s) output
      → outcome (Ok (2 * s)) written ≡ helper_call z xs L helper receiver held output
  unfolding helper_call
  helper-works written s p many e =
      ap (λ (m : ℕ). outcome (Ok (2 * m)) written) many
      ∙ done-by (helper_packet z xs (stripes z L) helper receiver held) output written (2 * stripes z L) p
      (length-packet z xs (stripes z L) helper receiver held)
      (e ∙ ap (λ (m : ℕ). helper_packet z xs m helper receiver held ++ drop (2 * m) output) many)
