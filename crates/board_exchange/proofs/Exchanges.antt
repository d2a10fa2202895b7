-- An exchange packet: what it says of the call that its check passes, and what the call answers where it refuses and where it passes.
-- Assumes nothing.
use Prim.Native.Nat.{ℕ, ◌*◌, ◌≤◌, ◌<◌}
use mathlib.Core.Path.{◌≡◌, refl, ap, ◌∙◌}
use mathlib.Core.Bool.{true}
use mathlib.Core.List.{List, [], ◌∷◌, ◌++◌}
use borrow.Author.Tests.{ltb-false, eqb-true}
use lib.Dec.{eqb}
use lib.ListN.{length, drop}
use Rattle.lists.specs.Tests.{below, different}
use Rattle.lists.proofs.Tests.{not-no, alls-hold}
use Rattle.lists.proofs.Boards.{below_all, all-below, different-cons}
use Rattle.sizes.specs.declared.Sizes.{Sizes}
use Rattle.sizes.specs.declared.Refusal.{Refusal}
use Rattle.sizes.specs.declared.Refusal.TheVariants.{Size, Long, Count, Node, Repeat, Area, Short}
use Rattle.std.specs.Prelude.{Ok, Err}
use Rattle.sizes.specs.Refusals.{first, board_order, Check}
use Rattle.sizes.specs.Sizing.{stripes}
use Rattle.sizes.proofs.Orders.{clear-off}
use Rattle.mbcr.specs.Rebuild.{exchange_packet}
use Rattle.mbcr.proofs.Repair.{length-exchange}
use Rattle.board_spec.specs.Calls.{exchange_lines, exchange_call}
use Rattle.line_checks.specs.Steps.{Stated}
use Rattle.board_lines.specs.Outcomes.{outcome}
use Rattle.board_lines.proofs.Facts.{stated-of, Taken, taken_of, refused-by, done-by}

pub record Exchanges (z : Sizes) (xs : List ℕ) (L : ℕ) (helpers packets : List ℕ) (receiver : ℕ) (output : List ℕ) : Type 0 where
  pub stated : Stated z L
  pub points-taken : Taken z xs
  pub enough : length helpers ≡ z.d
  pub known : below z.n helpers ≡ true
  pub once : different helpers ≡ true
  pub receiver-known : receiver < z.n
  pub packets-are : length packets ≡ z.d * (2 * stripes z L)
  pub room : stripes z L ≤ length output

module _ (z : Sizes) (xs : List ℕ) (L board : ℕ) (helpers packets : List ℕ) (receiver : ℕ) (output : List ℕ) where
  abbrev pub checked : Check
  checked = first board_order (exchange_lines z xs L board helpers packets receiver output)

  pub exchanges : checked ≡ Ok tt → Exchanges z xs L helpers packets receiver output
  unfolding exchange_lines
  exchanges h =
      let off = clear-off (exchange_lines z xs L board helpers packets receiver output) board_order h in
      let known = below_all z.n (board ∷ receiver ∷ helpers) (not-no _ (off Node refl)) in
      record {
        stated = stated-of z xs L (off Size refl) (off Long refl);
        points-taken = taken_of z xs (off Size refl);
        enough = eqb-true _ _ (alls-hold (eqb (length helpers) z.d ∷ []) (not-no _ (off Count refl))).0;
        known = all-below z.n helpers known.1.1;
        once = (different-cons receiver helpers (different-cons board (receiver ∷ helpers) (not-no _ (off Repeat refl))).1).1;
        receiver-known = known.1.0;
        packets-are = eqb-true _ _ (alls-hold (eqb (length packets) (z.d * (2 * stripes z L)) ∷ []) (not-no _ (off Area refl))).0;
        room = ltb-false _ _ (off Short refl);
      }

  pub exchange-refuses : {x : Refusal} → checked ≡ Err x → outcome (Err x) output ≡ exchange_call z xs L board helpers packets receiver output
  unfolding exchange_call
  exchange-refuses e = refused-by (exchange_packet z xs (stripes z L) helpers packets receiver) output e

  pub exchange-works : (written : List ℕ) (s : ℕ) → checked ≡ Ok tt → s ≡ stripes z L
      → written ≡ exchange_packet z xs s helpers packets receiver ++ drop s output
      → outcome (Ok s) written ≡ exchange_call z xs L board helpers packets receiver output
  unfolding exchange_call
  exchange-works written s p many e =
      ap (λ (m : ℕ). outcome (Ok m) written) many
      ∙ done-by (exchange_packet z xs (stripes z L) helpers packets receiver) output written (stripes z L) p
      (length-exchange z xs (stripes z L) helpers packets receiver)
      (e ∙ ap (λ (m : ℕ). exchange_packet z xs m helpers packets receiver ++ drop m output) many)
