-- One share of a file, at any points: what it says of the call that its check passes, and what the call answers by what its check answered.
-- Assumes nothing.
use Prim.Native.Nat.{ℕ, ◌*◌, ◌≤◌, ◌<◌}
use mathlib.Core.Path.{◌≡◌, refl, ap, ◌∙◌}
use mathlib.Core.List.{List, [], ◌∷◌, ◌++◌}
use borrow.Author.Tests.{ltb-false}
use lib.ListN.{length, drop}
use Rattle.lists.proofs.Tests.{not-no}
use Rattle.lists.proofs.Boards.{below_all}
use Rattle.sizes.specs.declared.Sizes.{Sizes}
use Rattle.sizes.specs.declared.Refusal.{Refusal}
use Rattle.sizes.specs.declared.Refusal.TheVariants.{Size, Long, Node, Short}
use Rattle.std.specs.Prelude.{Ok, Err}
use Rattle.sizes.specs.Refusals.{first, board_order, Check}
use Rattle.sizes.specs.Sizing.{α, stripes}
use Rattle.sizes.proofs.Legal.{legal-facts}
use Rattle.sizes.proofs.Orders.{clear-off}
use Rattle.mbcr.specs.Share.{share}
use Rattle.mbcr.proofs.Repair.{length-share}
use Rattle.board_spec.specs.Calls.{share_lines, share_call}
use Rattle.line_checks.specs.Steps.{Stated}
use Rattle.board_lines.specs.Outcomes.{outcome}
use Rattle.board_lines.proofs.Facts.{stated-of, Taken, taken_of, refused-by, done-by}

pub record Shares (z : Sizes) (xs : List ℕ) (node : ℕ) (file output : List ℕ) : Type 0 where
  pub stated : Stated z (length file)
  pub points-taken : Taken z xs
  pub known : node < z.n
  pub room : stripes z (length file) * α z ≤ length output

module _ (z : Sizes) (xs : List ℕ) (node : ℕ) (file output : List ℕ) where
  abbrev pub checked : Check
  checked = first board_order (share_lines z xs node file output)

  pub share-facts : checked ≡ Ok tt → Shares z xs node file output
  unfolding share_lines
  share-facts h =
      let off = clear-off (share_lines z xs node file output) board_order h in
      record {
        stated = stated-of z xs (length file) (off Size refl) (off Long refl);
        points-taken = taken_of z xs (off Size refl);
        known = (below_all z.n (node ∷ []) (not-no _ (off Node refl))).0;
        room = ltb-false _ _ (off Short refl);
      }

  pub share-refuses : {x : Refusal} → checked ≡ Err x → outcome (Err x) output ≡ share_call z xs node file output
  unfolding share_call
  share-refuses e = refused-by (share z xs file node) output e

  pub share-works : (written : List ℕ) (s count : ℕ) → checked ≡ Ok tt → s ≡ stripes z (length file) → count ≡ stripes z (length file) * α z
      → written ≡ share z xs file node ++ drop (s * α z) output → outcome (Ok count) written ≡ share_call z xs node file output
  unfolding share_call
  share-works written s count p here many e =
      ap (λ (m : ℕ). outcome (Ok m) written) many
      ∙ done-by (share z xs file node) output written (stripes z (length file) * α z) p (length-share z xs (legal-facts z (share-facts p).stated.is-legal) file node)
      (e ∙ ap (λ (m : ℕ). share z xs file node ++ drop (m * α z) output) here)
