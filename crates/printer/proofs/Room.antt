-- The share call with any room that is enough: the same is told of it.
-- Assumes nothing.
use mathlib.Core.Path.{◌≡◌, refl, sym, ap, ◌∙◌}
use mathlib.Core.List.{List, [], ◌∷◌}
use Prim.Native.Nat.{ℕ, ◌*◌, ◌≤◌}
use native.Mathlib.Omega.{arith}
use lib.ListN.{length}
use lib.Seq.{take_at}
use borrow.Author.Tests.{le-ltb}
use Rattle.lists.specs.Lists.{fit}
use Rattle.lists.proofs.Pieces.{length-fit}
use Rattle.sizes.specs.declared.Sizes.{Sizes}
use Rattle.std.specs.Prelude.{Ok, Err}
use Rattle.sizes.specs.declared.Refusal.TheVariants.{Short}
use Rattle.sizes.specs.Sizing.{α, stripes}
use Rattle.sizes.specs.Refusals.{◌when◌, first, board_order, Check}
use Rattle.mbcr.specs.Share.{share}
use Rattle.board_spec.specs.Text.{share_text}
use Rattle.board_spec.specs.Calls.{settled, size_line, long_line, node_line, share_lines, share_call}
use Rattle.printer.specs.Printer.{told, shared}

module _ (z : Sizes) (xs : List ℕ) where
  told_same : (L node : ℕ) (c : Check) (bytes a b : List ℕ) → told z xs L node (settled c bytes a) ≡ told z xs L node (settled c bytes b)
  told_same L node (Err x) bytes a b = refl
  told_same L node (Ok tt) bytes a b = ap (share_text z xs L node) (take_at bytes _ (length bytes) refl ∙ sym (take_at bytes _ (length bytes) refl))

  module _ (node : ℕ) (file output : List ℕ) (enough : stripes z (length file) * α z ≤ length output) where
    lines_same : share_lines z xs node file (fit (stripes z (length file) * α z) []) ≡ share_lines z xs node file output
    unfolding share_lines
    lines_same =
        let room = stripes z (length file) * α z in
        let n = length-fit room [] in
        let enough-there = le-ltb (length (fit room [])) room (omega arith) ∙ sym (le-ltb _ _ enough) in
        ap (λ t. size_line z xs ∷ long_line z (length file) ∷ node_line z (node ∷ []) ∷ Short when t ∷ []) enough-there

    pub any-room : shared z xs node file ≡ told z xs (length file) node (share_call z xs node file output)
    unfolding shared share_call
    any-room =
        ap (λ l. told z xs (length file) node (settled (first board_order l) (share z xs file node) (fit (stripes z (length file) * α z) []))) lines_same
        ∙ told_same (length file) node (first board_order (share_lines z xs node file output)) (share z xs file node) _ output
