-- A share as text, at any points: what it says of the call that its checks pass, and what the call answers by what its check answered.
-- Assumes nothing.
use Prim.Native.Nat.{ℕ, ◌*◌, ◌≤◌}
use mathlib.Core.Path.{◌≡◌, refl, sym, ap, ◌∙◌}
use mathlib.Core.List.{List, [], ◌∷◌, ◌++◌}
use native.Mathlib.Nat.{mul-le-mul_right}
use native.Mathlib.Omega.{arith}
use borrow.Author.Tests.{ltb-false, eqb-true}
use lib.Dec.{eqb}
use lib.ListN.{length, drop}
use Rattle.lists.specs.Lists.{over}
use Rattle.lists.proofs.Tests.{not-no, alls-hold}
use Rattle.lists.proofs.Boards.{below_all}
use Rattle.sizes.specs.declared.Sizes.{Sizes}
use Rattle.sizes.specs.declared.Refusal.{Refusal}
use Rattle.sizes.specs.declared.Refusal.TheVariants.{Size, Long, Node, Area, Short}
use Rattle.std.specs.Prelude.{Ok, Err}
use Rattle.sizes.specs.Refusals.{first, board_order, Check}
use Rattle.sizes.specs.Sizing.{α, stripes}
use Rattle.sizes.proofs.Legal.{legal-facts, α-most, B-most, stripes-least}
use Rattle.sizes.proofs.Orders.{clear-off}
use Rattle.board_spec.specs.Text.{share_text}
use Rattle.board_spec.specs.Calls.{node_line, area_line, text_lines, text_call}
use Rattle.line_checks.specs.Steps.{asked, Stated}
use Rattle.board_lines.specs.Outcomes.{outcome}
use Rattle.line_checks.proofs.Answers.{passed}
use Rattle.board_lines.proofs.Facts.{stated-of, taken_of, refused-by, done-by}
use Rattle.text_writer.specs.Steps.{Writes, Fits}

-- what the writer asks, from the lines before SHORT
pub writes : (z : Sizes) (xs : List ℕ) (L node m : ℕ) → Stated z L → length xs ≡ 32
    → asked (node_line z (node ∷ [])) ≡ Ok tt → asked (area_line (eqb m (stripes z L * α z) ∷ [])) ≡ Ok tt
    → Writes z xs L node m
writes z xs L node m s l n a =
    let f = legal-facts z s.is-legal in
    let e : m ≡ stripes z L * α z = eqb-true _ _ (alls-hold (eqb m (stripes z L * α z) ∷ []) (not-no _ (passed (area_line (eqb m (stripes z L * α z) ∷ [])) a))).0 in
    let p : stripes z L * α z ≤ 4096 * α z = mul-le-mul_right (α z) (stripes-least z f L 4096 s.not-long) in
    record {
      is-legal = s.is-legal;
      has-points = omega (arith, l, f.few);
      low-node = omega (arith, (below_all z.n (node ∷ []) (not-no _ (passed (node_line z (node ∷ [])) n))).0, f.few);
      low-length = omega (arith, s.not-long, B-most z f);
      low_held = omega (arith, e, p, α-most z f);
    }

module _ (z : Sizes) (xs : List ℕ) (L node : ℕ) (held output : List ℕ) where
  abbrev pub checked : Check
  checked = first board_order (text_lines z xs L node held output)

  pub text-writes : checked ≡ Ok tt → Writes z xs L node (length held)
  unfolding text_lines
  text-writes h =
      let off = clear-off (text_lines z xs L node held output) board_order h in
      writes z xs L node (length held) (stated-of z xs L (off Size refl) (off Long refl)) (taken_of z xs (off Size refl)).long (rw (off Node refl)) (rw (off Area refl))

  pub text-fits : checked ≡ Ok tt → Fits z xs L node held output
  unfolding text_lines
  text-fits h =
      let off = clear-off (text_lines z xs L node held output) board_order h in
      record { has-points = (text-writes h).has-points; has_room = ltb-false _ _ (off Short refl) }

  pub text-refuses : {x : Refusal} → checked ≡ Err x → outcome (Err x) output ≡ text_call z xs L node held output
  unfolding text_call
  text-refuses e = refused-by (share_text z xs L node held) output e

  pub text-works : (written : List ℕ) (count : ℕ) → checked ≡ Ok tt → count ≡ length (share_text z xs L node held) → written ≡ over (share_text z xs L node held) output
      → outcome (Ok count) written ≡ text_call z xs L node held output
  unfolding text_call
  text-works written count p many e =
      done-by (share_text z xs L node held) output written count p (sym many) (e ∙ ap (λ (m : ℕ). share_text z xs L node held ++ drop m output) (sym many))
