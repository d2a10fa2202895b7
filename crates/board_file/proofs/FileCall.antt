-- A file from k shares: what the kernels ask, from what the checks told; and what the call answers by what its check answered.
-- Assumes nothing.
use Prim.Native.Nat.{ℕ, ◌*◌, ◌≤◌}
use mathlib.Core.Path.{◌≡◌, refl, sym, ap, ◌∙◌}
use mathlib.Core.Bool.{true, false, not}
use mathlib.Core.List.{List, [], ◌∷◌, ◌++◌}
use native.Mathlib.Omega.{arith}
use borrow.Author.Tests.{ltb-false, eqb-true}
use lib.Dec.{eqb}
use lib.ListN.{length, drop}
use Rattle.lists.specs.Tests.{alls, below, different, given}
use Rattle.lists.proofs.Tests.{not-no, alls-hold}
use Rattle.sizes.specs.declared.Sizes.{Sizes}
use Rattle.sizes.specs.declared.Refusal.{Refusal}
use Rattle.sizes.specs.declared.Refusal.TheVariants.{Size, Long, Count, Node, Repeat, Area, Short, Disagree}
use Rattle.std.specs.Prelude.{Ok, Err}
use Rattle.sizes.specs.Refusals.{first, board_order, Check}
use Rattle.sizes.specs.Sizing.{α, stripes}
use Rattle.sizes.proofs.Legal.{legal-facts}
use Rattle.sizes.proofs.Orders.{clear-off}
use Rattle.mbcr.specs.Read.{decoded_file, read_file}
use Rattle.mbcr.proofs.Read.{length-decoded-file}
use Rattle.board_spec.specs.Calls.{file_of, count_line, node_line, repeat_line, area_line, file_lines, file_call}
use Rattle.board_spec.proofs.Files.{file-is}
use Rattle.line_checks.specs.Steps.{asked, Stated}
use Rattle.board_lines.specs.Outcomes.{outcome}
use Rattle.line_checks.proofs.Answers.{passed}
use Rattle.board_lines.proofs.Facts.{stated-of, Taken, taken_of, refused-by, done-by}
use Rattle.decode_stripe.specs.Steps.{Asked}

-- a refusal is no pass
pub not-passed : {x : Refusal} {P : Type 0} → ◌≡◌ {A = Check} (Err x) (Ok tt) → P
not-passed e = let z : ◌≡◌ {A = ℕ} 0 1 = cc in absurd (omega arith)

-- ---- what the kernels ask

pub record Readable (z : Sizes) (xs : List ℕ) (L : ℕ) (boards : List ℕ) (m : ℕ) : Type 0 where
  pub stated : Stated z L
  pub points-taken : Taken z xs
  pub enough : length boards ≡ z.k
  pub known : below z.n boards ≡ true
  pub all-different : different boards ≡ true
  pub held-is : m ≡ z.k * (stripes z L * α z)

-- from the lines before SHORT
one : (a b : ℕ) → not (alls (eqb a b ∷ [])) ≡ false → a ≡ b
one a b e = eqb-true a b (alls-hold (eqb a b ∷ []) (not-no _ e)).0

pub readable : (z : Sizes) (xs : List ℕ) (L : ℕ) (boards : List ℕ) (m : ℕ) → Stated z L → Taken z xs → asked (count_line (eqb (length boards) z.k ∷ [])) ≡ Ok tt
    → asked (node_line z boards) ≡ Ok tt → asked (repeat_line boards) ≡ Ok tt → asked (area_line (eqb m (z.k * (stripes z L * α z)) ∷ [])) ≡ Ok tt
    → Readable z xs L boards m
readable z xs L boards m s t count node repeat area =
    record {
      stated = s;
      points-taken = t;
      enough = one _ _ (passed (count_line (eqb (length boards) z.k ∷ [])) count);
      known = not-no _ (passed (node_line z boards) node);
      all-different = not-no _ (passed (repeat_line boards) repeat);
      held-is = one _ _ (passed (area_line (eqb m (z.k * (stripes z L * α z)) ∷ [])) area);
    }

pub asked_of : (z : Sizes) (xs : List ℕ) (L : ℕ) (boards : List ℕ) (m : ℕ) → Readable z xs L boards m → Asked z xs boards
asked_of z xs L boards m f =
    record {
      sized = f.stated.is-legal;
      distinct = f.points-taken.differ;
      counted = f.enough;
      known = f.known;
      unlike = f.all-different;
    }

-- ---- the call, at any points

module _ (z : Sizes) (xs : List ℕ) (L : ℕ) (boards held output : List ℕ) where
  abbrev pub checked : Check
  checked = first board_order (file_lines z xs L boards held output)

  pub file-readable : checked ≡ Ok tt → Readable z xs L boards (length held)
  unfolding file_lines
  file-readable h =
      let off = clear-off (file_lines z xs L boards held output) board_order h in
      readable z xs L boards (length held) (stated-of z xs L (off Size refl) (off Long refl)) (taken_of z xs (off Size refl))
      (rw (off Count refl)) (rw (off Node refl)) (rw (off Repeat refl)) (rw (off Area refl))

  pub file-room : checked ≡ Ok tt → L ≤ length output
  unfolding file_lines
  file-room h = ltb-false _ _ (clear-off (file_lines z xs L boards held output) board_order h Short refl)

  file-agrees : checked ≡ Ok tt → given (read_file z xs L boards held) ≡ true
  unfolding file_lines
  file-agrees h = not-no _ (clear-off (file_lines z xs L boards held output) board_order h Disagree refl)

  pub file-refuses : {x : Refusal} → checked ≡ Err x → outcome (Err x) output ≡ file_call z xs L boards held output
  unfolding file_call
  file-refuses e = refused-by (file_of (read_file z xs L boards held)) output e

  pub file-works : (written : List ℕ) → checked ≡ Ok tt → written ≡ decoded_file z xs L boards held ++ drop L output
      → outcome (Ok L) written ≡ file_call z xs L boards held output
  unfolding file_call
  file-works written p e =
      let f = file-readable p in
      let read = file-is z xs L boards held (file-agrees p) in
      done-by (file_of (read_file z xs L boards held)) output written L p
      (ap length read ∙ length-decoded-file z xs (legal-facts z f.stated.is-legal) boards f.enough L held)
      (e ∙ ap (λ (l : List ℕ). l ++ drop L output) (sym read))
