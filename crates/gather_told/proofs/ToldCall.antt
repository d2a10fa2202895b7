-- A file from shares that texts tell: what the call answers, by what was found, where sizes, length, boards and shares are as they should be.
-- Assumes nothing.
use mathlib.Core.Path.{◌≡◌, refl, ap, ◌∙◌}
use mathlib.Core.Bool.{Bool, true, false, not}
use mathlib.Core.List.{List, [], ◌∷◌, ◌++◌}
use Prim.Native.Nat.{ℕ, ◌+◌, ◌*◌, ◌≤◌, ◌<◌}
use lib.Dec.{ltb, eqb}
use lib.ListN.{length, drop}
use borrow.Author.Tests.{lt-ltb, le-ltb, eq-eqb}
use Rattle.lists.specs.Tests.{pick, different, given}
use Rattle.lists.proofs.Pieces.{length-joined, length-tabulate}
use Rattle.lists.proofs.Tests.{hold-alls}
use Rattle.sizes.specs.declared.Sizes.{Sizes}
use Rattle.sizes.specs.Refusals.{Check}
use Rattle.std.specs.Prelude.{Ok, Err}
use Rattle.sizes.specs.declared.Refusal.TheVariants.{Repeat, Short, Disagree}
use Rattle.sizes.specs.Sizing.{legal, α, B, stripes}
use Rattle.mbcr.specs.Share.{pointed}
use Rattle.mbcr.specs.Read.{decoded_file, read_file}
use Rattle.board_spec.specs.Calls.{file_lines}
use Rattle.board_lines.specs.Outcomes.{outcome}
use Rattle.board_lines.proofs.Facts.{Taken, taken}
use Rattle.decode_stripe.specs.Steps.{Asked}
use Rattle.board_file.proofs.FileCall.{checked, file-refuses, file-works}
use Rattle.text_in.specs.Steps.{bytes_at}
use Rattle.text_stripes.specs.Steps.{spelled}
use Rattle.gather_told.specs.Steps.{Ready, file_told}

module _ (text : List ℕ) (z : Sizes) (xs : List ℕ) (L : ℕ) (boards places output : List ℕ) (ready : Ready text z xs L boards places) where
  abbrev pub shares : List ℕ
  shares = spelled text places 0 (stripes z L * α z)

  pub points-taken : Taken z xs
  points-taken = taken z xs ready.stated.is-legal ready.is-pointed

  pub asked-told : different boards ≡ true → Asked z xs boards
  asked-told d =
      record { sized = ready.stated.is-legal; distinct = points-taken.differ; counted = ready.enough; known = ready.known; unlike = d }

  long : length shares ≡ z.k * (stripes z L * α z)
  unfolding spelled
  long =
      length-joined (stripes z L * α z) (λ p. bytes_at text (p + 0) (stripes z L * α z)) (λ p. length-tabulate (stripes z L * α z) _) places
      ∙ ap (λ (m : ℕ). m * (stripes z L * α z)) ready.as_many

  -- the lines that may hold
  abbrev asks : Bool → Bool → Bool → Check
  asks d s g = pick (not d) (Err Repeat) (pick s (Err Short) (pick (not g) (Err Disagree) (Ok tt)))

  is-checked : checked z xs L boards shares output ≡ asks (different boards) (ltb (length output) L) (given (read_file z xs L boards shares))
  unfolding file_lines
  is-checked =
      rw (
        hold-alls (legal z ∷ pointed z xs ∷ []) (ready.stated.is-legal, (ready.is-pointed, tt)),
        le-ltb (4096 * B z) L ready.stated.not-long,
        hold-alls (eqb (length boards) z.k ∷ []) (eq-eqb _ _ ready.enough, tt),
        ready.known,
        hold-alls (eqb (length shares) (z.k * (stripes z L * α z)) ∷ []) (eq-eqb _ _ long, tt),
      ) refl

  pub refuses-repeat : different boards ≡ false → outcome (Err Repeat) output ≡ file_told text z xs L boards places output
  refuses-repeat d =
      file-refuses z xs L boards shares output (is-checked ∙ ap (λ (b : Bool). asks b (ltb (length output) L) (given (read_file z xs L boards shares))) d)

  module _ (d : different boards ≡ true) where
    past-repeat : checked z xs L boards shares output ≡ asks true (ltb (length output) L) (given (read_file z xs L boards shares))
    past-repeat = is-checked ∙ ap (λ (b : Bool). asks b (ltb (length output) L) (given (read_file z xs L boards shares))) d

    pub refuses-short : length output < L → outcome (Err Short) output ≡ file_told text z xs L boards places output
    refuses-short l =
        file-refuses z xs L boards shares output (past-repeat ∙ ap (λ (b : Bool). asks true b (given (read_file z xs L boards shares))) (lt-ltb _ _ l))

    module _ (l : L ≤ length output) where
      past-short : checked z xs L boards shares output ≡ asks true false (given (read_file z xs L boards shares))
      past-short = past-repeat ∙ ap (λ (b : Bool). asks true b (given (read_file z xs L boards shares))) (le-ltb _ _ l)

      pub refuses-disagree : given (read_file z xs L boards shares) ≡ false → outcome (Err Disagree) output ≡ file_told text z xs L boards places output
      refuses-disagree g = file-refuses z xs L boards shares output (past-short ∙ ap (asks true false) g)

      pub works : given (read_file z xs L boards shares) ≡ true → (written : List ℕ) → written ≡ decoded_file z xs L boards shares ++ drop L output
          → outcome (Ok L) written ≡ file_told text z xs L boards places output
      works g written e = file-works z xs L boards shares output written (past-short ∙ ap (asks true false) g) e
