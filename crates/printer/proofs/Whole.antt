-- What is written of five lines and a file, for any sizes, board and file.
-- Assumes nothing.
use mathlib.Core.Path.{◌≡◌, refl, ap, ◌∙◌}
use mathlib.Core.Bool.{Bool, true, false}
use mathlib.Core.List.{List, [], ◌∷◌, ◌++◌, append-nil, append_assoc}
use Prim.Native.Nat.{ℕ, ◌*◌, ◌≤◌, ◌<◌}
use native.Mathlib.Omega.{arith}
use lib.Dec.{ltb}
use lib.ListN.{length}
use lib.Seq.{take_at}
use borrow.Author.Tests.{lt-ltb, le-ltb}
use Rattle.lists.specs.Tests.{pick}
use Rattle.lists.proofs.Tests.{hold-alls}
use Rattle.lists.specs.Lists.{joined, fit}
use Rattle.lists.proofs.Pieces.{length-fit}
use Rattle.sizes.specs.declared.Sizes.{Sizes}
use Rattle.sizes.specs.Sizing.{legal, α, B, stripes}
use Rattle.mbcr.specs.Share.{standard, pointed, share}
use Rattle.mbcr.proofs.PointLaws.{standard-pointed}
use Rattle.board_spec.proofs.Text.{standard-unsaid}
use Rattle.board_spec.specs.Demand1.{value}
use Rattle.board_spec.specs.Text.{decimal, hex_pair, text_line, share_text}
use Rattle.board_spec.specs.Calls.{share_call, share_lines}
use Rattle.printer.specs.Printer.{refused_line, max_file, shared, answered, five_lines, printed}
use Rattle.printer.specs.Steps.{accepted}
use Rattle.printer.specs.Laws.{asks, seven_lines, PrintedFor}
use Rattle.number_lines.specs.Laws.{Number}
use Rattle.number_lines.proofs.Picks.{yes, if-lt, if-le}
use Rattle.printer.proofs.Forms.{line_taken, decimal-taken}
use Rattle.printer.proofs.Near.{shared-far, refused-sizes, not-legal}

-- what is written of sizes and points that are taken
module _ (z : Sizes) (xs : List ℕ) (node : ℕ) (file : List ℕ) (ok : legal z ≡ true) (taken : pointed z xs ≡ true) where
  pub good : accepted z xs ≡ true
  good = hold-alls (legal z ∷ pointed z xs ∷ []) (ok, (taken, tt))

  pub answered-over : 16384 < length file → answered z xs node file ≡ refused_line 3
  answered-over h = yes (accepted z xs) _ _ good ∙ if-lt max_file (length file) _ _ h

  -- a file that the printer takes is the call's
  pub answered-called : length file ≤ 16384 → answered z xs node file ≡ shared z xs node file
  answered-called h = yes (accepted z xs) _ _ good ∙ if-le max_file (length file) _ _ h

  pub shared_long : 4096 * B z < length file → shared z xs node file ≡ refused_line 3
  unfolding shared share_call share_lines
  shared_long h = rw (ok, taken, lt-ltb (4096 * B z) (length file) h)

  pub shared-text : length file ≤ 4096 * B z → node < z.n → shared z xs node file ≡ share_text z xs (length file) node (share z xs file node)
  unfolding shared share_call share_lines
  shared-text h b =
      let room = length-fit (stripes z (length file) * α z) [] in
      rw (
        ok,
        taken,
        le-ltb (4096 * B z) (length file) h,
        lt-ltb node z.n b,
        le-ltb (length (fit (stripes z (length file) * α z) [])) (stripes z (length file) * α z) (omega arith),
      )
      (ap (share_text z xs (length file) node) (take_at (share z xs file node) _ _ refl))

  pub answered-long : 4096 * B z < length file → answered z xs node file ≡ refused_line 3
  answered-long h =
      yes (accepted z xs) _ _ good ∙ ap (λ (l : List ℕ). pick (ltb max_file (length file)) (refused_line 3) l) (shared_long h) ∙ same (ltb max_file (length file))
    where
      same : (t : Bool) → pick t (refused_line 3) (refused_line 3) ≡ refused_line 3
      same true = refl
      same false = refl

  pub answered-far : length file ≤ 16384 → length file ≤ 4096 * B z → z.n ≤ node → answered z xs node file ≡ refused_line 5
  answered-far h s b = answered-called h ∙ shared-far z xs node file ok taken b ∙ if-le (4096 * B z) (length file) _ _ s

-- five lines of decimals, each taken as its number
pub five-taken : {A : Type 0} (bad : A) (z : Sizes) (node : ℕ) (input : List ℕ) (go : Sizes → ℕ → List ℕ → A)
    → five_lines bad (asks (decimal z.n) (decimal z.k) (decimal z.d) (decimal z.r) (decimal node) input) go ≡ go z node input
five-taken bad z node input go =
    decimal-taken bad (0x6E ∷ []) z.n _ _
    ∙ decimal-taken bad (0x6B ∷ []) z.k _ _
    ∙ decimal-taken bad (0x64 ∷ []) z.d _ _
    ∙ decimal-taken bad (0x72 ∷ []) z.r _ _
    ∙ decimal-taken bad (0x6E ∷ 0x6F ∷ 0x64 ∷ 0x65 ∷ []) node input _

-- five lines of numbers in any digits
pub five-numbers : {A : Type 0} (bad : A) (n k d r node input : List ℕ) → Number n × Number k × Number d × Number r × Number node
    → (go : Sizes → ℕ → List ℕ → A)
    → five_lines bad (asks n k d r node input) go ≡ go (record { n = value n 0; k = value k 0; d = value d 0; r = value r 0 }) (value node 0) input
five-numbers bad n k d r node input (a, b, c, e, f) go =
    line_taken bad (0x6E ∷ []) n a _ _
    ∙ line_taken bad (0x6B ∷ []) k b _ _
    ∙ line_taken bad (0x64 ∷ []) d c _ _
    ∙ line_taken bad (0x72 ∷ []) r e _ _
    ∙ line_taken bad (0x6E ∷ 0x6F ∷ 0x64 ∷ 0x65 ∷ []) node f input _

-- lines, one behind the other
rightwards : (a b c d e f g : List ℕ) → a ++ b ++ c ++ d ++ e ++ f ++ g ≡ a ++ (b ++ (c ++ (d ++ (e ++ (f ++ g)))))
rightwards a b c d e f g = simp append_assoc

-- document 01's points have no line
pub seven : (z : Sizes) → legal z ≡ true → (L node : ℕ) (held : List ℕ) → share_text z (standard z) L node held ≡ seven_lines z L node held
unfolding share_text
seven z ok L node held =
    let a = text_line (0x6E ∷ []) (decimal z.n) in
    let b = text_line (0x6B ∷ []) (decimal z.k) in
    let c = text_line (0x64 ∷ []) (decimal z.d) in
    let d = text_line (0x72 ∷ []) (decimal z.r) in
    let e = text_line (0x6E ∷ 0x6F ∷ 0x64 ∷ 0x65 ∷ []) (decimal node) in
    let f = text_line (0x6C ∷ 0x65 ∷ 0x6E ∷ 0x67 ∷ 0x74 ∷ 0x68 ∷ []) (decimal L) in
    let g = text_line (0x64 ∷ 0x61 ∷ 0x74 ∷ 0x61 ∷ []) (joined hex_pair held) in
    ap (λ (l : List ℕ). a ++ b ++ c ++ d ++ e ++ f ++ l ++ g) (standard-unsaid z ok)
    ∙ ap (λ (l : List ℕ). l ++ g) (append-nil (a ++ b ++ c ++ d ++ e ++ f))
    ∙ rightwards a b c d e f g

-- whatever the input is of which this is read
module _ (z : Sizes) (node : ℕ) (file written : List ℕ) (taken : written ≡ answered z (standard z) node file) where
  said : PrintedFor z node file written
  said = record {
    illegal = λ bad. taken ∙ refused-sizes z (standard z) node file (not-legal z (standard z) bad);
    over-16384 = λ ok h. taken ∙ answered-over z (standard z) node file ok (standard-pointed z ok) h;
    over-stripes = λ ok h. taken ∙ answered-long z (standard z) node file ok (standard-pointed z ok) h;
    no-board = λ ok h s b. taken ∙ answered-far z (standard z) node file ok (standard-pointed z ok) h s b;
    text = λ ok h s b.
        let o = standard-pointed z ok in
        taken ∙ answered-called z (standard z) node file ok o h ∙ shared-text z (standard z) node file ok o s b
        ∙ seven z ok (length file) node (share z (standard z) file node);
  }

pub printed-for : (z : Sizes) (node : ℕ) (file : List ℕ)
    → PrintedFor z node file (printed (asks (decimal z.n) (decimal z.k) (decimal z.d) (decimal z.r) (decimal node) file))
unfolding printed
printed-for z node file = said z node file _ (five-taken (refused_line 1) z node file (λ z node file. answered z (standard z) node file))

pub asked-for : (n k d r node file : List ℕ) → Number n × Number k × Number d × Number r × Number node
    → PrintedFor (record { n = value n 0; k = value k 0; d = value d 0; r = value r 0 }) (value node 0) file (printed (asks n k d r node file))
unfolding printed
asked-for n k d r node file h =
    said (record { n = value n 0; k = value k 0; d = value d 0; r = value r 0 }) (value node 0) file _
    (five-numbers (refused_line 1) n k d r node file h (λ z node file. answered z (standard z) node file))
