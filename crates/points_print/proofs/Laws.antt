-- The laws of specs/Laws.antt.
-- Assumes nothing.
use mathlib.Core.Path.{◌≡◌, refl, sym, ap, fun_ext, ◌∙◌}
use mathlib.Core.Bool.{Bool, true, false}
use mathlib.Core.Logic.{◌≢◌, ◌⊎◌, inl, inr, ⊎_elim}
use mathlib.Core.List.{List, [], ◌∷◌, ◌++◌, append-nil}
use Prim.Native.Nat.{ℕ, ◌*◌, ◌≤◌, ◌<◌}
use native.Mathlib.Omega.{arith}
use lib.Dec.{ltb}
use lib.ListN.{length, get_or, get_or-eq_default}
use lib.Seq.{ext_get_or}
use borrow.Author.Tests.{ltb-true, ltb-false}
use Rattle.lists.specs.Tests.{pick}
use Rattle.lists.specs.Lists.{Bytes, tabulate, joined, fit}
use Rattle.lists.proofs.Pieces.{length-tabulate, tabulate-at, tabulate-all, length-fit, fit_at}
use Rattle.number_lines.specs.Laws.{Number}
use Rattle.number_lines.proofs.Capped.{capped-low}
use Rattle.sizes.specs.declared.Sizes.{Sizes}
use Rattle.sizes.specs.Sizing.{legal, B}
use Rattle.sizes.proofs.Legal.{legal-no, legal-facts}
use Rattle.mbcr.specs.Share.{standard, pointed, share}
use Rattle.board_spec.specs.Demand1.{value}
use Rattle.board_spec.specs.Text.{decimal, hex_pair, text_line, points_line, share_text}
use Rattle.board_spec.proofs.Text.{text-laws}
use Rattle.text_spec.proofs.Decimals.{decimal-spelled}
use Rattle.point_lines.specs.Lines.{read_points}
use Rattle.point_lines.specs.Steps as points
use Rattle.point_lines.proofs.Laws.{point-laws}
use Rattle.printer.specs.Laws.{asks, Asked}
use Rattle.printer.specs.Printer.{refused_line, answered, printed}
use Rattle.printer.specs.Steps.{accepted, max_number, begin, runs}
use Rattle.printer.proofs.Forms.{spelled-value, five-else}
use Rattle.printer.proofs.Near.{held, held_sizes, answered-held, refused-sizes, not-legal, not-pointed}
use Rattle.printer.proofs.Rest.{behind_lines}
use Rattle.printer.proofs.Laws.{whole, reached, lines-said, runs-rest}
use Rattle.printer.proofs.Whole.{five-taken, five-numbers, answered-over, answered-called, shared-text, answered-long, answered-far}
use Rattle.points_print.specs.PointsPrinter.{points_printed}
use Rattle.points_print.specs.Laws.{points_text, asks_points, PointsFor, PointsAsked, PointsLaws}
use Rattle.points_print.proofs.Back.{line-form}
use Rattle.points_print.proofs.Forms.{line_taken, line_other}

-- what follows the line of points
abbrev behind : Sizes → ℕ → List ℕ → List ℕ → List ℕ
behind z node xs file = answered z xs node file

-- numbers may be held, and at most 32 pairs are read
points-said : (z : Sizes) (node : ℕ) (input : List ℕ)
    → behind_lines (reached true z node) [] input ≡ read_points (refused_line 1) z.n input (λ xs file. answered z (fit 32 xs) node file)
points-said z node input =
    ap (points.reads (refused_line 1) (held z.n) points.begin input) (fun_ext (λ xs. fun_ext (λ file.
    whole (held_sizes z) xs (held node) file ∙ answered-held z (λ y. xs) node file)))
    ∙ go (ltb 32 z.n) refl
  where
    go : (t : Bool) → ltb 32 z.n ≡ t
        → points.reads (refused_line 1) (held z.n) points.begin input (behind z node) ≡ read_points (refused_line 1) z.n input (λ xs file. answered z (fit 32 xs) node file)
    go true e =
        let many = ltb-true 32 z.n e in
        let none : (xs : List ℕ) → accepted z xs ≡ false = λ xs. not-legal z xs (legal-no z (λ f. omega (arith, f.few, many))) in
        (point-laws.all-malformed (refused_line 1) (held z.n) (behind z node) (λ xs file. refused-sizes z xs node file (none xs)) input).1 points.begin
        ∙ sym (point-laws.all-malformed (refused_line 1) z.n (λ xs file. answered z (fit 32 xs) node file)
        (λ xs file. refused-sizes z (fit 32 xs) node file (none (fit 32 xs))) input).0
    go false e =
        let few = ltb-false 32 z.n e in
        ap (λ (n : ℕ). points.reads (refused_line 1) n points.begin input (behind z node)) (capped-low max_number z.n (omega arith))
        ∙ point-laws.byte-by-byte (refused_line 1) z.n few (behind z node) input

-- ---- what is written

-- all lines, with what stands between length= and data=
text-lines : (z : Sizes) (xs : List ℕ) (L node : ℕ) (held : List ℕ) → share_text z xs L node held
    ≡ asks (decimal z.n) (decimal z.k) (decimal z.d) (decimal z.r) (decimal node)
    (text_line (0x6C ∷ 0x65 ∷ 0x6E ∷ 0x67 ∷ 0x74 ∷ 0x68 ∷ []) (decimal L) ++ (points_line z xs ++ text_line (0x64 ∷ 0x61 ∷ 0x74 ∷ 0x61 ∷ []) (joined hex_pair held)))
text-lines z xs L node held =
    text-laws.text-is z xs L node held
    ∙ ap (λ (l : List ℕ). asks (decimal z.n) (decimal z.k) (decimal z.d) (decimal z.r) (decimal node)
    (text_line (0x6C ∷ 0x65 ∷ 0x6E ∷ 0x67 ∷ 0x74 ∷ 0x68 ∷ []) (decimal L) ++ (points_line z xs ++ l)))
    (append-nil (text_line (0x64 ∷ 0x61 ∷ 0x74 ∷ 0x61 ∷ []) (joined hex_pair held)))

module _ (z : Sizes) (xs : List ℕ) (all : length xs ≡ 32) (node : ℕ) (file written : List ℕ) (taken : written ≡ answered z xs node file) where
  -- with this line of points
  whole-text : legal z ≡ true → pointed z xs ≡ true → length file ≤ 16384 → length file ≤ 4096 * B z → node < z.n → (line : List ℕ) → points_line z xs ≡ line
      → written ≡ asks (decimal z.n) (decimal z.k) (decimal z.d) (decimal z.r) (decimal node)
      (text_line (0x6C ∷ 0x65 ∷ 0x6E ∷ 0x67 ∷ 0x74 ∷ 0x68 ∷ []) (decimal (length file))
      ++ (line ++ text_line (0x64 ∷ 0x61 ∷ 0x74 ∷ 0x61 ∷ []) (joined hex_pair (share z xs file node))))
  whole-text ok o l s b line e =
      taken ∙ answered-called z xs node file ok o l ∙ shared-text z xs node file ok o s b ∙ text-lines z xs (length file) node (share z xs file node)
      ∙ ap (λ (m : List ℕ). asks (decimal z.n) (decimal z.k) (decimal z.d) (decimal z.r) (decimal node)
      (text_line (0x6C ∷ 0x65 ∷ 0x6E ∷ 0x67 ∷ 0x74 ∷ 0x68 ∷ []) (decimal (length file))
      ++ (m ++ text_line (0x64 ∷ 0x61 ∷ 0x74 ∷ 0x61 ∷ []) (joined hex_pair (share z xs file node))))) e

  said : PointsFor z xs node file written
  said = record {
    illegal = λ bad. taken ∙ refused-sizes z xs node file (not-legal z xs bad);
    not_taken = λ ok bad. taken ∙ refused-sizes z xs node file (not-pointed z xs ok bad);
    over-16384 = λ ok o l. taken ∙ answered-over z xs node file ok o l;
    over-stripes = λ ok o l. taken ∙ answered-long z xs node file ok o l;
    no-board = λ ok o l s b. taken ∙ answered-far z xs node file ok o l s b;
    seven = λ ok o l s b each. whole-text ok o l s b [] (text-laws.points-unsaid z xs (omega (arith, (legal-facts z ok).few, all)) each);
    eight = λ ok o l s b i h e. whole-text ok o l s b _ (text-laws.points-said z xs i h e);
  }

-- ---- six lines and a file

module _ (z : Sizes) (xs : List ℕ) (node : ℕ) (file : List ℕ) where
  -- the five lines are taken, and then the line of points
  asked : points_printed (asks_points z xs node file) ≡ read_points (refused_line 1) z.n (points_text xs ++ file) (λ xs file. answered z (fit 32 xs) node file)
  unfolding points_printed
  asked = five-taken _ z node (points_text xs ++ file) (λ z node input. read_points (refused_line 1) z.n input (λ xs file. answered z (fit 32 xs) node file))

  other-count : Bytes xs → length xs ≢ z.n → points_printed (asks_points z xs node file) ≡ refused_line 1
  other-count h e = asked ∙ line_other (refused_line 1) xs z.n h e file (λ xs file. answered z (fit 32 xs) node file)

  module _ (h : Bytes xs) (e : length xs ≡ z.n) where
    taken : points_printed (asks_points z xs node file) ≡ answered z (fit 32 xs) node file
    taken = asked ∙ line_taken (refused_line 1) xs z.n h e file (λ xs file. answered z (fit 32 xs) node file)

    printed-for : PointsFor z (fit 32 xs) node file (points_printed (asks_points z xs node file))
    printed-for = said z (fit 32 xs) (length-fit 32 xs) node file _ taken

-- ---- any input

module _ (n k d r node : List ℕ) (numbers : Number n × Number k × Number d × Number r × Number node) where
  abbrev sizes_asked : Sizes
  sizes_asked = record { n = value n 0; k = value k 0; d = value d 0; r = value r 0 }

  abbrev points_behind : List ℕ → List ℕ
  points_behind input = read_points (refused_line 1) (value n 0) input (λ xs file. answered sizes_asked (fit 32 xs) (value node 0) file)

  behind-five : (input : List ℕ) → points_printed (asks n k d r node input) ≡ points_behind input
  unfolding points_printed
  behind-five input =
      five-numbers _ n k d r node input numbers (λ z node input. read_points (refused_line 1) z.n input (λ xs file. answered z (fit 32 xs) node file))

  asked-for : (told file : List ℕ) → Bytes told → length told ≡ value n 0
      → PointsFor sizes_asked (fit 32 told) (value node 0) file (points_printed (asks n k d r node (points_text told ++ file)))
  asked-for told file h e =
      said sizes_asked (fit 32 told) (length-fit 32 told) (value node 0) file _
      (behind-five (points_text told ++ file)
      ∙ line_taken (refused_line 1) told (value n 0) h e file (λ xs file. answered sizes_asked (fit 32 xs) (value node 0) file))

all-else : (input : List ℕ) → PointsAsked input ⊎ (points_printed input ≡ refused_line 1)
unfolding points_printed
all-else input = ⊎_elim five inr (five-else (refused_line 1) input (λ z node input. read_points (refused_line 1) z.n input (λ xs file. answered z (fit 32 xs) node file)))
  where
    five : Asked input → PointsAsked input ⊎ (points_printed input ≡ refused_line 1)
    five a =
        ⊎_elim
        (λ s. inl (record {
          n = a.n;
          k = a.k;
          d = a.d;
          r = a.r;
          node = a.node;
          told = s.told;
          file = s.behind;
          numbers = a.numbers;
          bytes = s.bytes;
          long = s.long;
          whole = a.whole ∙ ap (asks a.n a.k a.d a.r a.node) s.whole;
        }))
        (λ m. inr (ap points_printed a.whole ∙ behind-five a.n a.k a.d a.r a.node a.numbers a.file ∙ m _))
        (line-form (refused_line 1) (value a.n 0) a.file)

one_form : (l : List ℕ) → Number l → l ≡ decimal (value l 0)
one_form l h = sym (decimal-spelled l h) ∙ ap decimal (spelled-value l 0)

-- ---- document 01's points

-- n points in 32 bytes
filled : (m n : ℕ) (f : ℕ → ℕ) → n ≤ m → (i : ℕ) → i < m → get_or (fit m (tabulate n f)) i 0 ≡ pick (ltb i n) (f i) 0
filled m n f h i l = fit_at m (tabulate n f) i l ∙ go (ltb i n) refl
  where
    go : (t : Bool) → ltb i n ≡ t → get_or (tabulate n f) i 0 ≡ pick t (f i) 0
    go true e = tabulate-at n f 0 i (ltb-true i n e)
    go false e = get_or-eq_default (tabulate n f) 0 {n = i} (omega (arith, length-tabulate n f, ltb-false i n e))

numbers : (z : Sizes) → legal z ≡ true → fit 32 (tabulate z.n (λ i. i)) ≡ standard z
numbers z ok =
    let few = (legal-facts z ok).few in
    ext_get_or 0 (fit 32 (tabulate z.n (λ i. i))) (standard z) (length-fit 32 (tabulate z.n (λ i. i)) ∙ sym (length-tabulate 32 (λ i. pick (ltb i z.n) i 0)))
    (λ i l. let k : i < 32 = omega (arith, length-fit 32 (tabulate z.n (λ i. i))) in
    filled 32 z.n (λ i. i) few i k ∙ sym (tabulate-at 32 (λ i. pick (ltb i z.n) i 0) 0 i k))

in-order : (z : Sizes) (node : ℕ) (file : List ℕ) → legal z ≡ true
    → points_printed (asks_points z (tabulate z.n (λ i. i)) node file)
    ≡ printed (asks (decimal z.n) (decimal z.k) (decimal z.d) (decimal z.r) (decimal node) file)
unfolding printed
in-order z node file ok =
    let few = (legal-facts z ok).few in
    taken z (tabulate z.n (λ i. i)) node file (tabulate-all (λ x. x < 256) z.n (λ i. i) (λ i l. omega arith)) (length-tabulate z.n (λ i. i))
    ∙ ap (λ (xs : List ℕ). answered z xs node file) (numbers z ok)
    ∙ sym (five-taken (refused_line 1) z node file (λ z node file. answered z (standard z) node file))

by_bytes : (input : List ℕ) → runs (begin true) [] input ≡ points_printed input
unfolding points_printed
by_bytes input = runs-rest input (begin true) [] ∙ lines-said true _ points-said input

pub points-laws : PointsLaws
points-laws = record {
  all-else = all-else;
  asked-for = λ n k d r node told file numbers h e. asked-for n k d r node numbers told file h e;
  one_form = one_form;
  printed-for = printed-for;
  other-count = other-count;
  else-refused = line-form (refused_line 1);
  in-order = in-order;
  byte-by-byte = by_bytes;
}
