-- The laws of specs/Laws.antt.
-- Assumes nothing.
use mathlib.Core.Path.{◌≡◌, refl, sym, ◌∙◌}
use mathlib.Core.Bool.{Bool, false}
use mathlib.Core.List.{List, [], ◌∷◌}
use Prim.Native.Nat.{ℕ}
use native.Mathlib.Nat.{add-zero}
use Rattle.number_lines.specs.Lines.{line}
use Rattle.number_lines.specs.Steps as steps
use Rattle.number_lines.proofs.Laws.{line-laws}
use Rattle.sizes.specs.declared.Sizes.{Sizes}
use Rattle.mbcr.specs.Share.{standard}
use Rattle.printer.specs.declared.Parser.{Parser}
use Rattle.printer.specs.Laws.{PrinterLaws, Asked}
use mathlib.Core.Logic.{◌⊎◌}
use Rattle.printer.specs.Printer.{refused_line, answered, five_lines, printed}
use Rattle.printer.specs.Steps.{name_of, max_number, begin_points, begin, wrong, fed, keep, runs}
use Rattle.printer.proofs.Forms.{five-else, line_taken, line-else, decimal-taken}
use Rattle.printer.proofs.Near.{held, held_sizes, answered-held}
use Rattle.printer.proofs.Whole.{printed-for, asked-for}
use Rattle.printer.proofs.Room.{any-room}
use Rattle.printer.proofs.Rest.{filing, behind_lines, rest, rest-bad, step, at-end}

-- nothing is kept yet, and nothing is counted
pub whole : (z : Sizes) (xs : List ℕ) (node : ℕ) (file : List ℕ) → filing z xs node 0 [] file ≡ answered z xs node file
unfolding filing
whole z xs node file = simp add-zero

-- the parser behind the lines of numbers, each held
abbrev pub reached : Bool → Sizes → ℕ → Parser
reached asked z node = record {
  left = 0;
  line = steps.begin;
  n = held z.n;
  k = held z.k;
  d = held z.d;
  r = held z.r;
  node = held node;
  asked = asked;
  points = begin_points asked;
  count = 0;
  bad = false;
}

-- each line is read as it stands, and its number may be held
pub lines-said : (asked : Bool) (then : Sizes → ℕ → List ℕ → List ℕ) → ((z : Sizes) (node : ℕ) (input : List ℕ) → behind_lines (reached asked z node) [] input ≡ then z node input)
    → (input : List ℕ) → rest (begin asked) [] input ≡ five_lines (refused_line 1) input then
unfolding rest
lines-said asked then h input =
    on (name_of 5) _ _ (λ n input.
    on (name_of 4) _ _ (λ k input.
    on (name_of 3) _ _ (λ d input.
    on (name_of 2) _ _ (λ r input.
    on (name_of 1) _ _ (λ node input.
    h _ node input) input) input) input) input) input
  where
    on : (name : List ℕ) (go then : ℕ → List ℕ → List ℕ) → ((v : ℕ) (rest : List ℕ) → go (held v) rest ≡ then v rest)
        → (input : List ℕ) → steps.reads (refused_line 1) name max_number steps.begin input go ≡ line (refused_line 1) name input then
    on name go then = line-laws.goes-on (refused_line 1) name max_number go then

first_said : (input : List ℕ) → rest (begin false) [] input ≡ printed input
unfolding printed
first_said input =
    lines-said false (λ z node file. answered z (standard z) node file) (λ z node file.
    whole (held_sizes z) (standard (held_sizes z)) (held node) file ∙ answered-held z standard node file) input

pub runs-rest : (input : List ℕ) (p : Parser) (kept : List ℕ) → runs p kept input ≡ rest p kept input
runs-rest [] p kept = sym (at-end p kept)
runs-rest (b ∷ input) p kept = runs-rest input (fed p b) (keep p kept b) ∙ sym (step p kept b input)

else-one : (input : List ℕ) → Asked input ⊎ (printed input ≡ refused_line 1)
unfolding printed
else-one input = five-else (refused_line 1) input (λ z node file. answered z (standard z) node file)

pub printer-laws : PrinterLaws
printer-laws = record {
  all-else = else-one;
  asked-for = asked-for;
  refused-is = λ x. refl;
  taken = line_taken (refused_line 1);
  else-refused = line-else (refused_line 1);
  decimals = decimal-taken (refused_line 1);
  printed-for = printed-for;
  byte-by-byte = λ input. runs-rest input (begin false) [] ∙ first_said input;
  failed-read = λ p kept input. runs-rest input (wrong p) kept ∙ rest-bad (wrong p) kept input refl;
  any-room = any-room;
}
