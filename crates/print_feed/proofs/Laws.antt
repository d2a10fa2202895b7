-- The laws of specs/Laws.antt.
-- Assumes nothing.
use mathlib.Core.Path.{◌≡◌, refl, ap, ◌∙◌}
use mathlib.Core.Bool.{Bool, true, false}
use mathlib.Core.List.{List, [], ◌∷◌, ◌++◌}
use Prim.Native.Nat.{ℕ}
use lib.ListN.{length, take}
use Rattle.lists.specs.Lists.{concat}
use Rattle.printer.specs.Steps.{begin, fed, runs}
use Rattle.printer.proofs.Laws.{printer-laws}
use Rattle.points_print.proofs.Laws.{points-laws}
use Rattle.print_feed.specs.Steps.{Feed, kept_in, feed_all, feed_parts, printed_by}
use Rattle.print_feed.specs.Laws.{FeedLaws}
use Rattle.print_feed.proofs.Kept.{in-length, kept_step}

-- a part, then what is behind it
pub behind : (part input : List ℕ) (s : Feed) → feed_all (feed_all s part) input ≡ feed_all s (part ++ input)
behind [] input s = refl
behind (b ∷ part) input s = behind part input (record { parser = fed s.parser b; file = kept_in s.parser b s.file })

parts-are-whole : (parts : List (List ℕ)) (s : Feed) → feed_parts s parts ≡ feed_all s (concat parts)
parts-are-whole [] s = refl
parts-are-whole (part ∷ parts) s = parts-are-whole parts (feed_all s part) ∙ behind part (concat parts) s

same_length : (input : List ℕ) (s : Feed) → length (feed_all s input).file ≡ length s.file
same_length [] s = refl
same_length (b ∷ input) s =
    same_length input (record { parser = fed s.parser b; file = kept_in s.parser b s.file }) ∙ in-length s.parser b s.file

-- what is kept of the file
abbrev first : Feed → List ℕ
first s = take s.parser.count s.file

-- parser and file at the end do what the printer does byte by byte
runs_on : (input : List ℕ) (s : Feed) → length s.file ≡ 16384 → runs (feed_all s input).parser (first (feed_all s input)) [] ≡ runs s.parser (first s) input
runs_on [] s n = refl
runs_on (b ∷ input) s n =
    runs_on input (record { parser = fed s.parser b; file = kept_in s.parser b s.file }) (in-length s.parser b s.file ∙ n)
    ∙ ap (λ (l : List ℕ). runs (fed s.parser b) l input) (kept_step s.parser b s.file n)

either : (asked : Bool) (input : List ℕ) → runs (begin asked) [] input ≡ printed_by asked input
either true = points-laws.byte-by-byte
either false = printer-laws.byte-by-byte

pub feed-laws : FeedLaws
feed-laws = record {
  parts-are-whole = λ s parts. parts-are-whole parts s;
  same_length = λ s input. same_length input s;
  decides = λ asked file input n. runs_on input _ n ∙ either asked input;
}
