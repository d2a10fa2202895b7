-- With slices of the programs' lengths, whatever bytes they hold, nothing is left out: an input fed in any parts gives what the printer's definition
-- says of it, and one of which a read failed gives the line of refusal 1.
-- Assumes nothing.
use Rattle.std.specs.Prelude.{◌≡◌, Bool, List, ℕ, ◌≤◌, length, take}
use Rattle.lists.specs.Lists.{concat}
use Rattle.printer.specs.declared.Parser.{Parser}
use Rattle.printer.specs.Printer.{refused_line}
use Rattle.printer.specs.Steps.{begin, wrong, decided}
use Rattle.print_feed.specs.Steps.{feed_parts, printed_by}
use Rattle.print_share.specs.Steps.{Written, placed, to_write}

-- the bytes that stand there
abbrev pub shown : Written → List ℕ
shown w = take w.count w.out

pub record ShareLaws : Type 0 where
  pub within : (text out : List ℕ) → (placed text out).count ≤ length (placed text out).out
  pub decides : (p : Parser) (file out : List ℕ) → length file ≡ 16384 → length out ≡ 34900
      → shown (placed (to_write p file) out) ≡ decided p (take p.count file)
  pub prints : (asked : Bool) (parts : List (List ℕ)) (file out : List ℕ) → length file ≡ 16384 → length out ≡ 34900
      → let s = feed_parts (record { parser = begin asked; file = file }) parts in shown (placed (to_write s.parser s.file) out) ≡ printed_by asked (concat parts)
  pub failed-read : (p : Parser) (file out : List ℕ) → length file ≡ 16384 → length out ≡ 34900
      → shown (placed (to_write (wrong p) file) out) ≡ refused_line 1
