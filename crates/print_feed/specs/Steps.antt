-- The printers' input over lent slices, for slices of any length: the parser, and every byte of the slice that keeps the file.
-- Assumes nothing.
use Rattle.std.specs.Prelude.{Bool, List, [], ◌∷◌, ℕ, set}
use Rattle.lists.specs.Tests.{pick}
use Rattle.printer.specs.declared.Parser.{Parser}
use Rattle.printer.specs.Printer.{printed}
use Rattle.printer.specs.Steps.{fed, in_file}
use Rattle.points_print.specs.PointsPrinter.{points_printed}

pub record Feed : Type 0 where
  pub parser : Parser
  pub file : List ℕ

-- a byte of the file goes behind those counted before it, where the slice has that place; any other byte changes nothing
abbrev pub kept_in : Parser → ℕ → List ℕ → List ℕ
kept_in p b file = pick p.bad file (pick (in_file p) (set file p.count b) file)

-- each byte of a part of the input
abbrev pub feed_all : Feed → List ℕ → Feed
feed_all s [] = s
feed_all s (b ∷ input) = feed_all (record { parser = fed s.parser b; file = kept_in s.parser b s.file }) input

-- parts, one after another
abbrev pub feed_parts : Feed → List (List ℕ) → Feed
feed_parts s [] = s
feed_parts s (part ∷ parts) = feed_parts (feed_all s part) parts

-- what the points printer writes, or the share printer
abbrev pub printed_by : Bool → List ℕ → List ℕ
printed_by asked input = pick asked (points_printed input) (printed input)
