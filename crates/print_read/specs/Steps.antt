-- What a program's reads leave, and what it writes. `after_read` says it outright of what a read answered. No contract says which bytes a
-- read gives or when it fails, so the records say no more than that there were such bytes: the tests run the programs on files and failures.
-- Assumes nothing.
use Rattle.std.specs.Prelude.{◌≡◌, Bool, true, false, List, ℕ, length, take, ℤ, pos}
use Rattle.std.specs.Int.Signed.{lt_z}
use Rattle.lists.specs.Tests.{pick}
use Rattle.io.specs.Counts.{clamp_len}
use Rattle.printer.specs.Printer.{refused_line}
use Rattle.printer.specs.Steps.{wrong}
use Rattle.print_feed.specs.Steps.{Feed, feed_all, printed_by}

-- the input is refused where a read failed
abbrev pub unless : Bool → Feed → Feed
unless cut s = pick cut (record { parser = wrong s.parser; file = s.file }) s

-- after a read that answered `got`: below 0 it failed, else it put so many bytes at the beginning of the slice
abbrev pub after_read : ℤ → List ℕ → Feed → Feed
after_read got slice s = unless (lt_z got (pos 0)) (feed_all s (take (clamp_len got (length slice)) slice))

-- some bytes were fed, and then a read failed or none did; none failed where the input may go on
pub record Reading (s : Feed) (more : Bool) (t : Feed) : Type 0 where
  pub input : List ℕ
  pub cut : Bool
  pub fed-all : t ≡ unless cut (feed_all s input)
  pub not-cut : more ≡ true → cut ≡ false

-- what is written is what the printer's definition says of the bytes that were fed, `points_printed` where a line of points is asked for and else
-- `printed`; or the line of refusal 1 where a read failed
pub record Printing (asked : Bool) (text : List ℕ) : Type 0 where
  pub input : List ℕ
  pub cut : Bool
  pub said : text ≡ pick cut (refused_line 1) (printed_by asked input)

-- the lengths of the programs' own arrays
pub record Lent (file out : List ℕ) : Type 0 where
  pub file-room : length file ≡ 16384
  pub out-room : length out ≡ 34900
