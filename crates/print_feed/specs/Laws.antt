-- An input fed in any parts is fed whole; and with a slice of 16,384 bytes, parser and file decide what the printer's definition says of the input:
-- the points printer's where a line of points is asked for, and else the share printer's.
-- Assumes nothing.
use Rattle.std.specs.Prelude.{◌≡◌, Bool, List, ℕ, length, take}
use Rattle.lists.specs.Lists.{concat}
use Rattle.printer.specs.Steps.{begin, decided}
use Rattle.print_feed.specs.Steps.{Feed, feed_all, feed_parts, printed_by}

pub record FeedLaws : Type 0 where
  pub parts-are-whole : (s : Feed) (parts : List (List ℕ)) → feed_parts s parts ≡ feed_all s (concat parts)
  pub same_length : (s : Feed) (input : List ℕ) → length (feed_all s input).file ≡ length s.file
  pub decides : (asked : Bool) (file input : List ℕ) → length file ≡ 16384
      → let s = feed_all (record { parser = begin asked; file = file }) input in decided s.parser (take s.parser.count s.file) ≡ printed_by asked input
