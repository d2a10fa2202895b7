-- What the program says. No contract tells what was written: these are the bytes of the lines that it handed on to be written, each when its call ended.
-- Assumes nothing.
use Rattle.std.specs.Prelude.{◌≡◌, true, List, [], ◌++◌, ℕ, length}
use Rattle.trial.specs.declared.Printed.{Printed}

-- a beginning of the text, of so many bytes; all of it where no call is left, and none is where every line was written
pub record Printing (text : List ℕ) (r : Printed) : Type 0 where
  pub said : List ℕ
  pub unsaid : List ℕ
  pub whole : said ++ unsaid ≡ text
  pub long : r.count ≡ length said
  pub all : r.left ≡ 0 → unsaid ≡ []
  pub made : r.good ≡ true → r.left ≡ 0
