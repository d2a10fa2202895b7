-- What a printer puts into a lent slice at the end of the input, for slices of any length.
-- Assumes nothing.
use Rattle.std.specs.Prelude.{Bool, false, List, [], ℕ, ltb, eqb, length, take}
use Rattle.lists.specs.Tests.{pick}
use Rattle.lists.specs.Lists.{over}
use Rattle.board_spec.specs.Calls.{BoardOutcome}
use Rattle.printer.specs.declared.Parser.{Parser}
use Rattle.printer.specs.Steps.{refusal_of, decided}

-- how many bytes stand at the beginning of a slice, and the slice
pub record Written : Type 0 where
  pub count : ℕ
  pub out : List ℕ

-- bytes, where there is room for all of them; else none
abbrev pub placed : List ℕ → List ℕ → Written
placed bytes out = pick (ltb (length out) (length bytes)) (record { count = 0; out = out }) (record { count = length bytes; out = over bytes out })

-- what a call wrote: none where it is refused
abbrev pub wrote_in : BoardOutcome → Written
wrote_in o = record { count = o.answer.reported; out = o.output }

-- a file is to be printed of which the slice has not all the bytes that were counted
abbrev pub lacks : Parser → List ℕ → Bool
lacks p file = pick (eqb (refusal_of p) 0) (ltb (length file) p.count) false

-- what parser and file decide; nothing of a file that is not whole
abbrev pub to_write : Parser → List ℕ → List ℕ
to_write p file = pick (lacks p file) [] (decided p (take p.count file))
