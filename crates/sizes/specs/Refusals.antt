-- Document 01, 'Who causes a refusal': the numbers, the lines, and which of them is given.
-- Assumes nothing.
use Rattle.std.specs.Prelude.{Bool, false, List, [], ◌∷◌, ℕ, eqb, Result, Ok, Err}
use Rattle.lists.specs.Tests.{pick}
use Rattle.sizes.specs.declared.Refusal.{Refusal}
use Rattle.sizes.specs.declared.Refusal.TheVariants.{Size, Area, Long, Count, Node, Repeat, Short, Empty, Down, Disagree, Text, Mixed, Serving, Range, Busy, Idle}

-- what a check answers: nothing is wrong, or the refusal to give
abbrev pub Check : Type 0
Check = Result (Unit {0}) Refusal

-- what a call answers: it is done, with the number that it reports, or it is refused
abbrev pub Answer : Type 0
Answer = Result ℕ Refusal

-- 11 is not used: request A.5 took POINTS, "two equal points in one interpolation", out
abbrev pub number : Refusal → ℕ
number Size = 1
number Area = 2
number Long = 3
number Count = 4
number Node = 5
number Repeat = 6
number Short = 7
number Empty = 8
number Down = 9
number Disagree = 10
number Text = 12
number Mixed = 13
number Serving = 14
number Range = 15
number Busy = 16
number Idle = 17

-- what an answer says: the refusal's number, 0 where it is accepted; and the number reported, 0 where it is refused
pub record Said : Type 0 where
  pub refusal : ℕ
  pub reported : ℕ

abbrev pub said : Answer → Said
said (Ok v) = record { refusal = 0; reported = v }
said (Err x) = record { refusal = number x; reported = 0 }

-- a line of the list: the refusal, and whether it applies
infix 90 ◌when◌
pub record Line : Type 0 where
  pub refusal : Refusal
  pub applies : Bool

abbrev pub ◌when◌ : Refusal → Bool → Line
◌when◌ x b = record { refusal = x; applies = b }

-- whether a refusal's line holds among the lines of a call; a refusal that has no line there never does
abbrev pub applies_in : List Line → Refusal → Bool
applies_in [] x = false
applies_in (l ∷ lines) x = pick (eqb (number l.refusal) (number x)) l.applies (applies_in lines x)

-- "The first that applies is given."
abbrev pub first : List Refusal → List Line → Check
first [] lines = Ok tt
first (x ∷ order) lines = pick (applies_in lines x) (Err x) (first order lines)

-- "Store: 1, 2, 3, 8, 4, 5, 6, 9, 7, 10"; request A.3: "14 SERVING, .. after 6 and before 9"; request A.6: "15 RANGE, .. after 8; the read's own
-- checks follow"; request A.8: "16 BUSY, .. after 8 and before 15; 17 IDLE, .. at the same place"
abbrev pub store_order : List Refusal
store_order = Size ∷ Area ∷ Long ∷ Empty ∷ Busy ∷ Idle ∷ Range ∷ Count ∷ Node ∷ Repeat ∷ Serving ∷ Down ∷ Short ∷ Disagree ∷ []

-- "Board level: 1, 3, 4, 5, 6, 2, 7, 10"; request A.1: "12 TEXT .. before all else; 13 MIXED .. after 12 and before 4"
abbrev pub board_order : List Refusal
board_order = Text ∷ Size ∷ Long ∷ Mixed ∷ Count ∷ Node ∷ Repeat ∷ Area ∷ Short ∷ Disagree ∷ []
