-- A line of a number: the bytes of its name, a decimal with no leading zero, byte 0A. It is read with what is to be done with the number and
-- with the input behind the line, for any kind of answer; the first argument is what a malformed line gives.
-- Assumes nothing.
use Rattle.std.specs.Prelude.{Bool, false, List, [], ◌∷◌, ℕ, ◌+◌, ◌*◌, ◌-◌, ltb, eqb}
use Rattle.lists.specs.Tests.{pick}

abbrev pub digit : ℕ → Bool
digit b = pick (ltb b 0x30) false (ltb b 0x3A)

-- more digits of a number that is v so far, then byte 0A
abbrev pub read_digits : {A : Type 0} → A → ℕ → List ℕ → (ℕ → List ℕ → A) → A
read_digits bad v [] go = bad
read_digits bad v (b ∷ input) go = pick (eqb b 0x0A) (go v input) (pick (digit b) (read_digits bad (10 * v + (b - 0x30)) input go) bad)

-- byte 0A behind a first digit 0
abbrev pub read_lone : {A : Type 0} → A → List ℕ → (ℕ → List ℕ → A) → A
read_lone bad [] go = bad
read_lone bad (b ∷ input) go = pick (eqb b 0x0A) (go 0 input) bad

-- "decimals with no leading zero"
abbrev pub read_number : {A : Type 0} → A → List ℕ → (ℕ → List ℕ → A) → A
read_number bad [] go = bad
read_number bad (b ∷ input) go = pick (eqb b 0x30) (read_lone bad input go) (pick (digit b) (read_digits bad (b - 0x30) input go) bad)

-- a line: these bytes, a number, byte 0A
abbrev pub line : {A : Type 0} → A → List ℕ → List ℕ → (ℕ → List ℕ → A) → A
line bad [] input go = read_number bad input go
line bad (c ∷ name) [] go = bad
line bad (c ∷ name) (b ∷ input) go = pick (eqb b c) (line bad name input go) bad
