-- Request A.2, 'A load we can all repeat': the generator. "A generator keeps a 32-bit state".
-- Assumes nothing.
use Rattle.std.specs.Prelude.{ℕ, zero, suc, ◌+◌, ◌*◌, ◌/◌, ◌%◌, List, [], ◌∷◌}

-- "each step replaces it by state times 1664525 plus 1013904223, modulo 2 to the 32"
unfoldable pub step : ℕ → ℕ
step state = (state * 1664525 + 1013904223) % 4294967296

-- "and emits the top eight bits", of the state that it is replaced by
abbrev pub top_byte : ℕ → ℕ
top_byte state = state / 16777216

-- the state after so many steps
abbrev pub after : ℕ → ℕ → ℕ
after zero state = state
after (suc m) state = after m (step state)

-- "Its file of length L is the first L bytes emitted with the seed as starting state."
abbrev pub emitted : ℕ → ℕ → List ℕ
emitted zero state = []
emitted (suc m) state = top_byte (step state) ∷ emitted m (step state)
