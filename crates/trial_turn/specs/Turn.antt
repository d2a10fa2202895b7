-- One turn of the trial load: the call drawn, what it leaves, and its line.
-- Assumes nothing.
use Rattle.std.specs.Prelude.{List, ℕ, ◌%◌, eqb}
use Rattle.lists.specs.Tests.{pick}
use Rattle.beside_spec.specs.Both.{Outcome}
use Rattle.beside_spec.specs.Acting.{Call, write, State, act}
use Rattle.generator.specs.Generator.{step, top_byte, after, emitted}
use Rattle.trial_spec.specs.Trial.{Load, board_call, drawn, call_line}

-- the call and the generator's state after it, by the kind that is picked and the state that it was picked from
abbrev pub picked_call : Load → ℕ → ℕ → Call
picked_call l op picked = pick (eqb op 0) (write (emitted l.length picked)) (board_call l op (top_byte (step picked) % l.sizes.n))

abbrev pub picked_state : Load → ℕ → ℕ → ℕ
picked_state l op picked = pick (eqb op 0) (after l.length picked) (step picked)

-- what the call drawn from a state of the generator does to a state of the store
abbrev pub outcome_of : Load → State → ℕ → Outcome
outcome_of l w state = act w (drawn l state).call

-- the line that is printed after it
abbrev pub line_after : Load → State → ℕ → List ℕ
line_after l w state = call_line (drawn l state).call (outcome_of l w state).answer
