-- `trial_turn::board_turn` meets its contract: each arm is its kind of call.
-- Assumes nothing.
use native.Mathlib.Omega.{arith}
use Rattle.trial_input.specs.Steps.{load_in}
use Rattle.trial_calls.proofs.Made.{lose-acts}
use Rattle.trial_turn.proofs.Turn.{taken-legal, taken-length, is-lose, is-repair, is_read, as_call}
use borrow.Author.Rules.{rules}
use Rattle.trial_turn.proofs.board_turn.Statement.{statement}
use Rattle.trial_turn.proofs.board_turn.Tie as tie

repair-drawn-requires : tie.Need-repair_drawn-requires
repair-drawn-requires c κs = (taken-legal (load_in c.args.load) c.requires.0, c.requires.1)

read-drawn-requires : tie.Need-read_drawn-requires
read-drawn-requires c κs =
    (taken-legal (load_in c.args.load) c.requires.0, taken-length (load_in c.args.load) c.requires.0, c.requires.1)

returns : tie.Need-returns-in-1
returns c =
    let a = c.args in
    as_call (is-lose (load_in a.load) a.op a.first c.in-1.is) (lose-acts a.kept a.running a.area.now a.first (c.lose.ensures a.area.now))

returns-2 : tie.Need-returns-in-2
returns-2 c =
    let a = c.args in
    as_call (is-repair (load_in a.load) a.op a.first (λ e. omega (arith, e, c.in-2.is)) c.in-2.is) c.repair_drawn.ensures

returns-3 : tie.Need-returns-in_default
returns-3 c =
    let a = c.args in
    as_call (is_read (load_in a.load) a.op a.first c.in_default.in_default-own.rest.0.1 c.in_default.in_default-own.rest.1) c.read_drawn.ensures

pub board_turn_spec : {M : Type 1} → statement M
board_turn_spec =
    tie.close
    (tie.spec
    (λ c κs. search rules)
    repair-drawn-requires
    read-drawn-requires
    returns
    (λ c. search rules)
    returns-2
    (λ c. search rules)
    returns-3)
