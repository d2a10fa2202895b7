-- `trial_turn::take_turn` meets its contract: a write, or a call from the board drawn.
-- Assumes nothing.
use mathlib.Core.Path.{ap, ◌∙◌}
use Prim.Native.Nat.{◌<◌}
use native.Mathlib.Nat.{mod-lt}
use native.Mathlib.Omega.{arith}
use Rattle.sizes.proofs.Legal.{Legal, legal-facts}
use Rattle.generator.specs.Generator.{step, top_byte}
use Rattle.trial_spec.specs.Trial.{board_call}
use Rattle.trial_input.specs.Steps.{load_in}
use Rattle.trial_turn.proofs.Turn.{taken-legal, taken-length, is-write, is-board, as_call}
use borrow.Author.Rules.{rules}
use Rattle.trial_turn.proofs.take_turn.Statement.{statement}
use Rattle.trial_turn.proofs.take_turn.Tie as tie

facts : (c : tie.Start) → Legal c.args.load.sizes
facts c = legal-facts c.args.load.sizes (taken-legal (load_in c.args.load) c.requires)

returns : tie.Need-returns-then-op-eq0
returns c =
    let w = c.before.before in
    let t = w.before.before in
    let a = t.before.before.args in
    let e = is-write (load_in a.load) a.op a.picked t.if-op-eq0.true in
    (as_call e.0 w.write_drawn.ensures.0, w.write_drawn.ensures.1 ∙ e.1)

-- where a board was drawn, and where the call began
abbrev drew : tie.After-board_turn-handed → tie.After-pick_board-drawn
drew c = c.before.before

abbrev st : tie.After-pick_board-drawn → tie.Start
st c = c.before.before.before

some : (c : tie.Start) → 0 < c.args.load.sizes.n
some c = let f = facts c in omega (arith, f.enough, f.some-fresh)

pick-board-requires : tie.Need-pick_board-drawn-requires
pick-board-requires c κs = some c.before.before

board-turn-requires : tie.Need-board_turn-handed-requires
board-turn-requires c κs =
    let b = c.before in
    let s = st b in
    (s.requires, omega (arith, b.pick_board-drawn.ensures.0, mod-lt (top_byte (step s.args.picked)) (some s), (facts s).few))

returns-2 : tie.Need-returns
returns-2 c =
    let t = c.before.before in
    let b = drew t in
    let a = (st b).args in
    let l = load_in a.load in
    let e = is-board l a.op a.picked b.before.if-op-eq0.false in
    (as_call (ap (board_call l a.op) b.pick_board-drawn.ensures.0 ∙ e.0) t.board_turn-handed.ensures, b.pick_board-drawn.ensures.1 ∙ e.1)

pub take_turn_spec : {M : Type 1} → statement M
take_turn_spec =
    tie.close
    (tie.spec
    (λ c κs. let s = c.before.before.before in taken-length (load_in s.args.load) s.requires)
    (λ c. search rules)
    returns
    pick-board-requires
    board-turn-requires
    (λ c. search rules)
    returns-2)
