-- `step_board::rows_in` meets its contract: the callees' contracts, put together.
-- Assumes nothing.
use mathlib.Core.Path.{ap, ◌∙◌}
use mathlib.Core.List.{List}
use lib.ListN.{get_or}
use Rattle.lagrange_factors.proofs.Values.{board-below}
use Rattle.stripe_finish.specs.Steps.{board_rows}
use Rattle.repair_rows.specs.Steps.{others_at}
use Rattle.repair_rows.proofs.Others.{both_below, others_below}
use borrow.Author.Rules.{rules}
use native.Mathlib.Omega.{arith}
use Rattle.step_board.proofs.rows_in.Statement.{statement}
use Rattle.step_board.proofs.rows_in.Tie as tie

partners-requires : tie.Need-partners-requires
partners-requires c κs = let p = c.requires in (omega (arith, p.3), omega (arith, p.2), omega (arith, p.3), p.7)

board-rows-requires : tie.Need-board_rows-requires
board-rows-requires c κs =
    let a = c.args in
    let p = c.requires in
    let n = c.boards-1.given in (
      p.0,
      p.1,
      p.5,
      rw c.partners.ensures (both_below 32 a.standins.now (others_at a.fresh.now a.a) p.6 (others_below 32 a.a a.fresh.now p.4)),
      board-below 32 a.fresh.now a.a p.4 p.2,
      omega (arith, n, p.8),
      omega (arith, p.2, p.3, p.7, p.8),
      p.9,
    )

returns : tie.Need-returns
returns c =
    let a = c.args in
    c.board_rows.ensures
    ∙ ap (λ (l : List _). board_rows a.points.now a.helpers.now l (get_or a.fresh.now a.a 0)) c.partners.ensures

pub rows_in_spec : {M : Type 1} → statement M
rows_in_spec =
    tie.close
    (tie.spec
    partners-requires
    (λ c. search rules)
    (λ c. search rules)
    board-rows-requires
    (λ c. search rules)
    (λ c. search rules)
    (λ c. search rules)
    returns)
