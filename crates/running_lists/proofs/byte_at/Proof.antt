-- `running_lists::byte_at` meets its contract. Past the end there is no board.
-- Assumes nothing.
use Prim.Native.Nat.{◌<◌}
use mathlib.Core.Path.{sym}
use native.Mathlib.Omega.{arith}
use lib.ListN.{get_or, get_or-eq_default}
use borrow.Author.Rules.{rules}
use Rattle.lists.proofs.Alls.{all-at}
use Rattle.lists.proofs.Boards.{below_all}
use Rattle.running_lists.proofs.byte_at.Statement.{statement}
use Rattle.running_lists.proofs.byte_at.Tie as tie

few : (c : tie.Then-at-boards) → get_or c.before.args.boards.now c.before.args.at 0 < 256
few c = let g = c.before in all-at (λ x. x < 256) 0 g.args.boards.now (below_all 256 g.args.boards.now g.requires) g.args.at c.if-at-boards.true

pub byte_at_spec : {M : Type 1} → statement M
byte_at_spec =
    tie.close
    (tie.spec
    (λ c. search rules)
    (λ c. search rules)
    (λ c. omega (arith, few c.before))
    (λ c. search rules)
    (λ c. sym (get_or-eq_default c.before.args.boards.now 0 c.if-at-boards.false)))
