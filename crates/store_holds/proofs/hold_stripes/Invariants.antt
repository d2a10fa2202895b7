-- `store_holds::hold_stripes` meets its contract. The loop's invariant: each of the two holds, or holds not, the stripes that were looked at.
-- Assumes nothing.
use Rattle.std.proofs.Common.{◌≡◌, length}
use Rattle.sizes.specs.Sizing.{B}
use Rattle.store_holds.proofs.Turned.{up_to}
use Rattle.store_holds.proofs.hold_stripes.Given as goal

abbrev pub invariant-loop-t : goal.invariant-loop-t
invariant-loop-t l =
    (l.held.first ≡ up_to l.sizes l.points l.boards l.starts l.area l.first l.p l.from l.stripes l.t) × (l.held.second ≡ up_to l.sizes l.points l.boards l.starts l.area l.second l.q l.from l.stripes l.t)
    × (length l.u ≡ B l.sizes) × (length l.rows ≡ 992)
