-- `edit_put::add_boards` meets its contract. The loop's invariant: the boards so far have what is added to them.
-- Assumes nothing.
use Rattle.std.proofs.Common.{◌≡◌, ◌+◌, ◌*◌, get_or, take, drop}
use Rattle.polynomial.specs.Polynomial.{plus}
use Rattle.sizes.specs.Sizing.{α}
use Rattle.area_puts.specs.Steps.{puts}
use Rattle.edit_put.specs.Steps.{kept_by}
use Rattle.edit_put.proofs.add_boards.Given as goal

abbrev pub invariant-loop-a : goal.invariant-loop-a
invariant-loop-a l =
    l.area
    ≡ puts (λ b. get_or l.boards b 0 * l.part + l.at)
    (λ b. plus (take (α l.sizes) (drop (get_or l.boards b 0 * l.part + l.at) l.initial.area)) (kept_by l.sizes l.values (get_or l.boards b 0)))
    l.a l.initial.area
