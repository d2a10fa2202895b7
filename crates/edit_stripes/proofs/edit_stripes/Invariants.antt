-- `edit_stripes::edit_stripes` meets its contract. The loop's invariant: the stripes that are left, of the area as it is, give what all behind the
-- first give of the area as the first left it.
-- Assumes nothing.
use Rattle.std.proofs.Common.{◌≡◌, ◌+◌, ◌-◌, length}
use Rattle.edit_laws.specs.Steps.{stripes_edited}
use Rattle.edit_stripes.proofs.edit_stripes.Given as goal

abbrev pub invariant-loop-s : goal.invariant-loop-s
invariant-loop-s l =
    (stripes_edited l.sizes l.points l.boards l.starts l.part l.on l.offset l.bytes l.s (l.stop - l.s) l.area
    ≡ stripes_edited l.sizes l.points l.boards l.starts l.part l.on l.offset l.bytes (l.first + 1) (l.stop - (l.first + 1)) l.initial.area)
    × (length l.area ≡ length l.initial.area)
