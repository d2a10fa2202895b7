-- `trial_line::put_moved` meets its contract: the pieces, one behind the other.
-- Assumes nothing.
use mathlib.Core.List.{List, [], ◌∷◌, ◌++◌}
use Prim.Native.Nat.{ℕ, ◌+◌, ◌≤◌}
use native.Mathlib.Omega.{arith}
use lib.ListN.{length}
use Rattle.board_spec.specs.Text.{decimal}
use Rattle.text_lines.specs.Steps.{Wrote}
use Rattle.text_lines.proofs.Writes.{same-room, room, then, more, less}
use Rattle.trial_line.specs.Line.{moved_end}
use Rattle.trial_line.proofs.Line.{moved-most}
use borrow.Author.Rules.{rules}
use Rattle.trial_line.proofs.put_moved.Statement.{statement}
use Rattle.trial_line.proofs.put_moved.Tie as tie

-- places in the code
abbrev start-of-put_decimal-arg-1 : tie.After-put_decimal-arg-1 → tie.Start
start-of-put_decimal-arg-1 c = c.before.before.before.before.before.before.before.before

abbrev start-of-put_decimal-end : tie.After-put_decimal-end → tie.Start
start-of-put_decimal-end c = start-of-put_decimal-arg-1 c.before

abbrev start-of-slice_known-3-1 : tie.After-slice_known-3-1 → tie.Start
start-of-slice_known-3-1 c = start-of-put_decimal-end c.before.before

-- the name, and the name with the number
abbrev name : List ℕ
name = 0x20 ∷ 0x6D ∷ 0x6F ∷ 0x76 ∷ 0x65 ∷ 0x64 ∷ 0x3D ∷ []

abbrev to_moved : ℕ → List ℕ
to_moved v = name ++ decimal v

fits : (c : tie.Start) → c.args.at + length (moved_end c.args.moved) ≤ length c.args.line.now
fits c = omega (arith, moved-most c.args.moved c.ranges.moved.fits, c.requires.0, c.requires.1)

by-moved : (c : tie.After-put_decimal-end)
    → let a = c.args in Wrote a.line.now a.at (to_moved a.moved) c.put_decimal-end.new.out c.put_decimal-end.result
by-moved c = then c.put_bytes-place.ensures c.put_decimal-end.ensures (less (to_moved c.args.moved) (0x0A ∷ []) _ _ (fits (start-of-put_decimal-end c)))

put-decimal-requires : tie.Need-put_decimal-end-requires
put-decimal-requires c κs =
    room c.put_bytes-place.ensures (decimal c.args.moved) (less (to_moved c.args.moved) (0x0A ∷ []) _ _ (fits (start-of-put_decimal-arg-1 c)))

slice-write-line : tie.Need-bounds-line-end
slice-write-line c = omega (arith, room (by-moved c.before.before) (0x0A ∷ []) (fits (start-of-slice_known-3-1 c)))

returns : tie.Need-returns
returns c = more (by-moved c.before.before) 0x0A (fits (start-of-slice_known-3-1 c))

add-result : tie.Need-overflow_add-result
add-result c =
    omega (arith, (returns c).ends, fits (start-of-slice_known-3-1 c), c.requires.1)

same_length : tie.Need-shape_of-line
same_length c = same-room (returns c) (fits (start-of-slice_known-3-1 c))

pub put_moved_spec : {M : Type 1} → statement M
put_moved_spec =
    tie.close
    (tie.spec
    (λ c κs. search rules)
    put-decimal-requires
    slice-write-line
    add-result
    same_length
    returns)
