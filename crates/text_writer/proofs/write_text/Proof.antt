-- `text_writer::write_text` meets its contract: the lines, one behind the other.
-- Assumes nothing.
use mathlib.Core.Path.{◌≡◌, sym}
use mathlib.Core.List.{List}
use Prim.Native.Nat.{ℕ}
use lib.ListN.{length, take}
use lib.Seq.{length-take-le}
use Rattle.board_spec.specs.Text.{points_line, share_text}
use Rattle.text_lines.specs.Steps.{Wrote, points_said}
use Rattle.text_lines.proofs.Lines.{Rooms, rooms, to_n, to_k, to_d, to_r, to_node, to_length, to_points, to_data, from_start}
use Rattle.text_lines.proofs.Orders.{points-line}
use Rattle.text_lines.proofs.Writes.{same-room, room, then}
use borrow.Author.Rules.{rules}
use Rattle.text_writer.proofs.write_text.Statement.{statement}
use Rattle.text_writer.proofs.write_text.Tie as tie

-- places in the code
abbrev put_line-board-of-put_line-arg-15-1 : tie.After-put_line-arg-15-1 → tie.After-put_line-board
put_line-board-of-put_line-arg-15-1 c = c.before.before.before.before.before

abbrev put_line-d-of-put_line-arg-9-1 : tie.After-put_line-arg-9-1 → tie.After-put_line-d
put_line-d-of-put_line-arg-9-1 c = c.before.before.before.before.before

abbrev put_line-k-of-put_line-arg-6-1 : tie.After-put_line-arg-6-1 → tie.After-put_line-k
put_line-k-of-put_line-arg-6-1 c = c.before.before.before.before.before

abbrev put_line-length-of-put_line-arg-18-1 : tie.After-put_line-arg-18-1 → tie.After-put_line-length
put_line-length-of-put_line-arg-18-1 c = c.before.before.before.before.before

abbrev put_line-r-of-put_line-arg-12-1 : tie.After-put_line-arg-12-1 → tie.After-put_line-r
put_line-r-of-put_line-arg-12-1 c = c.before.before.before.before.before

abbrev put_points-data-of-put_pairs_line-arg-3-1 : tie.After-put_pairs_line-arg-3-1 → tie.After-put_points-data
put_points-data-of-put_pairs_line-arg-3-1 c = c.before.before.before.before.before

abbrev put_line-board-of-put_line-length : tie.After-put_line-length → tie.After-put_line-board
put_line-board-of-put_line-length c = put_line-board-of-put_line-arg-15-1 c.before

abbrev put_line-d-of-put_line-r : tie.After-put_line-r → tie.After-put_line-d
put_line-d-of-put_line-r c = put_line-d-of-put_line-arg-9-1 c.before

abbrev put_line-k-of-put_line-d : tie.After-put_line-d → tie.After-put_line-k
put_line-k-of-put_line-d c = put_line-k-of-put_line-arg-6-1 c.before

abbrev put_line-length-of-put_line-places : tie.After-put_line-places → tie.After-put_line-length
put_line-length-of-put_line-places c = put_line-length-of-put_line-arg-18-1 c.before

abbrev put_line-r-of-put_line-board : tie.After-put_line-board → tie.After-put_line-r
put_line-r-of-put_line-board c = put_line-r-of-put_line-arg-12-1 c.before

abbrev put_points-data-of-put_pairs_line : tie.After-put_pairs_line → tie.After-put_points-data
put_points-data-of-put_pairs_line c = put_points-data-of-put_pairs_line-arg-3-1 c.before

abbrev start-of-put_line-arg-3-1 : tie.After-put_line-arg-3-1 → tie.Start
start-of-put_line-arg-3-1 c = c.before.before.before.before.before.before

abbrev start-of-put_line-arg-6-1 : tie.After-put_line-arg-6-1 → tie.Start
start-of-put_line-arg-6-1 c = start-of-put_line-arg-3-1 c.before.before.before.before.before.before

abbrev start-of-put_line-d : tie.After-put_line-d → tie.Start
start-of-put_line-d c = start-of-put_line-arg-6-1 c.before

abbrev start-of-put_line-arg-9-1 : tie.After-put_line-arg-9-1 → tie.Start
start-of-put_line-arg-9-1 c = start-of-put_line-d c.before.before.before.before.before

abbrev start-of-put_line-r : tie.After-put_line-r → tie.Start
start-of-put_line-r c = start-of-put_line-arg-9-1 c.before

abbrev start-of-put_line-arg-12-1 : tie.After-put_line-arg-12-1 → tie.Start
start-of-put_line-arg-12-1 c = start-of-put_line-r c.before.before.before.before.before

abbrev start-of-put_line-board : tie.After-put_line-board → tie.Start
start-of-put_line-board c = start-of-put_line-arg-12-1 c.before

abbrev start-of-put_line-arg-15-1 : tie.After-put_line-arg-15-1 → tie.Start
start-of-put_line-arg-15-1 c = start-of-put_line-board c.before.before.before.before.before

abbrev start-of-put_line-length : tie.After-put_line-length → tie.Start
start-of-put_line-length c = start-of-put_line-arg-15-1 c.before

abbrev start-of-put_line-arg-18-1 : tie.After-put_line-arg-18-1 → tie.Start
start-of-put_line-arg-18-1 c = start-of-put_line-length c.before.before.before.before.before

abbrev start-of-put_line-places : tie.After-put_line-places → tie.Start
start-of-put_line-places c = start-of-put_line-arg-18-1 c.before

abbrev start-of-put_points-arg-1 : tie.After-put_points-arg-1 → tie.Start
start-of-put_points-arg-1 c = start-of-put_line-places c.before.before.before

abbrev start-of-put_points-data : tie.After-put_points-data → tie.Start
start-of-put_points-data c = start-of-put_points-arg-1 c.before

abbrev start-of-put_pairs_line-arg-3-1 : tie.After-put_pairs_line-arg-3-1 → tie.Start
start-of-put_pairs_line-arg-3-1 c = start-of-put_points-data c.before.before.before.before.before

abbrev start-of-put_pairs_line : tie.After-put_pairs_line → tie.Start
start-of-put_pairs_line c = start-of-put_pairs_line-arg-3-1 c.before

abbrev start-of-slice_known-9-1 : tie.After-slice_known-9-1 → tie.Start
start-of-slice_known-9-1 c = start-of-put_pairs_line c.before.before

fits : (c : tie.Start) → let a = c.args in Rooms a.sizes a.points.now a.total a.node a.share.now (length a.out.now)
fits c = let a = c.args in rooms a.sizes a.points.now a.total a.node a.share.now _ c.requires.has_room

-- past each line: where the call began, and what is written so far
by_n : (c : tie.After-put_line-k) → let a = c.args in Wrote a.out.now 0 (to_n a.sizes) c.put_line-k.new.out c.put_line-k.result
by_n c = c.put_line-k.ensures

by-k : (c : tie.After-put_line-d) → let a = c.args in Wrote a.out.now 0 (to_k a.sizes) c.put_line-d.new.out c.put_line-d.result
by-k c = then (by_n (put_line-k-of-put_line-d c)) c.put_line-d.ensures (fits (start-of-put_line-d c)).k

by-d : (c : tie.After-put_line-r) → let a = c.args in Wrote a.out.now 0 (to_d a.sizes) c.put_line-r.new.out c.put_line-r.result
by-d c = then (by-k (put_line-d-of-put_line-r c)) c.put_line-r.ensures (fits (start-of-put_line-r c)).d

by-r : (c : tie.After-put_line-board) → let a = c.args in Wrote a.out.now 0 (to_r a.sizes) c.put_line-board.new.out c.put_line-board.result
by-r c = then (by-d (put_line-r-of-put_line-board c)) c.put_line-board.ensures (fits (start-of-put_line-board c)).r

by-node : (c : tie.After-put_line-length) → let a = c.args in Wrote a.out.now 0 (to_node a.sizes a.node) c.put_line-length.new.out c.put_line-length.result
by-node c = then (by-r (put_line-board-of-put_line-length c)) c.put_line-length.ensures (fits (start-of-put_line-length c)).node-too

by_length : (c : tie.After-put_line-places) → let a = c.args in Wrote a.out.now 0 (to_length a.sizes a.total a.node) c.put_line-places.new.out c.put_line-places.result
by_length c = then (by-node (put_line-length-of-put_line-places c)) c.put_line-places.ensures (fits (start-of-put_line-places c)).length-too

-- the points' line is that of the points of n boards
line : (c : tie.Start) → let a = c.args in points_said (take a.sizes.n a.points.now) ≡ points_line a.sizes a.points.now
line c = sym (points-line c.args.sizes c.args.points.now c.requires.has-points)

said-line : (g : tie.Start) {l l1 : List ℕ} {at e : ℕ} → Wrote l at (points_said (take g.args.sizes.n g.args.points.now)) l1 e
    → Wrote l at (points_line g.args.sizes g.args.points.now) l1 e
said-line g w = rw (line g) at w

by-points : (c : tie.After-put_points-data)
    → let a = c.args in Wrote a.out.now 0 (to_points a.sizes a.points.now a.total a.node) c.put_points-data.new.out c.put_points-data.result
by-points c = then (by_length c.before.before.before.before) (said-line (start-of-put_points-data c) c.put_points-data.ensures) (fits (start-of-put_points-data c)).points-too

by-data : (c : tie.After-put_pairs_line)
    → let a = c.args in
    Wrote a.out.now 0 (to_data a.sizes a.points.now a.total a.node a.share.now) c.put_pairs_line.new.out c.put_pairs_line.result
by-data c = then (by-points (put_points-data-of-put_pairs_line c)) c.put_pairs_line.ensures (fits (start-of-put_pairs_line c)).data-too

returns : tie.Need-returns
unfolding share_text
returns c = from_start (by-data c.before.before)

pub write_text_spec : {M : Type 1} → statement M
write_text_spec =
    tie.close
    (tie.spec
    (λ c κs. (fits (start-of-put_line-arg-3-1 c)).n)
    (λ c κs. room (by_n (put_line-k-of-put_line-arg-6-1 c)) _ (fits (start-of-put_line-arg-6-1 c)).k)
    (λ c κs. room (by-k (put_line-d-of-put_line-arg-9-1 c)) _ (fits (start-of-put_line-arg-9-1 c)).d)
    (λ c κs. room (by-d (put_line-r-of-put_line-arg-12-1 c)) _ (fits (start-of-put_line-arg-12-1 c)).r)
    (λ c κs. room (by-r (put_line-board-of-put_line-arg-15-1 c)) _ (fits (start-of-put_line-arg-15-1 c)).node-too)
    (λ c κs. room (by-node (put_line-length-of-put_line-arg-18-1 c)) _ (fits (start-of-put_line-arg-18-1 c)).length-too)
    (λ c. sym (length-take-le _ _ c.requires.has-points))
    (λ c κs. rw (line (start-of-put_points-arg-1 c)) (room (by_length c.before.before.before) _ (fits (start-of-put_points-arg-1 c)).points-too))
    (λ c κs. room (by-points (put_points-data-of-put_pairs_line-arg-3-1 c)) _ (fits (start-of-put_pairs_line-arg-3-1 c)).data-too)
    (λ c. same-room (by-data c.before.before) (fits (start-of-slice_known-9-1 c)).data-too)
    returns)
