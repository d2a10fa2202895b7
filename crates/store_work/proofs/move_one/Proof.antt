-- `store_work::move_one` meets its contract.
-- Assumes nothing.
use Prim.Native.Nat.{◌≤◌}
use borrow.Author.Rules.{rules}
use Rattle.store_spec.specs.Record.{Record}
use Rattle.store_lines.proofs.Ready.{Ready}
use Rattle.record.specs.Records.{record_of}
use Rattle.store_work.proofs.MoveCall.{move-ready, move_some, move-moves}
use Rattle.store_work.proofs.move_one.Statement.{statement}
use Rattle.store_work.proofs.move_one.Tie as tie

-- the places
abbrev st : tie.After-stripe_count-stripes → tie.Start
st c = c.before.before.before.before.before

abbrev at_count : tie.After-move_share → tie.After-stripe_count-stripes
at_count c = c.before.before

abbrev at-share : tie.After-slice_known-2-1 → tie.After-move_share
at-share c = c.before.before

abbrev R : tie.Start → Record
R g = record_of g.args.kept

-- what the check told
asks : (g : tie.Start) → Ready (R g)
asks g = let a = g.args in move-ready (R g) a.area.now a.board a.point a.helpers.now a.partners.now g.requires

some-on : (g : tie.Start) → 1 ≤ (R g).sizes.r
some-on g = let a = g.args in move_some (R g) a.area.now a.board a.point a.helpers.now a.partners.now g.requires

bytes-ask : tie.Need-bytes_moved-requires
bytes-ask c κs =
    let n = at_count (at-share c) in
    (record { is-legal = (asks (st n)).stated.is-legal; few = n.stripe_count-stripes.ensures.1 }, some-on (st n))

moved : tie.Need-returns
moved c =
    let w = at-share c.before in
    let n = at_count w in
    let g = st n in
    let a = g.args in (
      move-moves (R g) a.area.now a.board a.point a.helpers.now a.partners.now _ _ g.requires n.stripe_count-stripes.ensures.0 c.bytes_moved.ensures,
      w.move_share.ensures,
    )

pub move_one_spec : {M : Type 1} → statement M
move_one_spec =
    tie.close
    (tie.spec
    (λ c κs. (asks c.before.before.before.before).stated)
    (λ c κs. let n = c.before in ((st n).requires, n.stripe_count-stripes.ensures.0))
    bytes-ask
    (λ c. search rules)
    moved)
