-- `store_work::rebuild` meets its contract.
-- Assumes nothing.
use mathlib.Core.Path.{sym}
use lib.ListN.{length}
use borrow.Author.Rules.{rules}
use Rattle.check_repair.proofs.Repairable.{Repairable}
use Rattle.record.specs.Records.{record_of}
use Rattle.store_move.proofs.Runs.{runs-named}
use Rattle.store_work.proofs.RepairCall.{repair-repairable, repair-rebuilds, repair-moves}
use Rattle.store_work.proofs.rebuild.Statement.{statement}
use Rattle.store_work.proofs.rebuild.Tie as tie

-- the places
abbrev st : tie.After-points-1 → tie.Start
st c = c.before.before.before.before.before.before

abbrev at-filled : tie.After-stripe_count-stripes → tie.After-fill_inverses
at-filled c = c.before.before

abbrev points-at-fill-inverses : tie.After-fill_inverses → tie.After-points-1
points-at-fill-inverses c = c.before.before

abbrev at-points : tie.After-stripe_count-stripes → tie.After-points-1
at-points c = points-at-fill-inverses (at-filled c)

abbrev at_count : tie.After-repair_shares-arg-1 → tie.After-stripe_count-stripes
at_count c = c.before.before.before

abbrev at-shares : tie.After-slice_known-2-1 → tie.After-repair_shares
at-shares c = c.before.before

-- what the kernels ask
asks : (g : tie.Start)
    → let a = g.args in Repairable (record_of a.kept) (length a.area.now) a.fresh.now a.helpers.now a.standins.now
asks g = let a = g.args in repair-repairable (record_of a.kept) a.area.now a.fresh.now a.helpers.now a.standins.now g.requires

shares-ask : tie.Need-repair_shares-requires
shares-ask c κs =
    let n = at_count c in
    let f = asks (st (at-points n)) in
    let r = f.is-ready in
    let e = n.stripe_count-stripes.ensures.0 in (
      r.stated.is-legal,
      r.points-taken.long,
      r.points-taken.differ,
      (at-filled n).fill_inverses.ensures,
      f.some-fresh,
      f.few-fresh,
      f.fresh-known,
      f.helper-count,
      f.helpers-known,
      f.stand-in-count,
      f.stand-ins-known,
      f.fresh-different,
      f.none-helps,
      f.none-stands-in,
      runs-named _ _ _ _ _ f,
      r.cap-high,
      rw e r.few-stripes,
      f.area-is,
    )

bytes-ask : tie.Need-bytes_moved-requires
bytes-ask c κs =
    let n = at_count (at-shares c).before in
    let f = asks (st (at-points n)) in
    (record { is-legal = f.is-ready.stated.is-legal; few = n.stripe_count-stripes.ensures.1 }, f.few-fresh)

rebuilt : tie.Need-returns
rebuilt c =
    let w = at-shares c.before in
    let n = at_count w.before in
    let g = st (at-points n) in
    let a = g.args in
    let s = record_of a.kept in
    let e = n.stripe_count-stripes.ensures.0 in (
      repair-moves s a.area.now a.fresh.now a.helpers.now a.standins.now _ _ g.requires e c.bytes_moved.ensures,
      repair-rebuilds s a.area.now a.fresh.now a.helpers.now a.standins.now _ _ g.requires e w.repair_shares.ensures,
    )

pub rebuild_spec : {M : Type 1} → statement M
rebuild_spec =
    tie.close
    (tie.spec
    (λ c. search rules)
    (λ c κs. search rules)
    (λ c κs. (asks (st (points-at-fill-inverses c.before))).is-ready.stated)
    (λ c. sym (asks (st (at-points c.before))).is-ready.points-taken.long)
    (λ c. search rules)
    shares-ask
    bytes-ask
    (λ c. search rules)
    rebuilt)
