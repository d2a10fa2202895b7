-- `store_move::move_share` meets its contract: the stripes of the repair, over what the others hold afresh, are the share of the move.
-- Assumes nothing.
use Prim.Native.Nat.{◌<◌}
use mathlib.Core.Path.{ap, ◌∙◌}
use mathlib.Core.List.{[], ◌∷◌}
use native.Mathlib.Omega.{arith}
use lib.ListN.{length}
use borrow.Author.Rules.{rules}
use Rattle.sizes.proofs.Legal.{legal-facts}
use Rattle.store_spec.specs.Record.{Record}
use Rattle.store_spec.specs.Move.{afresh_area}
use Rattle.store_spec.proofs.Records.{Moves, move-facts, sound-facts}
use Rattle.check_repair.proofs.Repairable.{Repairable}
use Rattle.record.specs.Records.{record_of}
use Rattle.store_move.proofs.Runs.{runs-named}
use Rattle.store_move.proofs.Moved.{lost, board-known, asks, moved-put}
use Rattle.store_move.proofs.move_share.Statement.{statement}
use Rattle.store_move.proofs.move_share.Tie as tie

-- places in the code
abbrev start-of-rekeep-arg-1 : tie.After-rekeep-arg-1 → tie.Start
start-of-rekeep-arg-1 c = c.before.before.before.before.before.before.before.before.before

abbrev start-of-repair_shares-arg-2-1 : tie.After-repair_shares-arg-2-1 → tie.Start
start-of-repair_shares-arg-2-1 c = start-of-rekeep-arg-1 c.before.before.before.before.before.before.before.before

abbrev start-of-slice_known-3-1 : tie.After-slice_known-3-1 → tie.Start
start-of-slice_known-3-1 c = start-of-repair_shares-arg-2-1 c.before.before.before

abbrev R : tie.Start → Record
R g = record_of g.args.kept

-- what the check told
facts : (g : tie.Start) → let a = g.args in Moves (R g) (length a.area.now) a.board a.point a.helpers.now a.partners.now
facts g = let a = g.args in move-facts (R g) (length a.area.now) a.board a.point a.helpers.now a.partners.now g.requires.0

byte : (g : tie.Start) → g.args.point < 256
byte g = search rules

known : (g : tie.Start) → g.args.board < (R g).sizes.n
known g = let a = g.args in board-known (R g) a.area.now a.board a.point a.helpers.now a.partners.now (facts g) (byte g)

repairs : (g : tie.Start)
    → let a = g.args in
    Repairable (lost (R g) a.board a.point) (length (afresh_area (R g) a.area.now a.board a.point)) (a.board ∷ []) a.helpers.now a.partners.now
repairs g = let a = g.args in asks (R g) a.area.now a.board a.point a.helpers.now a.partners.now (facts g) (byte g)

-- what the first pass asks, and the second
others-ask : tie.Need-rekeep-requires
others-ask c κs =
    let f = facts (start-of-rekeep-arg-1 c) in
    (f.is-sound, c.requires.1, c.fill_inverses.ensures, known (start-of-rekeep-arg-1 c), f.area-is)

shares-ask : tie.Need-repair_shares-requires
shares-ask c κs =
    let f = repairs (start-of-repair_shares-arg-2-1 c) in
    let r = f.is-ready in (
      r.stated.is-legal,
      r.points-taken.long,
      r.points-taken.differ,
      c.fill_inverses.ensures,
      f.some-fresh,
      f.few-fresh,
      f.fresh-known,
      f.helper-count,
      f.helpers-known,
      f.stand-in-count,
      f.stand-ins-known,
      f.fresh-different,
      f.none-helps,
      f.none-stands-in,
      runs-named _ _ _ _ _ f,
      r.cap-high,
      rw c.requires.1 r.few-stripes,
      ap length c.rekeep.ensures ∙ f.area-is,
    )

moved : tie.Need-returns
moved c =
    let a = c.args in
    moved-put (R (start-of-slice_known-3-1 c)) a.area.now a.board a.point a.helpers.now a.partners.now (facts (start-of-slice_known-3-1 c)) (byte (start-of-slice_known-3-1 c)) _ _ _ c.requires.1 c.rekeep.ensures c.repair_shares.ensures

pub move_share_spec : {M : Type 1} → statement M
move_share_spec =
    tie.close
    (tie.spec
    (λ c. omega (arith, known c.before.before.before.before, (legal-facts _ (sound-facts (R c.before.before.before.before) (facts c.before.before.before.before).is-sound).is-legal).few))
    (λ c. search rules)
    (λ c κs. search rules)
    (λ c. search rules)
    others-ask
    (λ c. search rules)
    (λ c. search rules)
    (λ c. search rules)
    shares-ask
    (λ c. search rules)
    moved)
