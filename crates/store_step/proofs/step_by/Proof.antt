-- `store_step::step-by` meets its contract: a step that leaves packets carries those allowed; the last carries what is left, and finishes.
-- Assumes nothing.
use Prim.Native.Nat.{◌+◌, ◌≤◌, ◌<◌}
use native.Mathlib.Omega.{arith}
use lib.ListN.{length}
use borrow.Author.Rules.{rules}
use Rattle.sizes.proofs.Legal.{Legal, legal-facts}
use Rattle.store_spec.specs.Record.{Record}
use Rattle.beside_spec.specs.Running.{Running, packet_count}
use Rattle.store_spec.proofs.Records.{sound-facts}
use Rattle.step_laws.proofs.Facts.{few-packets}
use Rattle.record.specs.Records.{record_of, running_in}
use Rattle.store_step.proofs.Going.{still-going, goes-on, finishes}
use Rattle.store_step.proofs.step_by.Statement.{statement}
use Rattle.store_step.proofs.step_by.Tie as tie

-- places in the code
abbrev start-of-struct_known-1 : tie.After-struct_known-1 → tie.Start
start-of-struct_known-1 c = c.before.before.before.before.before.before.before

abbrev start-of-then-allowance-left : tie.Then-allowance-left → tie.Start
start-of-then-allowance-left c = start-of-struct_known-1 c.before

abbrev start-of-carry_on-arg-2-1 : tie.After-carry_on-arg-2-1 → tie.Start
start-of-carry_on-arg-2-1 c = start-of-struct_known-1 c.before.before

abbrev start-of-slice_known-then-allowance-left-1 : tie.After-slice_known-then-allowance-left-1 → tie.Start
start-of-slice_known-then-allowance-left-1 c = start-of-then-allowance-left c.before.before.before.before

abbrev start-of-finish-arg-1 : tie.After-finish-arg-1 → tie.Start
start-of-finish-arg-1 c = start-of-carry_on-arg-2-1 c.before.before.before.before

abbrev start-of-idle-idle : tie.After-idle-idle → tie.Start
start-of-idle-idle c = start-of-finish-arg-1 c.before.before.before.before

abbrev R : tie.Start → Record
R g = record_of g.args.kept

abbrev P : tie.Start → Running
P g = running_in g.args.running

facts : (g : tie.Start) → Legal (R g).sizes
facts g = legal-facts _ (sound-facts (R g) g.requires.0.is-sound).is-legal

-- few packets, and some are left
few : (g : tie.Start) → packet_count (R g).sizes (length g.args.fresh.now) ≤ 1024
few g = (few-packets (R g).sizes (facts g) (length g.args.fresh.now) g.requires.0.listed.few-fresh).1

some_left : (g : tie.Start) → (P g).carried < packet_count (R g).sizes (length g.args.fresh.now)
some_left g = g.requires.1.some_left

-- what is carried stays within the count
allowed : (c : tie.Then-allowance-left) → (P (start-of-then-allowance-left c)).carried + c.args.allowance ≤ packet_count (R (start-of-then-allowance-left c)).sizes (length c.args.fresh.now)
allowed c = omega (arith, c.if-allowance-left.true, some_left (start-of-then-allowance-left c))

carry-on-requires : tie.Need-carry_on-requires
carry-on-requires c κs = (c.requires.0, allowed c.before)

returns : tie.Need-returns-then-allowance-left
returns c =
    let a = c.args in
    goes-on (R (start-of-slice_known-then-allowance-left-1 c)) (P (start-of-slice_known-then-allowance-left-1 c)) a.area.now a.packets.now a.allowance a.fresh.now a.helpers.now a.standins.now c.requires.1 _ c.if-allowance-left.true
    c.carry_on.ensures

carry-on-requires-2 : tie.Need-carry_on-requires-2
carry-on-requires-2 c κs = (c.requires.0, omega (arith, some_left (start-of-carry_on-arg-2-1 c)))

finish-requires : tie.Need-finish-last-requires
finish-requires c κs =
    let a = c.args in
    still-going (R (start-of-finish-arg-1 c)) a.fresh.now a.helpers.now a.standins.now a.area.now a.packets.now _ c.requires.0 c.packets-2-1.given

returns-2 : tie.Need-returns
returns-2 c =
    let a = c.args in
    finishes (R (start-of-idle-idle c)) (P (start-of-idle-idle c)) a.area.now a.packets.now a.allowance a.fresh.now a.helpers.now a.standins.now c.requires.1 _ _ _ _
    (omega (arith, c.if-allowance-left.false)) c.carry_on-2.ensures c.finish-last.ensures.1 c.finish-last.ensures.0 c.idle-idle.ensures

pub step_by_spec : {M : Type 1} → statement M
step_by_spec =
    tie.close
    (tie.spec
    (λ c. let f = facts (start-of-struct_known-1 c) in omega (arith, f.enough, f.few))
    (λ c. let f = facts (start-of-struct_known-1 c) in omega (arith, f.some-fresh))
    (λ c. omega (arith, few (start-of-struct_known-1 c)))
    (λ c. omega (arith, some_left (start-of-struct_known-1 c)))
    carry-on-requires
    (λ c. omega (arith, allowed c.before.before.before.before, few (start-of-slice_known-then-allowance-left-1 c), some_left (start-of-slice_known-then-allowance-left-1 c)))
    (λ c. search rules)
    (λ c. c.packets-1.given)
    returns
    carry-on-requires-2
    finish-requires
    (λ c κs. search rules)
    (λ c. c.area-1.given)
    (λ c. c.packets-2-1.given)
    returns-2)
