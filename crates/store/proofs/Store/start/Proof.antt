-- `store::Store::start` meets its contract: it hands on what its check refuses, and past it the record of a repair by its lists.
-- Assumes nothing.
use mathlib.Core.Path.{◌≡◌, sym, ◌∙◌}
use mathlib.Core.List.{[]}
use Prim.Native.Nat.{◌≤◌}
use native.Mathlib.Omega.{arith}
use lib.ListN.{length}
use borrow.Author.Rules.{rules}
use Rattle.std.specs.Prelude.{Ok}
use Rattle.sizes.proofs.Legal.{legal-facts}
use Rattle.lagrange_factors.proofs.Values.{below_more}
use Rattle.store_spec.specs.Record.{Record}
use Rattle.beside_spec.specs.Running.{Running}
use Rattle.beside_spec.specs.Both.{start_call}
use Rattle.check_repair.proofs.Repairable.{Repairable}
use Rattle.record.specs.Records.{running_in}
use Rattle.store_work.specs.Handing.{turned_down}
use Rattle.store.specs.Handing.{record_in}
use Rattle.store_work.proofs.RepairCall.{checked, repair-asks, start-refuses, start-works}
use Rattle.store.proofs.Store.start.Statement.{statement}
use Rattle.store.proofs.Store.start.Tie as tie

abbrev R : tie.After-check_repair → Record
R c = record_in c.args.self

abbrev P : tie.After-check_repair → Running
P c = running_in c.args.running

-- what the check told
passed : (c : tie.In_default)
    → let a = c.args in checked (R c.before) (P c.before) a.area.now a.fresh.now a.helpers.now a.standins.now ≡ Ok tt
passed c = sym c.check_repair.ensures ∙ c.in_default.is

asks : (c : tie.In_default) → let a = c.args in Repairable (R c.before) (length a.area.now) a.fresh.now a.helpers.now a.standins.now
asks c =
    let a = c.args in
    repair-asks (R c.before) (P c.before) a.area.now a.fresh.now a.helpers.now a.standins.now (passed c)

-- all boards named are bytes
bytes-ask : tie.Need-started-next-requires
bytes-ask c κs =
    let f = asks c in
    let n = (R c.before).sizes.n in
    let few : n ≤ 256 = omega (arith, (legal-facts _ f.is-ready.stated.is-legal).few) in
    let a = c.args in (
      below_more n 256 a.fresh.now few f.fresh-known,
      below_more n 256 a.helpers.now few f.helpers-known,
      below_more n 256 a.standins.now few f.stand-ins-known,
    )

start-refused : (c : tie.In-Err)
    → let a = c.args in
    turned_down (R c.before) (P c.before) a.area.now [] [] c.in-Err.x ≡ start_call (R c.before) (P c.before) a.area.now a.fresh.now a.helpers.now a.standins.now
start-refused c =
    let a = c.args in
    start-refuses (R c.before) (P c.before) a.area.now a.fresh.now a.helpers.now a.standins.now c.check_repair.ensures c.in-Err.is

start-done : tie.Need-returns
start-done c =
    let a = c.args in
    start-works (R c.before.before) (P c.before.before) a.area.now a.fresh.now a.helpers.now a.standins.now _ (passed c.before) c.started-next.ensures

pub start_spec : {M : Type 1} → statement M
start_spec =
    tie.close
    (tie.spec
    (λ c κs. search rules)
    (λ c. search rules)
    (λ c κs. search rules)
    (λ c. c.refuse.ensures _ [] [] ∙ start-refused c.before)
    (λ c. search rules)
    bytes-ask
    start-done)
