-- `store::Store::repair` meets its contract: it hands on what its check refuses, and past it the fresh boards are rebuilt.
-- Assumes nothing.
use mathlib.Core.Path.{◌≡◌, sym, ◌∙◌}
use mathlib.Core.List.{[]}
use native.Mathlib.Omega.{arith}
use lib.ListN.{length}
use borrow.Author.Rules.{rules}
use Rattle.std.specs.Prelude.{Ok}
use Rattle.sizes.proofs.Legal.{legal-facts}
use Rattle.lagrange_factors.proofs.Values.{below_more}
use Rattle.store_spec.specs.Record.{Record}
use Rattle.beside_spec.specs.Running.{Running}
use Rattle.beside_spec.specs.Both.{repair_both}
use Rattle.check_repair.proofs.Repairable.{Repairable}
use Rattle.record.specs.Records.{running_in}
use Rattle.store_work.specs.Handing.{turned_down}
use Rattle.store.specs.Handing.{record_in}
use Rattle.store_work.proofs.RepairCall.{checked, repair-refuses, repair-alone, repair-asks, repair-works}
use Rattle.store.proofs.Store.repair.Statement.{statement}
use Rattle.store.proofs.Store.repair.Tie as tie

-- places in the code
abbrev in-default-of-marks-2-1 : tie.After-marks-2-1 → tie.In_default
in-default-of-marks-2-1 c = c.before.before.before.before.before.before

abbrev check_repair-of-marks-2-1 : tie.After-marks-2-1 → tie.After-check_repair
check_repair-of-marks-2-1 c = c.before.before.before.before.before.before.before

abbrev in-default-of-marks-3-1 : tie.After-marks-3-1 → tie.In_default
in-default-of-marks-3-1 c = in-default-of-marks-2-1 c.before.before

abbrev check_repair-of-marks-3-1 : tie.After-marks-3-1 → tie.After-check_repair
check_repair-of-marks-3-1 c = check_repair-of-marks-2-1 c.before.before

abbrev start-of-marks-2-1 : tie.After-marks-2-1 → tie.Start
start-of-marks-2-1 c = c.before.before.before.before.before.before.before.before.before.before.before.before.before

abbrev R : tie.After-check_repair → Record
R c = record_in c.args.self

abbrev P : tie.After-check_repair → Running
P c = running_in c.args.running

-- what the check told
passed : (c : tie.In_default)
    → let a = c.args in checked (R c.before) (P c.before) a.area.now a.fresh.now a.helpers.now a.standins.now ≡ Ok tt
passed c = sym c.check_repair.ensures ∙ c.in_default.is

asks : (c : tie.In_default) → let a = c.args in Repairable (R c.before) (length a.area.now) a.fresh.now a.helpers.now a.standins.now
asks c =
    let a = c.args in
    repair-asks (R c.before) (P c.before) a.area.now a.fresh.now a.helpers.now a.standins.now (passed c)

-- there are 32 marks
marks-long : (g : tie.Start) → length g.args.self.record.marks ≡ 32
marks-long g = search rules

marks-ask : tie.Need-marks_on-requires
marks-ask c κs =
    let f = asks (in-default-of-marks-2-1 c) in
    below_more (R (check_repair-of-marks-2-1 c)).sizes.n (length (R (check_repair-of-marks-2-1 c)).marks) c.args.fresh.now (omega (arith, marks-long (start-of-marks-2-1 c), (legal-facts _ f.is-ready.stated.is-legal).few)) f.fresh-known

repair-done : tie.Need-returns
repair-done c =
    let a = c.args in
    repair-works (R (check_repair-of-marks-3-1 c)) (P (check_repair-of-marks-3-1 c)) a.area.now a.fresh.now a.helpers.now a.standins.now _ _ _ (passed (in-default-of-marks-3-1 c))
    c.rebuild-moved.ensures.0 c.marks_on.ensures c.rebuild-moved.ensures.1

repair-refused : (c : tie.In-Err)
    → let a = c.args in
    turned_down (R c.before) (P c.before) a.area.now [] [] c.in-Err.x ≡ repair_both (R c.before) (P c.before) a.area.now a.fresh.now a.helpers.now a.standins.now
repair-refused c =
    let a = c.args in
    repair-refuses (R c.before) (P c.before) a.area.now a.fresh.now a.helpers.now a.standins.now c.check_repair.ensures c.in-Err.is

pub repair_spec : {M : Type 1} → statement M
repair_spec =
    tie.close
    (tie.spec
    (λ c κs. search rules)
    (λ c. search rules)
    (λ c κs. search rules)
    (λ c. c.refuse.ensures _ [] [] ∙ repair-refused c.before)
    (λ c. search rules)
    (λ c κs. let a = c.args in
    repair-alone (R c.before.before) (P c.before.before) a.area.now a.fresh.now a.helpers.now a.standins.now (passed c.before))
    (λ c. sym (marks-long (start-of-marks-2-1 c)))
    marks-ask
    (λ c. search rules)
    repair-done)
