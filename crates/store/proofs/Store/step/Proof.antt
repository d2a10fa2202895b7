-- `store::Store::step` meets its contract: it hands on what its check refuses, and past it what the work of a step leaves.
-- Assumes nothing.
use mathlib.Core.Path.{◌≡◌, sym, ◌∙◌}
use mathlib.Core.List.{[]}
use borrow.Author.Rules.{rules}
use Rattle.std.specs.Prelude.{Ok}
use Rattle.store_spec.specs.Record.{Record}
use Rattle.beside_spec.specs.Running.{Running}
use Rattle.beside_spec.specs.Both.{step_call}
use Rattle.record.specs.Records.{running_in}
use Rattle.store_work.specs.Handing.{turned_down}
use Rattle.store.specs.Handing.{record_in}
use Rattle.store_work.proofs.StepCall.{checked, step-refuses, step-works}
use Rattle.store.proofs.Store.step.Statement.{statement}
use Rattle.store.proofs.Store.step.Tie as tie

-- places in the code
abbrev in-default-of-after-1 : tie.After-after-1 → tie.In_default
in-default-of-after-1 c = c.before.before.before.before.before.before.before.before.before

abbrev check_step-of-after-1 : tie.After-after-1 → tie.After-check_step
check_step-of-after-1 c = c.before.before.before.before.before.before.before.before.before.before

abbrev R : tie.After-check_step → Record
R c = record_in c.args.self

abbrev P : tie.After-check_step → Running
P c = running_in c.args.running

-- what the check told
passed : (c : tie.In_default) → checked (R c.before) (P c.before) c.args.area.now c.args.packets.now ≡ Ok tt
passed c = sym c.check_step.ensures ∙ c.in_default.is

step-refused : (c : tie.In-Err)
    → let a = c.args in
    turned_down (R c.before) (P c.before) a.area.now [] a.packets.now c.in-Err.x ≡ step_call (R c.before) (P c.before) a.area.now a.packets.now a.allowance
step-refused c =
    let a = c.args in
    step-refuses (R c.before) (P c.before) a.area.now a.packets.now a.allowance c.check_step.ensures c.in-Err.is

-- the work left both records and both areas as the call hands them on
step-done : tie.Need-returns
step-done c =
    let a = c.args in
    step-works (R (check_step-of-after-1 c)) (P (check_step-of-after-1 c)) a.area.now a.packets.now a.allowance (passed (in-default-of-after-1 c)) c.step-stepped.ensures

pub step_spec : {M : Type 1} → statement M
step_spec =
    tie.close
    (tie.spec
    (λ c κs. search rules)
    (λ c. search rules)
    (λ c κs. search rules)
    (λ c. c.refuse.ensures _ [] _ ∙ step-refused c.before)
    (λ c. search rules)
    (λ c κs. passed c.before.before)
    (λ c. search rules)
    (λ c. search rules)
    step-done)
