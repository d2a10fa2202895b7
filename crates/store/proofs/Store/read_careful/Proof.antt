-- `store::Store::read_careful` meets its contract: it hands on what its check refuses, DISAGREE where no file qualifies, and past both the file is written.
-- Assumes nothing.
use mathlib.Core.Path.{◌≡◌, sym, ◌∙◌}
use mathlib.Core.List.{[]}
use Prim.Native.Nat.{◌≤◌}
use lib.ListN.{length}
use borrow.Author.Rules.{rules}
use borrow.Author.Tests.{not-true, not-false}
use Rattle.sizes.specs.declared.Refusal.TheVariants.{Disagree}
use Rattle.store_spec.specs.Record.{Record}
use Rattle.beside_spec.specs.Running.{Running}
use Rattle.beside_spec.specs.Both.{careful_both}
use Rattle.record.specs.Records.{running_in}
use Rattle.careful_tries.specs.Steps.{Careful}
use Rattle.store_work.specs.Handing.{turned_down}
use Rattle.store.specs.Handing.{record_in}
use Rattle.store_work.proofs.CarefulCall.{careful-refuses, careful-disagrees, careful-asks, careful-room, careful-works}
use Rattle.store.proofs.Store.read_careful.Statement.{statement}
use Rattle.store.proofs.Store.read_careful.Tie as tie

-- places in the code
abbrev check_careful-of-else-not-tried : tie.Else-not-tried → tie.After-check_careful
check_careful-of-else-not-tried c = c.before.before.before.before.before.before.before

abbrev check_careful-of-then-not-tried : tie.Then-not-tried → tie.After-check_careful
check_careful-of-then-not-tried c = c.before.before.before.before.before.before.before

abbrev R : tie.After-check_careful → Record
R c = record_in c.args.self

abbrev P : tie.After-check_careful → Running
P c = running_in c.args.running

-- what the check told
asks : (c : tie.In_default) → Careful (R c.before) c.args.boards.now c.args.area.now
asks c =
    let a = c.args in
    careful-asks (R c.before) (P c.before) a.area.now a.boards.now a.out.now _ c.check_careful.ensures c.in_default.is

room : (c : tie.In_default) → (R c.before).length ≤ length c.args.out.now
room c =
    let a = c.args in
    careful-room (R c.before) (P c.before) a.area.now a.boards.now a.out.now _ c.check_careful.ensures c.in_default.is

refused : (c : tie.In-Err)
    → let a = c.args in
    turned_down (R c.before) (P c.before) a.area.now a.out.now [] c.in-Err.x ≡ careful_both (R c.before) (P c.before) a.area.now a.boards.now a.out.now
refused c =
    let a = c.args in
    careful-refuses (R c.before) (P c.before) a.area.now a.boards.now a.out.now c.check_careful.ensures c.in-Err.is

-- no file qualifies
disagrees : (c : tie.Then-not-tried)
    → let a = c.args in
    turned_down (R (check_careful-of-then-not-tried c)) (P (check_careful-of-then-not-tried c)) a.area.now c.read_file-tried.new.out [] Disagree ≡ careful_both (R (check_careful-of-then-not-tried c)) (P (check_careful-of-then-not-tried c)) a.area.now a.boards.now a.out.now
disagrees c =
    let a = c.args in
    let e = c.read_file-tried.ensures in
    let no = not-true c.read_file-tried.result.found c.if-not-tried.true in
    careful-disagrees (R (check_careful-of-then-not-tried c)) (P (check_careful-of-then-not-tried c)) a.area.now a.boards.now a.out.now _ c.check_careful.ensures c.in_default.is _ (sym e.0 ∙ no) (e.1.1.1 no)

-- one does
works : tie.Need-returns
works c =
    let a = c.args in
    let e = c.read_file-tried.ensures in
    let yes = not-false c.read_file-tried.result.found c.if-not-tried.false in
    careful-works (R (check_careful-of-else-not-tried c)) (P (check_careful-of-else-not-tried c)) a.area.now a.boards.now a.out.now _ c.check_careful.ensures c.in_default.is _ _ (sym e.0 ∙ yes) (e.1.0 yes) (e.1.1.0 yes)

pub read_careful_spec : {M : Type 1} → statement M
read_careful_spec =
    tie.close
    (tie.spec
    (λ c κs. search rules)
    (λ c. search rules)
    (λ c κs. search rules)
    (λ c. search rules)
    (λ c. c.refuse.ensures _ _ [] ∙ refused c.before)
    (λ c. search rules)
    (λ c κs. (asks c.before, room c.before))
    (λ c κs. search rules)
    (λ c. search rules)
    (λ c. c.refuse-then-not-tried.ensures _ _ [] ∙ disagrees c.before)
    (λ c. search rules)
    works)
