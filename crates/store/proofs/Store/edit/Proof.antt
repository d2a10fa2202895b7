-- `store::Store::edit` meets its contract: it hands on what its checks refuse, and past them the boards in service are changed.
-- Assumes nothing.
use mathlib.Core.Path.{◌≡◌, sym, ◌∙◌}
use mathlib.Core.List.{[]}
use lib.ListN.{length}
use borrow.Author.Rules.{rules}
use Rattle.std.specs.Prelude.{Ok}
use Rattle.sizes.specs.Refusals.{first, store_order}
use Rattle.store_spec.specs.Record.{Record}
use Rattle.store_spec.specs.Edit.{edit_lines}
use Rattle.beside_spec.specs.Running.{Running}
use Rattle.beside_spec.specs.Both.{edit_both}
use Rattle.record.specs.Records.{running_in}
use Rattle.store_work.specs.Handing.{turned_down}
use Rattle.store.specs.Handing.{record_in}
use Rattle.store_work.specs.Steps.{Readable}
use Rattle.store_work.proofs.Readable.{read_asked}
use Rattle.store_work.proofs.EditCall.{checked, begins, edit-refuses, edit-disagrees, edit-passes, edit-asks, edit-alone, edit-works}
use Rattle.store.proofs.Store.edit.Statement.{statement}
use Rattle.store.proofs.Store.edit.Tie as tie

-- places in the code
abbrev in-default-check_agrees-of-slice_known-2-1 : tie.After-slice_known-2-1 → tie.In_default-check_agrees
in-default-check_agrees-of-slice_known-2-1 c = c.before.before.before.before.before

abbrev check_edit-of-in-default-check_agrees : tie.In_default-check_agrees → tie.After-check_edit
check_edit-of-in-default-check_agrees c = c.before.before.before.before.before.before.before

abbrev check_edit-of-in-refuse-check_agrees : tie.In-Err-check_agrees → tie.After-check_edit
check_edit-of-in-refuse-check_agrees c = c.before.before.before.before.before.before.before

abbrev check_edit-of-slice_known-2-1 : tie.After-slice_known-2-1 → tie.After-check_edit
check_edit-of-slice_known-2-1 c = check_edit-of-in-default-check_agrees c.before.before.before.before.before

abbrev R : tie.After-check_edit → Record
R c = record_in c.args.self

abbrev P : tie.After-check_edit → Running
P c = running_in c.args.running

-- what the first check told
begun : (c : tie.In_default) → let a = c.args in begins (R c.before) (P c.before) a.area.now a.offset a.bytes.now a.boards.now ≡ Ok tt
begun c = sym c.check_edit.ensures ∙ c.in_default.is

asks : (c : tie.In_default) → let a = c.args in Readable (R c.before) (length a.area.now) a.boards.now
asks c = let a = c.args in edit-asks (R c.before) (P c.before) a.area.now a.offset a.bytes.now a.boards.now (begun c)

-- and both
passed : (c : tie.In_default-check_agrees)
    → let a = c.args in checked (R (check_edit-of-in-default-check_agrees c)) (P (check_edit-of-in-default-check_agrees c)) a.area.now a.offset a.bytes.now a.boards.now ≡ Ok tt
passed c =
    let a = c.args in
    edit-passes (R (check_edit-of-in-default-check_agrees c)) (P (check_edit-of-in-default-check_agrees c)) a.area.now a.offset a.bytes.now a.boards.now c.check_edit.ensures c.in_default.is c.check_agrees.ensures c.in_default-check_agrees.is

edit-done : tie.Need-returns
edit-done c =
    let a = c.args in
    edit-works (R (check_edit-of-slice_known-2-1 c)) (P (check_edit-of-slice_known-2-1 c)) a.area.now a.offset a.bytes.now a.boards.now _ (passed (in-default-check_agrees-of-slice_known-2-1 c)) c.edit_boards.ensures

-- the call alone passes too
alone : (c : tie.In_default-check_agrees)
    → let a = c.args in
    first store_order (edit_lines (R (check_edit-of-in-default-check_agrees c)) a.area.now a.offset a.bytes.now a.boards.now) ≡ Ok tt
alone c =
    let a = c.args in
    edit-alone (R (check_edit-of-in-default-check_agrees c)) (P (check_edit-of-in-default-check_agrees c)) a.area.now a.offset a.bytes.now a.boards.now (passed c)

edit-refused : (c : tie.In-Err)
    → let a = c.args in
    turned_down (R c.before) (P c.before) a.area.now [] [] c.in-Err.x ≡ edit_both (R c.before) (P c.before) a.area.now a.offset a.bytes.now a.boards.now
edit-refused c =
    let a = c.args in
    edit-refuses (R c.before) (P c.before) a.area.now a.offset a.bytes.now a.boards.now c.check_edit.ensures c.in-Err.is

edit-disagreed : (c : tie.In-Err-check_agrees)
    → let a = c.args in
    turned_down (R (check_edit-of-in-refuse-check_agrees c)) (P (check_edit-of-in-refuse-check_agrees c)) a.area.now [] [] c.in-Err-check_agrees.disagree ≡ edit_both (R (check_edit-of-in-refuse-check_agrees c)) (P (check_edit-of-in-refuse-check_agrees c)) a.area.now a.offset a.bytes.now a.boards.now
edit-disagreed c =
    let a = c.args in
    edit-disagrees (R (check_edit-of-in-refuse-check_agrees c)) (P (check_edit-of-in-refuse-check_agrees c)) a.area.now a.offset a.bytes.now a.boards.now c.check_edit.ensures c.in_default.is c.check_agrees.ensures c.in-Err-check_agrees.is

pub edit_spec : {M : Type 1} → statement M
edit_spec =
    tie.close
    (tie.spec
    (λ c κs. search rules)
    (λ c. search rules)
    (λ c κs. search rules)
    (λ c. c.refuse.ensures _ [] [] ∙ edit-refused c.before)
    (λ c. search rules)
    (λ c. search rules)
    (λ c κs. (read_asked _ _ _ (asks c.before), search rules))
    (λ c. search rules)
    (λ c κs. (asks c.before.before.before.before, c.fill_tables.ensures))
    (λ c. search rules)
    (λ c κs. search rules)
    (λ c. search rules)
    (λ c. c.refuse-in-Err-check_agrees.ensures _ [] [] ∙ edit-disagreed c.before)
    (λ c. search rules)
    (λ c. search rules)
    (λ c κs. (alone c.before.before, c.fill_tables.ensures))
    (λ c. search rules)
    edit-done)
