-- `store::Store::read` meets its contract: it hands on what its checks refuse, and past them the file is written.
-- Assumes nothing.
use mathlib.Core.Path.{◌≡◌, sym, ◌∙◌}
use mathlib.Core.List.{[]}
use lib.ListN.{length}
use borrow.Author.Rules.{rules}
use Rattle.std.specs.Prelude.{Ok}
use Rattle.sizes.specs.Refusals.{first, store_order}
use Rattle.store_spec.specs.Record.{Record}
use Rattle.store_spec.specs.Calls.{read_lines}
use Rattle.beside_spec.specs.Running.{Running}
use Rattle.beside_spec.specs.Both.{read_both}
use Rattle.record.specs.Records.{running_in}
use Rattle.store_work.specs.Handing.{turned_down}
use Rattle.store.specs.Handing.{record_in}
use Rattle.store_work.specs.Steps.{Readable}
use Rattle.store_work.proofs.Readable.{read_asked}
use Rattle.store_work.proofs.ReadCall.{checked, begins, read-refuses, read-disagrees, read-passes, read-asks, read-alone, read-works}
use Rattle.store.proofs.Store.read.Statement.{statement}
use Rattle.store.proofs.Store.read.Tie as tie

-- places in the code
abbrev in-default-check_agrees-of-slice_known-2-1 : tie.After-slice_known-2-1 → tie.In_default-check_agrees
in-default-check_agrees-of-slice_known-2-1 c = c.before.before.before.before.before

abbrev check_read-of-in-default-check_agrees : tie.In_default-check_agrees → tie.After-check_read
check_read-of-in-default-check_agrees c = c.before.before.before.before.before.before.before

abbrev check_read-of-in-refuse-check_agrees : tie.In-Err-check_agrees → tie.After-check_read
check_read-of-in-refuse-check_agrees c = c.before.before.before.before.before.before.before

abbrev check_read-of-slice_known-2-1 : tie.After-slice_known-2-1 → tie.After-check_read
check_read-of-slice_known-2-1 c = check_read-of-in-default-check_agrees c.before.before.before.before.before

abbrev R : tie.After-check_read → Record
R c = record_in c.args.self

abbrev P : tie.After-check_read → Running
P c = running_in c.args.running

-- what the first check told
begun : (c : tie.In_default) → begins (R c.before) (P c.before) c.args.area.now c.args.boards.now c.args.out.now ≡ Ok tt
begun c = sym c.check_read.ensures ∙ c.in_default.is

asks : (c : tie.In_default) → Readable (R c.before) (length c.args.area.now) c.args.boards.now
asks c = read-asks (R c.before) (P c.before) c.args.area.now c.args.boards.now c.args.out.now (begun c)

-- and both
passed : (c : tie.In_default-check_agrees)
    → checked (R (check_read-of-in-default-check_agrees c)) (P (check_read-of-in-default-check_agrees c)) c.args.area.now c.args.boards.now c.args.out.now ≡ Ok tt
passed c =
    let a = c.args in
    read-passes (R (check_read-of-in-default-check_agrees c)) (P (check_read-of-in-default-check_agrees c)) a.area.now a.boards.now a.out.now c.check_read.ensures c.in_default.is c.check_agrees.ensures c.in_default-check_agrees.is

read-done : tie.Need-returns
read-done c =
    read-works (R (check_read-of-slice_known-2-1 c)) (P (check_read-of-slice_known-2-1 c)) c.args.area.now c.args.boards.now c.args.out.now _ (passed (in-default-check_agrees-of-slice_known-2-1 c)) c.read_file.ensures

-- the call alone passes too
alone : (c : tie.In_default-check_agrees)
    → first store_order (read_lines (R (check_read-of-in-default-check_agrees c)) c.args.area.now c.args.boards.now c.args.out.now) ≡ Ok tt
alone c =
    read-alone (R (check_read-of-in-default-check_agrees c)) (P (check_read-of-in-default-check_agrees c)) c.args.area.now c.args.boards.now c.args.out.now (passed c)

read-refused : (c : tie.In-Err)
    → let a = c.args in
    turned_down (R c.before) (P c.before) a.area.now a.out.now [] c.in-Err.x ≡ read_both (R c.before) (P c.before) a.area.now a.boards.now a.out.now
read-refused c =
    let a = c.args in
    read-refuses (R c.before) (P c.before) a.area.now a.boards.now a.out.now c.check_read.ensures c.in-Err.is

read-disagreed : (c : tie.In-Err-check_agrees)
    → let a = c.args in
    turned_down (R (check_read-of-in-refuse-check_agrees c)) (P (check_read-of-in-refuse-check_agrees c)) a.area.now a.out.now [] c.in-Err-check_agrees.disagree ≡ read_both (R (check_read-of-in-refuse-check_agrees c)) (P (check_read-of-in-refuse-check_agrees c)) a.area.now a.boards.now a.out.now
read-disagreed c =
    let a = c.args in
    read-disagrees (R (check_read-of-in-refuse-check_agrees c)) (P (check_read-of-in-refuse-check_agrees c)) a.area.now a.boards.now a.out.now c.check_read.ensures c.in_default.is c.check_agrees.ensures c.in-Err-check_agrees.is

pub read_spec : {M : Type 1} → statement M
read_spec =
    tie.close
    (tie.spec
    (λ c κs. search rules)
    (λ c. search rules)
    (λ c κs. search rules)
    (λ c. search rules)
    (λ c. c.refuse.ensures _ _ [] ∙ read-refused c.before)
    (λ c. search rules)
    (λ c. search rules)
    (λ c κs. (read_asked _ _ _ (asks c.before), search rules))
    (λ c. search rules)
    (λ c κs. (asks c.before.before.before.before, c.fill_tables.ensures))
    (λ c. search rules)
    (λ c κs. search rules)
    (λ c. search rules)
    (λ c. c.refuse-in-Err-check_agrees.ensures _ _ [] ∙ read-disagreed c.before)
    (λ c. search rules)
    (λ c. search rules)
    (λ c κs. (alone c.before.before, c.fill_tables.ensures))
    (λ c. search rules)
    read-done)
