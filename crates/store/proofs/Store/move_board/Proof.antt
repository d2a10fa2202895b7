-- `store::Store::move_board` meets its contract: it hands on what its check refuses, and past it the board is moved.
-- Assumes nothing.
use mathlib.Core.Path.{◌≡◌, sym, ◌∙◌}
use mathlib.Core.List.{[]}
use Prim.Native.Nat.{◌<◌}
use lib.ListN.{length}
use borrow.Author.Rules.{rules}
use Rattle.std.specs.Prelude.{Ok}
use Rattle.sizes.specs.Refusals.{first, store_order}
use Rattle.store_spec.specs.Record.{Record}
use Rattle.beside_spec.specs.Running.{Running}
use Rattle.store_spec.specs.Move.{move_lines}
use Rattle.beside_spec.specs.Both.{move_both}
use Rattle.record.specs.Records.{running_in}
use Rattle.store_work.specs.Handing.{turned_down}
use Rattle.store.specs.Handing.{record_in}
use Rattle.store_work.proofs.MoveCall.{checked, move-refuses, move-alone, move-known, move-works}
use Rattle.store.proofs.Store.move_board.Statement.{statement}
use Rattle.store.proofs.Store.move_board.Tie as tie

-- places in the code
abbrev check_move-of-slice_known-2-1 : tie.After-slice_known-2-1 → tie.After-check_move
check_move-of-slice_known-2-1 c = c.before.before.before.before.before

abbrev R : tie.After-check_move → Record
R c = record_in c.args.self

abbrev P : tie.After-check_move → Running
P c = running_in c.args.running

-- what the check told
passed : (c : tie.In_default)
    → let a = c.args in checked (R c.before) (P c.before) a.area.now a.board a.point a.helpers.now a.partners.now ≡ Ok tt
passed c = sym c.check_move.ensures ∙ c.in_default.is

alone : (c : tie.In_default)
    → let a = c.args in
    first store_order (move_lines (R c.before) (length a.area.now) a.board a.point a.helpers.now a.partners.now) ≡ Ok tt
alone c = let a = c.args in move-alone (R c.before) (P c.before) a.area.now a.board a.point a.helpers.now a.partners.now (passed c)

known : (c : tie.In_default) → c.args.board < 32
known c = let a = c.args in move-known (R c.before) a.area.now a.board a.point a.helpers.now a.partners.now (alone c)

move-refused : (c : tie.In-Err)
    → let a = c.args in
    turned_down (R c.before) (P c.before) a.area.now [] [] c.in-Err.x ≡ move_both (R c.before) (P c.before) a.area.now a.board a.point a.helpers.now a.partners.now
move-refused c =
    let a = c.args in
    move-refuses (R c.before) (P c.before) a.area.now a.board a.point a.helpers.now a.partners.now c.check_move.ensures c.in-Err.is

move-done : tie.Need-returns
move-done c =
    let a = c.args in
    move-works (R (check_move-of-slice_known-2-1 c)) (P (check_move-of-slice_known-2-1 c)) a.area.now a.board a.point a.helpers.now a.partners.now _ _ (passed c.before.before.before.before) c.move_one-moved.ensures.0 c.move_one-moved.ensures.1

pub move_board_spec : {M : Type 1} → statement M
move_board_spec =
    tie.close
    (tie.spec
    (λ c κs. search rules)
    (λ c. search rules)
    (λ c κs. search rules)
    (λ c. c.refuse.ensures _ [] [] ∙ move-refused c.before)
    (λ c. search rules)
    (λ c κs. alone c.before)
    (λ c. known c.before.before.before.before)
    (λ c. search rules)
    move-done)
