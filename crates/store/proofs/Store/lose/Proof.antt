-- `store::Store::lose` meets its contract: it hands on what its check refuses, and past it the mark goes off.
-- Assumes nothing.
use mathlib.Core.Path.{◌≡◌, sym, ◌∙◌}
use mathlib.Core.List.{List, []}
use Prim.Native.Nat.{ℕ}
use borrow.Author.Rules.{rules}
use Rattle.std.specs.Prelude.{Ok}
use Rattle.store_spec.specs.Record.{Record}
use Rattle.beside_spec.specs.Running.{Running}
use Rattle.beside_spec.specs.Both.{lose_both}
use Rattle.record.specs.Records.{running_in}
use Rattle.store_work.specs.Handing.{turned_down}
use Rattle.store.specs.Handing.{record_in}
use Rattle.store_work.proofs.Settled.{lost, lose-refuses, lose-works, lose-beside, lose-marked, lose-legal}
use Rattle.store.proofs.Store.lose.Statement.{statement}
use Rattle.store.proofs.Store.lose.Tie as tie

abbrev R : tie.After-check_lose → Record
R c = record_in c.args.self

abbrev P : tie.After-check_lose → Running
P c = running_in c.args.running

-- what the check told
passed : (c : tie.In_default) → lost (R c.before) (P c.before) c.args.board ≡ Ok tt
passed c = sym c.check_lose.ensures ∙ c.in_default.is

lose-refused : (c : tie.In-Err) (area : List ℕ)
    → turned_down (R c.before) (P c.before) area [] [] c.in-Err.x ≡ lose_both (R c.before) (P c.before) area c.args.board
lose-refused c area = lose-refuses (R c.before) (P c.before) c.args.board c.check_lose.ensures c.in-Err.is area

pub lose_spec : {M : Type 1} → statement M
lose_spec =
    tie.close
    (tie.spec
    (λ c κs. search rules)
    (λ c. search rules)
    (λ c κs. search rules)
    (λ c area. c.refuse.ensures area [] [] ∙ lose-refused c.before area)
    (λ c. search rules)
    (λ c κs. let h = passed c in (lose-legal _ _ _ h, lose-beside _ _ _ h, lose-marked _ _ _ h))
    (λ c. lose-marked _ _ _ (passed c.before))
    (λ c area. lose-works _ _ _ _ (passed c.before) c.lost_beside-beside.ensures area))
