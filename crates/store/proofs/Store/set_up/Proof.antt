-- `store::Store::set_up` meets its contract: it hands on what its check refuses, and past it a new record.
-- Assumes nothing.
use mathlib.Core.Path.{◌≡◌, sym, ap₂, ◌∙◌}
use mathlib.Core.List.{[]}
use borrow.Author.Rules.{rules}
use Rattle.beside_spec.specs.Both.{set_up_both}
use Rattle.record.specs.Records.{running_in}
use Rattle.store_work.specs.Handing.{turned_down}
use Rattle.store.specs.Handing.{record_in}
use Rattle.store_work.proofs.Settled.{new, set-up-refuses, set-up-works}
use Rattle.store.proofs.Store.set_up.Statement.{statement}
use Rattle.store.proofs.Store.set_up.Tie as tie

set-up-refused : (c : tie.In-Err)
    → let a = c.args in
    turned_down (record_in a.self) (running_in a.running) [] [] [] c.in-Err.x ≡ set_up_both (record_in a.self) (running_in a.running) a.sizes a.points a.capacity
set-up-refused c =
    let a = c.args in
    set-up-refuses (record_in a.self) (running_in a.running) a.sizes a.points a.capacity c.check_set_up.ensures c.in-Err.is

set-up-done : tie.Need-returns
set-up-done c =
    let a = c.args in
    let s = record_in a.self in
    let p = running_in a.running in
    ap₂ (new s p a.sizes a.points a.capacity) c.new_kept-next.ensures c.idle-idle.ensures
    ∙ set-up-works s p a.sizes a.points a.capacity (sym c.check_set_up.ensures ∙ c.in_default.is)

pub set_up_spec : {M : Type 1} → statement M
set_up_spec =
    tie.close
    (tie.spec
    (λ c κs. search rules)
    (λ c. search rules)
    (λ c κs. search rules)
    (λ c. c.refuse.ensures [] [] [] ∙ set-up-refused c.before)
    (λ c. search rules)
    (λ c κs. search rules)
    (λ c κs. search rules)
    set-up-done)
