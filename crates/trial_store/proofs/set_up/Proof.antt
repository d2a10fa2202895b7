-- `trial_store::set_up` meets its contract, by the method's.
-- Assumes nothing.
use mathlib.Core.Path.{◌≡◌, ap, ap₂, ◌∙◌}
use mathlib.Core.List.{List, []}
use Prim.Native.Nat.{ℕ}
use borrow.Author.Rules.{rules}
use Rattle.mbcr.specs.Share.{standard}
use Rattle.store_spec.specs.Record.{Record, new_record}
use Rattle.beside_spec.specs.Running.{Running, idle}
use Rattle.beside_spec.specs.Both.{Outcome, set_up_both}
use Rattle.store.specs.Handing.{outcome_both}
use Rattle.trial_store.proofs.set_up.Statement.{statement}
use Rattle.trial_store.proofs.set_up.Tie as tie

-- where the call began
abbrev st : tie.After-set_up → tie.Start
st c = c.before.before.before.before.before

-- what the method handed on
made : (c : tie.After-set_up)
    → let a = (st c).args in let z = a.load.sizes in let C = a.load.capacity in
    outcome_both c.set_up.result [] [] [] ≡ set_up_both (new_record z (standard z) C) idle z (standard z) C
made c =
    let i = c.before in
    let n = i.before in
    let p = n.before in
    let z = (st c).args.load.sizes in
    let C = (st c).args.load.capacity in
    c.set_up.ensures
    ∙ ap₂ (λ (old : Record) (q : Running). set_up_both old q z p.standard_points-points.result C) n.new_kept-kept.ensures i.idle-none.ensures
    ∙ ap (λ (xs : List ℕ). set_up_both (new_record z xs C) idle z xs C) p.standard_points-points.ensures

pub set_up_spec : {M : Type 1} → statement M
set_up_spec =
    tie.close
    (tie.spec
    (λ c κs. search rules)
    (λ c κs. search rules)
    (λ c κs. search rules)
    (λ c κs. search rules)
    (λ c. (ap (λ (o : Outcome). o.handed) (made c), ap (λ (o : Outcome). o.running) (made c))))
