-- `archive_store::step` meets its contract: what the store's call gives, with both records in words.
-- Assumes nothing.
use mathlib.Core.Bool.{not}
use mathlib.Core.Path.{ap}
use borrow.Author.Rules.{rules}
use Rattle.beside_spec.specs.Acting.{step, act}
use Rattle.archive_store.proofs.Worded.{Both, LentCall, lent-call}
use Rattle.archive_store.proofs.step.Statement.{statement}
use Rattle.archive_store.proofs.step.Tie as tie

-- places in the code
abbrev start-of-else-not-are_records : tie.Else-not-are_records → tie.Start
start-of-else-not-are_records c = c.before.before.before.before.before.before

abbrev start-of-then-not-are_records : tie.Then-not-are_records → tie.Start
start-of-then-not-are_records c = c.before.before.before.before.before.before

abbrev else-not-are_records-of-hand_on-arg-2-1 : tie.After-hand_on-arg-2-1 → tie.Else-not-are_records
else-not-are_records-of-hand_on-arg-2-1 c = c.before.before.before.before.before.before.before.before.before.before.before

abbrev else-not-are_records-of-slice_known-8-1 : tie.After-slice_known-8-1 → tie.Else-not-are_records
else-not-are_records-of-slice_known-8-1 c = else-not-are_records-of-hand_on-arg-2-1 c.before.before.before.before.before

abbrev start-of-hand_on-arg-2-1 : tie.After-hand_on-arg-2-1 → tie.Start
start-of-hand_on-arg-2-1 c = start-of-else-not-are_records c.before.before.before.before.before.before.before.before.before.before.before

abbrev start-of-slice_known-8-1 : tie.After-slice_known-8-1 → tie.Start
start-of-slice_known-8-1 c = start-of-hand_on-arg-2-1 c.before.before.before.before.before

-- the store's call
on : (g : tie.Start) → LentCall g.args.ws.now g.args.ps.now g.args.area.now (step g.args.allowance g.args.packets.now)
on g = lent-call _ _ _ _

-- the words tell both records
both : (c : tie.Else-not-are_records) → Both c.args.ws.now c.args.ps.now
both c = (on (start-of-else-not-are_records c)).both _ c.are_records.ensures (ap not c.if-not-are_records.false)

is_none : tie.Need-returns-then-not-are_records
is_none c = (on (start-of-then-not-are_records c)).is_none _ c.are_records.ensures (ap not c.if-not-are_records.true)

asks : tie.Need-hand_on-requires
unfolding act
asks c κs =
    (on (start-of-hand_on-arg-2-1 c)).asks _ _ c.step-handed.result _ _ _ (both (else-not-are_records-of-hand_on-arg-2-1 c)) c.step-handed.ensures

hands_on : tie.Need-returns
unfolding act
hands_on c =
    (on (start-of-slice_known-8-1 c)).hands_on _ _ c.step-handed.result _ _ _ _ _ _ (both (else-not-are_records-of-slice_known-8-1 c)) c.kept_of.ensures c.running_of-running.ensures c.step-handed.ensures c.hand_on.ensures

pub step_spec : {M : Type 1} → statement M
step_spec =
    tie.close
    (tie.spec
    (λ c κs. search rules)
    (λ c. search rules)
    (λ c. search rules)
    is_none
    (λ c κs. (both c).is-record)
    (λ c κs. (both c.before).is-repair)
    (λ c κs. search rules)
    asks
    (λ c. search rules)
    (λ c. search rules)
    (λ c. search rules)
    (λ c. search rules)
    hands_on)
