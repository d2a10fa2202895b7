-- `archive_store::read_careful` meets its contract: what the store's call gives, with both records in words.
-- Assumes nothing.
use mathlib.Core.Bool.{not}
use mathlib.Core.Path.{ap}
use borrow.Author.Rules.{rules}
use Rattle.beside_spec.specs.Acting.{careful, act}
use Rattle.archive_store.proofs.Worded.{Both, LentCall, lent-call}
use Rattle.archive_store.proofs.read_careful.Statement.{statement}
use Rattle.archive_store.proofs.read_careful.Tie as tie

-- places in the code
abbrev start-of-else-not-are_records : tie.Else-not-are_records → tie.Start
start-of-else-not-are_records c = c.before.before.before.before.before.before.before

abbrev start-of-then-not-are_records : tie.Then-not-are_records → tie.Start
start-of-then-not-are_records c = c.before.before.before.before.before.before.before

abbrev else-not-are_records-of-hand_on-arg-2-1 : tie.After-hand_on-arg-2-1 → tie.Else-not-are_records
else-not-are_records-of-hand_on-arg-2-1 c = c.before.before.before.before.before.before.before.before

abbrev else-not-are_records-of-slice_known-6-1 : tie.After-slice_known-6-1 → tie.Else-not-are_records
else-not-are_records-of-slice_known-6-1 c = else-not-are_records-of-hand_on-arg-2-1 c.before.before.before.before.before

abbrev start-of-hand_on-arg-2-1 : tie.After-hand_on-arg-2-1 → tie.Start
start-of-hand_on-arg-2-1 c = start-of-else-not-are_records c.before.before.before.before.before.before.before.before

abbrev start-of-slice_known-6-1 : tie.After-slice_known-6-1 → tie.Start
start-of-slice_known-6-1 c = start-of-hand_on-arg-2-1 c.before.before.before.before.before

-- the store's call
on : (g : tie.Start) → LentCall g.args.ws.now g.args.ps.now g.args.area.now (careful g.args.boards.now g.args.out.now)
on g = lent-call _ _ _ _

-- the words tell both records
both : (c : tie.Else-not-are_records) → Both c.args.ws.now c.args.ps.now
both c = (on (start-of-else-not-are_records c)).both _ c.are_records.ensures (ap not c.if-not-are_records.false)

is_none : tie.Need-returns-then-not-are_records
is_none c = (on (start-of-then-not-are_records c)).is_none _ c.are_records.ensures (ap not c.if-not-are_records.true)

asks : tie.Need-hand_on-requires
unfolding act
asks c κs =
    (on (start-of-hand_on-arg-2-1 c)).asks _ _ c.read_careful-handed.result _ _ _ (both (else-not-are_records-of-hand_on-arg-2-1 c)) c.read_careful-handed.ensures

hands_on : tie.Need-returns
unfolding act
hands_on c =
    (on (start-of-slice_known-6-1 c)).hands_on _ _ c.read_careful-handed.result _ _ _ _ _ _ (both (else-not-are_records-of-slice_known-6-1 c)) c.kept_of.ensures c.running_of-running.ensures c.read_careful-handed.ensures c.hand_on.ensures

pub read_careful_spec : {M : Type 1} → statement M
read_careful_spec =
    tie.close
    (tie.spec
    (λ c κs. search rules)
    (λ c. search rules)
    (λ c. search rules)
    is_none
    (λ c κs. (both c).is-record)
    (λ c κs. (both c.before).is-repair)
    (λ c κs. search rules)
    asks
    (λ c. search rules)
    (λ c. search rules)
    (λ c. search rules)
    hands_on)
