-- `archive_store::set_up` meets its contract: the words of the new records where it is accepted, else those that came.
-- Assumes nothing.
use mathlib.Core.Path.{◌≡◌}
use mathlib.Core.List.{[]}
use native.Mathlib.Omega.{arith}
use borrow.Author.Rules.{rules}
use lib.ListN.{length}
use Rattle.sizes.specs.declared.Sizes.{Sizes}
use Rattle.beside_spec.specs.Running as beside-record
use Rattle.store_spec.specs.Record.{Record}
use Rattle.beside_spec.specs.Both.{set_up_both}
use Rattle.record.specs.Records.{running_in, record_of}
use Rattle.store.specs.Handing.{outcome_both}
use Rattle.archive_spec.specs.Archive.{sizes_of}
use Rattle.archive_store.proofs.Worded.{due, set-up-asks, not-twelve, not-71, did-set-up, not-set-up}
use Rattle.archive_store.proofs.set_up.Statement.{statement}
use Rattle.archive_store.proofs.set_up.Tie as tie

-- places in the code
abbrev start-of-then-ps-ne71 : tie.Then-ps-ne71 → tie.Start
start-of-then-ps-ne71 c = c.before.before.before.before.before

abbrev else-ps-ne71-of-else-word-eq0 : tie.Else-word-eq0 → tie.Else-ps-ne71
else-ps-ne71-of-else-word-eq0 c = c.before.before.before.before.before.before

abbrev else-ws-ne12-of-else-word-eq0 : tie.Else-word-eq0 → tie.Else-ws-ne12
else-ws-ne12-of-else-word-eq0 c = c.before.before.before.before.before.before.before

abbrev else-ws-ne12-of-put_kept-arg-then-word-eq0-1 : tie.After-put_kept-arg-then-word-eq0-1 → tie.Else-ws-ne12
else-ws-ne12-of-put_kept-arg-then-word-eq0-1 c = c.before.before.before.before.before.before.before.before.before

abbrev start-of-set_up-handed : tie.After-set_up-handed → tie.Start
start-of-set_up-handed c = c.before.before.before.before.before.before.before.before.before

abbrev start-of-else-word-eq0 : tie.Else-word-eq0 → tie.Start
start-of-else-word-eq0 c = start-of-set_up-handed c.before.before

abbrev set_up-handed-of-slice_known-then-word-eq0-2-1 : tie.After-slice_known-then-word-eq0-2-1 → tie.After-set_up-handed
set_up-handed-of-slice_known-then-word-eq0-2-1 c = c.before.before.before.before.before.before.before.before.before.before.before.before

abbrev else-ps-ne71-of-put_running-arg-then-word-eq0-1 : tie.After-put_running-arg-then-word-eq0-1 → tie.Else-ps-ne71
else-ps-ne71-of-put_running-arg-then-word-eq0-1 c = c.before.before.before.before.before.before.before.before.before.before.before.before.before

abbrev else-ps-ne71-of-slice_known-then-word-eq0-2-1 : tie.After-slice_known-then-word-eq0-2-1 → tie.Else-ps-ne71
else-ps-ne71-of-slice_known-then-word-eq0-2-1 c = else-ps-ne71-of-put_running-arg-then-word-eq0-1 c.before.before.before

abbrev else-ws-ne12-of-slice_known-then-word-eq0-2-1 : tie.After-slice_known-then-word-eq0-2-1 → tie.Else-ws-ne12
else-ws-ne12-of-slice_known-then-word-eq0-2-1 c = else-ws-ne12-of-put_kept-arg-then-word-eq0-1 c.before.before.before.before.before.before.before.before

abbrev start-of-slice_known-then-word-eq0-2-1 : tie.After-slice_known-then-word-eq0-2-1 → tie.Start
start-of-slice_known-then-word-eq0-2-1 c = start-of-set_up-handed c.before.before.before.before.before.before.before.before.before.before.before.before

abbrev z : tie.Start → Sizes
z g = sizes_of g.args.n g.args.k g.args.d g.args.r

-- the records that the store's call is handed, which it does not examine
abbrev kept : tie.After-set_up-handed → Record
kept c = record_of c.new_kept.result

abbrev running : tie.After-set_up-handed → beside-record.Running
running c = running_in c.idle-idle.result

-- twelve words, and 71
twelve : (c : tie.Else-ws-ne12) → length c.args.ws.now ≡ 12
twelve c = omega (arith, c.if-ws-ne12.false)

all : (c : tie.Else-ps-ne71) → length c.args.ps.now ≡ 71
all c = omega (arith, c.if-ps-ne71.false)

-- the store's call at the array of the points is the call at the points
made : (c : tie.After-set_up-handed) →
    outcome_both c.set_up-handed.result [] [] [] ≡ set_up_both (kept c) (running c) (z (start-of-set_up-handed c)) c.args.points.now c.args.capacity
made c =
    due (kept c) (running c) (z (start-of-set_up-handed c)) c.points_array-xs.result c.args.points.now c.args.capacity (outcome_both c.set_up-handed.result [] [] []) c.set_up-handed.ensures
    c.points_array-xs.ensures

not-ws : tie.Need-returns-then-ws-ne12
not-ws c = not-twelve c.args.ws.now c.args.ps.now (z c.before.before.before.before) c.args.points.now c.args.capacity c.if-ws-ne12.true

not-ps : tie.Need-returns-then-ps-ne71
not-ps c = not-71 c.args.ws.now c.args.ps.now (z (start-of-then-ps-ne71 c)) c.args.points.now c.args.capacity c.if-ps-ne71.true

accepts : tie.Need-returns-then-word-eq0
accepts c =
    did-set-up c.args.ws.now c.args.ps.now (z (start-of-slice_known-then-word-eq0-2-1 c)) c.args.points.now c.args.capacity (kept (set_up-handed-of-slice_known-then-word-eq0-2-1 c)) (running (set_up-handed-of-slice_known-then-word-eq0-2-1 c)) c.set_up-handed.result _ (twelve (else-ws-ne12-of-slice_known-then-word-eq0-2-1 c)) (all (else-ps-ne71-of-slice_known-then-word-eq0-2-1 c)) (made (set_up-handed-of-slice_known-then-word-eq0-2-1 c))
    c.word_of-word.ensures _ _ c.if-word-eq0.true c.put_kept.ensures c.put_running.ensures

refuses : tie.Need-returns-else-word-eq0
refuses c =
    not-set-up c.args.ws.now c.args.ps.now (z (start-of-else-word-eq0 c)) c.args.points.now c.args.capacity (kept c.before.before) (running c.before.before) c.set_up-handed.result _ (twelve (else-ws-ne12-of-else-word-eq0 c)) (all (else-ps-ne71-of-else-word-eq0 c)) (made c.before.before)
    c.word_of-word.ensures c.if-word-eq0.false

pub set_up_spec : {M : Type 1} → statement M
set_up_spec =
    tie.close
    (tie.spec
    not-ws
    not-ps
    (λ c κs. search rules)
    (λ c κs. search rules)
    (λ c κs. search rules)
    (λ c κs. search rules)
    (λ c κs. set-up-asks c.set_up-handed.result (kept c) (running c) (z (start-of-set_up-handed c)) c.args.points.now c.args.capacity (made c))
    (λ c κs. twelve (else-ws-ne12-of-put_kept-arg-then-word-eq0-1 c))
    (λ c κs. all (else-ps-ne71-of-put_running-arg-then-word-eq0-1 c))
    (λ c. search rules)
    (λ c. search rules)
    accepts
    refuses)
