-- `store_work::check_agrees` meets its contract.
-- Assumes nothing.
use mathlib.Core.Path.{sym}
use Rattle.store_lines.proofs.Ready.{Ready, ready}
use Rattle.record.specs.Records.{record_of}
use Rattle.store_work.proofs.Readable.{read_asked}
use Rattle.store_work.proofs.check_agrees.Statement.{statement}
use Rattle.store_work.proofs.check_agrees.Tie as tie

-- the places
abbrev st : tie.After-points-1 → tie.Start
st c = c.before.before.before.before.before

-- what the kernel asks
ready_on : (g : tie.Start) → Ready (record_of g.args.kept)
ready_on g = ready _ g.requires.0.is-sound

agrees-asks : tie.Need-check_agrees-requires
agrees-asks c κs =
    let n = c.before in
    let g = st n.before in
    let r = ready_on g in
    let e = n.stripe_count-count.ensures.0 in
    (read_asked _ _ _ g.requires.0, e, r.cap-high, rw e r.few-stripes, g.requires.0.area-is, g.requires.1)

pub check_agrees_spec : {M : Type 1} → statement M
check_agrees_spec =
    tie.close
    (tie.spec
    (λ c κs. (ready_on (st c)).stated)
    (λ c. sym (ready_on (st c.before.before)).points-taken.long)
    agrees-asks
    (λ c. c.check_agrees.ensures))
