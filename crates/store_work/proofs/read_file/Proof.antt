-- `store_work::read_file` meets its contract.
-- Assumes nothing.
use mathlib.Core.Path.{sym}
use lib.ListN.{length}
use borrow.Author.Rules.{rules}
use Rattle.store_lines.proofs.Ready.{Ready, ready}
use Rattle.record.specs.Records.{record_of}
use Rattle.store_work.specs.Steps.{Readable}
use Rattle.store_work.proofs.Readable.{read_asked}
use Rattle.store_work.proofs.ReadCall.{read-readable, read-room, read-decodes}
use Rattle.store_work.proofs.read_file.Statement.{statement}
use Rattle.store_work.proofs.read_file.Tie as tie

-- the places
abbrev st : tie.After-points-1 → tie.Start
st c = c.before.before.before.before.before.before

abbrev at_count : tie.After-write_file-arg-1 → tie.After-stripe_count-count
at_count c = c.before.before

-- what the kernel asks
readable-on : (g : tie.Start) → Readable (record_of g.args.kept) (length g.args.area.now) g.args.boards.now
readable-on g = let a = g.args in read-readable (record_of a.kept) a.area.now a.boards.now a.out.now g.requires.0

ready_on : (g : tie.Start) → Ready (record_of g.args.kept)
ready_on g = ready _ (readable-on g).is-sound

file-asks : tie.Need-write_file-requires
file-asks c κs =
    let n = at_count c in
    let g = st n.before in
    let a = g.args in
    let f = readable-on g in
    let r = ready_on g in
    let e = n.stripe_count-count.ensures.0 in (
      read_asked _ _ _ f,
      e,
      r.cap-high,
      rw e r.few-stripes,
      f.area-is,
      g.requires.1,
      read-room (record_of a.kept) a.area.now a.boards.now a.out.now g.requires.0,
    )

file-read : tie.Need-returns
file-read c =
    let w = c.before.before in
    let g = st (at_count w.before).before in
    let a = g.args in
    read-decodes (record_of a.kept) a.area.now a.boards.now a.out.now _ g.requires.0 w.write_file.ensures

pub read_file_spec : {M : Type 1} → statement M
read_file_spec =
    tie.close
    (tie.spec
    (λ c κs. (ready_on (st c)).stated)
    (λ c. sym (ready_on (st c.before.before)).points-taken.long)
    file-asks
    (λ c. search rules)
    file-read)
