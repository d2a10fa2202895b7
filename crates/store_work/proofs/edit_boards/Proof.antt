-- `store_work::edit_boards` meets its contract.
-- Assumes nothing.
use mathlib.Core.Path.{◌≡◌, sym}
use lib.ListN.{length}
use borrow.Author.Rules.{rules}
use Rattle.store_lines.proofs.Ready.{Ready, ready}
use Rattle.record.specs.Records.{record_of}
use Rattle.store_work.specs.Steps.{Readable}
use Rattle.store_work.proofs.Readable.{read_asked}
use Rattle.store_work.proofs.EditCall.{edit-readable, edit-fits, edit-written, edit-changes}
use Rattle.store_work.proofs.edit_boards.Statement.{statement}
use Rattle.store_work.proofs.edit_boards.Tie as tie

-- the places
abbrev st : tie.After-marks-1 → tie.Start
st c = c.before.before.before.before.before.before.before

abbrev marks-at-marks2 : tie.After-marks-2-1 → tie.After-marks-1
marks-at-marks2 c = c.before.before

abbrev at-marks : tie.After-edit_shares-arg-1 → tie.After-marks-1
at-marks c = marks-at-marks2 c.before

-- what the kernel asks
readable-on : (g : tie.Start) → Readable (record_of g.args.kept) (length g.args.area.now) g.args.boards.now
readable-on g = let a = g.args in edit-readable (record_of a.kept) a.area.now a.offset a.bytes.now a.boards.now g.requires.0

ready_on : (g : tie.Start) → Ready (record_of g.args.kept)
ready_on g = ready _ (readable-on g).is-sound

-- there are 32 marks
marks-long : (g : tie.Start) → length g.args.kept.marks ≡ 32
marks-long g = search rules

shares-ask : tie.Need-edit_shares-requires
shares-ask c κs =
    let g = st (at-marks c) in
    let a = g.args in
    let f = readable-on g in
    let r = ready_on g in (
      read_asked _ _ _ f,
      r.points-taken.long,
      marks-long g,
      r.cap-high,
      edit-fits (record_of a.kept) a.area.now a.offset a.bytes.now a.boards.now g.requires.0,
      f.area-is,
      g.requires.1,
    )

edited : tie.Need-returns
edited c =
    let w = c.before.before in
    let g = st (at-marks w.before) in
    let a = g.args in
    let s = record_of a.kept in
    edit-changes s a.area.now a.offset a.bytes.now a.boards.now _ g.requires.0
    (w.edit_shares.ensures s.length (edit-written s a.area.now a.offset a.bytes.now a.boards.now g.requires.0))

pub edit_boards_spec : {M : Type 1} → statement M
edit_boards_spec =
    tie.close
    (tie.spec
    (λ c. sym (ready_on (st c.before)).points-taken.long)
    (λ c. sym (marks-long (st (marks-at-marks2 c))))
    shares-ask
    (λ c. search rules)
    edited)
