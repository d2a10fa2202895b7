-- `archive_texts::read_text` meets its contract: head and points have their lengths, and then what the reader gives is told in words.
-- Assumes nothing.
use borrow.Author.Rules.{rules}
use Rattle.archive_spec.proofs.Told.{no-head, no-points, read_fits, told}
use Rattle.archive_texts.proofs.read_text.Statement.{statement}
use Rattle.archive_texts.proofs.read_text.Tie as tie

-- the places
abbrev st : tie.After-slice_known-3-1 → tie.Start
st c = c.before.before.before.before

abbrev at-lengths : tie.After-read_text-read → tie.Else-points-ne32
at-lengths c = c.before.before

abbrev at_told : tie.After-slice_known-6-1 → tie.After-tell
at_told c = c.before.before.before.before

abbrev at_read : tie.After-tell-arg-2-1 → tie.After-read_text-read
at_read c = c.before.before.before.before

abbrev st-read : tie.After-read_text-read → tie.Start
st-read c = st (at-lengths c).before.before

short-head : tie.Need-returns-then-head-ne6
short-head c = let a = (st c.before).args in no-head a.text.now a.head.now a.points.now a.out.now c.if-head-ne6.true

short-points : tie.Need-returns-then-points-ne32
short-points c =
    let e = c.before in
    let a = (st e.before).args in
    no-points a.text.now a.head.now a.points.now a.out.now e.if-head-ne6.false c.if-points-ne32.true

asks : tie.Need-tell-requires
asks c κs =
    let k = at_read c in
    let l = at-lengths k in
    let a = (st-read k).args in
    (l.before.if-head-ne6.false, l.if-points-ne32.false, read_fits a.text.now a.head.now a.points.now a.out.now k.read_text-read.result _ k.read_text-read.ensures)

tells : tie.Need-returns
tells c =
    let t = at_told c in
    let k = at_read t.before in
    let l = at-lengths k in
    let a = (st-read k).args in
    told a.text.now a.head.now a.points.now a.out.now k.read_text-read.result _ k.read_text-read.ensures
    l.before.if-head-ne6.false l.if-points-ne32.false _ _ _ t.tell.ensures

pub read_text_spec : {M : Type 1} → statement M
read_text_spec =
    tie.close
    (tie.spec
    short-head
    short-points
    (λ c κs. search rules)
    asks
    (λ c. search rules)
    (λ c. search rules)
    (λ c. search rules)
    tells)
