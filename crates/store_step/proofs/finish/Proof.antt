-- `store_step::finish` meets its contract: the shares of the fresh boards, and their marks.
-- Assumes nothing.
use Prim.Native.Nat.{ℕ, ◌*◌}
use mathlib.Core.Path.{◌≡◌, refl, sym, ap, ◌∙◌}
use native.Mathlib.Omega.{arith}
use lib.ListN.{length}
use borrow.Author.Rules.{rules}
use Rattle.sizes.specs.Sizing.{α}
use Rattle.sizes.proofs.Legal.{legal-facts}
use Rattle.lagrange_factors.proofs.Values.{below_more}
use Rattle.store_spec.specs.Record.{Record, with_marks}
use Rattle.step_laws.proofs.Facts.{fresh-below}
use Rattle.record.specs.Records.{record_of}
use Rattle.store_lines.proofs.Ready.{Ready, ready}
use Rattle.store_step.proofs.finish.Statement.{statement}
use Rattle.store_step.proofs.finish.Tie as tie

abbrev R : tie.Start → Record
R g = record_of g.args.kept

asks : (g : tie.Start) → Ready (R g)
asks g = ready (R g) g.requires.is-sound

-- there are 32 points, and 32 marks
points-long : (g : tie.Start) → length g.args.kept.points ≡ 32
points-long g = search rules

marks-long : (g : tie.Start) → length g.args.kept.marks ≡ 32
marks-long g = search rules

-- the places
abbrev st : tie.After-marks-1 → tie.Start
st c = c.before.before.before.before.before.before.before.before

abbrev at_count : tie.After-finish_shares-arg-1 → tie.After-stripe_count-stripes
at_count c = c.before.before

abbrev at-shares : tie.After-marks-2-1 → tie.After-finish_shares
at-shares c = c.before.before.before

abbrev st-marks : tie.After-marks-2-1 → tie.Start
st-marks c = st (at_count (at-shares c).before).before

finish-shares-requires : tie.Need-finish_shares-requires
finish-shares-requires c κs =
    let n = at_count c in
    let g = st n.before in
    let r = asks g in
    let p = g.requires in
    let t : ℕ = length g.args.fresh.now in
    let e = n.stripe_count-stripes.ensures.0 in (
      r.stated.is-legal,
      points-long g,
      r.points-taken.differ,
      p.listed,
      r.cap-high,
      rw e r.few-stripes,
      p.packets-are ∙ ap (λ (k : ℕ). k * t * α (R g).sizes) (sym e),
      p.area-is,
    )

marks-on-requires : tie.Need-marks_on-requires
marks-on-requires c κs =
    let g = st-marks c in
    let a = g.args in
    below_more (R g).sizes.n (length (R g).marks) a.fresh.now (omega (arith, marks-long g, (legal-facts _ (asks g).stated.is-legal).few))
    (fresh-below (R g).sizes a.fresh.now a.helpers.now a.standins.now g.requires.listed)

returns : tie.Need-returns
returns c =
    let m = c.before in
    let w = at-shares m.before in
    let n = at_count w.before in
    let g = st n.before in
    (ap (with_marks (R g)) m.marks_on.ensures, w.finish_shares.ensures (R g) refl refl refl (sym n.stripe_count-stripes.ensures.0))

pub finish_spec : {M : Type 1} → statement M
finish_spec =
    tie.close
    (tie.spec
    (λ c κs. (asks (st c)).stated)
    (λ c. sym (points-long (st c.before.before)))
    finish-shares-requires
    (λ c. sym (marks-long (st-marks c)))
    marks-on-requires
    (λ c. search rules)
    returns)
