-- `store_step::carry_on` meets its contract: the record's stripes, and so many packets.
-- Assumes nothing.
use Prim.Native.Nat.{ℕ, ◌*◌}
use mathlib.Core.Path.{◌≡◌, refl, sym, ap, ◌∙◌}
use lib.ListN.{length}
use borrow.Author.Rules.{rules}
use Rattle.sizes.specs.Sizing.{α}
use Rattle.store_spec.specs.Record.{Record}
use Rattle.record.specs.Records.{record_of}
use Rattle.store_lines.proofs.Ready.{Ready, ready}
use Rattle.store_step.proofs.carry_on.Statement.{statement}
use Rattle.store_step.proofs.carry_on.Tie as tie

abbrev R : tie.Start → Record
R g = record_of g.args.kept

asks : (g : tie.Start) → Ready (R g)
asks g = ready (R g) g.requires.0.is-sound

-- there are 32 points
points-long : (g : tie.Start) → length g.args.kept.points ≡ 32
points-long g = search rules

-- the places
abbrev st : tie.After-points-1 → tie.Start
st c = c.before.before.before.before.before.before.before

abbrev at_count : tie.After-carry_packets-arg-1 → tie.After-stripe_count-stripes
at_count c = c.before.before

abbrev at-end : tie.After-slice_known-2-1 → tie.After-carry_packets
at-end c = c.before.before

carry-packets-requires : tie.Need-carry_packets-requires
carry-packets-requires c κs =
    let n = at_count c in
    let g = st n.before in
    let r = asks g in
    let p = g.requires in
    let t : ℕ = length g.args.fresh.now in
    let e = n.stripe_count-stripes.ensures.0 in (
      r.stated.is-legal,
      points-long g,
      r.points-taken.differ,
      p.0.listed,
      r.cap-high,
      rw e r.few-stripes,
      p.0.area-is,
      p.1,
      p.0.packets-are ∙ ap (λ (k : ℕ). k * t * α (R g).sizes) (sym e),
    )

returns : tie.Need-returns
returns c =
    let w = at-end c in
    let n = at_count w.before in
    w.carry_packets.ensures (R (st n.before)) refl refl refl (sym n.stripe_count-stripes.ensures.0)

pub carry_on_spec : {M : Type 1} → statement M
carry_on_spec =
    tie.close
    (tie.spec
    (λ c κs. (asks (st c)).stated)
    (λ c. sym (points-long (st c.before.before)))
    carry-packets-requires
    (λ c. search rules)
    returns)
