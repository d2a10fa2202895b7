-- `rekeep::rekeep` meets its contract: board after board is the list of the other boards.
-- Assumes nothing.
use mathlib.Core.Path.{◌≡◌, ap, ◌∙◌}
use Prim.Native.Nat.{ℕ, ◌<◌, ◌≤◌}
use native.Mathlib.Omega.{arith}
use lib.ListN.{length}
use borrow.Author.Rules.{rules}
use Rattle.lists.specs.Lists.{Bytes}
use Rattle.lists.proofs.Alls.{all_of}
use Rattle.sizes.specs.Sizing.{α}
use Rattle.sizes.proofs.Legal.{Legal, legal-facts, α-most}
use Rattle.store_spec.specs.Record.{Record, part_len}
use Rattle.store_spec.proofs.Records.{Sound, sound-facts, sound-points, used-fits}
use Rattle.record.specs.Records.{record_of}
use Rattle.rekeep.specs.Steps.{rekept}
use Rattle.rekeep_stripes.proofs.Stripes.{part-most}
use Rattle.rekeep.proofs.Boards.{stripes-most, rekept-all}
use Rattle.rekeep.proofs.rekeep.Statement.{statement}
use Rattle.rekeep.proofs.rekeep.Tie as tie

-- places in the code
abbrev lent : tie.After-struct_known-1 → tie.After-slice_known-1
lent c = c.before.before.before

abbrev st : tie.After-struct_known-1 → tie.Start
st c = (lent c).before.before

abbrev sizes-at-call : tie.After-rekeep_boards-arg-1 → tie.After-struct_known-1
sizes-at-call c = c.before.before.before.before

abbrev R : tie.Start → Record
R g = record_of g.args.kept

good : (g : tie.Start) → Sound (R g)
good g = sound-facts _ g.requires.0

facts : (g : tie.Start) → Legal g.args.kept.sizes
facts g = legal-facts _ (good g).is-legal

short : (g : tie.Start) → part_len (R g) ≤ 253952
short g = part-most (α g.args.kept.sizes) g.args.kept.capacity (good g).cap-high (α-most _ (facts g))

-- there are 32 points
points-long : (g : tie.Start) → length g.args.kept.points ≡ 32
points-long g = search rules

rekeep-boards-requires : tie.Need-rekeep_boards-requires
rekeep-boards-requires c κs =
    let g = st (sizes-at-call c) in
    let p = g.requires in (
      (good g).is-legal,
      points-long g,
      sound-points _ (good g),
      p.2,
      short g,
      omega (arith, p.1, stripes-most _ (good g)),
      rw p.1 (used-fits _ (good g)),
      p.3,
      p.4,
    )

returns : tie.Need-returns
returns c =
    let m = c.before.before in
    let k = sizes-at-call m.before in
    let g = st k in
    let a = g.args in
    let r = a.kept in
    let p = g.requires in
    let bytes : Bytes a.area.now = all_of (λ b. b < 256) 0 a.area.now (λ i h. omega (arith, (lent k).slice_known-1.given i)) in
    m.rekeep_boards.ensures
    ∙ ap (λ (S : ℕ). rekept r.sizes r.points (part_len (R g)) S a.board a.point r.sizes.n a.area.now) p.1
    ∙ rekept-all (R g) (good g) a.area.now bytes p.4 a.board a.point p.3

pub rekeep_spec : {M : Type 1} → statement M
rekeep_spec =
    tie.close
    (tie.spec
    (λ c. omega (arith, facts (st c)))
    (λ c. omega (arith, facts (st c.before)))
    (λ c. omega (arith, facts (st c.before)))
    (λ c. omega (arith, short (st c.before.before)))
    (λ c. search rules)
    rekeep-boards-requires
    (λ c. search rules)
    returns)
