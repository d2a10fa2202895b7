-- `step_kinds::carry_stand_in` meets its contract: the stand-in and the fresh board that it serves.
-- Assumes nothing.
use Prim.Native.Nat.{◌/◌, ◌<◌, ◌-◌}
use lib.ListN.{length}
use Rattle.step_laws.specs.Steps.{stand_in_at}
use Rattle.step_laws.proofs.Facts.{serves, some-each, board-low, served-low}
use borrow.Author.Rules.{rules}
use native.Mathlib.Omega.{arith}
use Rattle.step_kinds.proofs.carry_stand_in.Statement.{statement}
use Rattle.step_kinds.proofs.carry_stand_in.Tie as tie

-- the places
abbrev st-struct-known : tie.After-struct_known-1 → tie.Start
st-struct-known c = c.before.before.before.before.before.before.before

abbrev st-known6 : tie.After-shared_slice_known-6-1 → tie.Start
st-known6 c = st-struct-known c.before

abbrev st-known7 : tie.After-shared_slice_known-7-1 → tie.Start
st-known7 c = st-known6 c.before

abbrev st-arg : tie.After-stand_in_at-arg-1 → tie.Start
st-arg c = st-known7 c.before

abbrev stand-in-at-at-slice-known2 : tie.After-slice_known-2-1 → tie.After-stand_in_at
stand-in-at-at-slice-known2 c = c.before.before

abbrev st-end : tie.After-slice_known-2-1 → tie.Start
st-end c = st-arg (stand-in-at-at-slice-known2 c).before

-- the fresh board that is served
served : (c : tie.Start) → let a = c.args in a.p / (a.sizes.r - length a.fresh.now) < length a.fresh.now
served c = let a = c.args in serves a.sizes.n (a.sizes.r - length a.fresh.now) a.fresh.now a.standins.now c.requires.7 a.p c.requires.9

some : (c : tie.Start) → let a = c.args in 0 < (a.sizes.r - length a.fresh.now)
some c = let a = c.args in some-each a.sizes.n (a.sizes.r - length a.fresh.now) a.fresh.now a.standins.now c.requires.7 a.p c.requires.9

stand-in-at-requires : tie.Need-stand_in_at-requires
stand-in-at-requires c κs =
    let a = (st-arg c).args in
    let p = (st-arg c).requires in (
      p.0,
      p.1,
      p.2,
      p.3,
      p.4,
      p.5,
      board-low a.sizes.n (a.sizes.r - length a.fresh.now) a.fresh.now a.standins.now p.7 a.p p.9,
      served-low a.sizes.n (a.sizes.r - length a.fresh.now) a.fresh.now a.standins.now p.7 _ (served (st-arg c)),
      p.8,
      p.10,
    )

returns : tie.Need-returns
unfolding stand_in_at
returns c = (stand-in-at-at-slice-known2 c).stand_in_at.ensures

abbrev st-known7-unread : tie.After-shared_slice_known-7-1-unread → tie.Start
st-known7-unread c = st-known6 c.before

pub carry_stand_in_spec : {M : Type 1} → statement M
carry_stand_in_spec =
    tie.close
    (tie.spec
    (λ c. search rules)
    (λ c. omega (arith, some (st-struct-known c)))
    (λ c. search rules)
    (λ c. search rules)
    (λ c. omega (arith, served (st-known6 c)))
    (λ c. omega (arith, served (st-known7-unread c)))
    stand-in-at-requires
    (λ c. search rules)
    returns)
