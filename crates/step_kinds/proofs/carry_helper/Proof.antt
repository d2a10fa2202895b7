-- `step_kinds::carry_helper` meets its contract: the helper and the fresh board that it serves.
-- Assumes nothing.
use Prim.Native.Nat.{◌/◌, ◌<◌}
use lib.ListN.{length}
use Rattle.step_laws.specs.Steps.{helper_at}
use Rattle.step_laws.proofs.Facts.{serves, some-each, board-low, served-low}
use borrow.Author.Rules.{rules}
use native.Mathlib.Omega.{arith}
use Rattle.step_kinds.proofs.carry_helper.Statement.{statement}
use Rattle.step_kinds.proofs.carry_helper.Tie as tie

-- the places
abbrev st-struct-known : tie.After-struct_known-1 → tie.Start
st-struct-known c = c.before.before.before.before.before.before.before

abbrev st-known6 : tie.After-shared_slice_known-6-1 → tie.Start
st-known6 c = st-struct-known c.before

abbrev st-known7 : tie.After-shared_slice_known-7-1 → tie.Start
st-known7 c = st-known6 c.before

abbrev st-arg : tie.After-helper_at-arg-1 → tie.Start
st-arg c = st-known7 c.before

abbrev helper-at-at-slice-known2 : tie.After-slice_known-2-1 → tie.After-helper_at
helper-at-at-slice-known2 c = c.before.before

abbrev st-end : tie.After-slice_known-2-1 → tie.Start
st-end c = st-arg (helper-at-at-slice-known2 c).before

-- the fresh board that is served
served : (c : tie.Start) → let a = c.args in a.p / a.sizes.d < length a.fresh.now
served c = let a = c.args in serves a.sizes.n a.sizes.d a.fresh.now a.helpers.now c.requires.6 a.p c.requires.8

some : (c : tie.Start) → let a = c.args in 0 < a.sizes.d
some c = let a = c.args in some-each a.sizes.n a.sizes.d a.fresh.now a.helpers.now c.requires.6 a.p c.requires.8

helper-at-requires : tie.Need-helper_at-requires
helper-at-requires c κs =
    let a = (st-arg c).args in
    let p = (st-arg c).requires in (
      p.0,
      p.1,
      p.2,
      p.3,
      p.4,
      p.5,
      board-low a.sizes.n a.sizes.d a.fresh.now a.helpers.now p.6 a.p p.8,
      served-low a.sizes.n a.sizes.d a.fresh.now a.helpers.now p.6 _ (served (st-arg c)),
      p.7,
      p.9,
    )

returns : tie.Need-returns
unfolding helper_at
returns c = (helper-at-at-slice-known2 c).helper_at.ensures

abbrev st-known7-unread : tie.After-shared_slice_known-7-1-unread → tie.Start
st-known7-unread c = st-known6 c.before

pub carry_helper_spec : {M : Type 1} → statement M
carry_helper_spec =
    tie.close
    (tie.spec
    (λ c. omega (arith, some (st-struct-known c)))
    (λ c. search rules)
    (λ c. search rules)
    (λ c. omega (arith, served (st-known6 c)))
    (λ c. omega (arith, served (st-known7-unread c)))
    helper-at-requires
    (λ c. search rules)
    returns)
