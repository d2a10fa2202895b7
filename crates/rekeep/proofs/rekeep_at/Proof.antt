-- `rekeep::rekeep_at` meets its contract: the board that moves keeps its bytes, another has its stripes in its place.
-- Assumes nothing.
use mathlib.Core.Path.{ap, ◌∙◌}
use Prim.Native.Nat.{◌+◌, ◌*◌, ◌≤◌}
use native.Mathlib.Omega.{arith}
use lib.ListN.{length}
use borrow.Author.Rules.{rules}
use borrow.Author.Tests.{eq-eqb, ne_eqb}
use Rattle.sizes.specs.Sizing.{α}
use Rattle.sizes.proofs.Legal.{Legal, legal-facts, α-most}
use Rattle.area_puts.proofs.Puts.{part-long}
use Rattle.rekeep_stripes.proofs.Stripes.{part-most}
use Rattle.rekeep_stripes.proofs.Shares.{length-share}
use Rattle.rekeep.proofs.Boards.{area-few, board-stays, board-put, offset-some}
use Rattle.rekeep.proofs.rekeep_at.Statement.{statement}
use Rattle.rekeep.proofs.rekeep_at.Tie as tie

-- places in the code
abbrev st-lent : tie.After-slice_known-1 → tie.Start
st-lent c = c.before.before.before

abbrev st : tie.After-offset-t → tie.Start
st c = st-lent c.before.before

abbrev offset-at-sizes : tie.After-struct_known-2-1 → tie.After-offset-t
offset-at-sizes c = c.before.before

facts : (c : tie.Start) → Legal c.args.sizes
facts c = legal-facts _ c.requires.0

-- where the part of the board ends
ends : (g : tie.Start) → let a = g.args in (a.i * a.part + a.part ≤ a.sizes.n * a.part) × (a.sizes.n * a.part ≤ 8126464)
ends g = let a = g.args in area-few a.sizes.n a.part a.i (facts g).few g.requires.4 g.requires.8

some : (c : tie.After-offset-t) → 1 ≤ c.offset-t.result
some c =
    let g = st c in
    let a = g.args in
    rw c.offset-t.ensures (offset-some a.sizes.n a.i a.board g.requires.8 g.requires.7 c.before.if-i-board.false)

returns : tie.Need-returns-then-i-board
returns c =
    let a = (st-lent c.before).args in
    board-stays a.sizes a.points.now a.part a.stripes a.board a.y a.i a.area.now (eq-eqb _ _ c.if-i-board.true)

-- the part that is lent
lent-long : (g : tie.Start) → let a = g.args in a.i * a.part + a.stripes * α a.sizes ≤ length a.area.now
lent-long g = omega (arith, ends g, g.requires.6, g.requires.9)

rekeep-stripes-requires : tie.Need-rekeep_stripes-requires
rekeep-stripes-requires c κs =
    let o = offset-at-sizes c.before in
    let g = st o in
    let a = g.args in
    let p = g.requires in
    (p.0, p.1, p.2, p.3, p.5, p.8, some o, part-long (a.i * a.part) (a.stripes * α a.sizes) a.area.now (lent-long g))

returns-2 : tie.Need-returns
returns-2 c =
    let m = c.before.before in
    let o = offset-at-sizes m.before.before in
    let g = st o in
    let a = g.args in
    let z = a.sizes in
    let e = m.rekeep_stripes.ensures in
    let long = part-long (a.i * a.part) (a.stripes * α z) a.area.now (lent-long g) in
    board-put z a.points.now a.part a.stripes a.board a.y a.i o.offset-t.result a.area.now _ (ne_eqb _ _ o.before.if-i-board.false) o.offset-t.ensures
    (ap length e ∙ length-share z (facts g) a.points.now o.offset-t.result a.y a.stripes a.i _ (some o) long) e

pub rekeep_at_spec : {M : Type 1} → statement M
rekeep_at_spec =
    tie.close
    (tie.spec
    returns
    (λ c κs. let f = facts (st-lent c.before) in search rules)
    (λ c. omega (arith, ends (st c)))
    (λ c. omega (arith, facts (st c.before)))
    (λ c. omega (arith, facts (st (offset-at-sizes c))))
    (λ c. omega (arith, facts (st (offset-at-sizes c))))
    (λ c. let g = st (offset-at-sizes c) in omega (arith, part-most (α g.args.sizes) g.args.stripes g.requires.5 (α-most _ (facts g))))
    (λ c. let g = st (offset-at-sizes c) in omega (arith, ends g, g.requires.6))
    (λ c. search rules)
    (λ c. search rules)
    (λ c. let g = st (offset-at-sizes c) in omega (arith, lent-long g))
    rekeep-stripes-requires
    (λ c. search rules)
    returns-2)
