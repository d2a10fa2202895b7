-- `repair_finish::all_g` meets its contract: the rows of the fresh boards so far, before what was there.
-- A turn's number is below the fresh boards' as some board is fresh: so a loop that ends early is refused where it ends.
-- Assumes nothing.
use Rattle.std.proofs.Common.{◌≡◌, sym, ap, ◌∙◌, ◌+◌, ◌*◌, ◌-◌, ◌<◌, length, take, drop, ℕ, arith}
use native.Mathlib.Nat.{zero-mul}
use lib.ListN.{length-take, length-drop}
use Rattle.lists.proofs.Put.{part_end}
use Rattle.sizes.specs.declared.Sizes.{Sizes}
use Rattle.sizes.proofs.Legal.{legal-facts}
use Rattle.row_dots.proofs.Rows.{join-loop, join-end}
use Rattle.repair_hear.proofs.Heard.{cut-long}
use Rattle.repair_hear.proofs.Sent.{row-part}
use Rattle.repair_sent.specs.Steps.{g_row}
use Rattle.repair_sent.proofs.Finished.{g-made, length-g}
use Rattle.repair_finish.proofs.all_g.Goals as goal

-- the bytes of the rows of one fresh board
abbrev one : Sizes → ℕ
one z = (z.d + (z.d + z.r)) * 32

pub loop-a-init : goal.loop-a-init
loop-a-init c = ap (λ (m : ℕ). drop m c.args.gs.now) (sym (zero-mul c.args.lanes))

pub row_sums-requires : goal.row_sums-requires
row_sums-requires c =
    let a = c.args in
    let p = c.requires in
    let z = a.sizes in
    let f = legal-facts _ p.0 in
    let l = c.loop-a in
    let h : l.a < a.t = omega (arith, c.loop-a-test.true, p.5.some) in
    let q = p.5.helps in
    let from : ℕ = l.a * a.c in
    let lf : length (take (from + z.d - from) (drop from a.firsts.now)) ≡ z.d = simp (length-take, length-drop) (omega (arith, part_end l.a a.c a.t h, q, p.3)) in
    let lg = cut-long a.lanes l.a a.t l.gs h (l.auto.gs ∙ p.4) in
    let at : ℕ = l.a * one z in
    let lr : length (take (at + z.d * 32 - at) (drop at a.rows.now)) ≡ z.d * 32 = simp (length-take, length-drop) (omega (arith, part_end l.a (one z) a.t h, p.2)) in
    (omega (arith, lf, lr), omega (arith, lf, f.enough, f.few), omega (arith, lg, p.1))

pub loop-a-preserved : goal.loop-a-preserved
loop-a-preserved c =
    let a = c.args in
    let p = c.requires in
    let l = c.loop-a in
    let z = a.sizes in
    let lg = cut-long a.lanes l.a a.t l.gs (omega (arith, c.loop-a-test.true, p.5.some)) (l.auto.gs ∙ p.4) in
    join-loop (g_row z.d (one z) a.c a.lanes a.rows.now a.firsts.now) a.lanes l.a a.gs.now l.gs _
    (λ i k. length-g z.d (one z) a.c a.lanes a.rows.now a.firsts.now i)
    (g-made z.d (one z) a.c a.lanes l.a _ a.rows.now a.firsts.now _ _ _ lg (row-part a.c l.a z.d a.firsts.now p.5.helps)
    (row-part (one z) l.a (z.d * 32) a.rows.now (omega arith)) c.row_sums.ensures)
    l.invariant

pub returns : goal.returns
returns c =
    let a = c.args in
    join-end _ a.lanes c.loop-a.a a.t a.gs.now c.loop-a.gs (omega arith) (omega (arith, c.requires.4)) c.loop-a.invariant
