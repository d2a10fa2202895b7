-- `repair_rows::rows_in` meets its contract: the rows of the boards so far, before what was there.
-- Assumes nothing.
use Rattle.std.proofs.Common.{sym, ap, ◌∙◌, ◌+◌, ◌*◌, length, drop, ℕ, arith}
use native.Mathlib.Nat.{zero-mul}
use Rattle.sizes.specs.declared.Sizes.{Sizes}
use Rattle.sizes.proofs.Legal.{legal-facts}
use Rattle.row_dots.proofs.Rows.{join-loop, join-end}
use Rattle.repair_hear.proofs.Heard.{cut-long}
use Rattle.repair_rows.specs.Steps.{fresh_rows}
use Rattle.repair_rows.proofs.Others.{length-fresh-rows}
use Rattle.repair_rows.proofs.rows_in.Goals as goal

-- the bytes of one board
abbrev one : Sizes → ℕ
one z = (z.d + (z.d + z.r)) * 32

pub loop-a-init : goal.loop-a-init
loop-a-init c = ap (λ (m : ℕ). drop m c.args.rows.now) (sym (zero-mul (one c.args.sizes)))

pub fresh_rows-requires : goal.fresh_rows-requires
fresh_rows-requires c =
    let p = c.requires in
    let l = c.loop-a in
    let h = c.loop-a-test.true in
    (p.0, p.1, p.2, p.3, p.4, p.5, p.6, h, l.auto.boards ∙ p.7, l.auto.all ∙ p.8, cut-long (one c.args.sizes) l.a (length c.args.fresh.now) l.rows h (l.auto.rows ∙ p.9))

pub loop-a-preserved : goal.loop-a-preserved
loop-a-preserved c =
    let a = c.args in
    let p = c.requires in
    let l = c.loop-a in
    let h = c.loop-a-test.true in
    join-loop (fresh_rows a.sizes a.c a.points.now a.fresh.now a.named.now) (one a.sizes) l.a a.rows.now l.rows _
    (λ i k. length-fresh-rows a.sizes (legal-facts _ p.0) a.c a.points.now a.fresh.now a.named.now i p.3 p.5 (omega (arith, k, h)))
    c.fresh_rows.ensures l.invariant

pub returns : goal.returns
returns c =
    let a = c.args in
    join-end _ (one a.sizes) c.loop-a.a (length a.fresh.now) a.rows.now c.loop-a.rows (omega arith) (omega (arith, c.requires.9)) c.loop-a.invariant
