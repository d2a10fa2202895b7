-- `edit_stripes::edit_stripes` meets its contract. The loop's invariant: the stripes that are left, of the area as it is, give what all behind the
-- first give of the area as the first left it.
-- Assumes nothing.
use Rattle.std.proofs.Common.{refl, sym, ◌∙◌, arith}
use Rattle.sizes.specs.Sizing.{α}
use Rattle.sizes.proofs.Legal.{row_fits}
use Rattle.edit_stripes.proofs.Reach.{placed-fewer, turn, end}
use Rattle.edit_stripes.proofs.edit_stripes.Goals as goal

pub edit_one-requires : goal.edit_one-requires
edit_one-requires c =
    let a = c.args in
    let p = c.requires in (
      p.0,
      p.1,
      placed-fewer a.sizes a.starts.now a.area.now a.area.now a.first a.stop p.7 refl p.2,
      omega (arith, p.7, p.3),
      p.4,
      p.5,
      p.6,
      omega (arith, row_fits a.first a.stop (α a.sizes) p.7, p.8),
      p.9,
      p.10,
      p.11,
    )

pub loop-s-init : goal.loop-s-init
loop-s-init c = (refl, refl)

pub edit_one-requires-in-loop-s : goal.edit_one-requires-in-loop-s
edit_one-requires-in-loop-s c =
    let l = c.loop-s in
    let a = c.args in
    let p = c.requires in
    let h = c.loop-s-test.true in
    let e = l.invariant.1 ∙ c.edit_one.auto.area in (
      p.0,
      p.1,
      placed-fewer a.sizes a.starts.now l.area a.area.now l.s a.stop h e p.2,
      omega (arith, h, p.3),
      p.4,
      p.5,
      p.6,
      omega (arith, row_fits l.s a.stop (α a.sizes) h, p.8),
      p.9,
      p.10,
      e ∙ p.11,
    )

pub loop-s-preserved : goal.loop-s-preserved
loop-s-preserved c =
    let l = c.loop-s in
    let a = c.args in (
      turn a.sizes a.points.now a.boards.now a.starts.now a.part a.on.now a.offset a.bytes.now l.s a.stop l.area _ c.loop-s-test.true c.edit_one-in-loop-s.ensures
          ∙ l.invariant.0,
      c.edit_one-in-loop-s.auto.area ∙ l.invariant.1,
    )

pub returns : goal.returns
returns c =
    let l = c.loop-s in
    let a = c.args in
    sym (end a.sizes a.points.now a.boards.now a.starts.now a.part a.on.now a.offset a.bytes.now l.s a.stop l.area c.loop-s-test.false)
    ∙ l.invariant.0
    ∙ turn a.sizes a.points.now a.boards.now a.starts.now a.part a.on.now a.offset a.bytes.now a.first a.stop a.area.now _ c.requires.7 c.edit_one.ensures
