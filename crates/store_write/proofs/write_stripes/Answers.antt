-- `store_write::write_stripes` meets its contract. The loop's invariant: the stripes so far of all boards are in their places.
-- Assumes nothing.
use Rattle.std.proofs.Common.{rules, ◌≡◌, refl, ap, ◌∙◌, arith, ℕ, ◌*◌}
use Rattle.lists.specs.Lists.{join}
use Rattle.sizes.proofs.Legal.{legal-facts, row_fits}
use Rattle.sizes.specs.Sizing.{α}
use Rattle.mbcr.specs.Share.{stripe, kept}
use Rattle.area_puts.specs.Steps.{puts}
use Rattle.store_write.proofs.Places.{first, turn}
use Rattle.store_write.proofs.write_stripes.Goals as goal

pub loop-s-init : goal.loop-s-init
loop-s-init c =
    let a = c.args in
    ((λ xs lx t. first a.sizes (legal-facts _ c.requires.0) xs a.file.now a.area.now a.part c.requires.7), c.requires.5, c.requires.6, refl)

pub write_stripe-requires : goal.write_stripe-requires
write_stripe-requires c =
    let a = c.args in
    let l = c.loop-s in
    let e = row_fits l.s a.count (α a.sizes) c.loop-s-test.true in
    (c.requires.0, c.requires.1, c.requires.2, omega arith, omega (arith, e, c.requires.4), l.invariant.1, l.invariant.2, l.invariant.3 ∙ c.requires.7)

pub loop-s-preserved : goal.loop-s-preserved
loop-s-preserved c =
    let l = c.loop-s in
    let a = c.args in (
      (λ xs lx t.
          turn a.sizes (legal-facts _ c.requires.0) xs a.file.now a.area.now a.part c.requires.7 l.s l.area _
          (omega (arith, row_fits l.s a.count (α a.sizes) c.loop-s-test.true, c.requires.4)) (l.invariant.0 xs lx t) (c.write_stripe.ensures xs lx t)),
      search rules,
      search rules,
      search rules,
    )

pub returns : goal.returns
returns c =
    λ xs lx t.
    let l = c.loop-s in
    let a = c.args in
    let e : l.s ≡ a.count = omega (arith, l.auto.s-end, c.loop-s-test.false) in
    l.invariant.0 xs lx t ∙ ap (λ (m : ℕ). puts (λ i. i * a.part) (λ i. join m (λ t. kept a.sizes xs (stripe a.sizes a.file.now t) i)) a.sizes.n a.area.now) e
