-- `encode_share::share_stripes` meets its contract. The loop's invariant: the stripes so far, before what was there.
-- Assumes nothing.
use Rattle.std.proofs.Common.{rules, ◌≡◌, ap, ◌∙◌, arith, ◌++◌, ℕ, ◌+◌, ◌*◌, drop, ◌-◌}
use Rattle.lists.specs.Lists.{join}
use Rattle.sizes.proofs.Legal.{legal-facts, row_fits}
use Rattle.mbcr.specs.Share.{stripe, kept}
use Rattle.mbcr.proofs.Shape.{length-stripe}
use Rattle.grid.proofs.Kept.{join-loop}
use Rattle.mbcr.proofs.Repair.{length-kept}
use Rattle.encode_share.proofs.Shares.{part-long}
use Rattle.encode_share.proofs.share_stripes.Goals as goal

pub overflow_mul-w : goal.overflow_mul-w
overflow_mul-w c = omega (arith, legal-facts _ c.requires.0)

pub overflow_add-w : goal.overflow_add-w
overflow_add-w c = omega (arith, legal-facts _ c.requires.0)

pub overflow_sub-w : goal.overflow_sub-w
overflow_sub-w c = omega (arith, legal-facts _ c.requires.0)

pub share_rows-requires : goal.share_rows-requires
share_rows-requires c =
    let l = c.loop-s in
    let w = 2 * c.args.sizes.d + c.args.sizes.r - 1 in (
      c.requires.0,
      c.requires.1,
      c.requires.2,
      omega arith,
      part-long (l.s * w) w l.out (omega (arith, row_fits l.s c.args.count w c.loop-s-test.true, l.invariant.1, c.requires.5)),
    )

pub loop-s-preserved : goal.loop-s-preserved
loop-s-preserved c =
    let l = c.loop-s in
    let a = c.args in
    let z = a.sizes in
    let w : ℕ = 2 * z.d + z.r - 1 in (
      (λ xs lx t ex.
          join-loop (λ c. kept z xs (stripe z a.file.now c) a.i) w l.s a.out.now l.out _ (λ j h. length-kept z xs (legal-facts _ c.requires.0) (stripe z a.file.now j) a.i)
          (c.share_rows.ensures xs (stripe z a.file.now l.s) _ lx (length-stripe z a.file.now l.s)
          t ex (c.stripe_rows.ensures xs lx t)) (l.invariant.0 xs lx t ex)),
      search rules,
      search rules,
    )

pub returns : goal.returns
returns c =
    λ xs lx t ex.
    let l = c.loop-s in
    let a = c.args in
    let z = a.sizes in
    let e : l.s ≡ a.count = omega (arith, l.auto.s-end, c.loop-s-test.false) in
    l.invariant.0 xs lx t ex ∙ ap (λ (m : ℕ). join m (λ s. kept z xs (stripe z a.file.now s) a.i) ++ drop (m * (2 * z.d + z.r - 1)) a.out.now) e
