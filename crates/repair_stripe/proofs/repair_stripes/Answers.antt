-- `repair_stripe::repair_stripes` meets its contract. The loop's invariant: the stripes so far of each fresh board are in its part.
-- Assumes nothing.
use Rattle.std.proofs.Common.{◌≡◌, ap, ◌∙◌, ◌*◌, length, get_or, drop, ℕ, List, arith}
use Rattle.lists.specs.Lists.{join, piece}
use Rattle.lists.proofs.Put.{part_end}
use Rattle.sizes.specs.Sizing.{α}
use Rattle.sizes.proofs.Legal.{legal-facts}
use Rattle.area_puts.specs.Steps.{puts}
use Rattle.area_puts.proofs.Puts.{puts_none}
use Rattle.repair_stripe.specs.Steps.{rebuilt_by}
use Rattle.repair_stripe.proofs.ByRows.{length-by, by-same}
use Rattle.repair_stripe.proofs.Turn.{turn}
use Rattle.repair_stripe.proofs.repair_stripes.Goals as goal

pub loop-s-init : goal.loop-s-init
loop-s-init c = let a = c.args in puts_none (λ b. get_or a.fresh.now b 0 * a.part) (length a.fresh.now) a.area.now

pub repair_stripe-requires : goal.repair_stripe-requires
repair_stripe-requires c =
    let a = c.args in
    let p = c.requires in
    let i = c.loop-s.auto in (
      p.0,
      p.1,
      p.2,
      p.3,
      p.4,
      p.5,
      p.6,
      p.7,
      p.8,
      omega (arith, part_end c.loop-s.s (α a.sizes) a.stripes c.loop-s-test.true, p.9),
      p.11,
      p.12,
      p.13,
      p.14,
      i.firsts ∙ p.17,
      i.seconds ∙ p.18,
      i.gs ∙ p.19,
      i.got ∙ p.20,
      i.f ∙ p.21,
      i.area ∙ p.22,
    )

pub loop-s-preserved : goal.loop-s-preserved
loop-s-preserved c =
    let a = c.args in
    let p = c.requires in
    let l = c.loop-s in
    let z = a.sizes in
    let f = legal-facts _ p.0 in
    let by : (ℕ → List ℕ) → ℕ → List ℕ = λ own b. rebuilt_by z a.fl a.gl a.lanes a.ff.now a.gf.now a.rows.now own a.fresh.now a.c a.named.now b in
    turn z a.fresh.now a.named.now a.area.now a.part p.12 p.15 p.16 p.22 by
    (length-by z f a.fl a.gl a.lanes a.ff.now a.gf.now a.rows.now a.fresh.now a.c a.named.now p.11 p.13)
    (by-same z f a.fl a.gl a.lanes a.ff.now a.gf.now a.rows.now a.fresh.now a.c a.named.now p.11 p.13)
    l.s l.area _ (omega (arith, part_end l.s (α z) a.stripes c.loop-s-test.true, p.9)) l.invariant c.repair_stripe.ensures

pub returns : goal.returns
returns c =
    let a = c.args in
    let z = a.sizes in
    let e : c.loop-s.s ≡ a.stripes = omega arith in
    c.loop-s.invariant
    ∙ ap (λ (s : ℕ). puts (λ b. get_or a.fresh.now b 0 * a.part)
    (λ b. join s (λ t. rebuilt_by z a.fl a.gl a.lanes a.ff.now a.gf.now a.rows.now
    (λ j. piece (α z) t (drop (j * a.part) a.area.now)) a.fresh.now a.c a.named.now b)) (length a.fresh.now) a.area.now) e
