-- `repair_put::put_stripes` meets its contract. The loop's invariant: the stripes of the fresh boards so far are put.
-- A turn's number is below the fresh boards' as some board is fresh: so a loop that ends early is refused where it ends.
-- Assumes nothing.
use Rattle.std.proofs.Common.{◌≡◌, refl, ap, true, ◌∙◌, ◌+◌, ◌*◌, ◌<◌, ◌≤◌, length, get_or, ℕ, List, arith}
use native.Mathlib.Nat.{mul-le-mul_right}
use Rattle.lists.specs.Tests.{below}
use Rattle.lists.proofs.Put.{part_end}
use Rattle.lists.proofs.Pieces.{length-piece}
use Rattle.sizes.specs.declared.Sizes.{Sizes}
use Rattle.sizes.specs.Sizing.{α}
use Rattle.sizes.proofs.Legal.{Legal, legal-facts}
use Rattle.lagrange_factors.proofs.Values.{board-below}
use Rattle.area_puts.specs.Steps.{puts}
use Rattle.area_puts.proofs.Puts.{part-long, puts-turn}
use Rattle.repair_sent.specs.Steps.{stripe_by}
use Rattle.repair_sent.proofs.Finished.{length-stripe}
use Rattle.repair_put.proofs.put_stripes.Goals as goal

-- where a fresh board's part ends, and that all parts together are few bytes
ends : (z : Sizes) → Legal z → (part : ℕ) → part ≤ 253952 → (fresh : List ℕ) → below z.n fresh ≡ true → (a : ℕ) → a < length fresh
    → (get_or fresh a 0 * part + part ≤ z.n * part) × (z.n * part ≤ 8126464)
ends z f part h fresh b a l =
    let m : z.n * part ≤ 32 * part = mul-le-mul_right part f.few in
    (part_end (get_or fresh a 0) part z.n (board-below z.n fresh a b l), omega arith)

pub loop-a-init : goal.loop-a-init
loop-a-init c = refl

pub overflow_mul-from : goal.overflow_mul-from
overflow_mul-from c =
    let a = c.args in
    omega (arith, ends a.sizes (legal-facts _ c.requires.0) a.part c.requires.4 a.fresh.now c.requires.7 c.loop-a.a (omega (arith, c.loop-a-test.true, c.requires.6.some)))

pub overflow_add-from : goal.overflow_add-from
overflow_add-from c =
    let a = c.args in
    omega (arith, c.requires.5, ends a.sizes (legal-facts _ c.requires.0) a.part c.requires.4 a.fresh.now c.requires.7 c.loop-a.a (omega (arith, c.loop-a-test.true, c.requires.6.some)))

pub overflow_add-to : goal.overflow_add-to
overflow_add-to c =
    let a = c.args in
    omega (arith, c.requires.5, ends a.sizes (legal-facts _ c.requires.0) a.part c.requires.4 a.fresh.now c.requires.7 c.loop-a.a (omega (arith, c.loop-a-test.true, c.requires.6.some)))

pub slice_bounds-finish-end : goal.slice_bounds-finish-end
slice_bounds-finish-end c =
    let a = c.args in
    omega (arith, c.requires.5, c.requires.12, ends a.sizes (legal-facts _ c.requires.0) a.part c.requires.4 a.fresh.now c.requires.7 c.loop-a.a (omega (arith, c.loop-a-test.true, c.requires.6.some)))

pub finish-requires : goal.finish-requires
finish-requires c =
    let a = c.args in
    let p = c.requires in
    let l = c.loop-a in
    let h : l.a < length a.fresh.now = omega (arith, c.loop-a-test.true, p.6.some) in
    let e = ends a.sizes (legal-facts _ p.0) a.part p.4 a.fresh.now p.7 l.a h in (
      p.0,
      p.1,
      p.2,
      p.3,
      p.6,
      p.7,
      p.8,
      p.9,
      h,
      l.auto.got ∙ p.10,
      l.auto.f ∙ p.11,
      part-long (get_or a.fresh.now l.a 0 * a.part + a.s * α a.sizes) (α a.sizes) l.area (omega (arith, e, p.5, p.12)),
    )

pub loop-a-preserved : goal.loop-a-preserved
loop-a-preserved c =
    let a = c.args in
    let p = c.requires in
    let l = c.loop-a in
    let z = a.sizes in
    let k = c.finish.ensures in
    let run = length-piece a.c l.a a.seconds.now (omega (arith, part_end l.a a.c (length a.fresh.now) (omega (arith, c.loop-a-test.true, p.6.some)), p.8)) in
    puts-turn (λ b. get_or a.fresh.now b 0 * a.part + a.s * α z) (stripe_by z a.c a.lanes a.rows.now a.fresh.now a.seconds.now a.gs.now)
    (α z) l.a (get_or a.fresh.now l.a 0 * a.part + a.s * α z) a.area.now l.area _ refl
    (ap length k ∙ length-stripe z (legal-facts _ p.0) a.c a.lanes a.rows.now a.fresh.now a.seconds.now a.gs.now l.a p.6 run) k l.invariant

pub returns : goal.returns
returns c =
    let a = c.args in
    let e : c.loop-a.a ≡ length a.fresh.now = omega arith in
    c.loop-a.invariant
    ∙ ap (λ (m : ℕ). puts (λ b. get_or a.fresh.now b 0 * a.part + a.s * α a.sizes)
    (stripe_by a.sizes a.c a.lanes a.rows.now a.fresh.now a.seconds.now a.gs.now) m a.area.now) e
