-- `rekeep_stripes::patch_stripes` meets its contract. The loop's invariant: the stripes so far are done, and those left are as they were.
-- Assumes nothing.
use Rattle.std.proofs.Common.{◌<◌, ◌+◌, ◌*◌, ◌≤◌, ℕ, arith}
use Rattle.lists.proofs.Put.{part_end}
use Rattle.sizes.specs.declared.Sizes.{Sizes}
use Rattle.sizes.specs.Sizing.{α}
use Rattle.sizes.proofs.Legal.{Legal, legal-facts, α-most}
use Rattle.rekeep_stripes.specs.Steps.{patch_by}
use Rattle.rekeep_stripes.proofs.Stripes.{part-most, length-patch, stripes-turn}
use Rattle.rekeep_stripes.proofs.patch_stripes.Goals as goal

-- where the stripe of a turn ends
ends : (z : Sizes) (S s : ℕ) → Legal z → S ≤ 4096 → s < S → (s * α z + α z ≤ S * α z) × (S * α z ≤ 253952)
ends z S s ok few low = (part_end s (α z) S low, part-most (α z) S few (α-most z ok))

pub overflow_mul-a : goal.overflow_mul-a
overflow_mul-a c = omega (arith, legal-facts _ c.requires.0)

pub overflow_add-a : goal.overflow_add-a
overflow_add-a c = omega (arith, legal-facts _ c.requires.0)

pub loop-s-preserved : goal.loop-s-preserved
loop-s-preserved c =
    let a = c.args in
    let z = a.sizes in
    let l = c.loop-s in
    let p = c.requires in
    let e = ends z a.stripes l.s (legal-facts z p.0) p.5 c.loop-s-test.true in
    stripes-turn (patch_by z a.t a.ff.now a.gf.now) (α z) (λ u e. length-patch z (legal-facts z p.0) a.t a.ff.now a.gf.now u p.1 e) a.held.now l.s l.held _
    (omega arith) l.invariant c.patch.ensures
