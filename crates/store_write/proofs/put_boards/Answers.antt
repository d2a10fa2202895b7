-- `store_write::put_boards` meets its contract. The loop's invariant: what the boards so far keep is in its place.
-- Assumes nothing.
use Rattle.std.proofs.Common.{rules, ◌≡◌, refl, ap, ◌∙◌, arith, ℕ, ◌+◌, ◌*◌, ◌<◌, length, get_or}
use Rattle.sizes.specs.Sizing.{α}
use Rattle.sizes.proofs.Legal.{legal-facts, α-parts}
use Rattle.area_puts.specs.Steps.{puts}
use Rattle.area_puts.proofs.Puts.{part-long, puts-turn}
use Rattle.kept_bytes.specs.Steps.{kept_of}
use Rattle.kept_bytes.proofs.Turns.{length-kept_of}
use Rattle.store_write.proofs.Places.{area-few}
use Rattle.store_write.proofs.put_boards.Goals as goal

pub overflow_sub-w : goal.overflow_sub-w
overflow_sub-w c = omega (arith, legal-facts _ c.requires.0)

pub keep-requires : goal.keep-requires
keep-requires c =
    let a = c.args in
    let l = c.loop-i in
    let f = legal-facts _ c.requires.0 in
    let hi : l.i < a.sizes.n = omega (arith, c.loop-i-test.true, f.read-helpers, f.enough) in
    let e = area-few a.sizes.n a.part l.i f.few c.requires.1 hi in
    (c.requires.0, hi, c.requires.3, part-long (l.i * a.part + a.at) (α a.sizes) l.area (omega arith))

pub loop-i-preserved : goal.loop-i-preserved
loop-i-preserved c =
    let l = c.loop-i in
    let a = c.args in
    let z = a.sizes in
    let k = c.keep.ensures in (
      puts-turn (λ i. i * a.part + a.at) (λ i. kept_of a.sizes (λ b. get_or a.values.now (b * 32 + i) 0) (λ b. get_or a.values.now (i * 32 + b) 0) i)
          (α z) l.i (l.i * a.part + a.at) a.area.now l.area _ refl
          (ap length k ∙ length-kept_of z _ _ l.i ∙ α-parts z (legal-facts _ c.requires.0)) k l.invariant.0,
      search rules,
    )

pub returns : goal.returns
returns c =
    let l = c.loop-i in
    let a = c.args in
    let e : l.i ≡ a.sizes.n = omega (arith, l.auto.i-end, c.loop-i-test.false) in
    l.invariant.0 ∙ ap (λ (m : ℕ). puts (λ i. i * a.part + a.at)
    (λ i. kept_of a.sizes (λ b. get_or a.values.now (b * 32 + i) 0) (λ b. get_or a.values.now (i * 32 + b) 0) i) m a.area.now) e
