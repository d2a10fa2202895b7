-- `repair_hear::hear` meets its contract: the bytes of the helpers so far, before what was there.
-- Assumes nothing.
use Rattle.std.proofs.Common.{◌≡◌, ap, ◌∙◌, true, ◌+◌, ◌*◌, ◌-◌, ◌<◌, ◌≤◌, length, get_or, take, drop, ℕ, List, arith}
use native.Mathlib.Nat.{mul-le-mul_right}
use lib.ListN.{length-take, length-drop}
use Rattle.lists.specs.Lists.{piece}
use Rattle.lists.specs.Tests.{below}
use Rattle.lists.proofs.Put.{part_end}
use Rattle.lists.proofs.Pieces.{fill-loop, fill_end, fill-all}
use Rattle.sizes.specs.Sizing.{α}
use Rattle.sizes.specs.declared.Sizes.{Sizes}
use Rattle.sizes.proofs.Legal.{Legal, legal-facts}
use Rattle.lagrange_factors.proofs.Values.{board-below}
use Rattle.repair_hear.proofs.Heard.{cut-piece, piece-long}
use Rattle.repair_hear.proofs.Sent.{first-heard, second-heard, row-part}
use Rattle.repair_hear.proofs.hear.Goals as goal

-- where a helper's part ends, and that all parts together are few bytes
ends : (z : Sizes) → Legal z → (part : ℕ) → part ≤ 253952 → (helpers : List ℕ) → below z.n helpers ≡ true → (p : ℕ) → p < length helpers
    → (get_or helpers p 0 * part + part ≤ z.n * part) × (z.n * part ≤ 8126464)
ends z f part h helpers b p l =
    let m : z.n * part ≤ 32 * part = mul-le-mul_right part f.few in
    (part_end (get_or helpers p 0) part z.n (board-below z.n helpers p b l), omega arith)

pub overflow_sub-a : goal.overflow_sub-a
overflow_sub-a c = let f = legal-facts _ c.requires.0 in omega arith

pub overflow_mul-from : goal.overflow_mul-from
overflow_mul-from c =
    let a = c.args in
    omega (arith, ends a.sizes (legal-facts _ c.requires.0) a.part c.requires.6 a.helpers.now c.requires.9 c.loop-p.p c.loop-p-test.true)

pub overflow_add-from : goal.overflow_add-from
overflow_add-from c =
    let a = c.args in
    omega (arith, c.requires.7, ends a.sizes (legal-facts _ c.requires.0) a.part c.requires.6 a.helpers.now c.requires.9 c.loop-p.p c.loop-p-test.true)

pub overflow_add-to : goal.overflow_add-to
overflow_add-to c =
    let a = c.args in
    omega (arith, c.requires.7, ends a.sizes (legal-facts _ c.requires.0) a.part c.requires.6 a.helpers.now c.requires.9 c.loop-p.p c.loop-p-test.true)

pub slice_bounds-helper_pair-end-in-loop-p-2 : goal.slice_bounds-helper_pair-end-in-loop-p-2
slice_bounds-helper_pair-end-in-loop-p-2 c =
    let a = c.args in
    omega (arith, c.requires.7, c.requires.8, ends a.sizes (legal-facts _ c.requires.0) a.part c.requires.6 a.helpers.now c.requires.9 c.loop-p.p c.loop-p-test.true)

-- a share's bytes of a stripe, as f's and g's
whole : (z : Sizes) → α z ≡ z.d + z.r + z.d - 1
whole z = omega arith

pub helper_pair-q-requires : goal.helper_pair-q-requires
helper_pair-q-requires c =
    let a = c.args in
    let p = c.requires in
    let z = a.sizes in
    let f = legal-facts _ p.0 in
    let at : ℕ = get_or a.helpers.now c.loop-p.p 0 * a.part in
    let e = ends z f a.part p.6 a.helpers.now p.9 c.loop-p.p c.loop-p-test.true in
    let stripe : length (take (at + a.s * α z + α z - (at + a.s * α z)) (drop (at + a.s * α z) a.area.now)) ≡ α z =
    ap length (cut-piece (α z) a.s at a.area.now) ∙ piece-long (α z) a.s at a.area.now (omega (arith, e, p.7, p.8)) in (
      omega (arith, f.some_read, f.read-helpers),
      omega (arith, f.some-fresh),
      stripe ∙ whole z,
      simp (length-take, length-drop) (omega (arith, p.1)),
      simp (length-take, length-drop) (omega (arith, p.2)),
      omega (arith, f.enough, f.few),
      omega (arith, f.some-fresh, f.enough, f.few),
    )

pub loop-p-preserved : goal.loop-p-preserved
loop-p-preserved c =
    let a = c.args in
    let p = c.requires in
    let l = c.loop-p in
    let z = a.sizes in
    let own : ℕ → List ℕ = λ j. piece (α z) a.s (drop (j * a.part) a.area.now) in
    let rf = row-part 32 l.p a.fl a.ff.now p.1 in
    let rg = row-part 32 l.p a.gl a.gf.now p.2 in
    let st = cut-piece (α z) a.s (get_or a.helpers.now l.p 0 * a.part) a.area.now in (
      fill-loop _ a.firsts.now l.firsts l.p _ (omega arith)
          (first-heard (z.d + z.r) a.fl a.gl l.p _ _ a.ff.now a.gf.now _ _ _ own a.helpers.now rf rg st c.helper_pair-q.ensures) l.invariant.0,
      fill-loop _ a.seconds.now l.seconds l.p _ (omega arith)
          (second-heard (z.d + z.r) a.fl a.gl l.p _ _ a.ff.now a.gf.now _ _ _ own a.helpers.now rf rg st c.helper_pair-q.ensures) l.invariant.1,
    )

pub returns : goal.returns
returns c =
    let a = c.args in
    let l = c.loop-p in
    let m : ℕ = length a.helpers.now in (
      fill_end _ a.firsts.now l.firsts l.p m (omega arith) l.invariant.0 ∙ fill-all _ a.firsts.now m (omega arith),
      fill_end _ a.seconds.now l.seconds l.p m (omega arith) l.invariant.1 ∙ fill-all _ a.seconds.now m (omega arith),
    )
