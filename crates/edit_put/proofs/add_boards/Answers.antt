-- `edit_put::add_boards` meets its contract. The loop's invariant: the boards so far have what is added to them.
-- Assumes nothing.
use Rattle.std.proofs.Common.{◌≡◌, ◌+◌, ◌*◌, ◌<◌, ◌≤◌, List, ℕ, length, get_or, true, ap, ◌∙◌, arith}
use native.Mathlib.Nat.{mul-le-mul_right}
use Rattle.lists.specs.Tests.{below}
use Rattle.lists.proofs.Put.{part_end}
use Rattle.sizes.specs.declared.Sizes.{Sizes}
use Rattle.sizes.specs.Sizing.{α}
use Rattle.sizes.proofs.Legal.{Legal, legal-facts, α-parts}
use Rattle.area_puts.proofs.Puts.{part-long}
use Rattle.kept_bytes.proofs.Turns.{length-kept_of}
use Rattle.edit_put.specs.Steps.{kept_by}
use Rattle.edit_put.proofs.Added.{board-low, up_to, turn}
use Rattle.edit_put.proofs.add_boards.Goals as goal

-- where the part of a board ends
ends : (z : Sizes) (part : ℕ) (boards : List ℕ) (a : ℕ) → Legal z → part ≤ 253952 → below z.n boards ≡ true → a < length boards
    → (get_or boards a 0 * part + part ≤ z.n * part) × (z.n * part ≤ 8126464)
ends z part boards a f h b l =
    let m : z.n * part ≤ 32 * part = mul-le-mul_right part f.few in
    (part_end (get_or boards a 0) part z.n (board-low z.n boards a b l), omega arith)

pub overflow_sub-w : goal.overflow_sub-w
overflow_sub-w c = omega (arith, legal-facts _ c.requires.0)

pub overflow_mul-from : goal.overflow_mul-from
overflow_mul-from c =
    omega (arith, ends c.args.sizes c.args.part c.args.boards.now c.loop-a.a (legal-facts _ c.requires.0) c.requires.1 c.requires.4 c.loop-a-test.true)

pub overflow_add-from : goal.overflow_add-from
overflow_add-from c =
    omega (arith, ends c.args.sizes c.args.part c.args.boards.now c.loop-a.a (legal-facts _ c.requires.0) c.requires.1 c.requires.4 c.loop-a-test.true)

pub overflow_add-to : goal.overflow_add-to
overflow_add-to c =
    omega (arith, ends c.args.sizes c.args.part c.args.boards.now c.loop-a.a (legal-facts _ c.requires.0) c.requires.1 c.requires.4 c.loop-a-test.true)

pub slice_bounds-add_kept-end : goal.slice_bounds-add_kept-end
slice_bounds-add_kept-end c =
    omega (arith, ends c.args.sizes c.args.part c.args.boards.now c.loop-a.a (legal-facts _ c.requires.0) c.requires.1 c.requires.4 c.loop-a-test.true)

pub add_kept-requires : goal.add_kept-requires
add_kept-requires c =
    let a = c.args in
    let l = c.loop-a in
    let e = ends a.sizes a.part a.boards.now l.a (legal-facts _ c.requires.0) c.requires.1 c.requires.4 c.loop-a-test.true in (
      c.requires.0,
      board-low a.sizes.n a.boards.now l.a c.requires.4 c.loop-a-test.true,
      c.requires.3,
      part-long (get_or a.boards.now l.a 0 * a.part + a.at) (α a.sizes) l.area (omega arith),
    )

pub loop-a-preserved : goal.loop-a-preserved
loop-a-preserved c =
    let a = c.args in
    let z = a.sizes in
    let l = c.loop-a in
    turn z.n (α z) a.part a.at (kept_by z a.values.now) (λ i. length-kept_of z _ _ i ∙ α-parts z (legal-facts z c.requires.0)) c.requires.2 a.boards.now a.area.now
    c.requires.4 c.requires.5 c.requires.6 l.a l.area _ c.loop-a-test.true l.invariant c.add_kept.ensures

pub returns : goal.returns
returns c =
    let a = c.args in
    let z = a.sizes in
    let e : c.loop-a.a ≡ length a.boards.now = omega arith in
    c.loop-a.invariant
    ∙ ap (up_to z.n (α z) a.part a.at (kept_by z a.values.now) (λ i. length-kept_of z _ _ i ∙ α-parts z (legal-facts z c.requires.0)) c.requires.2 a.boards.now
    a.area.now c.requires.4 c.requires.5 c.requires.6) e
