-- `edit_stripe::lay_rows` meets its contract. The loop's invariant: the rows so far are in their places.
-- Assumes nothing.
use Rattle.std.proofs.Common.{rules, ◌≡◌, ap, ◌∙◌, arith, [], ◌++◌, ℕ, ◌*◌, get_or, drop}
use Rattle.lists.specs.Lists.{join, fit}
use Rattle.lists.proofs.Pieces.{length-fit}
use Rattle.sizes.proofs.Legal.{legal-facts}
use Rattle.mbcr.specs.Share.{grid}
use Rattle.row_dots.proofs.Rows.{join-loop}
use Rattle.edit_powers.proofs.Rows.{row-long}
use Rattle.edit_stripe.proofs.lay_rows.Goals as goal

pub overflow_mul-at : goal.overflow_mul-at
overflow_mul-at c = let f = legal-facts _ c.requires.0 in omega (arith, c.loop-i-test.true, f.enough, f.few)

pub overflow_add-end : goal.overflow_add-end
overflow_add-end c = let f = legal-facts _ c.requires.0 in omega (arith, c.loop-i-test.true, f.enough, f.few)

pub slice_bounds-lay_row-end : goal.slice_bounds-lay_row-end
slice_bounds-lay_row-end c =
    let f = legal-facts _ c.requires.0 in
    omega (arith, c.loop-i-test.true, f.enough, f.few, c.loop-i.invariant.1, c.requires.2)

pub lay_row-requires : goal.lay_row-requires
lay_row-requires c =
    let l = c.loop-i in
    let f = legal-facts _ c.requires.0 in (
      c.requires.0,
      c.loop-i-test.true,
      c.requires.1,
      row-long l.i l.out (l.invariant.1 ∙ c.requires.2) (omega (arith, c.loop-i-test.true, f.enough, f.few)),
    )

pub loop-i-preserved : goal.loop-i-preserved
loop-i-preserved c =
    let l = c.loop-i in
    let a = c.args in (
      join-loop (λ i. fit 32 (get_or (grid a.sizes a.u.now) i [])) 32 l.i a.out.now l.out _ (λ i h. length-fit 32 (get_or (grid a.sizes a.u.now) i []))
          c.lay_row.ensures l.invariant.0,
      search rules,
    )

pub returns : goal.returns
returns c =
    let l = c.loop-i in
    let a = c.args in
    let e : l.i ≡ a.sizes.d = omega (arith, l.auto.i-end, c.loop-i-test.false) in
    l.invariant.0 ∙ ap (λ (m : ℕ). join m (λ i. fit 32 (get_or (grid a.sizes a.u.now) i [])) ++ drop (m * 32) a.out.now) e
