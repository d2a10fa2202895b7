-- `edit_stripe::values_in` meets its contract. The loop's invariant: the rows so far are in their places.
-- Assumes nothing.
use Rattle.std.proofs.Common.{rules, ◌≡◌, ap, ap₂, ◌∙◌, arith, List, ◌++◌, ℕ, ◌*◌, drop}
use Rattle.lists.specs.Lists.{join, piece}
use Rattle.lists.proofs.Pieces.{part-piece}
use Rattle.row_dots.proofs.Rows.{join-loop}
use Rattle.row_values.specs.Steps.{row_sums}
use Rattle.row_values.proofs.Sums.{length-sums}
use Rattle.edit_powers.proofs.Rows.{row-long}
use Rattle.edit_stripe.proofs.values_in.Goals as goal

pub loop-t-preserved : goal.loop-t-preserved
loop-t-preserved c =
    let l = c.loop-t in
    let a = c.args in
    let h = c.loop-t-test.true in (
      join-loop (λ t. row_sums 32 (piece 32 t a.rows.now) a.powers.now) 32 l.t a.out.now l.out _ (λ i h. length-sums 32 (piece 32 i a.rows.now) a.powers.now)
          (c.sums.ensures
          ∙ ap₂ {C = List ℕ} (λ (n : ℕ) (cs : List ℕ). row_sums n cs a.powers.now) (row-long l.t l.out (l.invariant.1 ∙ c.requires.3) (omega (arith, h, c.requires.1)))
          (part-piece 32 l.t a.rows.now)) l.invariant.0,
      search rules,
    )

pub returns : goal.returns
returns c =
    let l = c.loop-t in
    let a = c.args in
    let e : l.t ≡ a.count = omega (arith, l.auto.t-end, c.loop-t-test.false) in
    l.invariant.0 ∙ ap (λ (m : ℕ). join m (λ t. row_sums 32 (piece 32 t a.rows.now) a.powers.now) ++ drop (m * 32) a.out.now) e
