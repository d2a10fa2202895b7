-- `encode_values::upper_values` meets its contract. The loop's invariant: the rows so far are in their places.
-- Assumes nothing.
use Rattle.std.proofs.Common.{◌≡◌, ℕ, ◌*◌, drop, ◌++◌, ap, ◌∙◌, arith}
use Rattle.lists.specs.Lists.{join}
use Rattle.grid.proofs.Kept.{join-loop}
use Rattle.encode_values.proofs.Sums.{upper_values, length-upper}
use Rattle.encode_values.proofs.upper_values.Goals as goal

pub loop-i-preserved : goal.loop-i-preserved
loop-i-preserved c =
    λ xs lx t.
    let a = c.args in
    join-loop (upper_values xs a.k a.w a.u.now) 32 c.loop-i.i a.out.now c.loop-i.out _ (λ i h. length-upper xs a.k a.w a.u.now i lx)
    (c.put_row.ensures ∙ c.upper_row.ensures xs lx t) (c.loop-i.invariant xs lx t)

pub returns : goal.returns
returns c =
    λ xs lx t.
    let a = c.args in
    let e : c.loop-i.i ≡ a.k = omega arith in
    c.loop-i.invariant xs lx t ∙ ap (λ (m : ℕ). join m (upper_values xs a.k a.w a.u.now) ++ drop (m * 32) a.out.now) e
