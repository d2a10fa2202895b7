-- `decode_values::tops` meets its contract: the rows so far, before what was there.
-- Assumes nothing.
use Rattle.std.proofs.Common.{◌≡◌, ap, ◌∙◌, ◌+◌, ◌-◌, ◌*◌, ℕ, List, length, get_or, take, drop, arith, length-take, length-drop}
use Rattle.lists.specs.Lists.{tabulate}
use Rattle.lists.proofs.Pieces.{length-tabulate, tabulate-ext, part-piece, piece-at}
use Rattle.gf256.specs.Field.{mul}
use Rattle.polynomial.specs.Polynomial.{sum}
use Rattle.sizes.proofs.Legal.{row_fits}
use Rattle.decode_laws.specs.Steps.{cell, tops_of}
use Rattle.decode_laws.proofs.Sums.{sum_below}
use Rattle.decode_laws.proofs.Loops.{join-loop, join-end}
use Rattle.decode_values.proofs.tops.Goals as goal

pub top-requires : goal.top-requires
top-requires c =
    let k = c.args.k in
    let l = c.loop-i in
    let p = c.requires in
    let f = row_fits _ _ k c.loop-i-test.true in
    let e : length (take (l.i * k + k - l.i * k) (drop (l.i * k) l.out)) ≡ k = simp (length-take, length-drop) (omega (arith, f)) in
    (p.2, p.3, simp (length-take, length-drop) (omega arith), omega (arith, e), rw e p.5)

pub loop-i-preserved : goal.loop-i-preserved
loop-i-preserved c =
    let a = c.args in
    let l = c.loop-i in
    let f = row_fits _ _ a.k c.loop-i-test.true in
    let e : length (take (l.i * a.k + a.k - l.i * a.k) (drop (l.i * a.k) l.out)) ≡ a.k = simp (length-take, length-drop) (omega (arith, f)) in
    join-loop (λ i. tabulate a.k (λ t. sum a.m (λ s. mul (cell a.rows.now i s) (get_or a.va.now (t * a.d + s) 0)))) a.k l.i a.out.now l.out _ (λ i h. length-tabulate a.k _)
    (c.top.ensures
    ∙ ap (λ (n : ℕ). tabulate n (λ t. sum a.m (λ s. mul (get_or (take (l.i * 32 + 32 - l.i * 32) (drop (l.i * 32) a.rows.now)) s 0) (get_or a.va.now (t * a.d + s) 0)))) e
    ∙ tabulate-ext a.k _ _ (λ t h. sum_below a.m _ _ (λ s q. ap (λ (v : ℕ). mul v (get_or a.va.now (t * a.d + s) 0))
    (ap (λ (r : List ℕ). get_or r s 0) (part-piece 32 l.i a.rows.now) ∙ piece-at 32 l.i a.rows.now s 0 (omega (arith, c.requires.3)))))) l.invariant

pub returns : goal.returns
unfolding tops_of
returns c = join-end _ c.args.k c.loop-i.i c.args.count c.args.out.now c.loop-i.out (omega arith) c.requires.6 c.loop-i.invariant
