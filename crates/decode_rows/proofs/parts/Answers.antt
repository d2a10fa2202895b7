-- `decode_rows::parts` meets its contract: the parts so far, before what was there.
-- Assumes nothing.
use Rattle.std.proofs.Common.{◌≡◌, ℕ, List, ◌+◌, ◌*◌, ◌-◌, ◌<◌, length, take, drop, ap₂, ◌∙◌, arith}
use lib.ListN.{length-take, length-drop}
use lib.Seq.{length-take-le}
use Rattle.lists.specs.Lists.{piece}
use Rattle.lists.proofs.Pieces.{part-piece, length-piece}
use Rattle.sizes.proofs.Legal.{row_fits}
use Rattle.decode_laws.specs.Steps.{parts}
use Rattle.decode_laws.proofs.Loops.{join-loop, join-end}
use Rattle.decode_rows.proofs.parts.Goals as goal

pub loop-i-preserved : goal.loop-i-preserved
loop-i-preserved c =
    let a = c.args in
    let l = c.loop-i in
    let e = row_fits l.i a.count a.m c.loop-i-test.true in
    let n : (i : ℕ) → i < a.count → length (take a.m (drop 0 (piece 32 i a.rows.now))) ≡ a.m =
    λ i h. length-take-le a.m (piece 32 i a.rows.now) (omega (arith, length-piece 32 i a.rows.now (omega (arith, row_fits i a.count 32 h)))) in
    let k : length (take (l.i * a.m + a.m - l.i * a.m) (drop (l.i * a.m) l.out)) ≡ a.m = simp (length-take, length-drop) (omega arith) in
    join-loop (λ i. take a.m (drop 0 (piece 32 i a.rows.now))) a.m l.i a.out.now l.out _ (λ i h. n i (omega arith))
    (c.copy.ensures ∙ ap₂ (λ (m : ℕ) (p : List ℕ). take m p) k (part-piece 32 l.i a.rows.now))
    l.invariant

pub returns : goal.returns
unfolding parts
returns c =
    let a = c.args in
    join-end (λ i. take a.m (drop 0 (piece 32 i a.rows.now))) a.m c.loop-i.i a.count a.out.now c.loop-i.out (omega arith) c.requires.3 c.loop-i.invariant
