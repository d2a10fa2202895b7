-- `stripe_helper::pairs` meets its contract: the pairs of the stripes so far, before what was there.
-- Assumes nothing.
use Rattle.std.proofs.Common.{ap, ◌∙◌, ◌+◌, ◌-◌, ◌*◌, ◌≤◌, ℕ, List, length, arith}
use Rattle.lists.specs.Lists.{piece}
use Rattle.lists.proofs.Put.{part_end}
use Rattle.lists.proofs.Pieces.{two-turn, part-piece, length-piece}
use Rattle.stripe_helper.specs.Steps.{pair_by}
use Rattle.stripe_helper.proofs.Packets.{length-pair, pairs_made}
use Rattle.stripe_helper.proofs.pairs.Goals as goal

pub helper_pair-q-requires : goal.helper_pair-q-requires
helper_pair-q-requires c =
    let a = c.args in
    let p = c.requires in
    let l = c.loop-s in
    let n : l.s * (a.w + a.d - 1) + (a.w + a.d - 1) ≤ length a.held.now = omega (arith, part_end l.s (a.w + a.d - 1) a.stripes c.loop-s-test.true) in
    (p.0, p.1, ap length (part-piece (a.w + a.d - 1) l.s a.held.now) ∙ length-piece (a.w + a.d - 1) l.s a.held.now n, p.3, p.4, p.5, p.6)

pub loop-s-preserved : goal.loop-s-preserved
loop-s-preserved c =
    let a = c.args in
    let l = c.loop-s in
    let f : ℕ → List ℕ = λ s. pair_by a.w a.ff.now a.gf.now (piece (a.w + a.d - 1) s a.held.now) in
    two-turn f a.out.now l.out l.s _ _ (λ i. length-pair a.w a.ff.now a.gf.now _) (omega arith) l.auto.out
    (c.helper_pair-q.ensures ∙ ap (pair_by a.w a.ff.now a.gf.now) (part-piece (a.w + a.d - 1) l.s a.held.now)) l.invariant

pub returns : goal.returns
returns c = pairs_made _ c.args.stripes c.loop-s.s c.args.out.now c.loop-s.out (omega arith) c.loop-s.invariant
