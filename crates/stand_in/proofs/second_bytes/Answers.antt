-- `stand_in::second_bytes` meets its contract: the bytes of the stripes so far, before what was there.
-- Assumes nothing.
use Rattle.std.proofs.Common.{ap, ◌∙◌, ◌+◌, ◌-◌, ◌*◌, ◌≤◌, ◌++◌, ℕ, List, length, take, drop, arith}
use Rattle.lists.specs.Lists.{piece}
use Rattle.lists.proofs.Put.{part_end}
use Rattle.lists.proofs.Pieces.{fill-loop, fill_end, part-piece, length-piece}
use Rattle.lagrange_factors.specs.Steps.{dot_of}
use Rattle.stand_in.proofs.second_bytes.Goals as goal

pub second_byte-requires : goal.second_byte-requires
second_byte-requires c =
    let a = c.args in
    let p = c.requires in
    let l = c.loop-s in
    let n : l.s * (a.w + a.d - 1) + (a.w + a.d - 1) ≤ length a.held.now = omega (arith, part_end l.s (a.w + a.d - 1) a.stripes c.loop-s-test.true) in
    (p.0, p.1, ap length (part-piece (a.w + a.d - 1) l.s a.held.now) ∙ length-piece (a.w + a.d - 1) l.s a.held.now n, p.3, p.4, p.5)

pub loop-s-preserved : goal.loop-s-preserved
loop-s-preserved c =
    let a = c.args in
    let l = c.loop-s in
    let f : List ℕ → ℕ = λ w. dot_of a.gf.now (take 1 w ++ drop a.w w) in
    fill-loop (λ s. f (piece (a.w + a.d - 1) s a.held.now)) a.out.now l.out l.s _ (omega arith)
    (c.second_byte.ensures ∙ ap f (part-piece (a.w + a.d - 1) l.s a.held.now)) l.invariant

pub returns : goal.returns
returns c = fill_end _ c.args.out.now c.loop-s.out c.loop-s.s c.args.stripes (omega arith) c.loop-s.invariant
