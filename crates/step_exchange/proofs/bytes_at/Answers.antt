-- `step_exchange::bytes_at` meets its contract: the bytes of the stripes so far are put at the place, and what is heard stays.
-- Assumes nothing.
use Rattle.std.proofs.Common.{◌≡◌, refl, ap, length-set, ◌∙◌, ◌+◌, ◌*◌, ℕ, List, length, take, drop, length-take, length-drop, arith}
use Rattle.mbcr.specs.Rebuild.{received}
use Rattle.lagrange_factors.specs.Steps.{dot_of}
use Rattle.step_exchange.proofs.Written.{put-none, put-more, heard-still, written-end}
use Rattle.step_exchange.proofs.bytes_at.Goals as goal

pub loop-s-init : goal.loop-s-init
loop-s-init c = record { written = put-none _ _; long = refl }

pub exchange_byte-b-requires : goal.exchange_byte-b-requires
exchange_byte-b-requires c =
    let a = c.args in
    let p = c.requires in
    let w : ℕ = a.sizes.d * (2 * a.stripes) in
    let n : length (take w (drop a.from a.packets.now)) ≡ w = simp (length-take, length-drop) (omega (arith, p.3, p.4)) in
    let heard = heard-still a.packets.now c.loop-s.packets a.at c.loop-s.s a.from w _ (omega arith) p.3 c.loop-s.invariant.written in
    (p.0, p.1, omega arith, p.2, ap length heard ∙ n)

pub loop-s-preserved : goal.loop-s-preserved
loop-s-preserved c =
    let a = c.args in
    let l = c.loop-s in
    let w : ℕ = a.sizes.d * (2 * a.stripes) in
    let f : List ℕ → ℕ → ℕ = λ q s. dot_of a.ff.now (received a.sizes a.stripes 0 s q) in
    let heard = heard-still a.packets.now l.packets a.at l.s a.from w _ (omega arith) c.requires.3 l.invariant.written in record {
      written =
          put-more a.packets.now l.packets a.at l.s _ (f (take w (drop a.from a.packets.now))) (omega arith) l.invariant.written
          (c.exchange_byte-b.ensures ∙ ap (λ (q : List ℕ). f q l.s) heard);
      long = length-set l.packets (a.at + l.s) _ ∙ l.invariant.long;
    }

pub returns : goal.returns
returns c = written-end c.args.packets.now c.loop-s.packets c.args.at c.loop-s.s c.args.stripes _ (omega arith) c.loop-s.invariant.written
