-- `stripes_cut::stripes_in` meets its contract: the stripes so far, the last of them cut to the length, over what was there.
-- Assumes nothing.
use Rattle.std.proofs.Common.{◌≡◌, sym, ◌∙◌, arith, List, ℕ, ◌≤◌, ◌-◌, ◌+◌, ◌*◌, length}
use borrow.Rule.Slice.PartMut.{same_len_mid}
use Rattle.sizes.proofs.Legal.{legal-facts}
use Rattle.mbcr.proofs.Decode.{length-decoded}
use Rattle.decode_laws.proofs.Held.{placed-before}
use Rattle.stripes_cut.specs.Steps.{stripe_at}
use Rattle.stripes_cut.proofs.Made.{work-kept, stripes-turn, stripes-end, starts-in}
use Rattle.stripes_cut.proofs.stripes_in.Goals as goal

pub decode_stripe-requires : goal.decode_stripe-requires
decode_stripe-requires c =
    let a = c.args in
    let p = c.requires in
    let l = c.loop-s in (
      p.0,
      p.1,
      p.2,
      placed-before a.sizes a.starts.now a.bytes.now (a.first + l.s + 1) (a.first + a.count) (omega (arith, c.loop-s-test.true)) p.3,
      omega (arith, p.4, c.loop-s-test.true),
      p.5,
      work-kept a.sizes p.6 l.invariant.3,
      l.invariant.2 ∙ p.7,
    )

pub loop-s-preserved : goal.loop-s-preserved
loop-s-preserved c =
    let l = c.loop-s in
    let a = c.args in
    let d = c.decode_stripe in
    let k = l.invariant.3 in
    let m = c.least-m in
    let b : ℕ = length a.u.now in
    let each : ℕ → List ℕ = λ s. stripe_at a.sizes a.points.now a.boards.now a.starts.now a.bytes.now (a.first + s) in
    let long : (s : ℕ) → length (each s) ≡ b =
    λ s. length-decoded a.sizes a.points.now (legal-facts _ c.requires.0.sized) a.boards.now c.requires.0.counted _ ∙ sym c.requires.7 in
    let start : l.s * b ≤ length a.out.now = starts-in b (length a.out.now) a.count l.s (rw c.requires.7 c.requires.9) c.loop-s-test.true in (
      stripes-turn each b (length a.out.now) l.s m.result long a.out.now l.out _ _ start (omega arith) l.invariant.1 m.ensures l.invariant.0 d.ensures
          c.copy.ensures,
      same_len_mid {X = ℕ} (l.s * b) (l.s * b + m.result - l.s * b) l.out c.copy.new.out c.copy.auto.out ∙ l.invariant.1,
      d.auto.u ∙ l.invariant.2,
      record {
        f-rows = d.auto.fs ∙ k.f-rows;
        g-rows = d.auto.gs ∙ k.g-rows;
        f-values = d.auto.vf ∙ k.f-values;
        g-values = d.auto.vg ∙ k.g-values;
        g-tops = d.auto.tp ∙ k.g-tops;
        all-rows = d.auto.rows ∙ k.all-rows;
        all-columns = d.auto.columns ∙ k.all-columns;
      },
    )

pub returns : goal.returns
returns c =
    let l = c.loop-s in
    let a = c.args in
    let each : ℕ → List ℕ = λ s. stripe_at a.sizes a.points.now a.boards.now a.starts.now a.bytes.now (a.first + s) in
    let long : (s : ℕ) → length (each s) ≡ length a.u.now =
    λ s. length-decoded a.sizes a.points.now (legal-facts _ c.requires.0.sized) a.boards.now c.requires.0.counted _ ∙ sym c.requires.7 in
    stripes-end each (length a.u.now) l.s a.count long a.out.now l.out (omega (arith, l.auto.s-end, c.loop-s-test.false)) (rw c.requires.7 c.requires.8)
    l.invariant.0
