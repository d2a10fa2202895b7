-- `size_rows::fill` meets its contract: a line more, and the place behind it.
-- Assumes nothing.
use Rattle.std.proofs.Common.{◌≡◌, sym, ap, subst, ◌∙◌, ◌+◌, ◌≤◌, ◌++◌, length, arith, length-append, refl}
use Rattle.text_lines.specs.Steps.{Wrote}
use Rattle.text_lines.proofs.Writes.{none, then}
use Rattle.size_list.specs.Combinations.{rows}
use Rattle.size_steps.specs.Steps.{met, after, LegalPlace}
use Rattle.size_steps.proofs.Walk.{rows_next, after-add, legal-after}
use Rattle.size_rows.proofs.Runs.{line-most}
use Rattle.size_rows.proofs.fill.Goals as goal

pub loop-init : goal.loop-init
loop-init c = record { wrote = none _ 0; place = refl; few = omega arith }

legal-here : (c : goal.After-step-arg-1) → LegalPlace c.loop.run.place
legal-here c = subst LegalPlace (sym c.loop.invariant.place) (legal-after c.args.most c.requires.0 c.loop.counter c.args.place c.requires.1)

pub step-run-requires : goal.step-run-requires
step-run-requires c = (legal-here c, omega (arith, c.loop.invariant.few), omega (arith, c.loop.invariant.few))

pub loop-preserved : goal.loop-preserved
loop-preserved c =
    let a = c.args in
    let i = c.loop.counter in
    let v = c.loop.invariant in
    let w = c.step-run in
    let here : LegalPlace c.loop.run.place = subst LegalPlace (sym v.place) (legal-after a.most c.requires.0 i a.place c.requires.1) in
    let m = line-most a.most c.loop.run.place here in
    let e : rows (met a.most (i + 1) a.place) ≡ rows (met a.most i a.place) ++ rows (met a.most 1 c.loop.run.place) =
    rows_next a.most i a.place ∙ ap (λ p. rows (met a.most i a.place) ++ rows (met a.most 1 p)) (sym v.place) in
    let room : 0 + length (rows (met a.most i a.place) ++ rows (met a.most 1 c.loop.run.place)) ≤ length a.out.now =
    omega (arith, length-append (rows (met a.most i a.place)) (rows (met a.most 1 c.loop.run.place)), m, v.wrote.ends, v.few, c.requires.3) in
    record {
      wrote = subst (λ l. Wrote a.out.now 0 l w.new.out w.result.count) (sym e) (then v.wrote w.ensures.wrote room);
      place = w.ensures.place_value ∙ ap (after a.most 1) v.place ∙ sym (after-add a.most i 1 a.place);
      few = omega (arith, w.ensures.wrote.ends, v.few, m);
    }

pub returns-clause-wrote : goal.returns-clause-wrote
returns-clause-wrote c =
    let k = c.loop in
    let e : k.counter ≡ c.args.steps = omega arith in
    subst (λ i. Wrote c.args.out.now 0 (rows (met c.args.most i c.args.place)) k.out k.run.count) e k.invariant.wrote

pub returns-clause-place_value : goal.returns-clause-place_value
returns-clause-place_value c =
    let e : c.loop.counter ≡ c.args.steps = omega arith in
    subst (λ i. c.loop.run.place ≡ after c.args.most i c.args.place) e c.loop.invariant.place
