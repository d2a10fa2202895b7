-- `size_printer::print` meets its contract: a block more, and after 46 of them no combination is left.
-- Assumes nothing.
use Rattle.std.proofs.Common.{◌≡◌, refl, sym, ap, subst, ◌∙◌, ◌+◌, ◌*◌, ◌≤◌, ℕ, List, length, length-append, arith}
use native.Mathlib.Numerals.{add-one}
use lib.Seq.{length-take-le}
use Rattle.sizes.specs.Sizing.{legal}
use Rattle.size_steps.specs.Steps.{Place, met, after, LegalPlace}
use Rattle.size_steps.specs.Laws.{start}
use Rattle.size_list.specs.Combinations.{rows}
use Rattle.text_lines.specs.Steps.{Wrote}
use Rattle.text_lines.proofs.Writes.{same-room}
use Rattle.lists.proofs.Pieces.{join-suc}
use Rattle.size_steps.proofs.Walk.{walk-laws, legal-after, after-add, all-ends, few-combinations}
use Rattle.size_rows.proofs.Runs.{rows-most}
use Rattle.size_printer.proofs.print.Invariants.{blocks}
use Rattle.size_printer.proofs.print.Goals as goal

first-legal : LegalPlace start
unfolding legal
first-legal = refl

legal-at : (m t : ℕ) (p : Place) → m ≤ 32 → p ≡ after m t start → LegalPlace p
legal-at m t p h e = subst LegalPlace (sym e) (legal-after m h t start first-legal)

-- a block is at most 40,960 bytes, and its array keeps its length
record Block (m e : ℕ) : Type 0 where
  long : m ≡ 40960
  count : e ≤ 40960

block : (m t : ℕ) (p : Place) (l l2 : List ℕ) (e : ℕ) → m ≤ 32 → p ≡ after m t start → length l ≡ 40960 → Wrote l 0 (rows (met m 1024 p)) l2 e
    → Block (length l2) e
block m t p l l2 e h i k w =
    let room : 0 + length (rows (met m 1024 p)) ≤ length l = omega (arith, rows-most m h 1024 p (legal-at m t p h i), k) in
    record { long = same-room w room ∙ k; count = omega (arith, w.ends, room, k) }

pub loop-init : goal.loop-init
loop-init c = record { place = c.first-place.ensures; long = refl; counted = refl; few = omega arith }

pub fill-run-requires : goal.fill-run-requires
fill-run-requires c =
    (c.requires.1, legal-at c.args.most (c.loop.counter * 1024) _ c.requires.1 c.loop.invariant.place, omega arith, omega (arith, c.loop.invariant.long))

pub slice_bounds-out-end : goal.slice_bounds-out-end
slice_bounds-out-end c =
    let v = c.loop.invariant in
    let b = block c.args.most (c.loop.counter * 1024) _ _ _ _ c.requires.1 v.place v.long c.fill-run.ensures.wrote in omega (arith, b.long, b.count)

pub slice_bounds-put_block-end : goal.slice_bounds-put_block-end
slice_bounds-put_block-end c =
    let v = c.loop.invariant in
    let b = block c.args.most (c.loop.counter * 1024) _ _ _ _ c.requires.1 v.place v.long c.fill-run.ensures.wrote in
    sym (length-take-le _ _ (omega (arith, b.long, b.count)))

pub overflow_add-total : goal.overflow_add-total
overflow_add-total c =
    let v = c.loop.invariant in
    let b = block c.args.most (c.loop.counter * 1024) _ _ _ _ c.requires.1 v.place v.long c.fill-run.ensures.wrote in
    omega (arith, b.count, v.few)

pub loop-preserved : goal.loop-preserved
loop-preserved c =
    let m = c.args.most in
    let t = c.loop.counter in
    let v = c.loop.invariant in
    let r = c.fill-run in
    let b = block m (t * 1024) _ _ _ _ c.requires.1 v.place v.long r.ensures.wrote in
    let e : t * 1024 + 1024 ≡ (t + 1) * 1024 = omega arith in
    let w : List ℕ = rows (met m 1024 (after m (t * 1024) start)) in
    let here : length (rows (met m 1024 c.loop.place)) ≡ length w = ap (λ (p : Place). length (rows (met m 1024 p))) v.place in
    let n : r.result.count ≡ length w = omega (arith, r.ensures.wrote.ends, here) in
    let long : length (blocks m t) + length w ≡ length (blocks m (t + 1)) =
    sym (length-append (blocks m t) w) ∙ ap length (sym (join-suc t (λ s. rows (met m 1024 (after m (s * 1024) start))))) ∙ ap (λ i. length (blocks m i)) (sym (add-one t)) in
    record {
      place = r.ensures.place_value ∙ ap (after m 1024) v.place ∙ sym (after-add m (t * 1024) 1024 start) ∙ ap (λ i. after m i start) e;
      long = b.long;
      counted = omega (arith, n, long, v.counted);
      few = omega (arith, b.count, v.few);
    }

pub returns-clause-count_value : goal.returns-clause-count_value
returns-clause-count_value c =
    let m = c.args.most in
    let e : c.loop.counter ≡ 46 = omega arith in
    c.loop.invariant.counted ∙ ap (λ i. length (blocks m i)) e ∙ ap length (walk-laws.blocks m c.requires.0 c.requires.1)

pub returns-clause-place_value : goal.returns-clause-place_value
returns-clause-place_value c =
    let m = c.args.most in
    let e : c.loop.counter ≡ 46 = omega arith in
    c.loop.invariant.place ∙ ap (λ t. after m (t * 1024) start) e ∙ all-ends m (46 * 1024) c.requires.0 (few-combinations m c.requires.1)
