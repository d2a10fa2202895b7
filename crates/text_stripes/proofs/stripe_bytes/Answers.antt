-- `text_stripes::stripe_bytes` meets its contract. The loop's invariant: the bytes of the boards so far, and the rest as it was.
-- Assumes nothing.
use Rattle.std.proofs.Common.{◌≡◌, ◌+◌, ◌-◌, ◌*◌, ◌≤◌, ◌<◌, ℕ, List, length, drop, zero-mul, refl, sym, ap, ◌∙◌, arith}
use borrow.Rule.Slice.PartMut.{same_len_mid}
use Rattle.sizes.proofs.Legal.{row_fits}
use Rattle.text_stripes.proofs.Starts.{board-in, part-share, board-turn, boards-end}
use Rattle.text_stripes.proofs.stripe_bytes.Goals as goal

-- the part of a turn is in the output
room : (out places : List ℕ) (t share : ℕ) → t < length places → length out ≡ length places * share → t * share + share ≤ length out
room out places t share h e = omega (arith, row_fits t (length places) share h, e)

pub loop-t-init : goal.loop-t-init
loop-t-init c =
    let a = c.args in
    (ap (λ (m : ℕ). drop m a.out.now) (sym (zero-mul a.share)), refl)

pub overflow_mul-at : goal.overflow_mul-at
overflow_mul-at c =
    let a = c.args in
    omega (arith, room a.out.now a.places.now c.loop-t.t a.share c.loop-t-test.true c.requires.1, c.well_formed.1.1.1.1.0.0)

pub overflow_add-end : goal.overflow_add-end
overflow_add-end c =
    let a = c.args in
    omega (arith, room a.out.now a.places.now c.loop-t.t a.share c.loop-t-test.true c.requires.1, c.well_formed.1.1.1.1.0.0)

pub overflow_add-place : goal.overflow_add-place
overflow_add-place c =
    let a = c.args in
    omega (arith, board-in a.text.now a.places.now a.from a.share c.requires.0 c.loop-t.t c.loop-t-test.true, c.well_formed.0.0)

pub slice_bounds-fill_pairs-end : goal.slice_bounds-fill_pairs-end
slice_bounds-fill_pairs-end c =
    let a = c.args in
    omega (arith, room a.out.now a.places.now c.loop-t.t a.share c.loop-t-test.true c.requires.1, c.loop-t.invariant.1)

pub fill_pairs-requires : goal.fill_pairs-requires
fill_pairs-requires c =
    let a = c.args in
    let l = c.loop-t in
    rw (part-share a.text.now a.places.now a.from a.share l.t l.out c.loop-t-test.true (l.invariant.1 ∙ c.requires.1))
    (board-in a.text.now a.places.now a.from a.share c.requires.0 l.t c.loop-t-test.true)

pub loop-t-preserved : goal.loop-t-preserved
loop-t-preserved c =
    let a = c.args in
    let l = c.loop-t in
    let f = c.fill_pairs in
    let part = part-share a.text.now a.places.now a.from a.share l.t l.out c.loop-t-test.true (l.invariant.1 ∙ c.requires.1) in (
      board-turn a.text.now a.places.now a.from a.share l.t _ a.out.now l.out _ part f.ensures l.invariant.0,
      same_len_mid {X = ℕ} (l.t * a.share) (l.t * a.share + a.share - l.t * a.share) l.out f.new.out f.auto.out ∙ l.invariant.1,
    )

pub returns : goal.returns
returns c =
    let a = c.args in
    let l = c.loop-t in
    let e : l.t ≡ length a.places.now = omega (arith, c.loop-t-test.false, l.auto.t-end) in
    boards-end a.text.now a.places.now a.from a.share l.t a.out.now l.out e c.requires.1 l.invariant.0
