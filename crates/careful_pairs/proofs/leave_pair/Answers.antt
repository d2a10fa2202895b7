-- `careful_pairs::leave_pair` meets its contract.
-- Assumes nothing.
use Rattle.std.proofs.Common.{ℕ, ◌≡◌, length, length-set, get_or, ap, ◌∙◌, arith}
use Rattle.lists.proofs.Pieces.{fill-loop, fill_end, fill-all}
use Rattle.careful_pairs.proofs.Pairs.{place_of, place_is, place-low, pair_is}
use Rattle.careful_pairs.proofs.leave_pair.Goals as goal

pub bounds-boards-place : goal.bounds-boards-place
bounds-boards-place c =
    let a = c.args in
    place-low a.p c.loop-t.t c.place.result (length a.boards.now) c.place.ensures (omega (arith, c.loop-t-test.true, c.requires.2))

pub loop-t-preserved : goal.loop-t-preserved
loop-t-preserved c =
    let l = c.loop-t in
    let a = c.args in (
      fill-loop (λ i. get_or a.boards.now (place_of a.p i) 0) a.out.now l.out l.t _ (omega (arith, c.loop-t-test.true))
          (ap (λ (i : ℕ). get_or a.boards.now i 0) (place_is a.p l.t c.place.result c.place.ensures)) l.invariant.0,
      length-set l.out l.t _ ∙ l.invariant.1,
    )

pub returns : goal.returns
returns c =
    let l = c.loop-t in
    let a = c.args in
    let f : ℕ → ℕ = λ i. get_or a.boards.now (place_of a.p i) 0 in
    let e : l.t ≡ length a.out.now = omega (arith, c.loop-t-test.false, l.auto.t-end, l.invariant.1) in
    fill_end f a.out.now l.out l.t (length a.out.now) e l.invariant.0
    ∙ fill-all f a.out.now (length a.out.now) (omega arith)
    ∙ pair_is a.p a.boards.now a.out.now c.requires.0 c.requires.2
