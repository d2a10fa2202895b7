-- `decode_values::values` meets its contract: the boards so far, before what was there.
-- Assumes nothing.
use Rattle.std.proofs.Common.{ap₂, ◌∙◌, ◌-◌, ◌*◌, ℕ, List, length, get_or, drop, arith, length-take, length-drop}
use Rattle.lists.specs.Lists.{tabulate, piece}
use Rattle.lists.proofs.Pieces.{length-tabulate, part-piece}
use Rattle.sizes.proofs.Legal.{row_fits}
use Rattle.decode_laws.specs.Steps.{offset, value_by, values_of}
use Rattle.decode_laws.proofs.Loops.{join-loop, join-end}
use Rattle.kept_rows.proofs.Made.{board-below, rest_part}
use Rattle.decode_values.proofs.values.Goals as goal

pub board_values-requires : goal.board_values-requires
board_values-requires c =
    let a = c.args in
    let p = c.requires in
    let e = row_fits _ _ ((a.n - a.c) * 32) c.loop-t-test.true in
    let f = row_fits _ _ (length a.targets.now) c.loop-t-test.true in (
      p.0,
      p.1,
      p.2,
      board-below _ a.boards.now c.loop-t.t p.4 c.loop-t-test.true,
      p.6,
      simp (length-take, length-drop) (omega (arith, e)),
      simp (length-take, length-drop) (omega (arith, e)),
      simp (length-take, length-drop) (omega (arith, f)),
    )

pub loop-t-preserved : goal.loop-t-preserved
loop-t-preserved c =
    let a = c.args in
    let l = c.loop-t in
    let q : ℕ = length a.targets.now in
    let value : ℕ → List ℕ → List ℕ → List ℕ = λ t f r. tabulate q (λ i. value_by a.c (offset a.n (get_or a.boards.now t 0) (get_or a.targets.now i 0)) a.m f r) in
    join-loop (λ t. value t (drop (t * ((a.n - a.c) * 32)) a.factors.now) (piece 32 t a.rows.now)) q l.t a.out.now l.out _ (λ t h. length-tabulate q _)
    (c.board_values.ensures ∙ ap₂ (value l.t) (rest_part (l.t * ((a.n - a.c) * 32)) a.factors.now) (part-piece 32 l.t a.rows.now)) l.invariant

pub returns : goal.returns
unfolding values_of
returns c =
    let a = c.args in
    join-end _ (length a.targets.now) c.loop-t.t (length a.boards.now) a.out.now c.loop-t.out (omega arith) c.requires.9 c.loop-t.invariant
