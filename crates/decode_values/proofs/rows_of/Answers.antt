-- `decode_values::rows_of` meets its contract: the rows so far, before what was there.
-- Assumes nothing.
use Rattle.std.proofs.Common.{◌≡◌, ap, ◌∙◌, ◌+◌, ◌-◌, ◌++◌, ℕ, List, length, get_or, take, drop, arith, length-take, length-drop}
use Rattle.lists.proofs.Alls.{all-at}
use Rattle.lists.proofs.Pieces.{length-fit}
use Rattle.decode_laws.specs.Steps.{f_row, g_row}
use Rattle.decode_laws.proofs.Loops.{join-loop, join-end}
use Rattle.decode_values.proofs.rows_of.Goals as goal

pub board_rows-requires : goal.board_rows-requires
board_rows-requires c =
    let p = c.requires in
    let q = all-at _ 0 c.args.starts.now p.5 c.loop-t.t c.loop-t-test.true in (
      p.0,
      p.1,
      p.2,
      p.3,
      simp (length-take, length-drop) (omega (arith, q)),
      simp (length-take, length-drop) (omega (arith, q)),
      simp (length-take, length-drop) (omega (arith, q)),
    )

pub loop-t-preserved : goal.loop-t-preserved
loop-t-preserved c =
    let a = c.args in
    let l = c.loop-t in
    let kept : ℕ → List ℕ = λ t. take (a.w + (a.d - 1)) (drop (get_or a.starts.now t 0 + a.at) a.bytes.now) in
    let from : ℕ = get_or a.starts.now l.t 0 + a.at in
    let e : from + (a.w + (a.d - 1)) - from ≡ a.w + (a.d - 1) = omega arith in record {
      fs =
          join-loop (λ t. f_row a.w (kept t)) 32 l.t a.fs.now l.fs _ (λ i h. length-fit 32 (take a.w (kept i)))
          (c.board_rows.ensures.0 ∙ ap (λ (m : ℕ). f_row a.w (take m (drop from a.bytes.now))) e) l.invariant.fs;
      gs =
          join-loop (λ t. g_row a.w (kept t)) 32 l.t a.gs.now l.gs _ (λ i h. length-fit 32 (take 1 (kept i) ++ drop a.w (kept i)))
          (c.board_rows.ensures.1 ∙ ap (λ (m : ℕ). g_row a.w (take m (drop from a.bytes.now))) e) l.invariant.gs;
    }

pub returns : goal.returns
returns c =
    let a = c.args in
    let l = c.loop-t in (
      join-end _ 32 l.t (length a.starts.now) a.fs.now l.fs (omega arith) c.requires.6 l.invariant.fs,
      join-end _ 32 l.t (length a.starts.now) a.gs.now l.gs (omega arith) c.requires.7 l.invariant.gs,
    )
