-- `kept_rows::board_rows` meets its contract.
-- Assumes nothing.
use mathlib.Core.Path.{sym, ap, ◌∙◌}
use native.Mathlib.Omega.{arith}
use borrow.Author.Rules.{rules}
use mathlib.Core.List.{◌++◌}
use lib.ListN.{length, take, drop, length-set, length-take, length-drop}
use Rattle.lists.proofs.Pieces.{length-fit}
use Rattle.kept_rows.proofs.Made.{f-made, g-made}
use Rattle.kept_rows.proofs.board_rows.Statement.{statement}
use Rattle.kept_rows.proofs.board_rows.Tie as tie

-- places in the code
abbrev padded2-at-slice-known4 : tie.After-slice_known-4-1 → tie.After-padded-2
padded2-at-slice-known4 c = c.before.before

abbrev after-padded-from-after-slice-known4 : tie.After-slice_known-4-1 → tie.After-padded
after-padded-from-after-slice-known4 c = (padded2-at-slice-known4 c).before.before.before.before.before.before

abbrev start-from-after-slice-known4 : tie.After-slice_known-4-1 → tie.Start
start-from-after-slice-known4 c = (after-padded-from-after-slice-known4 c).before.before.before.before.before.before

part-padded-end-3 : tie.Need-slice_bounds-padded-end-3
part-padded-end-3 c = simp length-set (search rules)

padded-requires-2 : tie.Need-padded-requires-2
padded-requires-2 c κs = simp (length-set, length-take, length-drop) (omega arith)

same-length-2 : tie.Need-shape_of-g
same-length-2 c =
    let a = (start-from-after-slice-known4 c).args in
    ap length (g-made a.w a.d a.held.now a.g.now _ (start-from-after-slice-known4 c).requires.6 (start-from-after-slice-known4 c).requires.2
    (start-from-after-slice-known4 c).requires.4 (padded2-at-slice-known4 c).padded-2.ensures) ∙ length-fit 32 (take 1 a.held.now ++ drop a.w a.held.now) ∙ sym
    (start-from-after-slice-known4 c).requires.6

returns : tie.Need-returns
returns c =
    let a = (start-from-after-slice-known4 c).args in (
      f-made a.w a.held.now a.f.now _ (start-from-after-slice-known4 c).requires.5 (after-padded-from-after-slice-known4 c).padded.ensures,
      g-made a.w a.d a.held.now a.g.now _ (start-from-after-slice-known4 c).requires.6 (start-from-after-slice-known4 c).requires.2 (start-from-after-slice-known4 c).requires.4
          (padded2-at-slice-known4 c).padded-2.ensures,
    )

pub board_rows_spec : {M : Type 1} → statement M
board_rows_spec =
    tie.close
    (tie.spec
    (λ c. search rules)
    (λ c. search rules)
    (λ c. search rules)
    (λ c κs. search rules)
    (λ c. search rules)
    (λ c. search rules)
    (λ c. search rules)
    (λ c. search rules)
    (λ c. search rules)
    (λ c. search rules)
    (λ c. search rules)
    part-padded-end-3
    padded-requires-2
    (λ c. search rules)
    same-length-2
    returns)
