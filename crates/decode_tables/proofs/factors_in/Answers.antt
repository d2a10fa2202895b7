-- `decode_tables::factors_in` meets its contract.
-- Assumes nothing.
use Rattle.std.proofs.Common.{◌≡◌, sym, ap, ◌∙◌, ℕ, ◌-◌, ◌+◌, ◌*◌, ◌%◌, List, length, arith}
use Rattle.lists.specs.Tests.{below}
use Rattle.lists.specs.Lists.{tabulate, join, fit}
use Rattle.lists.proofs.Pieces.{length-tabulate}
use Rattle.lagrange_rows.specs.Steps.{lagrange_rows}
use Rattle.decode_laws.specs.Steps.{cell}
use Rattle.decode_tables.proofs.Made.{near-below, factors-made}
use Rattle.decode_tables.proofs.factors_in.Goals as goal

pub lagrange_rows-requires : goal.lagrange_rows-requires
lagrange_rows-requires c =
    let a = c.args in
    let p = c.requires in
    let e : c.boards_from.new.out ≡ tabulate a.c (λ t. (a.b + t) % a.sizes.n) =
    c.boards_from.ensures ∙ ap (λ (m : ℕ). tabulate m (λ t. (a.b + t) % a.sizes.n)) p.5 in
    let l = ap length e ∙ length-tabulate a.c (λ t. (a.b + t) % a.sizes.n) in
    (p.0, p.1, ap (below 32) e ∙ near-below a.sizes a.c a.b p.2 p.4, omega arith, p.6 ∙ ap (λ (m : ℕ). m * 32) (sym l))

pub returns : goal.returns
returns c =
    let a = c.args in
    let e : c.boards_from.new.out ≡ tabulate a.c (λ t. (a.b + t) % a.sizes.n) =
    c.boards_from.ensures ∙ ap (λ (m : ℕ). tabulate m (λ t. (a.b + t) % a.sizes.n)) c.requires.5 in
    c.board_factors.ensures
    ∙ ap (λ (rows : List ℕ). join (a.sizes.n - a.c) (λ o. fit 32 (tabulate a.c (λ t. cell rows t ((a.b + (a.c + o)) % a.sizes.n)))))
    (c.lagrange_rows.ensures ∙ ap (lagrange_rows a.points.now) e)
    ∙ factors-made a.sizes a.points.now a.c a.b c.requires.2 c.requires.4 c.requires.3
