-- `encode_values::upper_row` meets its contract. The sums over the coefficients of a and of b are the values of the row.
-- Assumes nothing.
use Rattle.std.proofs.Common.{◌≡◌, ℕ, List, ◌*◌, ◌-◌, ◌<◌, length, drop, rules, length-drop, arith}
use Rattle.lists.proofs.Alls.{all_of}
use Rattle.lists.proofs.Pieces.{part-piece, length-tabulate}
use Rattle.row_sums.proofs.Tables.{wide-drop}
use Rattle.powers.specs.Steps.{power_row, power_rows}
use Rattle.powers.proofs.Turns.{powers-wide}
use Rattle.encode_values.proofs.Sums.{part-behind, part-most, tabled-rest, upper_is}
use Rattle.encode_values.proofs.upper_row.Goals as goal

pub returns : goal.returns
returns c =
    λ xs l t.
    let a = c.args in
    let rows : List (List ℕ) = power_rows xs a.w in
    let lr : length rows ≡ a.w = length-tabulate a.w (power_row xs) in
    upper_is xs a.u.now a.k a.w a.i _ _ _ _ _ (all_of (λ b. b < 256) 0 a.u.now (λ i h. omega (arith, c.type_inv.u i)))
    l c.requires.0 c.requires.1 c.requires.2 c.requires.4
    (part-piece a.k a.i a.u.now) (part-behind (a.k * a.k) (a.w - a.k) a.i a.u.now)
    (c.row_sum-a.ensures rows (search rules) (powers-wide xs a.w l) t)
    (c.row_sum-b.ensures (drop a.k rows) (omega (arith, part-most (a.k * a.k) (a.w - a.k) a.i a.u.now, length-drop a.k rows, lr))
    (wide-drop a.k rows (powers-wide xs a.w l)) (tabled-rest rows a.tables.now a.k t))
    c.plus.ensures
