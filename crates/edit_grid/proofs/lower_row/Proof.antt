-- `edit_grid::lower_row` meets its contract.
-- Assumes nothing.
use mathlib.Core.Path.{ap₂, ◌∙◌}
use mathlib.Core.List.{List}
use Prim.Native.Nat.{ℕ, ◌+◌, ◌*◌, ◌≤◌}
use native.Mathlib.Omega.{arith}
use borrow.Author.Rules.{rules}
use Rattle.lists.specs.Lists.{fit}
use Rattle.encode_values.proofs.Sums.{run_end, part-behind}
use Rattle.edit_grid.proofs.lower_row.Statement.{statement}
use Rattle.edit_grid.proofs.lower_row.Tie as tie

-- places in the code
abbrev st : tie.After-slice_known-1 → tie.Start
st c = c.before.before

abbrev padded : tie.After-slice_known-2-1 → tie.After-padded
padded c = c.before.before

-- where the row ends
end : (c : tie.Start) → let a = c.args in (a.i * a.k + a.k ≤ a.m * a.k) × (a.m * a.k ≤ 1024)
end c = let a = c.args in run_end a.i a.m a.k c.requires.0 c.requires.1 c.requires.2

returns : tie.Need-returns
returns c =
    let s = st (padded c).before.before.before in
    let a = s.args in
    (padded c).padded.ensures ∙ ap₂ {C = List ℕ} (λ (n : ℕ) (l : List ℕ). fit n l) s.requires.5 (part-behind a.low a.k a.i a.u.now)

pub lower_row_spec : {M : Type 1} → statement M
lower_row_spec =
    tie.close
    (tie.spec
    (λ c. record { fits = omega (arith, end (st c)) })
    (λ c. record { fits = omega (arith, end (st c), (st c).requires.3) })
    (λ c. record { fits = omega (arith, end (st c), (st c).requires.3) })
    (λ c. search rules)
    (λ c. search rules)
    (λ c. omega (arith, end (st c), (st c).requires.4))
    (λ c κs. search rules)
    (λ c. search rules)
    returns)
