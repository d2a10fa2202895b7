-- `edit_grid::upper_row` meets its contract.
-- Assumes nothing.
use mathlib.Core.Path.{◌≡◌, ◌∙◌}
use Prim.Native.Nat.{◌+◌, ◌-◌, ◌*◌, ◌≤◌}
use native.Mathlib.Nat.{sub-zero}
use native.Mathlib.Omega.{arith}
use lib.ListN.{drop}
use borrow.Author.Rules.{rules}
use Rattle.lists.specs.Lists.{piece}
use Rattle.lists.proofs.Pieces.{length-piece}
use Rattle.row_dots.proofs.Rows.{copied}
use Rattle.encode_values.proofs.Sums.{run_end, part-behind}
use Rattle.edit_grid.proofs.Rows.{upper-made}
use Rattle.edit_grid.proofs.upper_row.Statement.{statement}
use Rattle.edit_grid.proofs.upper_row.Tie as tie

-- places in the code
abbrev st : tie.After-slice_known-1 → tie.Start
st c = c.before.before

abbrev copy-at-padded : tie.After-slice_known-2-1 → tie.After-copy
copy-at-padded c = c.before.before

abbrev st-at-copy : tie.After-copy → tie.Start
st-at-copy c = st c.before.before.before

abbrev padded : tie.After-slice_known-3-1 → tie.After-padded
padded c = c.before.before

-- where both parts of the row end
ends : (c : tie.Start) → let a = c.args in ((a.i * a.k + a.k ≤ a.k * a.k) × (a.k * a.k ≤ 1024)) × ((a.i * a.m + a.m ≤ a.k * a.m) × (a.k * a.m ≤ 1024))
ends c =
    let a = c.args in
    let p = c.requires in
    (run_end a.i a.k a.k p.0 (omega (arith, p.1)) (omega (arith, p.1)), run_end a.i a.k a.m p.0 (omega (arith, p.1)) (omega (arith, p.1)))

abbrev slice-known2-at-padded : tie.After-padded → tie.After-slice_known-2-1
slice-known2-at-padded c = c.before.before.before

returns : tie.Need-returns
unfolding piece
returns c =
    let p = padded c in
    let k = copy-at-padded (slice-known2-at-padded p) in
    let s = st-at-copy k in
    let a = s.args in
    let e = ends s in
    let part : a.i * a.k + a.k - a.i * a.k ≡ a.k = omega arith in
    upper-made a.k a.out.now (piece a.k a.i a.u.now) (piece a.m a.i (drop (a.k * a.k) a.u.now)) _ _ _ s.requires.3 (omega (arith, s.requires.1))
    (length-piece a.k a.i a.u.now (omega (arith, e, s.requires.2)))
    (copied (a.k - 0) 0 (a.i * a.k + a.k - a.i * a.k) (a.i * a.k) a.k a.out.now a.u.now _ (sub-zero a.k) part (omega (arith, s.requires.1, s.requires.3)) k.copy.ensures)
    (part-behind (a.k * a.k) a.m a.i a.u.now) p.padded.ensures

pub upper_row_spec : {M : Type 1} → statement M
upper_row_spec =
    tie.close
    (tie.spec
    (λ c. record { fits = omega (arith, ends (st c)) })
    (λ c. record { fits = omega (arith, ends (st c)) })
    (λ c. record { fits = omega (arith, ends (st c)) })
    (λ c. record { fits = omega (arith, ends (st c)) })
    (λ c. record { fits = omega (arith, ends (st c)) })
    (λ c. record { fits = omega (arith, ends (st c)) })
    (λ c. search rules)
    (λ c. search rules)
    (λ c. omega (arith, ends (st c), (st c).requires.2))
    (λ c. search rules)
    (λ c. search rules)
    (λ c. search rules)
    (λ c κs. omega arith)
    (λ c. search rules)
    (λ c. search rules)
    (λ c. let s = st-at-copy (copy-at-padded c) in omega (arith, ends s, s.requires.2))
    (λ c. omega (arith, (st-at-copy (copy-at-padded c.before)).requires))
    (λ c. omega (arith, (st-at-copy (copy-at-padded c.before)).requires))
    (λ c. omega arith)
    (λ c κs. omega arith)
    (λ c. c.before.out-2-1.given.1 ∙ (slice-known2-at-padded (padded c)).before.out-1.given.1)
    returns)
