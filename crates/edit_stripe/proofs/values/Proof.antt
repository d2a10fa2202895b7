-- `edit_stripe::values` meets its contract: sums of rows of powers are values.
-- Assumes nothing.
use mathlib.Core.Path.{ap, ◌∙◌}
use mathlib.Core.List.{List, ◌++◌}
use Prim.Native.Nat.{ℕ, ◌*◌, ◌<◌}
use native.Mathlib.Omega.{arith}
use lib.ListN.{drop}
use borrow.Author.Rules.{rules}
use Rattle.lists.proofs.Alls.{all_of}
use Rattle.edit_stripe.proofs.Rows.{values-made}
use Rattle.edit_stripe.proofs.values.Statement.{statement}
use Rattle.edit_stripe.proofs.values.Tie as tie

-- places in the code
abbrev made : tie.After-slice_known-2-1 → tie.After-values_in
made c = c.before.before

abbrev filled : tie.After-values_in → tie.After-fill_rows
filled c = c.before.before.before.before

abbrev st : tie.After-slice_known-1 → tie.Start
st c = c.before.before.before

returns : tie.Need-returns
returns c =
    let m = made c in
    let f = filled m in
    let k = f.before.before in
    let s = st k in
    let a = s.args in
    m.values_in.ensures
    ∙ ap (λ (l : List ℕ). l ++ drop (a.count * 32) a.out.now)
    (values-made a.points.now s.requires.0 a.count a.rows.now _ s.requires.1 s.requires.2
    (all_of (λ b. b < 256) 0 a.rows.now (λ i h. omega (arith, k.before.shared_slice_known-2-1.given i))) f.fill_rows.ensures)

pub values_spec : {M : Type 1} → statement M
values_spec =
    tie.close
    (tie.spec
    (λ c. search rules)
    (λ c κs. search rules)
    (λ c. search rules)
    (λ c κs. search rules)
    (λ c. search rules)
    returns)
