-- `kept_rows::value` meets its contract.
-- Assumes nothing.
use mathlib.Core.Path.{refl, sym, ap, ◌∙◌}
use mathlib.Core.Bool.{Bool}
use Prim.Native.Nat.{◌+◌, ◌-◌, ◌*◌, ◌≤◌}
use native.Mathlib.Omega.{arith}
use borrow.Author.Rules.{rules}
use borrow.Author.Tests.{lt-ltb, le-ltb}
use lib.ListN.{get_or}
use Rattle.lists.specs.Tests.{pick}
use Rattle.gf256.specs.Field.{mul}
use Rattle.polynomial.specs.Polynomial.{sum}
use Rattle.sizes.proofs.Legal.{row_fits}
use Rattle.decode_laws.specs.Steps.{cell, value_by}
use Rattle.kept_rows.proofs.Made.{dot-made}
use Rattle.kept_rows.proofs.value.Statement.{statement}
use Rattle.kept_rows.proofs.value.Tie as tie

-- places in the code
abbrev st-at-shared-slice-known2 : tie.After-shared_slice_known-2-1 → tie.Start
st-at-shared-slice-known2 c = c.before.before

abbrev start-from-after-shared-slice-known3 : tie.After-shared_slice_known-then-o-c-1 → tie.Start
start-from-after-shared-slice-known3 c = st-at-shared-slice-known2 c.before.before

abbrev else1-at-dot : tie.After-dot → tie.Else-o-c
else1-at-dot c = c.before.before

abbrev start-from-after-dot : tie.After-dot → tie.Start
start-from-after-dot c = st-at-shared-slice-known2 (else1-at-dot c).before

-- where the factors end
end : (c : tie.Else-o-c) → let a = (st-at-shared-slice-known2 c.before).args in (a.o - a.c) * 32 + 32 ≤ (a.n - a.c) * 32
end c = row_fits _ _ 32 (omega arith)

mul_at : tie.Need-overflow_mul-at
mul_at c = omega (arith, end c)

add-end : tie.Need-overflow_add-end
add-end c = omega (arith, end c)

part-dot-end : tie.Need-slice_bounds-dot-end
part-dot-end c = omega (arith, end c)

returns : tie.Need-returns-then-o-c
unfolding value_by
returns c =
    let a = (start-from-after-shared-slice-known3 c).args in
    sym (ap (λ (t : Bool). pick t (get_or a.row.now a.o 0) (sum a.m (λ j. mul (cell a.factors.now (a.o - a.c) j) (get_or a.row.now j 0))))
    (lt-ltb a.o a.c c.before.if-o-c.true))

returns-2 : tie.Need-returns-else-o-c
unfolding value_by
returns-2 c =
    let a = (start-from-after-dot c).args in
    dot-made a.c a.o a.m ((a.o - a.c) * 32) a.factors.now a.row.now _ refl (omega (arith, end (else1-at-dot c))) c.dot.ensures
    ∙ sym (ap (λ (t : Bool). pick t (get_or a.row.now a.o 0) (sum a.m (λ j. mul (cell a.factors.now (a.o - a.c) j) (get_or a.row.now j 0))))
    (le-ltb a.o a.c (else1-at-dot c).if-o-c.false))

pub value_spec : {M : Type 1} → statement M
value_spec =
    tie.close
    (tie.spec
    (λ c. search rules)
    mul_at
    add-end
    (λ c. search rules)
    (λ c. search rules)
    part-dot-end
    (λ c κs. search rules)
    returns
    returns-2)
