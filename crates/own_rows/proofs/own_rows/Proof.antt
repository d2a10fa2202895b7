-- `own_rows::own_rows` meets its contract: the callees' contracts, put together.
-- Assumes nothing.
use mathlib.Core.Path.{◌∙◌}
use lib.ListN.{length-set}
use Rattle.own_rows.proofs.Kept.{f-row, g-row}
use borrow.Author.Rules.{rules}
use native.Mathlib.Omega.{arith}
use Rattle.own_rows.proofs.own_rows.Statement.{statement}
use Rattle.own_rows.proofs.own_rows.Tie as tie

-- the places
abbrev copy-at-slice-known4 : tie.After-slice_known-4-1 → tie.After-copy
copy-at-slice-known4 c = c.before.before.before.before.before.before.before.before

abbrev st-at-slice-known4 : tie.After-slice_known-4-1 → tie.Start
st-at-slice-known4 c = (copy-at-slice-known4 c).before.before.before.before.before.before

returns : tie.Need-returns
returns c =
    let a = (st-at-slice-known4 c).args in
    let p = (st-at-slice-known4 c).requires in (
      f-row a.w a.held.now a.f.now _ (omega arith) (omega arith) (copy-at-slice-known4 c).copy.ensures,
      g-row a.d a.w a.held.now a.g.now _ p.0 p.1 p.2 p.4 c.before.before.copy-2.ensures,
    )

pub own_rows_spec : {M : Type 1} → statement M
own_rows_spec =
    tie.close
    (tie.spec
    (λ c. search rules)
    (λ c. search rules)
    (λ c. search rules)
    (λ c. search rules)
    (λ c. search rules)
    (λ c. search rules)
    (λ c κs. search rules)
    (λ c. search rules)
    (λ c. search rules)
    (λ c. search rules)
    (λ c. search rules)
    (λ c. search rules)
    (λ c. search rules)
    (λ c. search rules)
    (λ c. search rules)
    (λ c κs. search rules)
    (λ c. search rules)
    (λ c. c.before.g-1.given.1 ∙ length-set (st-at-slice-known4 c).args.g.now 0 _)
    returns)
