-- `encode_share::share_rows` meets its contract. The callees' contracts, put together.
-- Assumes nothing.
use mathlib.Core.Path.{◌≡◌, refl, ap, ◌∙◌}
use Prim.Native.Nat.{ℕ, ◌+◌, ◌*◌, ◌<◌}
use native.Mathlib.Omega.{arith}
use lib.ListN.{length}
use borrow.Author.Rules.{rules}
use lib.ListN.{get_or}
use Rattle.lists.specs.Lists.{tabulate}
use Rattle.lists.proofs.Pieces.{tabulate-all, length-tabulate}
use Rattle.sizes.proofs.Legal.{legal-facts}
use Rattle.powers.specs.Steps.{power_row, power_rows}
use Rattle.powers.proofs.Turns.{powers-wide}
use Rattle.encode_values.proofs.Sums.{values-sum, tabled-fewer}
use Rattle.row_sums.proofs.Words.{length-row}
use Rattle.encode_share.proofs.Shares.{share-made}
use Rattle.encode_share.proofs.share_rows.Statement.{statement}
use Rattle.encode_share.proofs.share_rows.Tie as tie

-- places in the code
abbrev st-at-f : tie.After-f-1 → tie.Start
st-at-f c = c.before.before.before.before

abbrev st : tie.After-f-2-1 → tie.Start
st c = st-at-f c.before.before

abbrev put-row-at-keep-rows-arg : tie.After-keep_rows-arg-1 → tie.After-put_row
put-row-at-keep-rows-arg c = c.before.before.before.before

abbrev column-sum : tie.After-keep_rows-arg-1 → tie.After-column_sum
column-sum c = (put-row-at-keep-rows-arg c).before.before

abbrev rows_at : tie.After-keep_rows-arg-1 → tie.After-rows_at
rows_at c = (column-sum c).before.before

abbrev st_2 : tie.After-keep_rows-arg-1 → tie.Start
st_2 c = st (column-sum c).before

abbrev put-row : tie.After-slice_known-2-1 → tie.After-put_row
put-row c = put-row-at-keep-rows-arg c.before.before.before

abbrev column-sum-2 : tie.After-slice_known-2-1 → tie.After-column_sum
column-sum-2 c = (put-row c).before.before

abbrev rows-at-2 : tie.After-slice_known-2-1 → tie.After-rows_at
rows-at-2 c = (column-sum-2 c).before.before

abbrev shared-slice-known2 : tie.After-slice_known-2-1 → tie.After-shared_slice_known-2-1
shared-slice-known2 c = (rows-at-2 c).before.before.before

abbrev st_3 : tie.After-slice_known-2-1 → tie.Start
st_3 c = st (column-sum-2 c).before

rows-at-requires : tie.Need-rows_at-requires
rows-at-requires c κs = let f = legal-facts _ (st-at-f c).requires.0 in (omega arith, omega arith, refl)

column-sum-requires : tie.Need-column_sum-requires
column-sum-requires c κs = let f = legal-facts _ (st c).requires.0 in search rules

keep-rows-requires : tie.Need-keep_rows-requires
keep-rows-requires c κs =
    let s = st_2 c in
    let f = legal-facts _ s.requires.0 in (
      s.requires.0,
      s.requires.1,
      omega (arith, f.few, ap length (rows_at c).rows_at.ensures),
      omega (arith, f.few, ap length (put-row-at-keep-rows-arg c).put_row.ensures, length-row (column-sum c).column_sum.result),
      s.requires.4,
    )

returns : tie.Need-returns
returns c =
    λ xs u rest lx lu t ex er.
    let s = st_3 c in
    let a = s.args in
    let z = a.sizes in
    let f = legal-facts _ s.requires.0 in
    let col : ℕ → ℕ = λ j. get_or a.rows.now (j * 32 + a.i) 0 in
    let lr : length (power_rows xs z.d) ≡ z.d = length-tabulate z.d (power_row xs) in
    c.before.before.keep_rows.ensures
    ∙ share-made z f xs u a.rows.now rest _ _ a.i a.x lx lu s.requires.1 ex er (rows-at-2 c).rows_at.ensures
    ((put-row c).put_row.ensures
    ∙ (column-sum-2 c).column_sum.ensures (power_rows xs z.d) (omega arith) (powers-wide xs z.d lx) (tabled-fewer xs a.tables.now z.d (z.d + z.r) (omega arith) t)
    ∙ values-sum (tabulate z.d col) xs z.d lx (omega (arith, length-tabulate z.d col))
    (tabulate-all (λ b. b < 256) z.d col (λ j h. omega (arith, (shared-slice-known2 c).shared_slice_known-2-1.given (j * 32 + a.i)))))

pub share_rows_spec : {M : Type 1} → statement M
share_rows_spec =
    tie.close
    (tie.spec
    (λ c. search rules)
    rows-at-requires
    column-sum-requires
    (λ c. search rules)
    (λ c κs. search rules)
    (λ c. search rules)
    (λ c. search rules)
    keep-rows-requires
    (λ c. search rules)
    returns)
