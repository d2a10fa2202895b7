-- `setup_rows::row_tables` meets its contract: the callees' contracts, put together.
-- Assumes nothing.
use Rattle.mbcr.specs.Share.{points}
use Rattle.setup_rows.proofs.Parts.{part-there}
use Rattle.setup_rows.proofs.Rows.{tables-put}
use mathlib.Core.Path.{◌≡◌, ◌∙◌}
use Prim.Native.Nat.{ℕ, ◌*◌}
use native.Mathlib.Nat.{sub-zero}
use native.Mathlib.Omega.{arith}
use lib.ListN.{length, length-take, length-append}
use borrow.Rule.Slice.PartMut.{mid_len}
use borrow.Author.Rules.{rules}
use Rattle.setup_rows.proofs.row_tables.Statement.{statement}
use Rattle.setup_rows.proofs.row_tables.Tie as tie

-- the rows
made-long : (c : tie.After-rows_at) → length c.rows_at.new.rows ≡ c.args.d * 32
made-long c = c.rows_at.auto.rows ∙ (mid_len {X = ℕ} 0 _ _ (omega (arith, c.requires.4)) ∙ sub-zero _)

rows-at-requires : tie.Need-rows_at-requires
rows-at-requires c κs =
    (c.requires.0, c.requires.1, c.requires.2, c.requires.3, c.requires.4, mid_len {X = ℕ} 0 _ _ (omega (arith, c.requires.4)) ∙ sub-zero _)

part-fill-tables-end : tie.Need-slice_bounds-fill_tables-end
part-fill-tables-end c = simp length-append (omega (arith, made-long c.before, c.requires.4))

fill-tables-requires : tie.Need-fill_tables-requires
fill-tables-requires c κs =
    (c.requires.4, simp (length-take, length-append) (omega (arith, made-long c.before.before.before)), part-there c.args.at _ c.args.out.now c.requires.5)

returns : tie.Need-returns
returns c =
    let y = c.fill_tables in
    tables-put c.args.at c.args.d (points c.args.points.now c.args.boards.now) _ _ c.args.out.now _
    c.rows_at.ensures (made-long c.before.before.before.before.before.before) y.ensures (y.auto.tables ∙ part-there c.args.at (c.args.d * 512) c.args.out.now c.requires.5)

pub row_tables_spec : {M : Type 1} → statement M
row_tables_spec =
    tie.close
    (tie.spec
    (λ c. search rules)
    (λ c. search rules)
    (λ c. search rules)
    (λ c. search rules)
    (λ c. search rules)
    (λ c. search rules)
    rows-at-requires
    (λ c. search rules)
    (λ c. search rules)
    part-fill-tables-end
    (λ c. search rules)
    (λ c. search rules)
    (λ c. search rules)
    fill-tables-requires
    (λ c. search rules)
    returns)
