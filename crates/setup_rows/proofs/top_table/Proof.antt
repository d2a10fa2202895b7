-- `setup_rows::top_table` meets its contract: the callees' contracts, put together.
-- Assumes nothing.
use Rattle.setup_rows.proofs.Parts.{part-there}
use Rattle.setup_rows.proofs.Rows.{tops-put}
use mathlib.Core.Path.{◌≡◌, ◌∙◌}
use Prim.Native.Nat.{ℕ, ◌*◌}
use native.Mathlib.Nat.{sub-zero}
use native.Mathlib.Omega.{arith}
use lib.ListN.{length, length-take, length-append}
use borrow.Rule.Slice.PartMut.{mid_len}
use borrow.Author.Rules.{rules}
use Rattle.setup_rows.proofs.top_table.Statement.{statement}
use Rattle.setup_rows.proofs.top_table.Tie as tie

-- the rows
made-long : (c : tie.After-rows_at) → length c.rows_at.new.rows ≡ length c.args.boards.now * 32
made-long c = c.rows_at.auto.rows ∙ (mid_len {X = ℕ} 0 _ _ (omega (arith, c.requires.3)) ∙ sub-zero _)

rows-at-requires : tie.Need-rows_at-requires
rows-at-requires c κs =
    (c.requires.0, c.requires.1, c.requires.2, c.requires.3, c.requires.3, mid_len {X = ℕ} 0 _ _ (omega (arith, c.requires.3)) ∙ sub-zero _)

part-top-rows-end : tie.Need-slice_bounds-top_rows-end
part-top-rows-end c = simp length-append (omega (arith, made-long c.before, c.requires.3))

top-rows-requires : tie.Need-top_rows-requires
top-rows-requires c κs = (
  omega (arith, c.requires.3, c.requires.4),
  c.requires.3,
  simp (length-take, length-append) (omega (arith, made-long c.before.before.before)),
  part-there c.args.at _ c.args.out.now c.requires.5,
)

returns : tie.Need-returns
returns c =
    let y = c.top_rows in
    tops-put c.args.at c.args.k c.args.points.now c.args.boards.now _ _ c.args.out.now _ c.requires.3
    c.rows_at.ensures (made-long c.before.before.before.before.before.before) y.ensures (y.auto.out ∙ part-there c.args.at _ c.args.out.now c.requires.5)

pub top_table_spec : {M : Type 1} → statement M
top_table_spec =
    tie.close
    (tie.spec
    (λ c. search rules)
    (λ c. search rules)
    (λ c. search rules)
    (λ c. search rules)
    (λ c. search rules)
    (λ c. search rules)
    (λ c. search rules)
    rows-at-requires
    (λ c. search rules)
    (λ c. search rules)
    part-top-rows-end
    (λ c. search rules)
    (λ c. search rules)
    (λ c. search rules)
    top-rows-requires
    (λ c. search rules)
    returns)
