-- `decode_setup::fill` meets its contract: the callees' contracts, put together.
-- Assumes nothing.
use Rattle.lists.proofs.Boards.{below_all}
use Rattle.sizes.proofs.Legal.{Legal, legal-facts}
use Rattle.setup_rows.proofs.Near.{below-32}
use Rattle.decode_setup.proofs.Placed.{f-room, g_room, tables-made}
use mathlib.Core.Path.{◌≡◌, refl, ◌∙◌}
use mathlib.Core.List.{List}
use Prim.Native.Nat.{ℕ}
use native.Mathlib.Omega.{arith}
use lib.ListN.{length}
use borrow.Author.Rules.{rules}
use Rattle.decode_setup.proofs.fill.Statement.{statement}
use Rattle.decode_setup.proofs.fill.Tie as tie

-- the sizes are legal
facts : (c : tie.Start) → Legal c.args.sizes
facts c = legal-facts _ c.requires.0.sized

-- the tables after each step, as long as before
abbrev y₀ : tie.After-factors_at → List ℕ
y₀ c = c.factors_at.new.out

abbrev y₁ : tie.After-factors_at-2 → List ℕ
y₁ c = c.factors_at-2.new.out

abbrev y₂ : tie.After-unit_tables → List ℕ
y₂ c = c.unit_tables.new.out

abbrev y₃ : tie.After-row_tables → List ℕ
y₃ c = c.row_tables.new.out

abbrev y₄ : tie.After-tops_at → List ℕ
y₄ c = c.tops_at.new.out

long₀ : (c : tie.After-factors_at) → length (y₀ c) ≡ 49152
long₀ c = c.factors_at.auto.out ∙ c.requires.3

long₁ : (c : tie.After-factors_at-2) → length (y₁ c) ≡ 49152
long₁ c = c.factors_at-2.auto.out ∙ long₀ c.before.before.before.before

long₂ : (c : tie.After-unit_tables) → length (y₂ c) ≡ 49152
long₂ c = c.unit_tables.auto.out ∙ long₁ c.before.before.before.before

long₃ : (c : tie.After-row_tables) → length (y₃ c) ≡ 49152
long₃ c = c.row_tables.auto.out ∙ long₂ c.before.before.before.before

add-w : tie.Need-overflow_add-w
add-w c = let f = facts c.before.before.before.before.before in omega (arith, f.enough, f.few)

factors-at-requires : tie.Need-factors_at-requires
factors-at-requires c κs =
    let a = c.requires.0 in
    let f = facts c.before.before.before.before.before.before in (
      c.requires.1,
      c.requires.2,
      f.few,
      f.enough,
      omega (arith, a.counted, f.read-helpers, f.enough, f.few),
      a.known,
      omega (arith, f-room c.args.sizes f c.args.boards.now a.counted, c.requires.3),
    )

factors-at-requires-2 : tie.Need-factors_at-requires-2
factors-at-requires-2 c κs =
    let a = c.requires.0 in
    let f = facts c.before.before.before.before.before.before.before.before.before.before in (
      c.requires.1,
      c.requires.2,
      f.few,
      omega (arith, f.enough),
      omega (arith, a.counted, f.read-helpers, f.enough, f.few),
      a.known,
      omega (arith, g_room c.args.sizes f c.args.boards.now a.counted, long₀ c.before.before.before),
    )

unit-tables-requires : tie.Need-unit_tables-requires
unit-tables-requires c κs =
    let a = c.requires.0 in
    let f = facts c.before.before.before.before.before.before.before.before.before.before.before.before.before.before in
    (a.sized, a.counted, a.known, c.requires.1, c.requires.2, omega (arith, f.enough, f.few, long₁ c.before.before.before))

row-tables-requires : tie.Need-row_tables-requires
row-tables-requires c κs =
    let a = c.requires.0 in
    let z = c.args.sizes in
    let f = facts c.before.before.before.before.before.before.before.before.before.before.before.before.before.before.before.before.before.before in (
      c.requires.1,
      c.requires.2,
      below-32 z c.args.boards.now f.few (below_all z.n c.args.boards.now a.known),
      omega (arith, a.counted, f.read-helpers, f.enough, f.few),
      omega (arith, f.enough, f.few),
      omega (arith, f.some-fresh, f.enough, f.few, long₂ c.before.before.before),
    )

tops-at-requires : tie.Need-tops_at-requires
tops-at-requires c κs =
    let a = c.requires.0 in
    (a.sized, a.counted, a.known, c.requires.1, c.requires.2, omega (arith, long₃ c.before.before.before))

returns : tie.Need-returns
returns c =
    tables-made c.args.sizes (facts c.before.before.before.before.before.before.before.before.before.before.before.before.before.before.before.before.before.before.before.before.before.before.before.before.before) c.args.points.now c.args.boards.now c.args.tables.now c.requires.3 c.requires.0.counted
    _ _ _ _ (y₀ c.before.before.before.before.before.before.before.before.before.before.before.before.before.before.before.before.before.before) (y₁ c.before.before.before.before.before.before.before.before.before.before.before.before.before.before) (y₂ c.before.before.before.before.before.before.before.before.before.before) (y₃ c.before.before.before.before.before.before) (y₄ c.before.before)
    c.factors_at.ensures c.factors_at-2.ensures c.unit_tables.ensures c.row_tables.ensures c.tops_at.ensures refl refl refl refl

pub fill_spec : {M : Type 1} → statement M
fill_spec =
    tie.close
    (tie.spec
    add-w
    factors-at-requires
    factors-at-requires-2
    unit-tables-requires
    row-tables-requires
    tops-at-requires
    (λ c. search rules)
    returns)
