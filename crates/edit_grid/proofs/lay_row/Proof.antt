-- `edit_grid::lay_row` meets its contract: a row of either group.
-- Assumes nothing.
use mathlib.Core.Path.{◌≡◌, sym, ap, ◌∙◌}
use mathlib.Core.List.{[]}
use Prim.Native.Nat.{ℕ, ◌+◌, ◌-◌, ◌*◌, ◌<◌}
use native.Mathlib.Omega.{arith}
use lib.ListN.{get_or}
use borrow.Author.Rules.{rules}
use Rattle.lists.specs.Lists.{fit}
use Rattle.sizes.proofs.Legal.{Legal, legal-facts, B-parts, B-most}
use Rattle.mbcr.specs.Share.{grid}
use Rattle.mbcr.proofs.Shape as shape
use Rattle.edit_grid.proofs.lay_row.Statement.{statement}
use Rattle.edit_grid.proofs.lay_row.Tie as tie

facts : (c : tie.Start) → Legal c.args.sizes
facts c = legal-facts _ c.requires.0

-- the rows behind the first k
least : (c : tie.Start) → let z = c.args.sizes in
    (z.k * z.k < 18446744073709551616) × (z.k * (z.d + z.r - z.k) < 18446744073709551616) × (z.k * z.k + z.k * (z.d + z.r - z.k) < 18446744073709551616)
least c = let f = facts c in let p = B-parts _ f in let b = B-most _ f in (omega (arith, p, b), omega (arith, p, b), omega (arith, p, b))

upper-row-requires : tie.Need-upper_row-requires
upper-row-requires c κs =
    let f = facts c.before.before.before.before.before in
    (c.if-i-k.true, omega (arith, f.read-helpers, f.enough, f.few), omega (arith, B-parts _ f, c.requires.2), c.requires.3)

returns : tie.Need-returns-then-i-k
returns c =
    c.upper_row.ensures ∙ ap (fit 32) (sym (shape.upper-row c.args.sizes (facts c.before.before.before.before.before.before.before.before) c.args.u.now c.requires.2 c.args.i c.if-i-k.true))

lower-row-requires : tie.Need-lower_row-requires
lower-row-requires c κs =
    let f = facts c.before.before.before.before.before.before in
    let h = c.if-i-k.false in (
      omega (arith, h, c.requires.1),
      omega (arith, f.enough, f.few),
      omega (arith, f.read-helpers, f.enough, f.few),
      omega (arith, B-parts _ f, B-most _ f),
      omega (arith, B-parts _ f, c.requires.2),
      c.requires.3,
    )

returns-2 : tie.Need-returns
returns-2 c =
    let z = c.args.sizes in
    let u = c.args.u.now in
    let i = c.args.i in
    let e : z.k + (i - z.k) ≡ i = omega (arith, c.if-i-k.false) in
    c.lower_row.ensures
    ∙ ap (fit 32) (sym (shape.lower-row z (facts c.before.before.before.before.before.before.before.before.before) u c.requires.2 (i - z.k) (omega (arith, c.if-i-k.false, c.requires.1))) ∙ ap (λ (j : ℕ). get_or (grid z u) j []) e)

pub lay_row_spec : {M : Type 1} → statement M
lay_row_spec =
    tie.close
    (tie.spec
    (λ c. omega (arith, facts c.before.before.before))
    (λ c. omega (arith, facts c.before.before.before))
    upper-row-requires
    (λ c. search rules)
    returns
    (λ c. search rules)
    (λ c. record { fits = (least c.before.before.before.before.before).0 })
    (λ c. record { fits = (least c.before.before.before.before.before).1 })
    (λ c. record { fits = (least c.before.before.before.before.before).2 })
    lower-row-requires
    (λ c. search rules)
    returns-2)
