-- `edit_stripe::add_stripe` meets its contract. The callees' contracts, put together.
-- Assumes nothing.
use mathlib.Core.Path.{◌∙◌}
use Prim.Native.Nat.{◌*◌}
use native.Mathlib.Omega.{arith}
use borrow.Author.Rules.{rules}
use Rattle.sizes.specs.Sizing.{α}
use Rattle.sizes.proofs.Legal.{Legal, legal-facts}
use Rattle.edit_put.proofs.Added.{added-same}
use Rattle.edit_stripe.proofs.add_stripe.Statement.{statement}
use Rattle.edit_stripe.proofs.add_stripe.Tie as tie

-- places in the code
abbrev start-of-struct_known-1 : tie.After-struct_known-1 → tie.Start
start-of-struct_known-1 c = c.before.before.before.before.before

abbrev start-of-struct_known-2-1 : tie.After-struct_known-2-1 → tie.Start
start-of-struct_known-2-1 c = start-of-struct_known-1 c.before

abbrev start-of-add_boards-arg-1 : tie.After-add_boards-arg-1 → tie.Start
start-of-add_boards-arg-1 c = start-of-struct_known-2-1 c.before.before.before.before.before

facts : (c : tie.Start) → Legal c.args.sizes
facts c = legal-facts _ c.requires.0

add-boards-requires : tie.Need-add_boards-requires
add-boards-requires c κs =
    let p = c.requires in
    (p.0, p.2, p.3, omega (arith, (facts (start-of-add_boards-arg-1 c)).few, c.keep_values.auto.u, p.4), p.5, p.6, p.7)

returns : tie.Need-returns
returns c =
    let a = c.args in
    let z = a.sizes in
    c.add_boards.ensures ∙ added-same (α z) a.part (a.s * α z) z.n _ _ a.boards.now a.area.now c.requires.5 c.keep_values.ensures

pub add_stripe_spec : {M : Type 1} → statement M
add_stripe_spec =
    tie.close
    (tie.spec
    (λ c. omega (arith, facts (start-of-struct_known-1 c)))
    (λ c. omega (arith, facts (start-of-struct_known-2-1 c)))
    (λ c. omega (arith, facts (start-of-struct_known-2-1 c)))
    (λ c. omega (arith, c.requires.2, c.requires.3))
    (λ c κs. (c.requires.0, c.requires.1, c.requires.4))
    add-boards-requires
    (λ c. search rules)
    (λ c. search rules)
    returns)
