-- `edit_stripes::edit_reached` meets its contract. The callees' contracts, put together.
-- Assumes nothing.
use mathlib.Core.Path.{◌≡◌, sym, ap, ap₂, ◌∙◌}
use mathlib.Core.List.{List}
use Prim.Native.Nat.{ℕ, ◌+◌, ◌-◌, ◌/◌, ◌≤◌}
use native.Mathlib.Omega.{arith}
use lib.ListN.{length}
use borrow.Author.Rules.{rules}
use Rattle.lists.specs.Tests.{pick}
use Rattle.sizes.specs.Sizing.{B, stripes}
use Rattle.sizes.proofs.Legal.{Legal, legal-facts, B-pos, B-most}
use Rattle.edit_laws.specs.Steps.{stripes_edited}
use Rattle.edit_stripes.proofs.Reach.{end}
use Rattle.edit_stripes.proofs.edit_reached.Statement.{statement}
use Rattle.edit_stripes.proofs.edit_reached.Tie as tie

-- places in the code
abbrev st : tie.After-stripe_len-b → tie.Start
st c = c.before.before.before.before.before.before.before.before

facts : (c : tie.Start) → Legal c.args.sizes
facts c = legal-facts _ c.requires.0.sized

-- the length of a stripe
long : (c : tie.After-stripe_len-b) → c.stripe_len-b.result ≡ B (st c).args.sizes
long c = c.stripe_len-b.ensures ∙ ap (λ b. pick b (B (st c).args.sizes) 0) (st c).requires.0.sized

some : (c : tie.After-stripe_len-b) → 1 ≤ c.stripe_len-b.result
some c = omega (arith, long c, B-pos _ (facts (st c)))

-- the file is at most 4,096 stripes
ends : (c : tie.Start) → c.args.offset + length c.args.bytes.now ≤ 4063232
ends c = omega (arith, c.requires.3, B-most _ (facts c))

-- from which stripe on, and how many
reached : (c : tie.After-stripe_count-stop) → let k = c.before in let a = (st k).args in let z = a.sizes in
    stripes_edited z a.points.now a.boards.now a.starts.now a.part a.on.now a.offset a.bytes.now (a.offset / k.stripe_len-b.result)
    (c.stripe_count-stop.result - a.offset / k.stripe_len-b.result) a.area.now
    ≡ stripes_edited z a.points.now a.boards.now a.starts.now a.part a.on.now a.offset a.bytes.now (a.offset / B z)
    (stripes z (a.offset + length a.bytes.now) - a.offset / B z) a.area.now
reached c =
    let k = c.before in
    let a = (st k).args in
    let z = a.sizes in
    ap₂ {C = List ℕ} (λ (b m : ℕ).
    stripes_edited z a.points.now a.boards.now a.starts.now a.part a.on.now a.offset a.bytes.now (a.offset / b) (m - a.offset / b) a.area.now)
    (long k) c.stripe_count-stop.ensures.0

edit-stripes-requires : tie.Need-edit_stripes-requires
edit-stripes-requires c κs =
    let n = c.before.before in
    let p = (st n.before).requires in
    let e = n.stripe_count-stop.ensures.0 in
    (p.0, p.1, rw e p.2, n.stripe_count-stop.ensures.1, p.4, p.5, p.6, c.before.if-first-stop.true, rw e p.7, p.8, p.9, p.10)

returns : tie.Need-returns-then-first-stop
returns c = let e = c.before.before in e.edit_stripes.ensures ∙ reached e.before.before.before

returns-2 : tie.Need-returns-else-first-stop
returns-2 c =
    let a = (st c.before.before).args in
    sym (end a.sizes a.points.now a.boards.now a.starts.now a.part a.on.now a.offset a.bytes.now _ _ a.area.now c.if-first-stop.false) ∙ reached c.before

pub edit_reached_spec : {M : Type 1} → statement M
edit_reached_spec =
    tie.close
    (tie.spec
    (λ c κs. search rules)
    (λ c. omega (arith, ends (st c)))
    (λ c. omega (arith, some c))
    (λ c κs. let p = (st c).requires in record { is-legal = p.0.sized; not-long = p.3 })
    edit-stripes-requires
    (λ c. search rules)
    returns
    returns-2)
