-- `running_lists::names` meets its contract: the board stands in one of the three lists.
-- Assumes nothing.
use Prim.Native.Nat.{ℕ, ◌-◌, ◌*◌, ◌≤◌}
use mathlib.Core.Path.{sym, ◌∙◌}
use mathlib.Core.List.{List}
use native.Mathlib.Omega.{arith}
use lib.ListN.{length, take}
use borrow.Author.Rules.{rules}
use lib.Seq.{length-take-le}
use Rattle.running_lists.proofs.Lists.{fit-fresh, fit-helpers, fit-stand-ins, first-names, second-names, third-names}
use Rattle.running_lists.proofs.names.Statement.{statement}
use Rattle.running_lists.proofs.names.Tie as tie

-- the three lists
abbrev xs : tie.Start → List ℕ
xs g = take g.args.t g.args.fresh.now

abbrev ys : tie.Start → List ℕ
ys g = take (g.args.t * g.args.sizes.d) g.args.helpers.now

abbrev zs : tie.Start → List ℕ
zs g = take (g.args.t * (g.args.sizes.r - g.args.t)) g.args.standins.now

-- the lists fit their arrays
few-fresh : (g : tie.Start) → let a = g.args in a.t ≤ length a.fresh.now
few-fresh g = let a = g.args in let f = g.requires.0 in omega (arith, fit-fresh a.sizes a.t f.is-legal f.few, f.fresh-long)

few-helpers : (g : tie.Start) → let a = g.args in a.t * a.sizes.d ≤ 256
few-helpers g = let a = g.args in let f = g.requires.0 in fit-helpers a.sizes a.t f.is-legal f.few

few-stand-ins : (g : tie.Start) → let a = g.args in a.t * (a.sizes.r - a.t) ≤ 256
few-stand-ins g = let a = g.args in let f = g.requires.0 in fit-stand-ins a.sizes a.t f.is-legal f.few

pub names_spec : {M : Type 1} → statement M
names_spec =
    tie.close
    (tie.spec
    (λ c. let b = c.requires.1 in omega (arith, b))
    (λ c. omega (arith, few-helpers c.before.before.before.before))
    (λ c. omega (arith, c.requires.0.few))
    (λ c. omega (arith, few-stand-ins c.before.before.before.before.before))
    (λ c. sym (length-take-le c.args.t c.args.fresh.now (few-fresh c.before.before.before.before.before)))
    (λ c κs. search rules)
    (λ c. first-names (xs c.before.before.before.before.before.before.before) (ys c.before.before.before.before.before.before.before) (zs c.before.before.before.before.before.before.before) c.args.board (sym c.point_from.ensures ∙ c.if-point_from.true))
    (λ c. sym (length-take-le (c.args.t * c.args.sizes.d) c.args.helpers.now (omega (arith, few-helpers c.before.before.before.before.before.before.before, c.requires.0.helpers-long))))
    (λ c κs. search rules)
    (λ c.
    second-names (xs c.before.before.before.before.before.before.before.before.before) (ys c.before.before.before.before.before.before.before.before.before) (zs c.before.before.before.before.before.before.before.before.before) c.args.board (sym c.point_from.ensures ∙ c.if-point_from.false) (sym c.point_from-2.ensures ∙ c.if-point_from-2.true))
    (λ c.
    sym (length-take-le (c.args.t * (c.args.sizes.r - c.args.t)) c.args.standins.now (omega (arith, few-stand-ins c.before.before.before.before.before.before.before.before.before, c.requires.0.stand-ins-long))))
    (λ c κs. search rules)
    (λ c.
    c.point_from-3.ensures
    ∙ third-names (xs c.before.before.before.before.before.before.before.before.before.before) (ys c.before.before.before.before.before.before.before.before.before.before) (zs c.before.before.before.before.before.before.before.before.before.before) c.args.board (sym c.point_from.ensures ∙ c.if-point_from.false)
    (sym c.point_from-2.ensures ∙ c.if-point_from-2.false)))
