-- `rekeep_stripes::rekeep_stripes` meets its contract: nothing is done, or space for the factors is lent.
-- Assumes nothing.
use native.Mathlib.Omega.{arith}
use borrow.Author.Rules.{rules}
use Rattle.sizes.proofs.Legal.{Legal, legal-facts}
use Rattle.rekeep_stripes.proofs.Shares.{share-stays}
use Rattle.rekeep_stripes.proofs.rekeep_stripes.Statement.{statement}
use Rattle.rekeep_stripes.proofs.rekeep_stripes.Tie as tie

-- places in the code
abbrev st-sizes : tie.After-struct_known-1 → tie.Start
st-sizes c = c.before.before.before.before

abbrev kept_at : tie.After-gf-1 → tie.Else-t-w
kept_at c = c.before.before.before.before.before

facts : (c : tie.Start) → Legal c.args.sizes
facts c = legal-facts _ c.requires.0

returns : tie.Need-returns-then-t-w
returns c =
    let g = st-sizes c.before in
    let a = g.args in
    share-stays a.sizes a.points.now a.t a.y a.stripes a.i a.held.now g.requires.6 c.if-t-w.true g.requires.7

stripes-in-requires : tie.Need-stripes_in-requires
stripes-in-requires c κs =
    let p = (st-sizes (kept_at c).before).requires in
    (p.0, p.1, p.2, p.3, p.4, p.5, p.6, omega (arith, (kept_at c).if-t-w.false), p.7, search rules, search rules, search rules, search rules)

pub rekeep_stripes_spec : {M : Type 1} → statement M
rekeep_stripes_spec =
    tie.close
    (tie.spec
    (λ c. omega (arith, facts (st-sizes c)))
    returns
    (λ c κs. let f = facts (st-sizes c.before) in omega (arith, f.enough, f.few))
    (λ c κs. let f = facts (st-sizes c.before.before) in omega (arith, f.enough, f.few))
    (λ c. search rules)
    (λ c. search rules)
    (λ c. search rules)
    (λ c. search rules)
    (λ c. search rules)
    (λ c. search rules)
    stripes-in-requires
    (λ c. search rules)
    (λ c. search rules))
