-- `step_share::share_work` meets its contract: space is lent.
-- Assumes nothing.
use Rattle.sizes.proofs.Legal.{Legal, legal-facts}
use borrow.Author.Rules.{rules}
use Rattle.step_share.proofs.share_work.Statement.{statement}
use Rattle.step_share.proofs.share_work.Tie as tie

-- the places
abbrev st-known : tie.After-struct_known-1 → tie.Start
st-known c = c.before.before.before.before.before.before

abbrev st-firsts : tie.After-firsts-1 → tie.Start
st-firsts c = st-known c.before

abbrev st-got : tie.After-got-1 → tie.Start
st-got c = st-firsts c.before

abbrev st-g : tie.After-g-1 → tie.Start
st-g c = st-got c.before

abbrev st-arg : tie.After-share_by-arg-1 → tie.Start
st-arg c = st-g c.before.before

facts : (c : tie.Start) → Legal c.args.sizes
facts c = legal-facts _ c.requires.0

share-by-requires : tie.Need-share_by-requires
share-by-requires c κs =
    let p = (st-arg c).requires in
    let f = facts (st-arg c) in
    (p.0, p.1, p.2, p.3, p.4, p.5, p.6, p.7, search rules, search rules, p.8, p.9, search rules, search rules, p.10)

pub share_work_spec : {M : Type 1} → statement M
share_work_spec =
    tie.close
    (tie.spec
    (λ c. let f = facts (st-known c) in search rules)
    (λ c. search rules)
    (λ c. search rules)
    (λ c. let f = facts (st-known c) in search rules)
    (λ c. search rules)
    (λ c. search rules)
    (λ c. let f = facts (st-firsts c) in search rules)
    (λ c. search rules)
    (λ c. search rules)
    (λ c. let f = facts (st-got c) in search rules)
    (λ c. search rules)
    (λ c. search rules)
    (λ c. let f = facts (st-g c) in search rules)
    share-by-requires
    (λ c. search rules)
    (λ c. search rules))
