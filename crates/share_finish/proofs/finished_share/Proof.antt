-- `share_finish::finished_share` meets its contract: space is lent.
-- Assumes nothing.
use Rattle.sizes.proofs.Legal.{Legal, legal-facts}
use borrow.Author.Rules.{rules}
use native.Mathlib.Omega.{arith}
use Rattle.share_finish.proofs.finished_share.Statement.{statement}
use Rattle.share_finish.proofs.finished_share.Tie as tie

-- the places
abbrev st-at-struct-known : tie.After-struct_known-1 → tie.Start
st-at-struct-known c = c.before.before.before.before.before.before.before.before

abbrev st-at-struct-known2 : tie.After-struct_known-2-1 → tie.Start
st-at-struct-known2 c = st-at-struct-known c.before

abbrev st-at-all : tie.After-all-1 → tie.Start
st-at-all c = st-at-struct-known2 c.before

abbrev st-at-share-in-arg : tie.After-share_in-arg-1 → tie.Start
st-at-share-in-arg c = st-at-all c.before.before

facts : (c : tie.Start) → Legal c.args.sizes
facts c = legal-facts _ c.requires.0

share-in-requires : tie.Need-share_in-requires
share-in-requires c κs =
    let p = (st-at-share-in-arg c).requires in
    let f = facts (st-at-share-in-arg c) in
    (p.0, p.1, p.2, p.3, p.4, p.5, p.6, p.7, p.8, p.9, p.10, p.11, search rules, search rules)

pub finished_share_spec : {M : Type 1} → statement M
finished_share_spec =
    tie.close
    (tie.spec
    (λ c. let f = facts (st-at-struct-known c) in search rules)
    (λ c. let f = facts (st-at-struct-known2 c) in search rules)
    (λ c. let f = facts (st-at-struct-known2 c) in search rules)
    (λ c. search rules)
    (λ c. search rules)
    (λ c. let f = facts (st-at-struct-known2 c) in search rules)
    (λ c. search rules)
    (λ c. search rules)
    (λ c. omega (arith, facts (st-at-all c), (st-at-all c).requires))
    share-in-requires
    (λ c. c.before.out-1.given)
    (λ c. search rules))
