-- `step_finish::finish_shares` meets its contract: the inverses are made once; the shares by places are those of the definition.
-- Assumes nothing.
use Rattle.sizes.proofs.Legal.{legal-facts}
use Rattle.step_finish.proofs.Boards.{all-put}
use borrow.Author.Rules.{rules}
use Rattle.step_finish.proofs.finish_shares.Statement.{statement}
use Rattle.step_finish.proofs.finish_shares.Tie as tie

-- the places
abbrev fill-inverses-at-finish-all-arg : tie.After-finish_all-arg-1 → tie.After-fill_inverses
fill-inverses-at-finish-all-arg c = c.before.before.before

abbrev st-arg : tie.After-finish_all-arg-1 → tie.Start
st-arg c = (fill-inverses-at-finish-all-arg c).before.before.before.before.before.before.before.before

abbrev all_end : tie.After-slice_known-2-1 → tie.After-finish_all
all_end c = c.before.before

finish-all-requires : tie.Need-finish_all-requires
finish-all-requires c κs =
    let p = (st-arg c).requires in
    (p.0, p.1, p.2, (fill-inverses-at-finish-all-arg c).fill_inverses.ensures, p.3, p.4, p.5, p.6, p.7)

returns : tie.Need-returns
returns c =
    let s = st-arg (all_end c).before in
    let a = s.args in
    all-put a.sizes (legal-facts _ s.requires.0) a.points.now a.capacity a.stripes a.fresh.now a.helpers.now a.standins.now a.packets.now a.area.now _
    s.requires.3 (all_end c).finish_all.ensures

pub finish_shares_spec : {M : Type 1} → statement M
finish_shares_spec =
    tie.close
    (tie.spec
    (λ c. search rules)
    (λ c κs. search rules)
    (λ c. search rules)
    finish-all-requires
    (λ c. search rules)
    returns)
