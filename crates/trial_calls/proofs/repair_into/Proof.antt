-- `trial_calls::repair_into` meets its contract: the boards named are those counted.
-- Assumes nothing.
use mathlib.Core.Path.{ap, ap₂, ◌∙◌}
use mathlib.Core.List.{List, []}
use Prim.Native.Nat.{ℕ, ◌+◌}
use native.Mathlib.Omega.{arith}
use Rattle.lists.specs.Lists.{join}
use Rattle.sizes.proofs.Legal.{legal-facts}
use Rattle.beside_spec.specs.Both.{Outcome, repair_both}
use Rattle.record.specs.Records.{running_in}
use Rattle.store.specs.Handing.{record_in}
use Rattle.trial_spec.specs.Trial.{counted}
use Rattle.trial_calls.proofs.Made.{repair-acts}
use borrow.Author.Rules.{rules}
use Rattle.trial_calls.proofs.repair_into.Statement.{statement}
use Rattle.trial_calls.proofs.repair_into.Tie as tie

-- past the helpers, past the fresh boards; where the call began
abbrev helped : tie.After-repair → tie.After-repeat_on
helped c = c.before.before.before.before.before

abbrev count-on-at-repeat-on-arg : tie.After-repeat_on-arg-1 → tie.After-count_on
count-on-at-repeat-on-arg c = c.before.before.before.before

abbrev freshened : tie.After-repeat_on → tie.After-count_on
freshened c = count-on-at-repeat-on-arg c.before

abbrev st-at-count-on-arg : tie.After-count_on-arg-1 → tie.Start
st-at-count-on-arg c = c.before.before.before.before

abbrev st : tie.After-count_on → tie.Start
st c = st-at-count-on-arg c.before

count-on-requires : tie.Need-count_on-requires
count-on-requires c κs =
    let s = st-at-count-on-arg c in
    let f = legal-facts s.args.sizes s.requires.is-legal in
    (omega (arith, f.enough, f.some-fresh), omega (arith, s.requires.low), omega (arith, s.requires.fresh-long, f.enough, f.few))

repeat-on-requires : tie.Need-repeat_on-requires
repeat-on-requires c κs =
    let s = st (count-on-at-repeat-on-arg c) in
    let f = legal-facts s.args.sizes s.requires.is-legal in
    (omega (arith, f.enough, f.some-fresh), omega (arith, s.requires.low, f.enough, f.few), omega (arith, f.enough, f.few), omega (arith, f.enough, f.few), s.requires.helpers-long)

returns : tie.Need-returns
returns c =
    let r = c.before.before in
    let h = helped r in
    let f = freshened h in
    let s = st f in
    let a = s.args in
    let z = a.sizes in
    repair-acts a.kept a.running a.area.now (counted z.n a.first z.r) (join z.r (λ _. counted z.n (a.first + z.r) z.d)) []
    (r.repair.ensures
    ∙ ap₂ {C = Outcome} (λ (fresh helpers : List ℕ). repair_both (record_in a.kept) (running_in a.running) a.area.now fresh helpers [])
    (f.count_on.ensures ∙ ap (counted z.n a.first) s.requires.fresh-long) h.repeat_on.ensures)

pub repair_into_spec : {M : Type 1} → statement M
repair_into_spec =
    tie.close
    (tie.spec
    count-on-requires
    (λ c. search rules)
    repeat-on-requires
    (λ c. search rules)
    (λ c. search rules)
    (λ c κs. search rules)
    (λ c. search rules)
    (λ c. search rules)
    (λ c. search rules)
    returns)
