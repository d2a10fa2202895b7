-- `trial_calls::read_into` meets its contract: the boards read are those counted.
-- Assumes nothing.
use mathlib.Core.Path.{ap, ◌∙◌}
use mathlib.Core.List.{List}
use Prim.Native.Nat.{ℕ}
use lib.ListN.{length}
use Rattle.beside_spec.specs.Both.{read_both}
use Rattle.record.specs.Records.{running_in}
use Rattle.store.specs.Handing.{record_in}
use Rattle.trial_spec.specs.Trial.{counted}
use Rattle.trial_calls.proofs.Made.{read-acts}
use borrow.Author.Rules.{rules}
use Rattle.trial_calls.proofs.read_into.Statement.{statement}
use Rattle.trial_calls.proofs.read_into.Tie as tie

-- past the list; where the call began
abbrev listed : tie.After-read → tie.After-count_on
listed c = c.before.before.before.before

abbrev st : tie.After-count_on → tie.Start
st c = c.before.before.before.before.before

returns : tie.Need-returns
returns c =
    let r = c.before.before in
    let l = listed r in
    let a = (st l).args in
    read-acts a.kept a.running a.area.now (counted a.n a.first (length a.boards.now)) a.out.now _
    (r.read.ensures ∙ ap (λ (boards : List ℕ). read_both (record_in a.kept) (running_in a.running) a.area.now boards a.out.now) l.count_on.ensures)

pub read_into_spec : {M : Type 1} → statement M
read_into_spec =
    tie.close (tie.spec (λ c κs. search rules) (λ c κs. search rules) (λ c. search rules) (λ c. search rules) returns)
