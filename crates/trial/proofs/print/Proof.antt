-- `trial::print` meets its contract: a store newly set up, over the beginning of an array.
-- Assumes nothing.
use mathlib.Core.Path.{subst}
use mathlib.Core.List.{List}
use Prim.Native.Nat.{ℕ, ◌≤◌}
use native.Mathlib.Omega.{arith}
use Rattle.record.specs.Records.{running_in}
use Rattle.store.specs.Handing.{record_in}
use Rattle.trial_input.specs.Steps.{load_in}
use Rattle.trial_calls.proofs.Made.{length_front}
use Rattle.trial_turn.proofs.Turn.{taken-legal}
use Rattle.trial.specs.Printing.{Printing}
use Rattle.trial.proofs.Walk.{few-stripes, few_bytes, text_of}
use borrow.Author.Rules.{rules}
use Rattle.trial.proofs.print.Statement.{statement}
use Rattle.trial.proofs.print.Tie as tie

few : (c : tie.After-area_len-m) → c.area_len-m.result ≤ 32768
few c = omega (arith, c.area_len-m.ensures, few_bytes (load_in c.before.before.args.load) c.before.before.requires)

-- past the store that was set up, past the area's length
abbrev set : tie.After-running-1 → tie.After-set_up-handed
set c = c.before.before

abbrev long : tie.After-running-1 → tie.After-area_len-m
long c = (set c).before

returns : tie.Need-returns
returns c =
    let t = c.before in
    let s = set t.before.before in
    let m = s.before in
    let l = load_in m.before.args.load in
    subst (λ (text : List ℕ). Printing text t.turns.result)
    (text_of l (record_in s.set_up-handed.result.store) (running_in s.set_up-handed.result.running) m.area_len-m.result s.set_up-handed.ensures.0 s.set_up-handed.ensures.1
    m.area_len-m.ensures (few m)) t.turns.ensures

pub print_spec : {M : Type 1} → statement M
print_spec =
    tie.close
    (tie.spec
    (λ c κs. let l = load_in c.before.args.load in record { is-legal = taken-legal l c.before.requires; few = few-stripes l c.before.requires })
    (λ c κs. search rules)
    (λ c. few (long c))
    (λ c. let m = long c.before in length_front m.area_len-m.result 32768 (few m))
    (λ c κs. (long c.before).before.before.requires)
    returns)
