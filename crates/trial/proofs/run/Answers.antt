-- `trial::run` meets its contract, by what is loaded.
-- Assumes nothing.
use Rattle.std.proofs.Common.{subst, List, ℕ}
use Rattle.std.proofs.Math.Option.{none}
use Rattle.trial.specs.Printing.{Printing}
use Rattle.trial.proofs.Walk.{loaded-load, loaded-none, load-taken, text-loaded}
use Rattle.trial.proofs.run.Goals as goal

pub print-requires : goal.print-requires
print-requires c = load-taken _ _ (loaded-load _ _ _ c.read_load.ensures c.in-Some.is)

pub returns-in-Some : goal.returns-in-Some
returns-in-Some c =
    subst (λ (text : List ℕ). Printing text c.print.result) (text-loaded _ _ (loaded-load _ _ _ c.read_load.ensures c.in-Some.is)) c.print.ensures

pub returns-in-None : goal.returns-in-None
returns-in-None c =
    subst (λ (text : List ℕ). Printing text c.refuse.result) (text-loaded _ none (loaded-none _ _ c.read_load.ensures c.in-None.is)) c.refuse.ensures
