-- `store::refuse` meets its contract.
-- Assumes nothing.
use mathlib.Core.Path.{refl}
use Rattle.store.proofs.refuse.Statement.{statement}
use Rattle.store.proofs.refuse.Tie as tie

pub refuse_spec : {M : Type 1} → statement M
refuse_spec = tie.close (tie.spec (λ c area output packets. refl))
