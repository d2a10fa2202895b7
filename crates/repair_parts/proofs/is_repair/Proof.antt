-- `repair_parts::is_repair` meets its contract.
-- Assumes nothing.
use native.Mathlib.Omega.{arith}
use borrow.Author.Rules.{rules}
use Rattle.repair_parts.proofs.Parts.{not-71, by_flag}
use Rattle.repair_parts.proofs.is_repair.Statement.{statement}
use Rattle.repair_parts.proofs.is_repair.Tie as tie

pub is_repair_spec : {M : Type 1} → statement M
is_repair_spec =
    tie.close
    (tie.spec
    (λ c. not-71 c.before.args.words.now c.if-words-ne71.true)
    (λ c. search rules)
    (λ c. by_flag c.before.before.args.words.now (omega arith) (λ i. omega (arith, c.shared_slice_known-1.given i))))
