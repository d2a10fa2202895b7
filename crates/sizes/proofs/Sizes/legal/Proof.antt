-- `Sizes::legal` meets its contract: each early return contradicts one of the facts of legal sizes.
-- Assumes nothing.
use native.Mathlib.Omega.{arith}
use mathlib.Core.Path.{sym}
use Rattle.sizes.proofs.Legal.{legal-yes, legal-no}
use Rattle.sizes.proofs.Sizes.legal.Statement.{statement}
use Rattle.sizes.proofs.Sizes.legal.Tie as tie

returns : tie.Need-returns-then-self-lt1
returns c = sym (legal-no _ (λ f. omega arith))

returns-2 : tie.Need-returns-then-self
returns-2 c = sym (legal-no _ (λ f. omega arith))

returns-3 : tie.Need-returns-then-self-lt1-2
returns-3 c = sym (legal-no _ (λ f. omega arith))

returns-4 : tie.Need-returns-then-self-gt-MAX_BOARDS
returns-4 c = sym (legal-no _ (λ f. omega arith))

returns-5 : tie.Need-returns-then-self-2
returns-5 c = sym (legal-no _ (λ f. omega arith))

returns-6 : tie.Need-returns-then-self-3
returns-6 c = sym (legal-no _ (λ f. omega arith))

returns-7 : tie.Need-returns
returns-7 c = sym (legal-yes _ (record { some_read = omega arith; read-helpers = omega arith; some-fresh = omega arith; enough = omega arith; few = omega arith }))

pub legal_spec : {M : Type 1} → statement M
legal_spec =
    tie.close (tie.spec returns returns-2 returns-3 returns-4 returns-5 returns-6 returns-7)
