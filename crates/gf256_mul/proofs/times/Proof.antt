-- `gf256_mul::times` meets its contract: a product is the sum of the multiples at the eight bits of a factor.
-- Assumes nothing.
use Rattle.gf256.specs.Field.{add}
use Rattle.gf256_mul.proofs.Steps.{mul-bits}
use borrow.Author.Rules.{rules}
use Rattle.gf256_mul.proofs.times.Statement.{statement}
use Rattle.gf256_mul.proofs.times.Tie as tie

abbrev st : tie.After-if_odd-8 → tie.Start
st c = c.before.before.before.before.before.before.before.before

returns : tie.Need-returns
unfolding add
returns c =
    let s = st c in
    let whole = mul-bits s.args.m s.args.v s.requires (search rules) (search rules) in
    cc

pub times_spec : {M : Type 1} → statement M
times_spec =
    tie.close
    (tie.spec
    (λ c κs. search rules)
    (λ c κs. search rules)
    (λ c κs. search rules)
    (λ c κs. search rules)
    (λ c κs. search rules)
    (λ c κs. search rules)
    (λ c κs. search rules)
    (λ c κs. search rules)
    returns)
