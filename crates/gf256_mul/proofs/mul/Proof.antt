-- `gf256_mul::mul` meets its contract: a product with 00 is 00, and any other is the power at the sum of the logarithms, less 255 or not.
-- Assumes nothing.
use mathlib.Core.Path.{◌≡◌}
use Prim.Native.Nat.{ℕ, ◌+◌, ◌-◌, ◌%◌, ◌<◌}
use native.Mathlib.Omega.{arith}
use borrow.Author.Rules.{rules}
use lib.ListN.{get_or}
use Rattle.gf256.specs.Field.{mul}
use Rattle.gf256.proofs.Field.{zero-mul, mul-zero}
use Rattle.gf256_mul.specs.Tables.{powers, logarithm}
use Rattle.gf256_mul.proofs.Powers.{logarithm-place, product_at}
use Rattle.gf256_mul.proofs.mul.Statement.{statement}
use Rattle.gf256_mul.proofs.mul.Tie as tie

abbrev st : tie.After-log-2 → tie.Start
st p = p.before.before.before.before

-- both factors are bytes other than 00
factors : (p : tie.After-log-2) → (0 < (st p).args.a) × ((st p).args.a < 256) × (0 < (st p).args.b) × ((st p).args.b < 256)
factors p = (omega arith, search rules, omega arith, search rules)

-- what the code adds: two logarithms, each below 255
abbrev sum : tie.After-log-2 → ℕ
sum p = p.before.log.result + p.log-2.result

sum_is : (p : tie.After-log-2) → sum p ≡ logarithm (st p).args.a + logarithm (st p).args.b
sum_is p = cc

sum_lt : (p : tie.After-log-2) → sum p < 509
sum_lt p =
    let (pa, la, pb, lb) = factors p in omega (arith, sum_is p, logarithm-place _ pa la, logarithm-place _ pb lb)

-- the product is the power at what is left of the sum
product_is : (p : tie.After-log-2) → get_or powers (sum p % 255) 0 ≡ mul (st p).args.a (st p).args.b
product_is p = let (pa, la, pb, lb) = factors p in cc (sum_is p, product_at _ _ pa la pb lb)

returns : tie.Need-returns-then-a-eq0
returns c = cc (zero-mul c.before.args.b)

returns-2 : tie.Need-returns-then-b-eq0
returns-2 c = cc (mul-zero c.before.before.args.a)

exp-requires-2 : tie.Need-exp-requires-else-n-lt255
exp-requires-2 c κs = omega (arith, sum_lt c.before)

returns-3 : tie.Need-returns-then-n-lt255
returns-3 c =
    let p = c.before.before in
    let whole : sum p % 255 ≡ sum p = omega arith in
    cc (product_is p)

returns-4 : tie.Need-returns-else-n-lt255
returns-4 c =
    let p = c.before.before in
    let less : sum p % 255 ≡ sum p - 255 = omega (arith, sum_lt p) in
    cc (product_is p)

pub mul_spec : {M : Type 1} → statement M
mul_spec =
    tie.close
    (tie.spec
    returns
    returns-2
    (λ c κs. search rules)
    (λ c. search rules)
    (λ c κs. search rules)
    (λ c. search rules)
    (λ c. search rules)
    (λ c κs. search rules)
    exp-requires-2
    returns-3
    returns-4)
