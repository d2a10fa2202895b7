-- `generator::wrapping_product` meets its contract.
-- Assumes nothing.
use Rattle.std.proofs.Common.{ℕ, ◌*◌, ◌<◌, ◌≤◌, mul-le-mul, arith, rules}
use Rattle.generator.proofs.wrapping_product.Statement.{statement}
use Rattle.generator.proofs.wrapping_product.Tie as tie

product-fits : (a b : ℕ) → a < 4294967296 → b < 4294967296 → a * b < 18446744073709551616
product-fits a b h k =
    let p : a ≤ 4294967295 = omega (arith, h) in
    let q : b ≤ 4294967295 = omega (arith, k) in
    let r : a * b ≤ 4294967295 * 4294967295 = mul-le-mul p q in
    omega (arith, r)

mul-product : tie.Need-overflow_mul-product
mul-product c = record { fits = product-fits c.args.a c.args.b (omega arith) (omega arith) }

pub wrapping_product_spec : {M : Type 1} → statement M
wrapping_product_spec = tie.close (tie.spec mul-product (λ c. search rules) (λ c. search rules))
