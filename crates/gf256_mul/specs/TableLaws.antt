-- The rules of the two tables, as statements; proofs/TableLaws.antt proves them all.
-- Assumes nothing.
use Rattle.std.specs.Prelude.{◌≡◌, ℕ, suc, ◌+◌, ◌%◌, ◌<◌, length, get_or}
use Rattle.gf256.specs.Field.{mul}
use Rattle.gf256_mul.specs.Tables.{powers, logarithm}

pub record TableLaws : Type 0 where
  -- there are 255 powers
  pub powers-count : length powers ≡ 255
  -- the first is 01
  pub first-power : get_or powers 0 0 ≡ 1
  -- each next is the one before times 02
  pub next_power : (n : ℕ) → n < 254 → get_or powers (suc n) 0 ≡ mul 2 (get_or powers n 0)
  -- and after the last the first comes again
  pub powers-turn : mul 2 (get_or powers 254 0) ≡ get_or powers 0 0
  -- a power is a byte, and not 00
  pub power-byte : (n : ℕ) → n < 255 → (0 < get_or powers n 0) × (get_or powers n 0 < 256)
  -- every byte but 00 has a logarithm that is a place among the powers,
  pub logarithm-place : (a : ℕ) → 0 < a → a < 256 → logarithm a < 255
  -- and is the power at that place
  pub power-logarithm : (a : ℕ) → 0 < a → a < 256 → get_or powers (logarithm a) 0 ≡ a
  -- the logarithm of a power is its place, so that no two powers are equal
  pub logarithm-power : (n : ℕ) → n < 255 → logarithm (get_or powers n 0) ≡ n
  -- 00 is no power: its place would be one past the last
  pub no-logarithm : logarithm 0 ≡ 255
  -- the product of two powers is the power at the sum of their places, which begin anew after 255
  pub power-product : (m n : ℕ) → m < 255 → n < 255 → mul (get_or powers m 0) (get_or powers n 0) ≡ get_or powers ((m + n) % 255) 0
