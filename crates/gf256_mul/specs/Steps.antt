-- The multiples of a factor that the code makes before it multiplies: the factor times 1, z, z^2 .. z^7.
-- Assumes nothing.
use Rattle.std.specs.Prelude.{◌≡◌}
use Rattle.gf256_mul.specs.declared.Multiples.{Multiples}
use Rattle.gf256.specs.Field.{mul}

-- each multiple is z times the one before
pub record Doubled (m : Multiples) : Type 0 where
  pub m1-is : m.m1 ≡ mul 2 m.m0
  pub m2-is : m.m2 ≡ mul 2 m.m1
  pub m3-is : m.m3 ≡ mul 2 m.m2
  pub m4-is : m.m4 ≡ mul 2 m.m3
  pub m5-is : m.m5 ≡ mul 2 m.m4
  pub m6-is : m.m6 ≡ mul 2 m.m5
  pub m7-is : m.m7 ≡ mul 2 m.m6
