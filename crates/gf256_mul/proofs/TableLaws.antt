-- The rules of the two tables hold.
-- Assumes nothing.
use mathlib.Core.Path.{◌≡◌, refl, sym, ap, ◌∙◌}
use Prim.Native.Nat.{ℕ, suc, ◌<◌, suc-le-suc}
use native.Mathlib.Omega.{arith}
use lib.Dec.{lit<}
use lib.ListN.{get_or}
use Rattle.gf256.specs.Field.{add, product, reduce, mul}
use Rattle.gf256_mul.specs.Tables.{doubled, powers, place, logarithm}
use Rattle.gf256_mul.specs.TableLaws.{TableLaws}
use Rattle.gf256_mul.proofs.Powers.{power, power-lt, power-255, powers-at}
use Rattle.gf256_mul.proofs.Powers as table

next_power : (n : ℕ) → n < 254 → get_or powers (suc n) 0 ≡ mul 2 (get_or powers n 0)
unfolding power
next_power n h = powers-at (suc n) (suc-le-suc h) ∙ ap (mul 2) (sym (powers-at n (omega arith)))

powers-turn : mul 2 (get_or powers 254 0) ≡ get_or powers 0 0
unfolding power
powers-turn = ap (mul 2) (powers-at 254 (lit< tt)) ∙ power-255 ∙ sym (powers-at 0 (lit< tt))

no-logarithm : logarithm 0 ≡ 255
unfolding add product reduce mul doubled powers place logarithm
no-logarithm = refl

power-byte : (n : ℕ) → n < 255 → (0 < get_or powers n 0) × (get_or powers n 0 < 256)
power-byte n h =
    let none : get_or powers n 0 ≡ 0 → ⊥ = λ e. let at : n ≡ 255 = sym (table.logarithm-power n h) ∙ ap logarithm e ∙ no-logarithm in omega arith in
    let small : get_or powers n 0 < 256 = rw powers-at (power-lt n) in
    (omega arith, small)

pub table-laws : TableLaws
unfolding power
table-laws =
    record {
      powers-count = table.powers-count;
      first-power = powers-at 0 (lit< tt);
      next_power = next_power;
      powers-turn = powers-turn;
      power-byte = power-byte;
      logarithm-place = table.logarithm-place;
      power-logarithm = table.power-logarithm;
      logarithm-power = table.logarithm-power;
      no-logarithm = no-logarithm;
      power-product = table.power-product;
    }
