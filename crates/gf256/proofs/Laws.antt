-- The laws of the field hold.
-- Assumes nothing.
use mathlib.Core.Path.{◌≡◌, refl, sym, ap, ◌∙◌}
use mathlib.Core.List.{List, [], ◌∷◌}
use Prim.Native.Nat.{ℕ, zero, suc, ◌<◌}
use native.Mathlib.Omega.{arith}
use lib.Bits.{bit_xor}
use lib.ListN.{length, get_or}
use Rattle.gf256.specs.Field.{add, product, mul, add_scaled}
use Rattle.gf256.specs.Laws.{FieldLaws}
use Rattle.gf256.proofs.Sums as sums
use Rattle.gf256.proofs.Field as field
use Rattle.gf256.proofs.Inverses as inverses
use Rattle.gf256.proofs.Remainder as remainders

add_is : (a b : ℕ) → add a b ≡ bit_xor a b
unfolding add
add_is a b = refl

-- ---- a row added to a row

add-scaled-length : (c : ℕ) (row acc : List ℕ) → length (add_scaled c row acc) ≡ length acc
add-scaled-length c [] acc = refl
add-scaled-length c (x ∷ row) [] = refl
add-scaled-length c (x ∷ row) (a ∷ acc) = ap suc (add-scaled-length c row acc)

add_nothing : (a c : ℕ) → a ≡ add a (mul c 0)
add_nothing a c = sym (ap (add a) (field.mul-zero c) ∙ sums.add_zero_r a)

add-scaled-at : (c : ℕ) (row acc : List ℕ) (i : ℕ) → i < length acc → get_or (add_scaled c row acc) i 0 ≡ add (get_or acc i 0) (mul c (get_or row i 0))
add-scaled-at c [] acc i h = add_nothing (get_or acc i 0) c
add-scaled-at c (x ∷ row) [] i h = absurd (omega arith)
add-scaled-at c (x ∷ row) (a ∷ acc) zero h = refl
add-scaled-at c (x ∷ row) (a ∷ acc) (suc i) h = add-scaled-at c row acc i (omega arith)

pub laws : FieldLaws
laws =
    record {
      add_is = add_is;
      add_comm = sums.add_comm;
      add_assoc = sums.add_assoc;
      add-zero = sums.add_zero_l;
      add-self = sums.add-self;
      add-byte = λ a b. sums.add-lt;
      mul_comm = field.mul_comm;
      mul_assoc = field.mul_assoc;
      mul-add = field.mul-add;
      mul-zero = field.zero-mul;
      mul-one = field.one-mul;
      mul-byte = field.mul-lt;
      mul_low = field.mul_low;
      product-none = λ k a. sums.at_zero (product k a) (field.product-right k a);
      product-shift = field.product-shift;
      product-beyond = field.product-beyond;
      product-add = field.product-right;
      inverse-none = inverses.inverse-none;
      inverse-low = inverses.inverse-low;
      inverse-byte = inverses.inverse-lt;
      mul-inverse = inverses.mul-inverse;
      inverse-unique = inverses.inverse-unique;
      remainder = remainders.remainder;
      remainder-unique = remainders.remainder-unique;
      add-scaled-length = add-scaled-length;
      add-scaled-at = add-scaled-at;
    }
