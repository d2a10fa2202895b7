-- The laws of the field, as statements; proofs/Laws.antt proves them all. A law that names no bound holds for all numbers.
-- Assumes nothing.
use Rattle.std.specs.Prelude.{◌≡◌, List, ℕ, ◌*◌, ◌%◌, ◌^◌, ◌≤◌, ◌<◌, length, get_or}
use Rattle.std.specs.Int.Bits.{bit_xor}
use Rattle.gf256.specs.Field.{add, product, mul, inverse, add_scaled}

pub record FieldLaws : Type 0 where
  -- "Addition is exclusive or."
  pub add_is : (a b : ℕ) → add a b ≡ bit_xor a b
  -- a sum does not depend on the order of its two terms
  pub add_comm : (a b : ℕ) → add a b ≡ add b a
  -- nor a sum of three on which two are added first
  pub add_assoc : (a b c : ℕ) → add (add a b) c ≡ add a (add b c)
  -- 0 adds nothing
  pub add-zero : (a : ℕ) → add 0 a ≡ a
  -- what is added twice goes, so that adding is also subtracting
  pub add-self : (a : ℕ) → add a a ≡ 0
  -- the sum of two bytes is a byte
  pub add-byte : (a b : ℕ) → a < 256 → b < 256 → add a b < 256
  -- a product does not depend on the order of its two factors
  pub mul_comm : (a b : ℕ) → mul a b ≡ mul b a
  -- nor a product of three on which two are multiplied first
  pub mul_assoc : (a b c : ℕ) → mul (mul a b) c ≡ mul a (mul b c)
  -- the product by a sum is the sum of the products
  pub mul-add : (a b c : ℕ) → mul a (add b c) ≡ add (mul a b) (mul a c)
  -- 0 times a number is 0
  pub mul-zero : (a : ℕ) → mul 0 a ≡ 0
  -- 1 times a byte is the byte
  pub mul-one : (a : ℕ) → a < 256 → mul 1 a ≡ a
  -- a product is a byte
  pub mul-byte : (a b : ℕ) → mul a b < 256
  -- of each factor only the low 8 bits count
  pub mul_low : (a b : ℕ) → mul (a % 256) (b % 256) ≡ mul a b
  -- the product as polynomials: z to the i moves a number i bits up, where i is below the bits that count; a sum's is the sum of products
  pub product-none : (k a : ℕ) → product k a 0 ≡ 0
  pub product-shift : (k a i : ℕ) → i < k → product k a (2 ^ i) ≡ a * 2 ^ i
  pub product-beyond : (k a i : ℕ) → k ≤ i → product k a (2 ^ i) ≡ 0
  pub product-add : (k a b c : ℕ) → product k a (add b c) ≡ add (product k a b) (product k a c)
  -- 0, which has no inverse, is given 0; of other numbers only the low 8 bits count
  pub inverse-none : inverse 0 ≡ 0
  pub inverse-low : (a : ℕ) → inverse (a % 256) ≡ inverse a
  -- an inverse is a byte
  pub inverse-byte : (a : ℕ) → inverse a < 256
  -- a byte but 0 times its inverse is 1
  pub mul-inverse : (a : ℕ) → 0 < a → a < 256 → mul a (inverse a) ≡ 1
  -- and its inverse is the only byte of which that holds
  pub inverse-unique : (a x : ℕ) → 0 < a → a < 256 → x < 256 → mul a x ≡ 1 → x ≡ inverse a
  -- the product of two bytes as polynomials is a multiple of 11D, and `mul` of them besides
  pub remainder : (a b : ℕ) → a < 256 → b < 256
      → (q : ℕ) × (q < 128) × (product 8 a b ≡ add (product 7 0x11D q) (mul a b))
  -- and `mul` of them is the only byte that is left over from a multiple of 11D: it is the remainder modulo 11D
  pub remainder-unique : (a b q x : ℕ) → a < 256 → b < 256 → q < 128 → x < 256
      → product 8 a b ≡ add (product 7 0x11D q) x → x ≡ mul a b
  -- c times a row added to a row, at each place; what the first row lacks is 0
  pub add-scaled-length : (c : ℕ) (row acc : List ℕ) → length (add_scaled c row acc) ≡ length acc
  pub add-scaled-at : (c : ℕ) (row acc : List ℕ) (i : ℕ) → i < length acc → get_or (add_scaled c row acc) i 0 ≡ add (get_or acc i 0) (mul c (get_or row i 0))
