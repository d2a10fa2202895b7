-- How much room the printer needs: 17,375 bytes for a share of a file of 16,384 bytes, 34,900 for its text.
-- Assumes nothing.
use mathlib.Core.Path.{◌≡◌, refl, ap}
use mathlib.Core.Bool.{Bool, true, false}
use mathlib.Core.List.{List}
use Prim.Native.Nat.{ℕ, zero, suc, ◌+◌, ◌*◌, ◌-◌, ◌/◌, ◌≤◌, ◌<◌}
use native.Mathlib.Nat.{div-add-mod', mul-le-mul_left, mul-one, suc-mul}
use native.Mathlib.Omega.{arith}
use lib.Dec.{ltb}
use lib.ListN.{length, take}
use lib.Seq.{length-take-le}
use borrow.Author.Tests.{ltb-true, ltb-false}
use Rattle.sizes.specs.declared.Sizes.{Sizes}
use Rattle.sizes.specs.Sizing.{α, B, stripes}
use Rattle.sizes.proofs.Legal.{Legal, B-most, B-pos}
use Rattle.board_spec.specs.Text.{decimal, points_line, share_text}
use Rattle.text_lines.proofs.Decimals.{length-one, length_more}
use Rattle.text_lines.proofs.Lines.{length-text}
use Rattle.text_lines.proofs.Orders.{points-line, said-most}

-- one digit more
longer : (m b : ℕ) → ((y : ℕ) → y < b → length (decimal y) ≤ m) → (x : ℕ) → x < 10 * b → length (decimal x) ≤ m + 1
longer m b h x l = go (ltb x 10) refl
  where
    go : (t : Bool) → ltb x 10 ≡ t → length (decimal x) ≤ m + 1
    go true e = omega (arith, length-one x (ltb-true x 10 e))
    go false e = omega (arith, length_more x (ltb-false x 10 e), h (x / 10) (omega (arith, div-add-mod' x 10)))

one : (x : ℕ) → x < 10 → length (decimal x) ≤ 1
one x h = omega (arith, length-one x h)

pub two : (x : ℕ) → x < 100 → length (decimal x) ≤ 2
two = longer 1 10 one

pub five : (x : ℕ) → x < 100000 → length (decimal x) ≤ 5
five = longer 4 10000 (longer 3 1000 (longer 2 100 two))

product : (k m : ℕ) → 1 ≤ k → 1 ≤ m → k + m ≤ k * m + 1
product zero m h g = absurd (omega arith)
product (suc k) m h g = let l = mul-le-mul_left k g in omega (arith, l, suc-mul k m, mul-one k)

module _ (z : Sizes) (f : Legal z) where
  -- a share has no more bytes than its stripes carry
  less : α z ≤ B z
  unfolding B
  less =
      let p = product z.k (2 * z.d + z.r - z.k) f.some_read (omega (arith, f.read-helpers, f.some-fresh)) in
      omega (arith, p, f.read-helpers, f.some-fresh, f.some_read)

  pub share-room : (L : ℕ) → L ≤ 16384 → stripes z L * α z ≤ 17375
  unfolding stripes
  share-room L h =
      let m = mul-le-mul_left ((L + (B z - 1)) / B z) less in
      omega (arith, m, div-add-mod' (L + (B z - 1)) (B z), B-pos z f, B-most z f)

  -- the points' line has at most 72 bytes
  points-room : (xs : List ℕ) → z.n ≤ length xs → length (points_line z xs) ≤ 72
  points-room xs h =
      omega (arith, ap length (points-line z xs h), said-most (take z.n xs), length-take-le z.n xs h, f.few)

  pub text-room : (xs : List ℕ) (L node : ℕ) (held : List ℕ) → z.n ≤ length xs → L ≤ 16384 → node < z.n → length held ≤ 17375
      → length (share_text z xs L node held) ≤ 34900
  text-room xs L node held p h g l =
      let an = two z.n (omega (arith, f.few)) in
      let ak = two z.k (omega (arith, f.few, f.read-helpers, f.enough)) in
      let ad = two z.d (omega (arith, f.few, f.enough)) in
      let ar = two z.r (omega (arith, f.few, f.enough)) in
      let ao = two node (omega (arith, f.few)) in
      let al = five L (omega arith) in
      omega (arith, length-text z xs L node held, points-room xs p, an, ak, ad, ar, ao, al)
