-- A stripe of a file in the working array, filled up with 00.
-- Assumes nothing.
use mathlib.Core.Path.{◌≡◌, sym, ap, ◌∙◌}
use mathlib.Core.Bool.{true}
use mathlib.Core.List.{List}
use Prim.Native.Nat.{ℕ, ◌*◌, ◌-◌, ◌<◌, ◌≤◌}
use native.Mathlib.Nat.{mul-le-mul}
use native.Mathlib.Omega.{arith}
use lib.ListN.{length, take, drop, length-append}
use lib.Seq.{take_at, length-take-le}
use borrow.Rule.Slice.PartMut.{put_mid}
use Rattle.lists.specs.Tests.{pick}
use Rattle.lists.specs.Lists.{fit}
use Rattle.lists.proofs.Pieces.{length-fit}
use Rattle.sizes.specs.declared.Sizes.{Sizes}
use Rattle.sizes.specs.Sizing.{legal, B}
use Rattle.sizes.proofs.Legal.{Legal, B-most}
use Rattle.mbcr.specs.Share.{stripe}

-- the length of a stripe, and where stripe s starts
pub stripe-long : (z : Sizes) (b : ℕ) → legal z ≡ true → b ≡ pick (legal z) (B z) 0 → b ≡ B z
stripe-long z b h e = e ∙ ap (λ t. pick t (B z) 0) h

pub stripe-start : (z : Sizes) (s b : ℕ) → Legal z → b ≡ B z → s < 4096 → s * b ≤ 4096 * 992
stripe-start z s b f e h = mul-le-mul {n₁ = s} {n₂ = 4096} {m₂ = 992} (omega arith) (omega (arith, B-most z f))

-- a stripe that is filled up
pub cut-stripe : (z : Sizes) (file zeros last : List ℕ) (s b : ℕ) → b ≡ B z → b ≤ length zeros
    → last ≡ fit (length (take (b - 0) (drop 0 zeros))) (drop (s * b) file) → take (b - 0) (drop 0 (put_mid 0 (b - 0) zeros last)) ≡ stripe z file s
unfolding stripe
cut-stripe z file zeros last s b e h el =
    let m : b - 0 ≡ b = omega arith in
    let l : length (take (b - 0) (drop 0 zeros)) ≡ b = length-take-le (b - 0) zeros (omega arith) ∙ m in
    let is : last ≡ fit b (drop (s * b) file) = el ∙ ap (λ (v : ℕ). fit v (drop (s * b) file)) l in
    take_at last (drop (b - 0) zeros) (b - 0) (ap length is ∙ length-fit b (drop (s * b) file) ∙ sym m)
    ∙ is ∙ ap (λ (v : ℕ). fit v (drop (s * v) file)) e

-- and where it lies
pub cut_holds : (zeros last more : List ℕ) (b : ℕ) → b ≤ length zeros → last ≡ fit (length (take (b - 0) (drop 0 zeros))) more
    → b ≤ length (put_mid 0 (b - 0) zeros last)
cut_holds zeros last more b h el =
    let l : length last ≡ b - 0 = ap length el ∙ length-fit (length (take (b - 0) (drop 0 zeros))) more ∙ length-take-le (b - 0) zeros (omega arith) in
    omega (arith, length-append last (drop (b - 0) zeros))
