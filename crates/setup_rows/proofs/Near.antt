-- The boards at which values are taken, as they stand in an array.
-- Assumes nothing.
use mathlib.Core.Path.{◌≡◌, ap, ◌∙◌}
use mathlib.Core.Bool.{true}
use mathlib.Core.List.{List}
use Prim.Native.Nat.{ℕ, ◌+◌, ◌-◌, ◌%◌, ◌<◌, ◌≤◌}
use native.Mathlib.Nat.{sub-zero}
use native.Mathlib.Omega.{arith}
use lib.ListN.{length, get_or, take, drop}
use lib.Seq.{take-append-le, length-take-le}
use borrow.Rule.Slice.PartMut.{put_mid, mid_len}
use Rattle.lists.specs.Tests.{below}
use Rattle.lists.specs.Lists.{All, tabulate}
use Rattle.lists.proofs.Alls.{all-at, all-imp, take-alls}
use Rattle.lists.proofs.Boards.{all-below, below_all}
use Rattle.sizes.specs.declared.Sizes.{Sizes}
use Rattle.sizes.proofs.Legal.{Legal}
use Rattle.mbcr.specs.Share.{neighbours}
use Rattle.mbcr.proofs.Points.{length-neighbours, neighbours-boards}
use Rattle.decode_laws.proofs.Loops.{back-part}

-- boards are at most 32
pub below-32 : (z : Sizes) (bs : List ℕ) → z.n ≤ 32 → All (λ i. i < z.n) bs → below 32 bs ≡ true
below-32 z bs h k = all-below 32 bs (all-imp (λ i. i < z.n) (λ i. i < 32) (λ i l. omega arith) bs k)

-- the first board read
pub first-known : (z : Sizes) (bs : List ℕ) → Legal z → length bs ≡ z.k → below z.n bs ≡ true → get_or bs 0 0 < z.n
first-known z bs legal counted known = all-at (λ i. i < z.n) 0 bs (below_all z.n bs known) 0 (omega (arith, counted, legal.some_read))

module _ (z : Sizes) (legal : Legal z) (b : ℕ) (zs y : List ℕ) (lz : length zs ≡ 32)
    (ey : y ≡ tabulate (length (take (z.d + z.r - 0) (drop 0 zs))) (λ t. (b + t) % z.n)) where
  open z use {n, d, r}

  pub near-is : y ≡ neighbours z b (d + r)
  unfolding neighbours
  near-is =
      ey ∙ ap (λ (m : ℕ). tabulate m (λ t. (b + t) % n)) (mid_len {X = ℕ} 0 (d + r) zs (omega (arith, lz, legal.enough, legal.few)) ∙ sub-zero (d + r))

  pub near-long : length y ≡ d + r
  near-long = ap length near-is ∙ length-neighbours z b (d + r)

  -- all of them
  pub near_again : take (d + r - 0) (drop 0 (put_mid 0 (d + r - 0) zs y)) ≡ neighbours z b (d + r)
  near_again = back-part (d + r) zs y near-long ∙ near-is

  -- the first m
  pub few-again : (m : ℕ) → m ≤ d + r → take (m - 0) (drop 0 (put_mid 0 (d + r - 0) zs y)) ≡ take m (neighbours z b (d + r))
  few-again m h =
      ap (λ (v : ℕ). take v (put_mid 0 (d + r - 0) zs y)) (sub-zero m) ∙ take-append-le m y _ (omega (arith, near-long, h)) ∙ ap (take m) near-is

  pub few-long : (m : ℕ) → m ≤ d + r → length (take (m - 0) (drop 0 (put_mid 0 (d + r - 0) zs y))) ≡ m
  few-long m h = ap length (few-again m h) ∙ length-take-le m (neighbours z b (d + r)) (omega (arith, length-neighbours z b (d + r), h))

  pub near-below : b < n → below 32 (take (d + r - 0) (drop 0 (put_mid 0 (d + r - 0) zs y))) ≡ true
  near-below h = ap (below 32) near_again ∙ below-32 z (neighbours z b (d + r)) legal.few (neighbours-boards z b (d + r) h legal.enough).known

  pub few-below : b < n → (m : ℕ) → m ≤ d + r → below 32 (take (m - 0) (drop 0 (put_mid 0 (d + r - 0) zs y))) ≡ true
  few-below h m l =
      ap (below 32) (few-again m l)
      ∙ below-32 z (take m (neighbours z b (d + r))) legal.few (take-alls (λ i. i < n) m (neighbours z b (d + r)) (neighbours-boards z b (d + r) h legal.enough).known)
