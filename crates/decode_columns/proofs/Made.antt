-- A stripe put together of its three parts, as the borrow checker has it.
-- Assumes nothing.
use mathlib.Core.Path.{◌≡◌, ap, ap₂, ◌∙◌}
use mathlib.Core.List.{List, ◌++◌, append-nil}
use Prim.Native.Nat.{ℕ, ◌+◌, ◌*◌, ◌-◌, ◌≤◌}
use native.Mathlib.Omega.{arith}
use lib.ListN.{length, get_or, take, drop, length-drop, drop_of_length-le}
use lib.Seq.{drop_at, take_all, length-take-le}
use borrow.Rule.Slice.PartMut.{put_mid}
use Rattle.lists.proofs.Pieces.{length-tabulate, length-join}
use Rattle.sizes.specs.declared.Sizes.{Sizes}
use Rattle.sizes.specs.Sizing.{B}
use Rattle.sizes.proofs.Legal.{Legal}
use Rattle.decode_laws.specs.Steps.{cell, by_rows, by_columns, turned, parts, stripe_by}
use Rattle.decode_laws.proofs.Rows.{length-sums}
use Rattle.decode_laws.proofs.Loops.{three-parts}

pub length-by-rows : (count m : ℕ) (a rows : List ℕ) → length (by_rows count m a rows) ≡ count * 32
unfolding by_rows
length-by-rows count m a rows = length-join count 32 _ (λ i h. length-sums m (λ s. get_or a (i * m + s) 0) rows)

length-turned : (count from m : ℕ) (rows : List ℕ) → length (turned count from m rows) ≡ count * m
unfolding turned
length-turned count from m rows = length-join count m _ (λ i h. length-tabulate m (λ j. cell rows (from + j) i))

module _ (z : Sizes) (legal : Legal z) (rows y : List ℕ) (lr : length rows ≡ z.d * 32) (ly : length y ≡ (z.d - z.k) * 32) where
  open z use {n, k, d, r}

  few : k * 32 ≤ d * 32
  few = omega (arith, legal.read-helpers)

  lt : length (take (k * 32) rows) ≡ k * 32
  lt = length-take-le (k * 32) rows (omega (arith, few))

  -- the rows, with those from k on put behind the others
  pub rows_made : put_mid (k * 32) (d * 32 - k * 32) rows y ≡ take (k * 32) rows ++ y
  rows_made =
      ap (λ (l : List ℕ). take (k * 32) rows ++ (y ++ l)) (drop_of_length-le (drop (k * 32) rows) {i = d * 32 - k * 32} (omega (arith, length-drop (k * 32) rows)))
      ∙ ap (λ (l : List ℕ). take (k * 32) rows ++ l) (append-nil y)

  pub low_again : take (d * 32 - k * 32) (drop (k * 32) (put_mid (k * 32) (d * 32 - k * 32) rows y)) ≡ y
  low_again =
      ap (λ (l : List ℕ). take (d * 32 - k * 32) (drop (k * 32) l)) rows_made
      ∙ ap (take (d * 32 - k * 32)) (drop_at (take (k * 32) rows) y (k * 32) lt)
      ∙ take_all (d * 32 - k * 32) y (omega arith)

-- the stripe
pub stripe-made : (z : Sizes) → Legal z → (rows y e tp columns u x₁ x₂ x₃ : List ℕ) → length rows ≡ z.d * 32 → length u ≡ B z
    → y ≡ by_rows (z.d - z.k) z.k tp e
    → columns ≡ by_columns (z.d + z.r) 0 z.d (put_mid (z.k * 32) (z.d * 32 - z.k * 32) rows y) e
    → x₁ ≡ turned z.k 0 z.k columns
    → x₂ ≡ turned z.k z.k (z.d + z.r - z.k) columns
    → x₃ ≡ parts (z.d - z.k) 0 z.k (take (z.d * 32 - z.k * 32) (drop (z.k * 32) (put_mid (z.k * 32) (z.d * 32 - z.k * 32) rows y)))
    → let a = z.k * z.k in let b = z.k * z.k + z.k * (z.d + z.r - z.k) in
    put_mid b (length u - b) (put_mid a (b - a) (put_mid 0 (a - 0) u x₁) x₂) x₃ ≡ stripe_by z.k z.d (z.d + z.r) e (take (z.k * 32) rows) tp
unfolding stripe_by
stripe-made z legal rows y e tp columns u x₁ x₂ x₃ lr lu ey ec e1 e2 e3 =
    let k : ℕ = z.k in
    let d : ℕ = z.d in
    let w : ℕ = z.d + z.r in
    let a : ℕ = k * k in
    let b : ℕ = k * k + k * (w - k) in
    let ly : length y ≡ (d - k) * 32 = ap length ey ∙ length-by-rows (d - k) k tp e in
    let c : columns ≡ by_columns w 0 d (take (k * 32) rows ++ by_rows (d - k) k tp e) e =
    ec ∙ ap (λ (l : List ℕ). by_columns w 0 d l e) (rows_made z legal rows y lr ly ∙ ap (λ (l : List ℕ). take (k * 32) rows ++ l) ey) in
    let s1 : length x₁ ≡ a = ap length e1 ∙ length-turned k 0 k columns in
    let s2 : length x₂ ≡ b - a = ap length e2 ∙ length-turned k k (w - k) columns ∙ omega arith in
    three-parts a b u x₁ x₂ x₃ (omega arith) s1 s2
    ∙ ap₂ {C = List ℕ} (λ p q. p ++ q)
    (ap₂ {C = List ℕ} (λ p q. p ++ q) (e1 ∙ ap (turned k 0 k) c) (e2 ∙ ap (turned k k (w - k)) c))
    (e3 ∙ ap (parts (d - k) 0 k) (low_again z legal rows y lr ly ∙ ey))
