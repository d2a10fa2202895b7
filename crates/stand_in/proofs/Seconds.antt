-- The bytes by factors are those of the definition.
-- Assumes nothing.
use mathlib.Core.Path.{◌≡◌, refl, sym, ap, ◌∙◌}
use mathlib.Core.List.{List, ◌++◌}
use Prim.Native.Nat.{ℕ, ◌+◌, ◌*◌, ◌-◌, ◌%◌, ◌<◌, ◌≤◌}
use native.Mathlib.Omega.{arith}
use lib.ListN.{length, get_or, take, drop}
use Rattle.lists.specs.Lists.{Bytes, tabulate, piece, fit}
use Rattle.lists.proofs.Put.{part_end}
use Rattle.lists.proofs.Pieces.{tabulate-ext, piece-join, length-piece, piece_bytes}
use Rattle.sizes.specs.declared.Sizes.{Sizes}
use Rattle.sizes.specs.Sizing.{α}
use Rattle.sizes.proofs.Legal.{Legal}
use Rattle.mbcr.specs.Share.{DifferentPoints}
use Rattle.mbcr.specs.Rebuild.{seconds, helper_pair, helper_packet, stand_in_packet}
use Rattle.lagrange_factors.specs.Steps.{factors_at, dot_of}
use Rattle.stripe_helper.specs.Steps.{pair_by}
use Rattle.stripe_helper.proofs.Packets.{pair_is}

-- the second byte of a pair by factors
second-of : (w : ℕ) (ff gf held : List ℕ) → get_or (pair_by w ff gf held) 1 0 ≡ dot_of gf (take 1 held ++ drop w held)
unfolding pair_by
second-of w ff gf held = refl

module _ (z : Sizes) (pts : List ℕ) (legal : Legal z) (apart : DifferentPoints z pts) (j i : ℕ) (hj : j < z.n) where
  open z use {n, d, r}

  pair-long : (held : List ℕ) → length (helper_pair z pts j i held) ≡ 2
  unfolding helper_pair
  pair-long held = refl

  -- of a stripe of the packet
  second_is : (S s gl : ℕ) (gf held : List ℕ) → s < S → d ≤ gl → gf ≡ fit gl (factors_at pts (tabulate d (λ t. (j + t) % n)) i) → length held ≡ S * α z → Bytes held
      → dot_of gf (take 1 (piece (α z) s held) ++ drop (d + r) (piece (α z) s held)) ≡ get_or (piece 2 s (helper_packet z pts S j i held)) 1 0
  unfolding helper_packet
  second_is S s gl gf held h hg eg l b =
      let w : List ℕ = piece (α z) s held in
      let ff : List ℕ = fit (d + r) (factors_at pts (tabulate (d + r) (λ t. (j + t) % n)) i) in
      sym (second-of (d + r) ff gf w)
      ∙ ap (λ (q : List ℕ). get_or q 1 0)
      (pair_is z pts legal apart j i hj (d + r) gl ff gf w (omega arith) hg refl eg (length-piece (α z) s held (omega (arith, part_end s (α z) S h))) (piece_bytes (α z) s held b)
      ∙ sym (piece-join S 2 (λ s. helper_pair z pts j i (piece (α z) s held)) (λ s k. pair-long (piece (α z) s held)) s h))

  pub packet-is : (S gl : ℕ) (gf held : List ℕ) → d ≤ gl → gf ≡ fit gl (factors_at pts (tabulate d (λ t. (j + t) % n)) i) → length held ≡ S * α z → Bytes held
      → tabulate S (λ s. dot_of gf (take 1 (piece (d + r + d - 1) s held) ++ drop (d + r) (piece (d + r + d - 1) s held))) ≡ stand_in_packet z pts S j i held
  unfolding stand_in_packet seconds
  packet-is S gl gf held hg eg l b =
      let a : d + r + d - 1 ≡ α z = omega arith in
      tabulate-ext S _ (λ s. get_or (piece 2 s (helper_packet z pts S j i held)) 1 0)
      (λ s h. ap (λ (m : ℕ). dot_of gf (take 1 (piece m s held) ++ drop (d + r) (piece m s held))) a ∙ second_is S s gl gf held h hg eg l b)
