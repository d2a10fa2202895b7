-- The two bytes by factors are those of the definition; a packet of them.
-- Assumes nothing.
use mathlib.Core.Path.{◌≡◌, refl, sym, ap, ap₂, ◌∙◌}
use mathlib.Core.List.{List, [], ◌∷◌, ◌++◌}
use Prim.Native.Nat.{ℕ, ◌+◌, ◌*◌, ◌-◌, ◌%◌, ◌<◌, ◌≤◌}
use native.Mathlib.Nat.{mul_comm}
use native.Mathlib.Omega.{arith}
use lib.ListN.{length, get_or, take, drop, length-append, length-take, length-drop}
use Rattle.lists.specs.Lists.{Bytes, tabulate, join, piece, fit}
use Rattle.lists.proofs.Alls.{take-alls, drop-alls, append-all}
use Rattle.lists.proofs.Put.{part_end}
use Rattle.lists.proofs.Pieces.{join-ext, length-piece, piece_bytes}
use Rattle.gf256.specs.Field.{mul}
use Rattle.sizes.specs.declared.Sizes.{Sizes}
use Rattle.sizes.specs.Sizing.{α}
use Rattle.sizes.proofs.Legal.{Legal, α-parts}
use Rattle.polynomial.specs.Polynomial.{eval, interpolate, sum}
use Rattle.mbcr.specs.Share.{DifferentPoints, point, points, neighbours}
use Rattle.mbcr.specs.Rebuild.{own_f, own_g, helper_pair, helper_packet}
use Rattle.mbcr.proofs.Points.{length-neighbours, neighbours-boards, points-bytes, points-distinct}
use Rattle.lagrange_factors.specs.Steps.{factors_for, factors_at, dot_of}
use Rattle.lagrange_factors.proofs.Values.{dot-row, factors-for, factors-at}
use Rattle.stripe_helper.specs.Steps.{pair_by}

pub pair_made : (d w a b : ℕ) (ff gf held f f₀ g g₀ : List ℕ) → f₀ ≡ tabulate 32 (λ j. 0) → g₀ ≡ tabulate 32 (λ j. 0) → f ≡ take w held ++ drop w f₀
    → g ≡ (take 1 held ++ drop w held) ++ drop d g₀
    → a ≡ sum (length ff) (λ j. mul (get_or ff j 0) (get_or f j 0)) → b ≡ sum (length gf) (λ j. mul (get_or gf j 0) (get_or g j 0))
    → a ∷ b ∷ [] ≡ pair_by w ff gf held
unfolding pair_by
pair_made d w a b ff gf held f f₀ g g₀ zf zg ef eg ea eb =
    ap₂ {C = List ℕ} (λ (x y : ℕ). x ∷ y ∷ []) (dot-row ff (take w held) f f₀ w a zf ef ea) (dot-row gf (take 1 held ++ drop w held) g g₀ d b zg eg eb)

pub length-pair : (w : ℕ) (ff gf held : List ℕ) → length (pair_by w ff gf held) ≡ 2
unfolding pair_by
length-pair w ff gf held = refl

-- at the end of the loop over the stripes
pub pairs_made : (f : ℕ → List ℕ) (S s : ℕ) (out₀ out : List ℕ) → s ≡ S → out ≡ join s f ++ drop (s * 2) out₀ → out ≡ join S f ++ drop (2 * S) out₀
pairs_made f S s out₀ out e h = h ∙ ap₂ {C = List ℕ} (λ (a b : ℕ). join a f ++ drop b out₀) e (mul_comm s 2 ∙ ap (λ (m : ℕ). 2 * m) e)

-- ---- by the definition

module _ (z : Sizes) (pts : List ℕ) (legal : Legal z) (apart : DifferentPoints z pts) (j : ℕ) (hj : j < z.n) where
  open z use {n, d, r}

  -- the factors of the board and the m − 1 after it for a byte
  abbrev pub near_for : ℕ → ℕ → ℕ → List ℕ
  near_for y L m = fit L (factors_for pts (tabulate m (λ t. (j + t) % n)) y)

  value : (y m L : ℕ) (fs vs : List ℕ) → m ≤ n → m ≤ L → length vs ≡ m → Bytes vs → fs ≡ near_for y L m
      → dot_of fs vs ≡ eval (interpolate (points pts (neighbours z j m)) vs) y
  unfolding neighbours
  value y m L fs vs h l e b ef =
      let bs = neighbours-boards z j m hj h in
      let n = length-neighbours z j m in
      factors-for pts (tabulate m (λ t. (j + t) % z.n)) vs fs y L ef (omega arith) (n ∙ sym e)
      (points-bytes z pts apart _ bs) (points-distinct z pts apart _ bs) b

  -- f and g at a byte, from the bytes of a stripe
  pub pair-for : (y fl gl : ℕ) (ff gf held : List ℕ) → d + r ≤ fl → d ≤ gl → ff ≡ near_for y fl (d + r) → gf ≡ near_for y gl d → length held ≡ α z → Bytes held
      → pair_by (d + r) ff gf held ≡ eval (own_f z pts j held) y ∷ eval (own_g z pts j held) y ∷ []
  unfolding pair_by own_f own_g
  pair-for y fl gl ff gf held hf hg ef eg l b =
      let α' = α-parts z legal in
      let few = legal.some_read in
      let known = legal.read-helpers in
      ap₂ {C = List ℕ} (λ (x y : ℕ). x ∷ y ∷ [])
      (value y (d + r) fl ff (take (d + r) held) legal.enough hf (simp length-take (omega arith)) (take-alls (λ a. a < 256) (d + r) held b) ef)
      (value y d gl gf (take 1 held ++ drop (d + r) held) (omega (arith, legal.enough)) hg (simp (length-append, length-take, length-drop) (omega arith))
      (append-all (λ a. a < 256) (take 1 held) (drop (d + r) held) (take-alls (λ a. a < 256) 1 held b) (drop-alls (λ a. a < 256) (d + r) held b)) eg)

module _ (z : Sizes) (pts : List ℕ) (legal : Legal z) (apart : DifferentPoints z pts) (j i : ℕ) (hj : j < z.n) where
  open z use {n, d, r}

  -- the factors of the board and the m − 1 after it
  abbrev near : ℕ → ℕ → List ℕ
  near L m = fit L (factors_at pts (tabulate m (λ t. (j + t) % n)) i)

  -- from the bytes of a stripe
  pub pair_is : (fl gl : ℕ) (ff gf held : List ℕ) → d + r ≤ fl → d ≤ gl → ff ≡ near fl (d + r) → gf ≡ near gl d → length held ≡ α z → Bytes held
      → pair_by (d + r) ff gf held ≡ helper_pair z pts j i held
  unfolding helper_pair
  pair_is fl gl ff gf held hf hg ef eg l b =
      pair-for z pts legal apart j hj (point pts i) fl gl ff gf held hf hg (ef ∙ ap (fit fl) (factors-at pts _ i)) (eg ∙ ap (fit gl) (factors-at pts _ i)) l b

  pub packet-is : (S fl gl : ℕ) (ff gf held : List ℕ) → d + r ≤ fl → d ≤ gl → ff ≡ near fl (d + r) → gf ≡ near gl d → length held ≡ S * α z → Bytes held
      → join S (λ s. pair_by (d + r) ff gf (piece (d + r + d - 1) s held)) ≡ helper_packet z pts S j i held
  unfolding helper_packet
  packet-is S fl gl ff gf held hf hg ef eg l b =
      let a : d + r + d - 1 ≡ α z = omega arith in
      join-ext S _ _ (λ s h. ap (λ (w : ℕ). pair_by (d + r) ff gf (piece w s held)) a
      ∙ pair_is fl gl ff gf (piece (α z) s held) hf hg ef eg (length-piece (α z) s held (omega (arith, part_end s (α z) S h))) (piece_bytes (α z) s held b))
