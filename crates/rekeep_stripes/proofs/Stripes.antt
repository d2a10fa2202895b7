-- One stripe in place, and stripe after stripe.
-- Assumes nothing.
use mathlib.Core.Path.{◌≡◌, refl, sym, ap, ◌∙◌}
use mathlib.Core.List.{List, [], ◌∷◌, ◌++◌}
use Prim.Native.Nat.{ℕ, ◌+◌, ◌*◌, ◌-◌, ◌<◌, ◌≤◌}
use native.Mathlib.Nat.{mul-le-mul_right}
use native.Mathlib.Omega.{arith}
use lib.ListN.{length, get_or, take, drop, set}
use lib.Seq.{drop_at}
use borrow.Author.Tests.{lt-ltb, le-ltb, le-leb}
use borrow.Rule.Slice.PartMut.{put_mid}
use Rattle.lists.specs.Lists.{join, piece}
use Rattle.lists.proofs.Pieces.{length-join, length-piece, part-piece}
use Rattle.lists.proofs.Put.{part_end}
use Rattle.sizes.specs.declared.Sizes.{Sizes}
use Rattle.sizes.specs.Sizing.{α}
use Rattle.sizes.proofs.Legal.{Legal}
use Rattle.mbcr.specs.AfreshLaws.{patched}
use Rattle.mbcr.proofs.Patched.{length-patched}
use Rattle.row_dots.proofs.Rows.{join-loop}
use Rattle.lagrange_factors.specs.Steps.{dot_of}
use Rattle.stripe_helper.specs.Steps.{pair_by}
use Rattle.rekeep_stripes.specs.Steps.{patch_by}

module _ (z : Sizes) (t a b : ℕ) (w : List ℕ) (some : 1 ≤ t) where
  open z use {d, r}

  -- both bytes, the first alone, and none
  both-set : t < d → patched z t a b w ≡ set (set w t a) (d + r + (t - 1)) b
  unfolding patched
  both-set h = let k : t < d + r = omega (arith, h) in rw (lt-ltb t (d + r) k, le-leb 1 t some, lt-ltb t d h) refl

  one_set : d ≤ t → t < d + r → patched z t a b w ≡ set w t a
  unfolding patched
  one_set h k = rw (lt-ltb t (d + r) k, le-leb 1 t some, le-ltb t d h) refl

  pub none-set : d + r ≤ t → patched z t a b w ≡ w
  unfolding patched
  none-set h = let k : d ≤ t = omega (arith, h) in rw (le-ltb t (d + r) h, le-leb 1 t some, le-ltb t d k) refl

module _ (z : Sizes) (t a b : ℕ) (ff gf w : List ℕ) (some : 1 ≤ t) (pair : a ∷ b ∷ [] ≡ pair_by (z.d + z.r) ff gf w) where
  open z use {d, r}

  by-pair : patched z t a b w ≡ patch_by z t ff gf w
  unfolding patch_by
  by-pair = ap (λ (p : List ℕ). patched z t (get_or p 0 0) (get_or p 1 0) w) pair

  pub patch-both : (at : ℕ) → t < d → at ≡ d + r + (t - 1) → set (set w t a) at b ≡ patch_by z t ff gf w
  patch-both at h e = ap (λ (q : ℕ). set (set w t a) q b) e ∙ sym (both-set z t a b w some h) ∙ by-pair

-- where the board keeps f alone, by its value alone
pub patch-one : (z : Sizes) (t v : ℕ) (ff gf w : List ℕ) → 1 ≤ t → v ≡ dot_of ff (take (z.d + z.r) w) → z.d ≤ t → t < z.d + z.r
    → set w t v ≡ patch_by z t ff gf w
unfolding patch_by pair_by
patch-one z t v ff gf w some e h k = ap (set w t) e ∙ sym (one_set z t _ _ w some h k)

pub length-patch : (z : Sizes) → Legal z → (t : ℕ) (ff gf w : List ℕ) → 1 ≤ t → length w ≡ α z → length (patch_by z t ff gf w) ≡ α z
unfolding patch_by
length-patch z ok t ff gf w some l =
    length-patched z ok t (get_or (pair_by (z.d + z.r) ff gf w) 0 0) (get_or (pair_by (z.d + z.r) ff gf w) 1 0) w l some

-- ---- stripe after stripe, by any g

-- a board's part is at most 4,096 stripes of 62 bytes
pub part-most : (a c : ℕ) → c ≤ 4096 → a ≤ 62 → c * a ≤ 253952
part-most a c h k = let p : c * a ≤ 4096 * a = mul-le-mul_right a h in omega arith

module _ (g : List ℕ → List ℕ) (w : ℕ) (long : (u : List ℕ) → length u ≡ w → length (g u) ≡ w) (held₀ : List ℕ) where
  abbrev f : ℕ → List ℕ
  f q = g (piece w q held₀)

  f-long : (s : ℕ) → s * w ≤ length held₀ → (q : ℕ) → q < s → length (f q) ≡ w
  f-long s room q h = long (piece w q held₀) (length-piece w q held₀ (omega (arith, part_end q w s h, room)))

  pub stripes-first : held₀ ≡ join 0 f ++ drop (0 * w) held₀
  stripes-first = let e : 0 ≡ 0 * w = omega arith in ap (λ (m : ℕ). drop m held₀) e

  -- a stripe is as it was until its turn
  as_it_was : (s : ℕ) (held : List ℕ) → s * w ≤ length held₀ → held ≡ join s f ++ drop (s * w) held₀ → piece w s held ≡ piece w s held₀
  unfolding piece
  as_it_was s held room eh =
      ap (λ (l : List ℕ). take w (drop (s * w) l)) eh ∙ ap (take w) (drop_at (join s f) (drop (s * w) held₀) (s * w) (length-join s w f (f-long s room)))

  pub stripes-turn : (s : ℕ) (held new : List ℕ) → s * w + w ≤ length held₀ → held ≡ join s f ++ drop (s * w) held₀
      → new ≡ g (take (s * w + w - s * w) (drop (s * w) held))
      → put_mid (s * w) (s * w + w - s * w) held new ≡ join (s + 1) f ++ drop ((s + 1) * w) held₀
  stripes-turn s held new room eh en =
      let room' : s * w ≤ length held₀ = omega (arith, room) in
      join-loop f w s held₀ held new (f-long s room') (en ∙ ap g (part-piece w s held ∙ as_it_was s held room' eh)) eh
