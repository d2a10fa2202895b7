-- The stripes of a board: by factors they are those by f and g, and these are what the board keeps afresh.
-- Assumes nothing.
use mathlib.Core.Path.{◌≡◌, sym, ap, ◌∙◌}
use mathlib.Core.Bool.{true}
use mathlib.Core.Logic.{◌≢◌}
use mathlib.Core.List.{List}
use Prim.Native.Nat.{ℕ, ◌+◌, ◌*◌, ◌%◌, ◌<◌, ◌≤◌}
use native.Mathlib.Omega.{arith}
use lib.ListN.{length, get_or, set}
use lib.Seq.{take_all}
use Rattle.lists.specs.Lists.{Bytes, tabulate, join, piece, fit}
use Rattle.lists.proofs.Pieces.{join-ext, join-piece, length-join, length-piece, piece_bytes}
use Rattle.lists.proofs.Put.{part_end}
use Rattle.sizes.specs.declared.Sizes.{Sizes}
use Rattle.sizes.specs.Sizing.{legal, α}
use Rattle.sizes.proofs.Legal.{Legal}
use Rattle.polynomial.specs.Polynomial.{eval}
use Rattle.mbcr.specs.Share.{DifferentPoints}
use Rattle.mbcr.specs.Rebuild.{own_f, own_g}
use Rattle.mbcr.specs.Afresh.{share_afresh}
use Rattle.mbcr.specs.AfreshLaws.{patched}
use Rattle.mbcr.proofs.Patched.{kept-patched, length-patched}
use Rattle.lagrange_factors.specs.Steps.{factors_for}
use Rattle.stripe_helper.proofs.Packets.{pair-for}
use Rattle.rekeep_stripes.specs.Steps.{patch_by, share_patched}
use Rattle.rekeep_stripes.proofs.Stripes.{none-set}

-- a stripe of those held
held-long : (z : Sizes) (S s : ℕ) (held : List ℕ) → length held ≡ S * α z → s < S → length (piece (α z) s held) ≡ α z
held-long z S s held l h = length-piece (α z) s held (omega (arith, l, part_end s (α z) S h))

-- by factors
pub share-made : (z : Sizes) (xs : List ℕ) → Legal z → DifferentPoints z xs → (i : ℕ) → i < z.n → (t y S fl gl : ℕ) (ff gf held new : List ℕ)
    → z.d + z.r ≤ fl → z.d ≤ gl → ff ≡ fit fl (factors_for xs (tabulate (z.d + z.r) (λ t. (i + t) % z.n)) y)
    → gf ≡ fit gl (factors_for xs (tabulate z.d (λ t. (i + t) % z.n)) y) → length held ≡ S * α z → Bytes held
    → new ≡ join S (λ s. patch_by z t ff gf (piece (α z) s held)) → new ≡ share_patched z xs t y S i held
unfolding patch_by share_patched
share-made z xs ok apart i hi t y S fl gl ff gf held new hf hg ef eg l b e =
    e ∙ join-ext S _ _ (λ s h.
    ap (λ (p : List ℕ). patched z t (get_or p 0 0) (get_or p 1 0) (piece (α z) s held))
    (pair-for z xs ok apart i hi y fl gl ff gf (piece (α z) s held) hf hg ef eg (held-long z S s held l h) (piece_bytes (α z) s held b)))

-- a board that keeps no value at the moved one
pub share-stays : (z : Sizes) (xs : List ℕ) (t y S i : ℕ) (held : List ℕ) → 1 ≤ t → z.d + z.r ≤ t → length held ≡ S * α z
    → held ≡ share_patched z xs t y S i held
unfolding share_patched
share-stays z xs t y S i held some h l =
    sym (join-ext S _ (λ s. piece (α z) s held)
    (λ s k. none-set z t (eval (own_f z xs i (piece (α z) s held)) y) (eval (own_g z xs i (piece (α z) s held)) y) (piece (α z) s held) some h)
    ∙ join-piece S (α z) held ∙ take_all (S * α z) held (omega (arith, l)))

-- what the board keeps afresh
pub share-afresh : (z : Sizes) (xs : List ℕ) (m y i t S : ℕ) (held : List ℕ) → legal z ≡ true → DifferentPoints z xs → m < length xs → i < z.n → i ≢ m
    → t < z.n → (i + t) % z.n ≡ m → length held ≡ S * α z → Bytes held → share_patched z xs t y S i held ≡ share_afresh z xs (set xs m y) S i held
unfolding share_patched share_afresh
share-afresh z xs m y i t S held ok apart hm hi other ht at l b =
    join-ext S _ _ (λ s h. sym (kept-patched z xs m y i t (piece (α z) s held) ok apart hm hi other ht at (held-long z S s held l h) (piece_bytes (α z) s held b)))

pub length-share : (z : Sizes) → Legal z → (xs : List ℕ) (t y S i : ℕ) (held : List ℕ) → 1 ≤ t → length held ≡ S * α z
    → length (share_patched z xs t y S i held) ≡ S * α z
unfolding share_patched
length-share z ok xs t y S i held some l =
    length-join S (α z) _ (λ s h. length-patched z ok t (eval (own_f z xs i (piece (α z) s held)) y) (eval (own_g z xs i (piece (α z) s held)) y)
    (piece (α z) s held) (held-long z S s held l h) some)
