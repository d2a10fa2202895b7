-- A turn of the loop over the stripes: one stripe more of each fresh board, from boards whose parts no turn has changed.
-- Assumes nothing.
use Prim.Native.Nat.{ℕ, ◌+◌, ◌*◌, ◌≤◌, ◌<◌}
use mathlib.Core.Path.{◌≡◌, refl, sym, ap, subst, ◌∙◌}
use mathlib.Core.Bool.{Bool, true, false, not}
use mathlib.Core.List.{List}
use mathlib.Core.Logic.{◌⊎◌, inl, inr, ⊎_elim}
use native.Mathlib.Nat.{eq-or-lt_of_le}
use native.Mathlib.Decide.{dec_lt}
use native.Mathlib.Omega.{arith}
use lib.ListN.{length, get_or, take, drop}
use lib.Seq.{drop-drop}
use Rattle.lists.specs.Tests.{among, below, different, apart}
use Rattle.lists.specs.Lists.{All, join, piece}
use Rattle.lists.proofs.Boards.{all_among, among-all, get_d-among}
use Rattle.lists.proofs.Laws.{tests-mean}
use Rattle.lists.proofs.Pieces.{length-join}
use Rattle.lists.proofs.Tests.{true-false, every-all}
use Rattle.lagrange_factors.proofs.Values.{board-below}
use Rattle.sizes.specs.declared.Sizes.{Sizes}
use Rattle.sizes.specs.Sizing.{α}
use Rattle.sizes.proofs.Legal.{row_fits}
use Rattle.area_puts.specs.Steps.{puts}
use Rattle.area_puts.proofs.Puts.{puts-same, puts-stripe, puts-other}

-- boards with other numbers have parts apart
apart_parts : (i j w : ℕ) → (i ≡ j → ⊥) → (i * w + w ≤ j * w) ⊎ (j * w + w ≤ i * w)
apart_parts i j w ne = go (dec_lt i j)
  where
    go : Dec (i < j) → (i * w + w ≤ j * w) ⊎ (j * w + w ≤ i * w)
    go (yes h) = inl (row_fits i j w h)
    go (no h) = let k : j ≤ i = omega arith in inr (⊎_elim (λ e. absurd (ne (sym e))) (λ l. row_fits j i w l) (eq-or-lt_of_le k))

off : (b : Bool) → not b ≡ true → b ≡ false
off true h = absurd (true-false h refl)
off false h = refl

at_piece : (w s at : ℕ) (l : List ℕ) → piece w s (drop at l) ≡ take w (drop (at + s * w) l)
unfolding piece
at_piece w s at l = ap (take w) (drop-drop (s * w) at l)

-- `stripe own a` is the stripe of the a-th fresh board, where boards hold `own`; only what the boards named hold counts
module _ (z : Sizes) (fresh named area₀ : List ℕ) (part : ℕ) (bf : below z.n fresh ≡ true)
    (once : different fresh ≡ true) (none : apart fresh named ≡ true) (la : length area₀ ≡ z.n * part)
    (stripe : (ℕ → List ℕ) → ℕ → List ℕ) (long : (own : ℕ → List ℕ) (a : ℕ) → a < length fresh → length (stripe own a) ≡ α z)
    (same : (own other : ℕ → List ℕ) → All (λ j. own j ≡ other j) named → (a : ℕ) → stripe own a ≡ stripe other a) where
  -- where the a-th fresh board's part is, and stripe t of it
  abbrev at : ℕ → ℕ
  at a = get_or fresh a 0 * part

  abbrev stripe_of : ℕ → ℕ → List ℕ
  stripe_of a t = stripe (λ j. piece (α z) t (drop (j * part) area₀)) a

  abbrev pub up_to : ℕ → List ℕ
  up_to s = puts at (λ a. join s (stripe_of a)) (length fresh) area₀

  ends : (a : ℕ) → a < length fresh → at a + part ≤ length area₀
  ends a h = omega (arith, la, row_fits (get_or fresh a 0) z.n part (board-below z.n fresh a bf h))

  others : (a b : ℕ) → a < b → b < length fresh → (at b + part ≤ at a) ⊎ (at a + part ≤ at b)
  others a b h k = apart_parts (get_or fresh b 0) (get_or fresh a 0) part ((tests-mean.different-is fresh).0 once a b h k)

  joined-long : (s a : ℕ) → a < length fresh → length (join s (stripe_of a)) ≡ s * α z
  joined-long s a k = length-join s (α z) (stripe_of a) (λ t h. long _ a k)

  -- what a board that is named holds stays
  named-stays : (s j : ℕ) → s * α z + α z ≤ part → among named j ≡ true → piece (α z) s (drop (j * part) (up_to s)) ≡ piece (α z) s (drop (j * part) area₀)
  named-stays s j room e =
      at_piece (α z) s (j * part) (up_to s)
      ∙ puts-other at (λ a. join s (stripe_of a)) (length fresh) area₀ (j * part + s * α z) (α z) (λ a h. omega (arith, ends a h, joined-long s a h, room))
      (λ a h.
      ⊎_elim (λ k. inl (omega (arith, k, room))) (λ k. inr (omega (arith, k, joined-long s a h, room))) (apart_parts j (get_or fresh a 0) part (unlike a h)))
      ∙ sym (at_piece (α z) s (j * part) area₀)
    where
      unlike : (a : ℕ) → a < length fresh → j ≡ get_or fresh a 0 → ⊥
      unlike a h q =
          true-false (get_d-among fresh a h)
          (subst (λ (x : ℕ). among fresh x ≡ false) q (off (among fresh j) (all_among (λ x. not (among fresh x) ≡ true) named j (every-all (λ x. not (among fresh x)) named none) e)))

  pub turn : (s : ℕ) (area next : List ℕ) → s * α z + α z ≤ part → area ≡ up_to s
      → next ≡ puts (λ a. at a + s * α z) (stripe (λ j. piece (α z) s (drop (j * part) area))) (length fresh) area → next ≡ up_to (s + 1)
  turn s area next room ea en =
      en
      ∙ ap (λ (l : List ℕ). puts (λ a. at a + s * α z) (stripe (λ j. piece (α z) s (drop (j * part) l))) (length fresh) l) ea
      ∙ puts-same (λ a. at a + s * α z) (λ a. at a + s * α z) _ (λ a. stripe_of a s) (length fresh) (up_to s) (λ a h. refl)
      (λ a h.
      same (λ j. piece (α z) s (drop (j * part) (up_to s))) (λ j. piece (α z) s (drop (j * part) area₀))
      (among-all _ named (λ j e. named-stays s j room e)) a)
      ∙ puts-stripe at part (α z) s (length fresh) stripe_of (λ a t k. long _ a k) room area₀ ends others
