-- The bytes of one stripe of each board, one board's after another: where they start, how many stripes they are, and how pairs of a text spell them.
-- Assumes nothing.
use mathlib.Core.Path.{◌≡◌, refl, sym, ap, ap₂, ◌∙◌}
use mathlib.Core.List.{List, ◌++◌}
use Prim.Native.Nat.{ℕ, zero, suc, ◌+◌, ◌*◌, ◌-◌, ◌<◌, ◌≤◌}
use native.Mathlib.Nat.{one-mul, zero-mul}
use native.Mathlib.Omega.{arith}
use lib.ListN.{length, get_or, take, drop, length-drop}
use lib.Seq.{take_all, length-take-le}
use borrow.Rule.Slice.PartMut.{put_mid}
use Rattle.lists.specs.Lists.{join, joined, piece}
use Rattle.lists.proofs.Alls.{all-at}
use Rattle.lists.proofs.Pieces.{length-tabulate, tabulate-at, tabulate-all, join-ext, join-joined, join-piece}
use Rattle.sizes.specs.declared.Sizes.{Sizes}
use Rattle.sizes.specs.Sizing.{α, B, stripes}
use Rattle.sizes.proofs.Legal.{Legal, row_fits, stripes-enough, stripes-least}
use Rattle.decode_laws.specs.Steps.{Placed}
use Rattle.decode_laws.proofs.Loops.{join-loop, join-end}
use Rattle.decode_file.specs.Steps.{shares_at}
use Rattle.text_in.specs.Steps.{bytes_at}
use Rattle.text_stripes.specs.Steps.{spelled, Spelled, stripe_starts}

-- ---- one stripe

-- some bytes, and no more than a stripe has, are one stripe
pub one-stripe : (z : Sizes) → Legal z → (m : ℕ) → 0 < m → m ≤ B z → 1 ≡ stripes z m
one-stripe z legal m h k = go (stripes z m) (stripes-enough z legal m) (stripes-least z legal m 1 (omega arith))
  where
    go : (s : ℕ) → m ≤ s * B z → s ≤ 1 → 1 ≡ s
    go zero e l = absurd (omega (arith, zero-mul (B z)))
    go (suc s) e l = omega arith

as-piece : (w t : ℕ) (l : List ℕ) → take w (drop (t * w) l) ≡ piece w t l
unfolding piece
as-piece w t l = refl

module _ (z : Sizes) (starts held : List ℕ) (es : starts ≡ stripe_starts z) (lh : length held ≡ z.k * α z) where
  open z use {k}

  pub starts-long : length starts ≡ k
  starts-long = ap length es ∙ length-tabulate k (λ t. t * α z)

  pub starts-placed : Placed z starts held 1
  starts-placed = rw es (tabulate-all (λ p. p + 1 * α z ≤ length held) k (λ t. t * α z) (λ t h. omega (arith, row_fits t k (α z) h)))

  -- the shares at these places are the bytes as they stand
  starts-shares : shares_at z 1 starts held ≡ held
  unfolding shares_at
  starts-shares =
      ap₂ {C = List ℕ} (λ (w : ℕ) (l : List ℕ). joined (λ p. take w (drop p held)) l) (one-mul (α z)) es
      ∙ sym (join-joined (λ p. take (α z) (drop p held)) (stripe_starts z))
      ∙ ap (λ (n : ℕ). join n (λ t. take (α z) (drop (get_or (stripe_starts z) t 0) held))) (length-tabulate k (λ t. t * α z))
      ∙ join-ext k _ (λ t. piece (α z) t held) (λ t h.
      ap (λ (p : ℕ). take (α z) (drop p held)) (tabulate-at k (λ t. t * α z) 0 t h) ∙ as-piece (α z) t held)
      ∙ join-piece k (α z) held ∙ take_all (k * α z) held (omega arith)

  -- so they are those that the pairs spell
  pub stripe-shares : (text places : List ℕ) (from share : ℕ) → held ≡ spelled text places from share → share ≡ α z
      → shares_at z 1 starts held ≡ spelled text places from (α z)
  stripe-shares text places from share e h = starts-shares ∙ e ∙ ap (spelled text places from) h

-- ---- pairs of a text

module _ (text places : List ℕ) (from share : ℕ) where
  -- the bytes of the t-th board
  abbrev pub board : ℕ → List ℕ
  board t = bytes_at text (get_or places t 0 + from) share

  board-long : (t : ℕ) → length (board t) ≡ share
  board-long t = length-tabulate share _

  -- its pairs stand in the text
  pub board-in : Spelled text places from share → (t : ℕ) → t < length places → get_or places t 0 + from + 2 * share ≤ length text
  board-in = all-at (λ p. p + from + 2 * share ≤ length text) 0 places

  -- the part of the output that is its
  pub part-share : (t : ℕ) (out : List ℕ) → t < length places → length out ≡ length places * share
      → length (take (t * share + share - t * share) (drop (t * share) out)) ≡ share
  part-share t out h lo =
      let e : t * share + share - t * share ≡ share = omega arith in
      length-take-le _ (drop (t * share) out) (rw length-drop (omega (arith, row_fits t (length places) share h))) ∙ e

  -- a turn of the loop over the boards
  pub board-turn : (t m : ℕ) (out₀ out ys : List ℕ) → m ≡ share → ys ≡ bytes_at text (get_or places t 0 + from) m → out ≡ join t board ++ drop (t * share) out₀
      → put_mid (t * share) (t * share + share - t * share) out ys ≡ join (t + 1) board ++ drop ((t + 1) * share) out₀
  board-turn t m out₀ out ys em ey =
      join-loop board share t out₀ out ys (λ i h. board-long i) (ey ∙ ap (bytes_at text (get_or places t 0 + from)) em)

  -- at its end all boards' bytes stand there
  pub boards-end : (t : ℕ) (out₀ out : List ℕ) → t ≡ length places → length out₀ ≡ length places * share → out ≡ join t board ++ drop (t * share) out₀
      → out ≡ spelled text places from share
  unfolding spelled
  boards-end t out₀ out e lo h =
      join-end board share t (length places) out₀ out e lo h ∙ join-joined (λ p. bytes_at text (p + from) share) places
