-- Shares that stand one after another start at multiples of their length.
-- Assumes nothing.
use mathlib.Core.Path.{◌≡◌, refl, sym, ap, ap₂, ◌∙◌}
use mathlib.Core.List.{List}
use Prim.Native.Nat.{ℕ, ◌+◌, ◌*◌, ◌-◌, ◌≤◌}
use native.Mathlib.Nat.{mul-le-mul_right}
use native.Mathlib.Omega.{arith}
use lib.ListN.{length, get_or, take, drop}
use lib.Seq.{take_all}
use borrow.Rule.Slice.PartMut.{put_mid}
use Rattle.lists.specs.Lists.{tabulate, join, joined, piece}
use Rattle.lists.proofs.Pieces.{length-tabulate, tabulate-at, tabulate-all, join-ext, join-joined, join-piece}
use Rattle.sizes.specs.declared.Sizes.{Sizes}
use Rattle.sizes.specs.Sizing.{α}
use Rattle.sizes.proofs.Legal.{Legal, row_fits, α-most}
use Rattle.decode_laws.specs.Steps.{Placed}
use Rattle.decode_laws.proofs.Loops.{back-part}
use Rattle.decode_stripe.proofs.Made.{part-long}
use Rattle.decode_file.specs.Steps.{shares_at}

as-piece : (b s : ℕ) (l : List ℕ) → take b (drop (s * b) l) ≡ piece b s l
unfolding piece
as-piece b s l = refl

module _ (z : Sizes) (S m : ℕ) (zs ys held : List ℕ) (em : m ≡ S * α z) (hz : z.k ≤ length zs) (lh : length held ≡ z.k * (S * α z))
    (ey : ys ≡ tabulate (length (take (z.k - 0) (drop 0 zs))) (λ t. t * m)) where
  open z use {k}

  places-are : ys ≡ tabulate k (λ t. t * (S * α z))
  places-are = ey ∙ ap₂ (λ (n m : ℕ). tabulate n (λ t. t * m)) (part-long k zs hz) em

  ly : length ys ≡ k
  ly = ap length places-are ∙ length-tabulate k (λ t. t * (S * α z))

  -- the places, as they are lent
  abbrev pub lent : List ℕ
  lent = take (k - 0) (drop 0 (put_mid 0 (k - 0) zs ys))

  lent-are : lent ≡ tabulate k (λ t. t * (S * α z))
  lent-are = back-part k zs ys ly ∙ places-are

  pub lent-long : length lent ≡ k
  lent-long = ap length lent-are ∙ length-tabulate k (λ t. t * (S * α z))

  pub lent_placed : Placed z lent held S
  lent_placed = rw lent-are (tabulate-all (λ p. p + S * α z ≤ length held) k (λ t. t * (S * α z)) (λ t h. omega (arith, row_fits t k (S * α z) h)))

  pub lent-shares : shares_at z S lent held ≡ held
  unfolding shares_at
  lent-shares =
      ap (joined (λ p. take (S * α z) (drop p held))) lent-are
      ∙ sym (join-joined (λ p. take (S * α z) (drop p held)) (tabulate k (λ t. t * (S * α z))))
      ∙ ap (λ (n : ℕ). join n (λ t. take (S * α z) (drop (get_or (tabulate k (λ t. t * (S * α z))) t 0) held))) (length-tabulate k (λ t. t * (S * α z)))
      ∙ join-ext k _ (λ t. piece (S * α z) t held) (λ t h.
      ap (λ (p : ℕ). take (S * α z) (drop p held)) (tabulate-at k (λ t. t * (S * α z)) 0 t h) ∙ as-piece (S * α z) t held)
      ∙ join-piece k (S * α z) held ∙ take_all (k * (S * α z)) held (omega arith)

-- a share is not long
pub share-few : (z : Sizes) (S w : ℕ) → Legal z → S ≤ 4096 → w ≡ α z → S * w ≤ 253952
share-few z S w legal h e =
    let p : S * w ≤ 4096 * w = mul-le-mul_right w h in
    omega (arith, p, α-most z legal)
