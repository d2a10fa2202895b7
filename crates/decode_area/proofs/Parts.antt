-- The parts of boards in an area start at multiples of their length, and what stands there are the boards' shares.
-- Assumes nothing.
use mathlib.Core.Path.{◌≡◌, refl, ap, ◌∙◌}
use mathlib.Core.Bool.{true}
use mathlib.Core.List.{List, [], ◌∷◌, ◌++◌, map}
use Prim.Native.Nat.{ℕ, ◌+◌, ◌*◌, ◌-◌, ◌<◌, ◌≤◌}
use native.Mathlib.Nat.{mul-le-mul_right}
use native.Mathlib.Omega.{arith}
use lib.ListN.{length, take, drop, length-map}
use borrow.Rule.Slice.PartMut.{put_mid}
use Rattle.lists.specs.Tests.{below}
use Rattle.lists.specs.Lists.{All, joined}
use Rattle.lists.proofs.Alls.{all-imp}
use Rattle.lists.proofs.Boards.{below_all, all-below}
use Rattle.sizes.specs.declared.Sizes.{Sizes}
use Rattle.sizes.specs.Sizing.{α, stripes}
use Rattle.sizes.proofs.Legal.{Legal, row_fits, α-most}
use Rattle.store_spec.specs.Record.{held}
use Rattle.store_lines.specs.Steps.{record_of}
use Rattle.decode_laws.specs.Steps.{Placed}
use Rattle.decode_laws.proofs.Loops.{back-part}
use Rattle.decode_file.specs.Steps.{shares_at}

all_map : (P : ℕ → Type 0) (f : ℕ → ℕ) (l : List ℕ) → All (λ i. P (f i)) l → All P (map f l)
all_map P f [] h = h
all_map P f (x ∷ l) h = (h.0, all_map P f l h.1)

joined-map : (g : ℕ → List ℕ) (f : ℕ → ℕ) (l : List ℕ) → joined g (map f l) ≡ joined (λ i. g (f i)) l
joined-map g f [] = refl
joined-map g f (x ∷ l) = ap (λ (t : List ℕ). g (f x) ++ t) (joined-map g f l)

-- where the parts of boards start
module _ (z : Sizes) (c L S : ℕ) (boards area : List ℕ) (ok : below z.n boards ≡ true)
    (la : length area ≡ z.n * (c * α z)) (eS : S ≡ stripes z L) (lS : S ≤ c) where
  open z use {n}

  abbrev pub parts_at : List ℕ
  parts_at = map (λ b. b * (c * α z)) boards

  pub parts-long : length parts_at ≡ length boards
  parts-long = simp length-map

  pub parts-placed : Placed z parts_at area S
  parts-placed =
      all_map (λ p. p + S * α z ≤ length area) (λ b. b * (c * α z)) boards
      (all-imp (λ i. i < n) (λ i. i * (c * α z) + S * α z ≤ length area) (λ i h.
      let q : S * α z ≤ c * α z = mul-le-mul_right (α z) lS in
      omega (arith, q, row_fits i n (c * α z) h)) boards (below_all n boards ok))

  pub parts-shares : shares_at z S parts_at area ≡ joined (held (record_of z [] c true L []) area) boards
  unfolding shares_at
  parts-shares =
      joined-map (λ p. take (S * α z) (drop p area)) (λ b. b * (c * α z)) boards
      ∙ ap (λ (m : ℕ). joined (λ i. take (m * α z) (drop (i * (c * α z)) area)) boards) eS

-- the same, as they are lent
module _ (z : Sizes) (c L S m : ℕ) (boards area zs ys : List ℕ) (ok : below z.n boards ≡ true) (lb : length boards ≡ z.k)
    (la : length area ≡ z.n * (c * α z)) (eS : S ≡ stripes z L) (lS : S ≤ c) (em : m ≡ c * α z) (ey : ys ≡ map (λ b. b * m) boards) where
  open z use {k}

  abbrev starts : List ℕ
  starts = parts_at z c L S boards area ok la eS lS

  parts_are : ys ≡ starts
  parts_are = ey ∙ ap (λ (m : ℕ). map (λ b. b * m) boards) em

  ly : length ys ≡ k
  ly = ap length parts_are ∙ parts-long z c L S boards area ok la eS lS ∙ lb

  abbrev pub lent : List ℕ
  lent = take (k - 0) (drop 0 (put_mid 0 (k - 0) zs ys))

  pub lent-are : lent ≡ starts
  lent-are = back-part k zs ys ly ∙ parts_are

  pub lent-long : length lent ≡ k
  lent-long = ap length lent-are ∙ parts-long z c L S boards area ok la eS lS ∙ lb

  pub lent_placed : Placed z lent area S
  lent_placed = rw lent-are (parts-placed z c L S boards area ok la eS lS)

  pub lent-shares : shares_at z S lent area ≡ joined (held (record_of z [] c true L []) area) boards
  lent-shares = ap (λ (l : List ℕ). shares_at z S l area) lent-are ∙ parts-shares z c L S boards area ok la eS lS

-- a part is not long
pub part-few : (z : Sizes) (c w : ℕ) → Legal z → c ≤ 4096 → w ≡ α z → c * w ≤ 253952
part-few z c w legal h e =
    let p : c * w ≤ 4096 * w = mul-le-mul_right w h in
    omega (arith, p, α-most z legal)

-- boards are at most 32
pub below-32 : (z : Sizes) (bs : List ℕ) → z.n ≤ 32 → below z.n bs ≡ true → below 32 bs ≡ true
below-32 z bs h k = all-below 32 bs (all-imp (λ i. i < z.n) (λ i. i < 32) (λ i l. omega arith) bs (below_all z.n bs k))
