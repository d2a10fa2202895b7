-- The grid of a stripe: its shape, and its coefficients in the stripe's order, which are the stripe.
-- Assumes nothing.
use mathlib.Core.Path.{◌≡◌, sym, ap, ap₂, ◌∙◌}
use mathlib.Core.List.{List, [], ◌++◌}
use Prim.Native.Nat.{ℕ, ◌+◌, ◌*◌, ◌-◌, ◌<◌, ◌≤◌}
use native.Mathlib.Nat.{mul-add, add-sub_of_le}
use native.Mathlib.Decide.{dec_lt}
use native.Mathlib.Omega.{arith}
use mathlib.Core.Logic.{◌⊎◌, inl, inr}
use lib.ListN.{length, get_or, drop, length-append, length-drop, get_or-append, get_or-eq_default}
use lib.Seq.{get_or-append-add, get_or-drop, take-add, take_all}
use Rattle.lists.specs.Lists.{Bytes, tabulate, join, piece}
use Rattle.lists.proofs.Alls.{append-all, drop-alls}
use Rattle.lists.proofs.Pieces.{length-fit, fit-bytes, length-tabulate, tabulate-at, tabulate-ext, tabulate-get_d, tabulate-all, join-ext, join-piece, length-piece, piece_bytes, piece-at}
use Rattle.sizes.specs.Sizing.{B}
use Rattle.sizes.specs.declared.Sizes.{Sizes}
use Rattle.sizes.proofs.Legal.{Legal, row_fits, B-parts}
use Rattle.polynomial.specs.Polynomial.{entry}
use Rattle.polynomial.proofs.Grid.{Shape, GridBytes}
use Rattle.mbcr.specs.Share.{stripe, grid}

module _ (z : Sizes) where
  open z use {k, d, r}

  pub length-stripe : (file : List ℕ) (s : ℕ) → length (stripe z file s) ≡ B z
  unfolding stripe
  length-stripe file s = length-fit (B z) (drop (s * B z) file)

  pub stripe-bytes : (file : List ℕ) (s : ℕ) → Bytes file → Bytes (stripe z file s)
  unfolding stripe
  stripe-bytes file s h = fit-bytes (B z) (drop (s * B z) file) (drop-alls (λ a. a < 256) (s * B z) file h)

module _ (z : Sizes) (legal : Legal z) (u : List ℕ) (lu : length u ≡ B z) where
  open z use {k, d, r}

  -- the rows of the groups a, b and z
  abbrev a-row : ℕ → List ℕ
  a-row i = piece k i u

  abbrev b-row : ℕ → List ℕ
  b-row i = piece (d + r - k) i (drop (k * k) u)

  abbrev c_row : ℕ → List ℕ
  c_row i = piece k i (drop (k * k + k * (d + r - k)) u)

  length-a : (i : ℕ) → i < k → length (a-row i) ≡ k
  length-a i h = length-piece k i u (omega (arith, B-parts z legal, row_fits i k k h))

  length-b : (i : ℕ) → i < k → length (b-row i) ≡ d + r - k
  length-b i h =
      length-piece (d + r - k) i (drop (k * k) u)
      (simp length-drop (omega (arith, B-parts z legal, row_fits i k (d + r - k) h)))

  length-c : (i : ℕ) → i < d - k → length (c_row i) ≡ k
  length-c i h =
      length-piece k i (drop (k * k + k * (d + r - k)) u)
      (simp length-drop (omega (arith, B-parts z legal, row_fits i (d - k) k h)))

  pub upper-row : (i : ℕ) → i < k → get_or (grid z u) i [] ≡ a-row i ++ b-row i
  unfolding grid
  upper-row i h =
      get_or-append (tabulate k (λ i. a-row i ++ b-row i)) (tabulate (d - k) c_row) [] i (omega (arith, length-tabulate k (λ i. a-row i ++ b-row i)))
      ∙ tabulate-at k (λ i. a-row i ++ b-row i) [] i h

  pub lower-row : (i : ℕ) → i < d - k → get_or (grid z u) (k + i) [] ≡ c_row i
  unfolding grid
  lower-row i h =
      ap (λ (m : ℕ). get_or (tabulate k (λ i. a-row i ++ b-row i) ++ tabulate (d - k) c_row) (m + i) []) (sym (length-tabulate k (λ i. a-row i ++ b-row i)))
      ∙ get_or-append-add (tabulate k (λ i. a-row i ++ b-row i)) (tabulate (d - k) c_row) i []
      ∙ tabulate-at (d - k) c_row [] i h

  rows : length (grid z u) ≡ d
  unfolding grid
  rows = simp (length-append, length-tabulate) (omega (arith, legal.read-helpers))

  upper : (i : ℕ) → i < k → length (get_or (grid z u) i []) ≡ d + r
  upper i h = ap length (upper-row i h) ∙ length-append (a-row i) (b-row i) ∙ ap₂ ◌+◌ (length-a i h) (length-b i h) ∙ omega (arith, legal.read-helpers)

  lower : (i : ℕ) → k ≤ i → i < d → length (get_or (grid z u) i []) ≡ k
  lower i h l =
      let e : i ≡ k + (i - k) = omega arith in
      ap (λ (m : ℕ). length (get_or (grid z u) m [])) e ∙ ap length (lower-row (i - k) (omega arith)) ∙ length-c (i - k) (omega arith)

  grid-bytes : Bytes u → GridBytes (grid z u)
  unfolding grid
  grid-bytes bu =
      append-all Bytes (tabulate k (λ i. a-row i ++ b-row i)) (tabulate (d - k) c_row)
      (tabulate-all Bytes k (λ i. a-row i ++ b-row i)
      (λ i l. append-all (λ a. a < 256) (a-row i) (b-row i) (piece_bytes k i u bu) (piece_bytes (d + r - k) i (drop (k * k) u) (drop-alls (λ a. a < 256) (k * k) u bu))))
      (tabulate-all Bytes (d - k) c_row (λ i l. piece_bytes k i (drop (k * k + k * (d + r - k)) u) (drop-alls (λ a. a < 256) (k * k + k * (d + r - k)) u bu)))

  pub shape : Bytes u → Shape k d r (grid z u)
  shape bu = record { rows = rows; upper = upper; lower = lower; bytes = grid-bytes bu }

  -- which byte of the stripe a coefficient is
  pub entry-a : (i j : ℕ) → i < k → j < k → entry (grid z u) i j ≡ get_or u (i * k + j) 0
  entry-a i j hi hj =
      ap (λ (row : List ℕ). get_or row j 0) (upper-row i hi) ∙ get_or-append (a-row i) (b-row i) 0 j (omega (arith, length-a i hi)) ∙ piece-at k i u j 0 hj

  pub entry-b : (i j : ℕ) → i < k → k ≤ j → j < d + r → entry (grid z u) i j ≡ get_or u (k * k + (i * (d + r - k) + (j - k))) 0
  entry-b i j hi hj lj =
      let e : j ≡ k + (j - k) = omega arith in
      ap (λ (m : ℕ). entry (grid z u) i m) e ∙ ap (λ (row : List ℕ). get_or row (k + (j - k)) 0) (upper-row i hi)
      ∙ ap (λ (m : ℕ). get_or (a-row i ++ b-row i) (m + (j - k)) 0) (sym (length-a i hi)) ∙ get_or-append-add (a-row i) (b-row i) (j - k) 0
      ∙ piece-at (d + r - k) i (drop (k * k) u) (j - k) 0 (omega arith) ∙ get_or-drop (k * k) u (i * (d + r - k) + (j - k)) 0

  pub entry-c : (i j : ℕ) → k ≤ i → i < d → j < k → entry (grid z u) i j ≡ get_or u (k * (d + r) + ((i - k) * k + j)) 0
  entry-c i j hi li hj =
      let e : i ≡ k + (i - k) = omega arith in
      let m : k * k + k * (d + r - k) ≡ k * (d + r) = sym (mul-add k k (d + r - k)) ∙ ap (λ (x : ℕ). k * x) (add-sub_of_le (omega (arith, legal.read-helpers))) in
      ap (λ (x : ℕ). entry (grid z u) x j) e ∙ ap (λ (row : List ℕ). get_or row j 0) (lower-row (i - k) (omega arith))
      ∙ piece-at k (i - k) (drop (k * k + k * (d + r - k)) u) j 0 hj ∙ get_or-drop (k * k + k * (d + r - k)) u ((i - k) * k + j) 0
      ∙ ap (λ (x : ℕ). get_or u (x + ((i - k) * k + j)) 0) m

  pub entry-none : (i j : ℕ) → ((k ≤ i) × (k ≤ j)) ⊎ ((d ≤ i) ⊎ (d + r ≤ j)) → entry (grid z u) i j ≡ 0
  entry-none i j h = go h (dec_lt i k) (dec_lt i d)
    where
      short : (m : ℕ) → length (get_or (grid z u) i []) ≡ m → m ≤ j → entry (grid z u) i j ≡ 0
      short m e l = get_or-eq_default (get_or (grid z u) i []) 0 (omega arith)

      past : d ≤ i → entry (grid z u) i j ≡ 0
      past l = ap (λ (row : List ℕ). get_or row j 0) (get_or-eq_default (grid z u) [] (omega (arith, rows)))

      go : ((k ≤ i) × (k ≤ j)) ⊎ ((d ≤ i) ⊎ (d + r ≤ j)) → Dec (i < k) → Dec (i < d) → entry (grid z u) i j ≡ 0
      go (inl a) (yes b) e = absurd (omega arith)
      go (inl a) (no b) (yes e) = short k (lower i (omega arith) e) a.1
      go (inl a) (no b) (no e) = past (omega arith)
      go (inr (inl a)) b e = past a
      go (inr (inr a)) (yes b) e = short (d + r) (upper i b) a
      go (inr (inr a)) (no b) (yes e) = short k (lower i (omega arith) e) (omega (arith, legal.read-helpers))
      go (inr (inr a)) (no b) (no e) = past (omega arith)

  -- the coefficients in the stripe's order
  pub ordered : join k (λ i. tabulate k (λ j. entry (grid z u) i j))
      ++ join k (λ i. tabulate (d + r - k) (λ j. entry (grid z u) i (k + j)))
      ++ join (d - k) (λ i. tabulate k (λ j. entry (grid z u) (k + i) j))
      ≡ u
  ordered =
      ap₂ {C = List ℕ} (λ x y. x ++ y)
      (ap₂ {C = List ℕ} (λ x y. x ++ y)
      (join-ext k (λ i. tabulate k (λ j. entry (grid z u) i j)) a-row a-part ∙ join-piece k k u)
      (join-ext k (λ i. tabulate (d + r - k) (λ j. entry (grid z u) i (k + j))) b-row b-part ∙ join-piece k (d + r - k) (drop (k * k) u))
      ∙ sym (take-add (k * k) (k * (d + r - k)) u))
      (join-ext (d - k) (λ i. tabulate k (λ j. entry (grid z u) (k + i) j)) c_row c-part ∙ join-piece (d - k) k (drop (k * k + k * (d + r - k)) u))
      ∙ sym (take-add (k * k + k * (d + r - k)) ((d - k) * k) u)
      ∙ take_all (k * k + k * (d + r - k) + (d - k) * k) u (omega (arith, B-parts z legal))
    where
      a-part : (i : ℕ) → i < k → tabulate k (λ j. entry (grid z u) i j) ≡ a-row i
      a-part i h =
          tabulate-ext k (λ j. entry (grid z u) i j) (λ j. get_or (a-row i) j 0)
          (λ j l. ap (λ (row : List ℕ). get_or row j 0) (upper-row i h) ∙ get_or-append (a-row i) (b-row i) 0 j (omega (arith, length-a i h)))
          ∙ tabulate-get_d k (a-row i) 0 (length-a i h)

      b-part : (i : ℕ) → i < k → tabulate (d + r - k) (λ j. entry (grid z u) i (k + j)) ≡ b-row i
      b-part i h =
          tabulate-ext (d + r - k) (λ j. entry (grid z u) i (k + j)) (λ j. get_or (b-row i) j 0)
          (λ j l. ap (λ (row : List ℕ). get_or row (k + j) 0) (upper-row i h)
          ∙ ap (λ (m : ℕ). get_or (a-row i ++ b-row i) (m + j) 0) (sym (length-a i h)) ∙ get_or-append-add (a-row i) (b-row i) j 0)
          ∙ tabulate-get_d (d + r - k) (b-row i) 0 (length-b i h)

      c-part : (i : ℕ) → i < d - k → tabulate k (λ j. entry (grid z u) (k + i) j) ≡ c_row i
      c-part i h =
          tabulate-ext k (λ j. entry (grid z u) (k + i) j) (λ j. get_or (c_row i) j 0)
          (λ j l. ap (λ (row : List ℕ). get_or row j 0) (lower-row i h))
          ∙ tabulate-get_d k (c_row i) 0 (length-c i h)
