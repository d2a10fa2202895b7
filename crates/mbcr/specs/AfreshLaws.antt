-- Request A.10, 'To the present points with the robot running': what holds of the values that a board works out afresh, over any bytes.
-- proofs/AfreshLaws.antt has `afresh-laws : AfreshClaim`, proofs/Patched.antt `kept-patched : PatchedClaim`.
-- Assumes nothing.
use Rattle.std.specs.Prelude.{◌≡◌, true, ◌≢◌, List, [], ◌∷◌, ℕ, ◌+◌, ◌*◌, ◌-◌, ◌%◌, ◌≤◌, ◌<◌, leb, ltb, length, get_or, set}
use Rattle.lists.specs.Tests.{pick, alls}
use Rattle.lists.specs.Lists.{Bytes, join, piece}
use Rattle.sizes.specs.declared.Sizes.{Sizes}
use Rattle.sizes.specs.Sizing.{legal, α}
use Rattle.polynomial.specs.Polynomial.{eval}
use Rattle.mbcr.specs.Share.{point, DifferentPoints, share}
use Rattle.mbcr.specs.Rebuild.{seconds, own_f, own_g, helper_packet, stand_in_packet}
use Rattle.mbcr.specs.Afresh.{kept_afresh, share_afresh}
use Rattle.mbcr.specs.Demand2.{S}

module _ (z : Sizes) (xs : List ℕ) where
  -- the values of f and g of board i at the byte y, a pair for each stripe
  unfoldable pub pairs_at : ℕ → ℕ → ℕ → List ℕ → List ℕ
  pairs_at S i y held = join S (λ s. eval (own_f z xs i (piece (α z) s held)) y ∷ eval (own_g z xs i (piece (α z) s held)) y ∷ [])

-- the bytes of a stripe with new values at the neighbour t: a for f where a board keeps it, b for g where it does
unfoldable pub patched : Sizes → ℕ → ℕ → ℕ → List ℕ → List ℕ
patched z t a b w =
    let v = pick (ltb t (z.d + z.r)) (set w t a) w in
    pick (alls (leb 1 t ∷ ltb t z.d ∷ [])) (set v (z.d + z.r + (t - 1)) b) v

-- xs are the points before, ys those after, of which board i has the same
pub record AfreshLaws (z : Sizes) (xs ys : List ℕ) (i : ℕ) : Type 0 where
  pub afresh-length : (S : ℕ) (held : List ℕ) → length (share_afresh z xs ys S i held) ≡ S * α z
  pub afresh-bytes : (S : ℕ) (held : List ℕ) → Bytes held → Bytes (share_afresh z xs ys S i held)
  -- of its share it makes its share at the new points
  pub afresh-true : (file : List ℕ) → Bytes file → share_afresh z xs ys (S z file) i (share z xs file i) ≡ share z ys file i
  -- over any bytes: nothing is lost, and nothing mended; worked out afresh at the points before, it is what the board held
  pub afresh-back : (S : ℕ) (held : List ℕ) → length held ≡ S * α z → Bytes held → share_afresh z ys xs S i (share_afresh z xs ys S i held) ≡ held
  -- over any bytes: the board-level packets that it sends then, at the new points, are its old f and g at the receiver's point
  pub packet-at : (S j : ℕ) (held : List ℕ) → length held ≡ S * α z → Bytes held
      → helper_packet z ys S i j (share_afresh z xs ys S i held) ≡ pairs_at z xs S i (point ys j) held
  pub stand-in-at : (S j : ℕ) (held : List ℕ) → length held ≡ S * α z → Bytes held
      → stand_in_packet z ys S i j (share_afresh z xs ys S i held) ≡ seconds S (pairs_at z xs S i (point ys j) held)
  -- over any bytes: a value at a neighbour whose point stays is the byte that was kept, one at a new point that of f or of g there
  pub afresh-stays : (S : ℕ) (held : List ℕ) → length held ≡ S * α z → Bytes held → (s t : ℕ) → s < S
      → ((t < z.d + z.r) → point ys ((i + t) % z.n) ≡ point xs ((i + t) % z.n)
      → get_or (share_afresh z xs ys S i held) (s * α z + t) 0 ≡ get_or held (s * α z + t) 0)
      × (1 ≤ t → t < z.d → point ys ((i + t) % z.n) ≡ point xs ((i + t) % z.n)
      → get_or (share_afresh z xs ys S i held) (s * α z + (z.d + z.r + (t - 1))) 0 ≡ get_or held (s * α z + (z.d + z.r + (t - 1))) 0)
  pub afresh-value : (S : ℕ) (held : List ℕ) (s t : ℕ) → s < S
      → ((t < z.d + z.r) → get_or (share_afresh z xs ys S i held) (s * α z + t) 0 ≡ eval (own_f z xs i (piece (α z) s held)) (point ys ((i + t) % z.n)))
      × (1 ≤ t → t < z.d
      → get_or (share_afresh z xs ys S i held) (s * α z + (z.d + z.r + (t - 1))) 0 ≡ eval (own_g z xs i (piece (α z) s held)) (point ys ((i + t) % z.n)))

-- Where board m alone has a new point y, at most two bytes of a stripe of another board change: those at m, its neighbour t. So nothing has to be
-- interpolated but f and g at y, which is what the board sends as a helper.
abbrev pub PatchedClaim : Type 0
PatchedClaim =
    (z : Sizes) (xs : List ℕ) (m y i t : ℕ) (w : List ℕ) → legal z ≡ true → DifferentPoints z xs → m < length xs
    → i < z.n → i ≢ m → t < z.n → (i + t) % z.n ≡ m
    → length w ≡ α z → Bytes w
    → kept_afresh z xs (set xs m y) i w ≡ patched z t (eval (own_f z xs i w) y) (eval (own_g z xs i w) y) w

abbrev pub AfreshClaim : Type 0
AfreshClaim =
    (z : Sizes) (xs ys : List ℕ) (i : ℕ) → legal z ≡ true → DifferentPoints z xs → DifferentPoints z ys → i < z.n → point ys i ≡ point xs i
    → AfreshLaws z xs ys i
