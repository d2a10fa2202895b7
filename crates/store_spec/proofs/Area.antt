-- Laws of boards' parts of an area: what was put is there, and nothing else changed.
-- Assumes nothing.
use Prim.Native.Nat.{ℕ, ◌+◌, ◌*◌, ◌≤◌, ◌<◌}
use mathlib.Core.Path.{◌≡◌, refl, ◌∙◌, ap, subst}
use mathlib.Core.Bool.{Bool, true, false}
use mathlib.Core.List.{List, [], ◌∷◌}
use mathlib.Core.Logic.{◌⊎◌, ⊎_elim}
use native.Mathlib.Omega.{arith}
use lib.Dec.{eqb}
use borrow.Author.Tests.{eqb-true}
use lib.ListN.{length, take, drop, get_or}
use lib.Seq.{drop-drop}
use Rattle.lists.specs.Lists.{All, put}
use Rattle.lists.specs.Tests.{pick, among}
use Rattle.lists.proofs.Boards.{not-among-cons, among-tail, among-head}
use Rattle.lists.proofs.Put.{put_other, length-put, put_same, part_end, within, byte-before, byte-after}
use Rattle.lists.proofs.Tests.{true-false}
use Rattle.store_spec.specs.Record.{Record, part_len, area_len, put_shares}

-- ---- shares put for a list of boards

module _ (s : Record) (share : ℕ → List ℕ) (u : ℕ) (long : (i : ℕ) → length (share i) ≡ u) (small : u ≤ part_len s) where
  fits-at : (i : ℕ) (area : List ℕ) → length area ≡ area_len s → i < s.sizes.n → i * part_len s + length (share i) ≤ length area
  fits-at i area e h = let l = long i in omega (arith, part_end i (part_len s) s.sizes.n h)

  pub length-shares : (boards area : List ℕ) → length area ≡ area_len s → All (λ i. i < s.sizes.n) boards
      → length (put_shares s share boards area) ≡ length area
  length-shares [] area e h = refl
  length-shares (i ∷ boards) area e h =
      let l : length (put area (i * part_len s) (share i)) ≡ length area = length-put area (i * part_len s) (share i) (fits-at i area e h.0) in
      length-shares boards (put area (i * part_len s) (share i)) (l ∙ e) h.1 ∙ l

  pub shares-other : (boards area : List ℕ) → length area ≡ area_len s → All (λ i. i < s.sizes.n) boards
      → (p v : ℕ) → p < s.sizes.n → among boards p ≡ false → v ≤ part_len s
      → take v (drop (p * part_len s) (put_shares s share boards area)) ≡ take v (drop (p * part_len s) area)
  shares-other [] area e h p v hp a hv = refl
  shares-other (i ∷ boards) area e h p v hp a hv =
      let l : length (put area (i * part_len s) (share i)) ≡ length area = length-put area (i * part_len s) (share i) (fits-at i area e h.0) in
      let n = not-among-cons i p boards a in
      let b : length (share i) ≤ part_len s = omega (arith, long i) in
      shares-other boards (put area (i * part_len s) (share i)) (l ∙ e) h.1 p v hp n.1 hv
      ∙ put_other (part_len s) s.sizes.n area i (share i) e h.0 b p v hp n.0 hv

  pub shares-same : (boards area : List ℕ) → length area ≡ area_len s → All (λ i. i < s.sizes.n) boards
      → (p : ℕ) → among boards p ≡ true
      → take u (drop (p * part_len s) (put_shares s share boards area)) ≡ share p
  shares-same [] area e h p a = absurd (true-false a refl)
  shares-same (i ∷ boards) area e h p a =
      let l : length (put area (i * part_len s) (share i)) ≡ length area = length-put area (i * part_len s) (share i) (fits-at i area e h.0) in
      go (among boards p) refl (eqb i p) refl a (λ k. shares-same boards (put area (i * part_len s) (share i)) (l ∙ e) h.1 p k)
    where
      go : (m : Bool) → among boards p ≡ m → (t : Bool) → eqb i p ≡ t → pick t true (among boards p) ≡ true
          → (among boards p ≡ true → take u (drop (p * part_len s) (put_shares s share boards (put area (i * part_len s) (share i)))) ≡ share p)
          → take u (drop (p * part_len s) (put_shares s share boards (put area (i * part_len s) (share i)))) ≡ share p
      go true q t r k ih = ih q
      go false q false r k ih = ih k
      go false q true r k ih =
          let l : length (put area (i * part_len s) (share i)) ≡ length area = length-put area (i * part_len s) (share i) (fits-at i area e h.0) in
          let x : i ≡ p = eqb-true i p r in
          let hp : p < s.sizes.n = subst (λ (y : ℕ). y < s.sizes.n) x h.0 in
          shares-other boards (put area (i * part_len s) (share i)) (l ∙ e) h.1 p u hp q small
          ∙ subst
          (λ (y : ℕ). take u (drop (y * part_len s) (put area (i * part_len s) (share i))) ≡ share y)
          x
          (subst
          (λ (y : ℕ). take y (drop (i * part_len s) (put area (i * part_len s) (share i))) ≡ share i)
          (long i)
          (put_same area (i * part_len s) (share i) (fits-at i area e h.0)))

-- stripe t of what board i holds is the area's cell i × C + t
pub held-stripe : (w c n : ℕ) (area : List ℕ) (i t : ℕ) → t < n → take w (drop (t * w) (take (n * w) (drop (i * (c * w)) area))) ≡ take w (drop ((i * c + t) * w) area)
held-stripe w c n area i t h =
    let q : i * (c * w) + t * w ≡ (i * c + t) * w = omega arith in
    within w (n * w) (t * w) (drop (i * (c * w)) area) (part_end t w n h)
    ∙ ap (take w) (drop-drop (t * w) (i * (c * w)) area ∙ ap (λ (x : ℕ). drop x area) q)

-- a byte outside the first u of the boards' parts stays
module _ (s : Record) (share : ℕ → List ℕ) (u : ℕ) (long : (i : ℕ) → length (share i) ≡ u) (small : u ≤ part_len s) where
  pub byte-stays : (boards area : List ℕ) → length area ≡ area_len s → All (λ i. i < s.sizes.n) boards
      → (p : ℕ) → ((i : ℕ) → among boards i ≡ true → (p < i * part_len s) ⊎ (i * part_len s + u ≤ p))
      → get_or (put_shares s share boards area) p 0 ≡ get_or area p 0
  byte-stays [] area e h p out = refl
  byte-stays (i ∷ boards) area e h p out =
      let l : length (put area (i * part_len s) (share i)) ≡ length area = length-put area (i * part_len s) (share i) (fits-at s share u long small i area e h.0) in
      byte-stays boards (put area (i * part_len s) (share i)) (l ∙ e) h.1 p (λ j a. out j (among-tail i j boards a))
      ∙ ⊎_elim
      (λ k. byte-before area (i * part_len s) (share i) (fits-at s share u long small i area e h.0) p k)
      (λ k. byte-after area (i * part_len s) (share i) (fits-at s share u long small i area e h.0) p (omega (arith, long i)))
      (out i (among-head i boards))
