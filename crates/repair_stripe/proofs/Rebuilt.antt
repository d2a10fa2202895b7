-- Rebuilt stripes by places: what they hang on, how long what is heard is, and that it is of bytes.
-- Assumes nothing.
use Prim.Native.Nat.{ℕ, ◌+◌, ◌*◌, ◌<◌, ◌≤◌}
use mathlib.Core.Path.{◌≡◌, refl, sym, ap, ap₂, ◌∙◌}
use mathlib.Core.List.{List, [], ◌∷◌, ◌++◌, map}
use native.Mathlib.Omega.{arith}
use lib.ListN.{length, get_or, take, drop, length-map, length-take}
use Rattle.lists.specs.Lists.{All, Bytes, join, piece}
use Rattle.lists.proofs.Alls.{all-imp, take-alls, drop-alls, append-all}
use Rattle.lists.proofs.Pieces.{join-ext, length-join, join-bytes, map-bytes, length-piece}
use Rattle.lists.proofs.Put.{part_end}
use Rattle.sizes.specs.declared.Sizes.{Sizes}
use Rattle.polynomial.specs.Polynomial.{eval}
use Rattle.polynomial.proofs.Poly.{eval-byte, interpolate-bytes, length-interpolate}
use Rattle.mbcr.specs.Share.{point, points, neighbours}
use Rattle.mbcr.specs.Rebuild.{own_f, own_g, g_from}
use Rattle.mbcr.proofs.Points.{length-points}
use Rattle.repair_rows.specs.Steps.{helpers_at}
use Rattle.repair_stripe.specs.Steps.{polys_of, stripe_at, all_firsts, all_seconds, rebuilt}
use Rattle.repair_stripe.proofs.Partners.{all-piece}

map_on : (f g : ℕ → ℕ) (l : List ℕ) → All (λ j. f j ≡ g j) l → map f l ≡ map g l
map_on f g [] h = refl
map_on f g (x ∷ l) h = ap₂ {C = List ℕ} (λ a b. a ∷ b) h.0 (map_on f g l h.1)

-- the first d of a run
run-front : (z : Sizes) (c t : ℕ) (l : List ℕ) (a : ℕ) → z.d ≤ c → t * c ≤ length l → a < t → length (helpers_at z c l a) ≡ z.d
run-front z c t l a h e k =
    let end = part_end a c t k in
    let n : length (piece c a l) ≡ c = length-piece c a l (omega arith) in
    simp length-take (omega arith)

-- g of a fresh board, of its helpers and their first bytes
pub length-poly : (z : Sizes) (c t : ℕ) (pts named firsts : List ℕ) (a : ℕ) → z.d ≤ c → t * c ≤ length named → t * c ≤ length firsts → a < t
    → length (g_from z pts (helpers_at z c named a) (helpers_at z c firsts a)) ≡ z.d
unfolding g_from
length-poly z c t pts named firsts a hc lh lf h =
    let e = run-front z c t named a hc lh h in
    let f = run-front z c t firsts a hc lf h in
    let p : length (points pts (helpers_at z c named a)) ≡ z.d = length-points pts (helpers_at z c named a) ∙ e in
    length-interpolate (points pts (helpers_at z c named a)) (helpers_at z c firsts a) (p ∙ sym f) ∙ p

own-f-bytes : (z : Sizes) (xs : List ℕ) (j : ℕ) (w : List ℕ) → Bytes w → Bytes (own_f z xs j w)
unfolding own_f
own-f-bytes z xs j w b = interpolate-bytes (points xs (neighbours z j (z.d + z.r))) (take (z.d + z.r) w) (take-alls (λ a. a < 256) (z.d + z.r) w b)

own-g-bytes : (z : Sizes) (xs : List ℕ) (j : ℕ) (w : List ℕ) → Bytes w → Bytes (own_g z xs j w)
unfolding own_g
own-g-bytes z xs j w b =
    interpolate-bytes (points xs (neighbours z j z.d)) (take 1 w ++ drop (z.d + z.r) w)
    (append-all (λ a. a < 256) (take 1 w) (drop (z.d + z.r) w) (take-alls (λ a. a < 256) 1 w b) (drop-alls (λ a. a < 256) (z.d + z.r) w b))

module _ (z : Sizes) (xs : List ℕ) (fresh : List ℕ) (c : ℕ) (named : List ℕ) where
  -- only what the boards named hold counts
  module _ (own other : ℕ → List ℕ) (same : All (λ j. own j ≡ other j) named) where
    heard-same : (h : ℕ → ℕ → List ℕ → ℕ)
        → join (length fresh) (λ a. map (λ j. h a j (own j)) (piece c a named)) ≡ join (length fresh) (λ a. map (λ j. h a j (other j)) (piece c a named))
    heard-same h =
        join-ext (length fresh) _ _
        (λ a k. map_on _ _ (piece c a named)
        (all-imp (λ j. own j ≡ other j) _ (λ j e. ap (h a j) e) (piece c a named) (all-piece (λ j. own j ≡ other j) c a named same)))

    pub rebuilt-same : (a : ℕ) → rebuilt z xs own fresh c named a ≡ rebuilt z xs other fresh c named a
    unfolding rebuilt
    rebuilt-same a =
        ap₂ {C = List ℕ} (λ (f s : List ℕ). stripe_at z c xs fresh named f s (polys_of z (length fresh) c xs named f) a)
        (heard-same (λ a j w. eval (own_f z xs j w) (point xs (get_or fresh a 0)))) (heard-same (λ a j w. eval (own_g z xs j w) (point xs (get_or fresh a 0))))

  long-run : (h : ℕ → ℕ → ℕ) → length named ≡ length fresh * c → length (join (length fresh) (λ a. map (h a) (piece c a named))) ≡ length fresh * c
  long-run h l =
      length-join (length fresh) c _ (λ a k. length-map (piece c a named) (h a) ∙ length-piece c a named (omega (arith, l, part_end a c (length fresh) k)))

  pub length-firsts : (own : ℕ → List ℕ) → length named ≡ length fresh * c → length (all_firsts z xs own fresh c named) ≡ length fresh * c
  length-firsts own l = long-run _ l

  pub length-seconds : (own : ℕ → List ℕ) → length named ≡ length fresh * c → length (all_seconds z xs own fresh c named) ≡ length fresh * c
  length-seconds own l = long-run _ l

  pub firsts-bytes : (own : ℕ → List ℕ) → ((j : ℕ) → Bytes (own j)) → Bytes (all_firsts z xs own fresh c named)
  firsts-bytes own b =
      join-bytes (length fresh) _ (λ a k. map-bytes _ (piece c a named) (λ j. eval-byte (own_f z xs j (own j)) (point xs (get_or fresh a 0)) (own-f-bytes z xs j (own j) (b j))))

  pub seconds-bytes : (own : ℕ → List ℕ) → ((j : ℕ) → Bytes (own j)) → Bytes (all_seconds z xs own fresh c named)
  seconds-bytes own b =
      join-bytes (length fresh) _ (λ a k. map-bytes _ (piece c a named) (λ j. eval-byte (own_g z xs j (own j)) (point xs (get_or fresh a 0)) (own-g-bytes z xs j (own j) (b j))))
