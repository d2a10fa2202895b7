-- Stripes, shares and packets by place, and that bytes make bytes.
-- Assumes nothing.
use mathlib.Core.Path.{◌≡◌, refl, sym, ap, ◌∙◌}
use mathlib.Core.List.{List, [], ◌∷◌, ◌++◌, map}
use Prim.Native.Nat.{ℕ, suc, ◌+◌, ◌*◌, ◌-◌, ◌%◌, ◌<◌, ◌≤◌}
use native.Mathlib.Omega.{arith}
use lib.ListN.{length, get_or, take, drop, length-map, length-drop, get_or-append}
use lib.Seq.{get_or-drop, get_or-append-add}
use Rattle.lists.specs.Lists.{Bytes, piece}
use Rattle.lists.proofs.Alls.{append-all, take-alls, drop-alls, byte_at}
use Rattle.lists.proofs.Pieces.{fit_at, tabulate-at, piece-piece-at, piece-at, map_at, piece-join, join-ones, map-bytes, join-bytes, piece_bytes, tabulate-all}
use Rattle.sizes.specs.Sizing.{B, α, stripes}
use Rattle.sizes.specs.declared.Sizes.{Sizes}
use Rattle.sizes.proofs.Legal.{row_fits, Legal, α-parts}
use Rattle.polynomial.specs.Polynomial.{at_y, interpolate, eval}
use Rattle.polynomial.proofs.Poly.{eval-byte, interpolate-bytes}
use Rattle.mbcr.specs.Rebuild.{seconds, received, exchanged, own_f, own_g, helper_packet, stand_in_packet, helper_pair, g_from, exchange_packet, finished_share, finished_stripe, f_from}
use Rattle.mbcr.specs.Share.{stripe, neighbours, symbols, point, points, share, kept, F, grid}
use Rattle.mbcr.specs.Demand2.{g_heard, f_heard}
use Rattle.mbcr.proofs.Points.{length-points, length-neighbours}
use Rattle.mbcr.proofs.Repair.{length-kept}
use Rattle.mbcr.proofs.Shape.{shape, length-stripe, stripe-bytes}
use Rattle.mbcr.proofs.Stripe.{at_y-bytes, length_symbols}

module _ (z : Sizes) where
  open z use {n, k, d, r}

  pub stripe-place : (file : List ℕ) (s t : ℕ) → t < B z → get_or (stripe z file s) t 0 ≡ get_or file (s * B z + t) 0
  unfolding stripe
  stripe-place file s t h = fit_at (B z) (drop (s * B z) file) t h ∙ get_or-drop (s * B z) file t 0

  pub neighbour-at : (i m t : ℕ) → t < m → get_or (neighbours z i m) t 0 ≡ (i + t) % n
  unfolding neighbours
  neighbour-at i m t h = tabulate-at m (λ t. (i + t) % n) 0 t h

  pub received-place : (S b s t : ℕ) (packets : List ℕ) → length packets ≡ d * (2 * S) → b < 2 → s < S → t < d
      → (t * (2 * S) + (s * 2 + b) < length packets) × (get_or (received z S b s packets) t 0 ≡ get_or packets (t * (2 * S) + (s * 2 + b)) 0)
  unfolding received
  received-place S b s t packets l hb hs ht = (
    omega (arith, row_fits t d (2 * S) ht),
    tabulate-at d (λ t. get_or (piece 2 s (piece (2 * S) t packets)) b 0) 0 t ht ∙ piece-piece-at 2 s (2 * S) t packets b hb (omega arith),
  )

  pub exchanged-place : (S s t : ℕ) (packets : List ℕ) → length packets ≡ (r - 1) * S → s < S → t < r - 1
      → (t * S + s < length packets) × (get_or (exchanged z S s packets) t 0 ≡ get_or packets (t * S + s) 0)
  unfolding exchanged
  exchanged-place S s t packets l hs ht = (
    omega (arith, row_fits t (r - 1) S ht),
    tabulate-at (r - 1) (λ t. get_or (piece S t packets) s 0) 0 t ht ∙ piece-at S t packets s 0 hs,
  )

pub stand-in-place : (z : Sizes) (xs : List ℕ) (S j i : ℕ) (held : List ℕ) (s : ℕ) → s < S
    → get_or (stand_in_packet z xs S j i held) s 0 ≡ get_or (helper_packet z xs S j i held) (s * 2 + 1) 0
unfolding stand_in_packet seconds
stand-in-place z xs S j i held s h =
    tabulate-at S (λ s. get_or (piece 2 s (helper_packet z xs S j i held)) 1 0) 0 s h ∙ piece-at 2 s (helper_packet z xs S j i held) 1 0 (omega arith)

module _ (z : Sizes) (xs : List ℕ) where
  pub packet-any : (S j i s : ℕ) (held : List ℕ) → s < S
      → (get_or (helper_packet z xs S j i held) (s * 2) 0 ≡ eval (own_f z xs j (piece (α z) s held)) (point xs i))
      × (get_or (helper_packet z xs S j i held) (s * 2 + 1) 0 ≡ eval (own_g z xs j (piece (α z) s held)) (point xs i))
  unfolding helper_packet helper_pair
  packet-any S j i s held h =
      let pair : piece 2 s (helper_packet z xs S j i held) ≡ helper_pair z xs j i (piece (α z) s held) =
      piece-join S 2 (λ s. helper_pair z xs j i (piece (α z) s held)) (λ s l. refl) s h in
      let even : s * 2 + 0 ≡ s * 2 = omega arith in (
        ap (λ (m : ℕ). get_or (helper_packet z xs S j i held) m 0) (sym even) ∙ sym (piece-at 2 s (helper_packet z xs S j i held) 0 0 (omega arith))
            ∙ ap (λ (w : List ℕ). get_or w 0 0) pair,
        sym (piece-at 2 s (helper_packet z xs S j i held) 1 0 (omega arith)) ∙ ap (λ (w : List ℕ). get_or w 1 0) pair,
      )

  pub exchange-any : (S : ℕ) (helpers packets : List ℕ) (m s : ℕ) → s < S
      → get_or (exchange_packet z xs S helpers packets m) s 0 ≡ eval (g_heard z xs S helpers packets s) (point xs m)
  unfolding exchange_packet g_from
  exchange-any S helpers packets m s h =
      ap (λ (l : List ℕ). get_or l s 0) (join-ones S (λ s. eval (g_heard z xs S helpers packets s) (point xs m)))
      ∙ tabulate-at S (λ s. eval (g_heard z xs S helpers packets s) (point xs m)) 0 s h

module _ (z : Sizes) (xs : List ℕ) (legal : Legal z) where
  open z use {n, k, d, r}

  pub symbols-f-at : (i t : ℕ) (f g : ℕ → ℕ) → t < d + r → get_or (symbols z xs i f g) t 0 ≡ f (point xs ((i + t) % n))
  unfolding symbols
  symbols-f-at i t f g h =
      let l : length (points xs (neighbours z i (d + r))) ≡ d + r = length-points xs (neighbours z i (d + r)) ∙ length-neighbours z i (d + r) in
      get_or-append (map f (points xs (neighbours z i (d + r)))) _ 0 t (omega (arith, length-map (points xs (neighbours z i (d + r))) f))
      ∙ map_at f (points xs (neighbours z i (d + r))) t (omega arith)
      ∙ ap f (map_at (point xs) (neighbours z i (d + r)) t (omega (arith, length-neighbours z i (d + r))) ∙ ap (point xs) (neighbour-at z i (d + r) t h))

  pub symbols-g-at : (i t : ℕ) (f g : ℕ → ℕ) → suc t < d → get_or (symbols z xs i f g) (d + r + t) 0 ≡ g (point xs ((i + suc t) % n))
  unfolding symbols
  symbols-g-at i t f g h =
      let ns : List ℕ = neighbours z i d in
      let lf : length (map f (points xs (neighbours z i (d + r)))) ≡ d + r =
      length-map (points xs (neighbours z i (d + r))) f ∙ length-points xs (neighbours z i (d + r)) ∙ length-neighbours z i (d + r) in
      let ln : length (drop 1 ns) ≡ d - 1 = length-drop 1 ns ∙ ap (λ (m : ℕ). m - 1) (length-neighbours z i d) in
      let lp : length (points xs (drop 1 ns)) ≡ d - 1 = length-points xs (drop 1 ns) ∙ ln in
      let one : 1 + t ≡ suc t = omega arith in
      ap (λ (m : ℕ). get_or (map f (points xs (neighbours z i (d + r))) ++ map g (points xs (drop 1 ns))) (m + t) 0) (sym lf)
      ∙ get_or-append-add (map f (points xs (neighbours z i (d + r)))) (map g (points xs (drop 1 ns))) t 0
      ∙ map_at g (points xs (drop 1 ns)) t (omega arith)
      ∙ ap g (map_at (point xs) (drop 1 ns) t (omega arith)
      ∙ ap (point xs) (get_or-drop 1 ns t 0 ∙ ap (λ (m : ℕ). get_or ns m 0) one ∙ neighbour-at z i d (suc t) h))

  share-at : (file : List ℕ) (i s t : ℕ) → s < stripes z (length file) → t < α z
      → get_or (share z xs file i) (s * α z + t) 0 ≡ get_or (kept z xs (stripe z file s) i) t 0
  unfolding share
  share-at file i s t hs ht =
      sym (piece-at (α z) s (share z xs file i) t 0 ht)
      ∙ ap (λ (w : List ℕ). get_or w t 0)
      (piece-join (stripes z (length file)) (α z) (λ s. kept z xs (stripe z file s) i) (λ s l. length-kept z xs legal (stripe z file s) i) s hs)

  pub share-f : (file : List ℕ) (i s t : ℕ) → s < stripes z (length file) → t < d + r
      → get_or (share z xs file i) (s * α z + t) 0 ≡ F z (stripe z file s) (point xs i) (point xs ((i + t) % n))
  unfolding kept
  share-f file i s t hs ht = share-at file i s t hs (omega (arith, α-parts z legal)) ∙ symbols-f-at i t _ _ ht

  pub share-g : (file : List ℕ) (i s t : ℕ) → s < stripes z (length file) → 1 ≤ t → t < d
      → get_or (share z xs file i) (s * α z + (d + r + (t - 1))) 0 ≡ F z (stripe z file s) (point xs ((i + t) % n)) (point xs i)
  unfolding kept
  share-g file i s t hs lt ht =
      let e : suc (t - 1) ≡ t = omega arith in
      share-at file i s (d + r + (t - 1)) hs (omega (arith, α-parts z legal)) ∙ symbols-g-at i (t - 1) _ _ (omega arith)
      ∙ ap (λ (m : ℕ). F z (stripe z file s) (point xs ((i + m) % n)) (point xs i)) e

  -- ---- over any bytes

  finished-at : (S i : ℕ) (helpers packets partners exchanges : List ℕ) (s t : ℕ) → s < S → t < α z
      → get_or (finished_share z xs S i helpers packets partners exchanges) (s * α z + t) 0
      ≡ get_or (symbols z xs i (eval (f_heard z xs S i helpers packets partners exchanges s)) (eval (g_heard z xs S helpers packets s))) t 0
  unfolding finished_share finished_stripe g_from f_from
  finished-at S i helpers packets partners exchanges s t hs ht =
      sym (piece-at (α z) s (finished_share z xs S i helpers packets partners exchanges) t 0 ht)
      ∙ ap (λ (w : List ℕ). get_or w t 0)
      (piece-join S (α z)
      (λ s. symbols z xs i (eval (f_heard z xs S i helpers packets partners exchanges s)) (eval (g_heard z xs S helpers packets s)))
      (λ s l. length_symbols z xs legal i _ _) s hs)

  pub finished-f-any : (S i : ℕ) (helpers packets partners exchanges : List ℕ) (s t : ℕ) → s < S → t < d + r
      → get_or (finished_share z xs S i helpers packets partners exchanges) (s * α z + t) 0
      ≡ eval (f_heard z xs S i helpers packets partners exchanges s) (point xs ((i + t) % n))
  finished-f-any S i helpers packets partners exchanges s t hs ht =
      finished-at S i helpers packets partners exchanges s t hs (omega (arith, α-parts z legal)) ∙ symbols-f-at i t _ _ ht

  pub finished-g-any : (S i : ℕ) (helpers packets partners exchanges : List ℕ) (s t : ℕ) → s < S → 1 ≤ t → t < d
      → get_or (finished_share z xs S i helpers packets partners exchanges) (s * α z + (d + r + (t - 1))) 0
      ≡ eval (g_heard z xs S helpers packets s) (point xs ((i + t) % n))
  finished-g-any S i helpers packets partners exchanges s t hs lt ht =
      let e : suc (t - 1) ≡ t = omega arith in
      finished-at S i helpers packets partners exchanges s (d + r + (t - 1)) hs (omega (arith, α-parts z legal)) ∙ symbols-g-at i (t - 1) _ _ (omega arith)
      ∙ ap (λ (m : ℕ). eval (g_heard z xs S helpers packets s) (point xs ((i + m) % n))) e

  -- ---- bytes make bytes

  F-byte : (u : List ℕ) → length u ≡ B z → Bytes u → (x y : ℕ) → F z u x y < 256
  unfolding F
  F-byte u lu bu x y = eval-byte (at_y (grid z u) y) x (at_y-bytes (grid z u) y (shape z legal u lu bu).bytes)

  pub symbols-bytes : (i : ℕ) (f g : ℕ → ℕ) → ((y : ℕ) → f y < 256) → ((x : ℕ) → g x < 256) → Bytes (symbols z xs i f g)
  unfolding symbols
  symbols-bytes i f g hf hg =
      let ys : List ℕ = points xs (neighbours z i (d + r)) in
      let bs : List ℕ = points xs (drop 1 (neighbours z i d)) in
      append-all (λ a. a < 256) (map f ys) (map g bs) (map-bytes f ys hf) (map-bytes g bs hg)

  pub share-bytes : (file : List ℕ) → Bytes file → (i : ℕ) → Bytes (share z xs file i)
  unfolding share kept
  share-bytes file bf i =
      join-bytes (stripes z (length file)) (λ s. kept z xs (stripe z file s) i) (λ s l.
      symbols-bytes i _ _
      (λ y. F-byte (stripe z file s) (length-stripe z file s) (stripe-bytes z file s bf) (point xs i) y)
      (λ x. F-byte (stripe z file s) (length-stripe z file s) (stripe-bytes z file s bf) x (point xs i)))

  pub own-f-bytes : (j : ℕ) (w : List ℕ) → Bytes w → Bytes (own_f z xs j w)
  unfolding own_f
  own-f-bytes j w b = interpolate-bytes (points xs (neighbours z j (d + r))) (take (d + r) w) (take-alls (λ a. a < 256) (d + r) w b)

  pub own-g-bytes : (j : ℕ) (w : List ℕ) → Bytes w → Bytes (own_g z xs j w)
  unfolding own_g
  own-g-bytes j w b =
      interpolate-bytes (points xs (neighbours z j d)) (take 1 w ++ drop (d + r) w)
      (append-all (λ a. a < 256) (take 1 w) (drop (d + r) w) (take-alls (λ a. a < 256) 1 w b) (drop-alls (λ a. a < 256) (d + r) w b))

  pub packet-bytes : (S j i : ℕ) (held : List ℕ) → Bytes held → Bytes (helper_packet z xs S j i held)
  unfolding helper_packet helper_pair
  packet-bytes S j i held b =
      join-bytes S (λ s. helper_pair z xs j i (piece (α z) s held)) (λ s l.
      let w = piece_bytes (α z) s held b in
      (eval-byte (own_f z xs j (piece (α z) s held)) (point xs i) (own-f-bytes j _ w), (eval-byte (own_g z xs j (piece (α z) s held)) (point xs i) (own-g-bytes j _ w), tt)))

  pub stand-in-bytes : (S j i : ℕ) (held : List ℕ) → Bytes held → Bytes (stand_in_packet z xs S j i held)
  unfolding stand_in_packet seconds
  stand-in-bytes S j i held b =
      tabulate-all (λ a. a < 256) S (λ s. get_or (piece 2 s (helper_packet z xs S j i held)) 1 0)
      (λ s l. byte_at (piece 2 s (helper_packet z xs S j i held)) (piece_bytes 2 s _ (packet-bytes S j i held b)) 1)

  received-bytes : (S b s : ℕ) (packets : List ℕ) → Bytes packets → Bytes (received z S b s packets)
  unfolding received
  received-bytes S b s packets h =
      tabulate-all (λ a. a < 256) d (λ t. get_or (piece 2 s (piece (2 * S) t packets)) b 0)
      (λ t l. byte_at (piece 2 s (piece (2 * S) t packets)) (piece_bytes 2 s _ (piece_bytes (2 * S) t packets h)) b)

  exchanged-bytes : (S s : ℕ) (packets : List ℕ) → Bytes packets → Bytes (exchanged z S s packets)
  unfolding exchanged
  exchanged-bytes S s packets h =
      tabulate-all (λ a. a < 256) (r - 1) (λ t. get_or (piece S t packets) s 0) (λ t l. byte_at (piece S t packets) (piece_bytes S t packets h) s)

  g-from-bytes : (helpers firsts : List ℕ) → Bytes firsts → Bytes (g_from z xs helpers firsts)
  unfolding g_from
  g-from-bytes helpers firsts b = interpolate-bytes (points xs helpers) firsts b

  pub exchange-bytes : (S : ℕ) (helpers packets : List ℕ) (m : ℕ) → Bytes packets → Bytes (exchange_packet z xs S helpers packets m)
  unfolding exchange_packet
  exchange-bytes S helpers packets m b =
      join-bytes S (λ s. eval (g_from z xs helpers (received z S 0 s packets)) (point xs m) ∷ [])
      (λ s l. (eval-byte (g_from z xs helpers (received z S 0 s packets)) (point xs m) (g-from-bytes helpers _ (received-bytes S 0 s packets b)), tt))

  pub finished-bytes : (S i : ℕ) (helpers packets partners exchanges : List ℕ) → Bytes packets → Bytes exchanges
      → Bytes (finished_share z xs S i helpers packets partners exchanges)
  unfolding finished_share finished_stripe f_from
  finished-bytes S i helpers packets partners exchanges bp be =
      join-bytes S _ (λ s l.
      let g : List ℕ = g_from z xs helpers (received z S 0 s packets) in
      let bg : Bytes g = g-from-bytes helpers _ (received-bytes S 0 s packets bp) in
      let vs : List ℕ = received z S 1 s packets ++ exchanged z S s exchanges ++ (eval g (point xs i) ∷ []) in
      let bv : Bytes vs =
      append-all (λ a. a < 256) (received z S 1 s packets ++ exchanged z S s exchanges) (eval g (point xs i) ∷ [])
      (append-all (λ a. a < 256) (received z S 1 s packets) (exchanged z S s exchanges) (received-bytes S 1 s packets bp) (exchanged-bytes S s exchanges be))
      (eval-byte g (point xs i) bg, tt) in
      symbols-bytes i _ _
      (λ y. eval-byte (interpolate (points xs (helpers ++ partners ++ (i ∷ []))) vs) y (interpolate-bytes (points xs (helpers ++ partners ++ (i ∷ []))) vs bv))
      (λ x. eval-byte g x bg))
