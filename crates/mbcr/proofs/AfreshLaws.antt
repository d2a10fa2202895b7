-- What a board keeps afresh fixes the same f and g; so of a share it is the share at the new points, and packets made of it are values of the old f and g.
-- Assumes nothing.
use mathlib.Core.Path.{◌≡◌, refl, sym, ap, ap₂, fun_ext, ◌∙◌}
use mathlib.Core.List.{List, [], ◌∷◌, ◌++◌, map}
use Prim.Native.Nat.{ℕ, zero, suc, ◌+◌, ◌*◌, ◌-◌, ◌%◌, ◌<◌}
use native.Mathlib.Omega.{arith}
use lib.ListN.{length, get_or, take, drop}
use Rattle.lists.specs.Lists.{Bytes, join, piece}
use lib.Seq.{take_all}
use Rattle.lists.proofs.Pieces.{join-ext, join-piece, length-join, piece-join, join-bytes, piece_bytes, piece-at, length-piece}
use Rattle.lists.proofs.Put.{part_end}
use Rattle.sizes.specs.Sizing.{legal, α, B}
use Rattle.sizes.specs.declared.Sizes.{Sizes}
use Rattle.sizes.proofs.Legal.{Legal, legal-facts, α-parts}
use Rattle.polynomial.specs.Polynomial.{eval, evals, interpolate}
use Rattle.polynomial.proofs.Poly.{interpolate-evals, eval-byte}
use Rattle.mbcr.specs.Afresh.{kept_afresh, share_afresh}
use Rattle.mbcr.specs.AfreshLaws.{pairs_at, AfreshClaim}
use Rattle.mbcr.specs.Demand2.{S}
use Rattle.mbcr.specs.Rebuild.{seconds, own_f, own_g, helper_pair, helper_packet, stand_in_packet}
use Rattle.mbcr.specs.Share.{DifferentPoints, stripe, F, points, neighbours, symbols, kept, share, point}
use Rattle.mbcr.proofs.Own.{own-f-length, own-g-length, own-f-values, own-g-values, symbols-of}
use Rattle.mbcr.proofs.Places.{symbols-f-at, symbols-g-at, symbols-bytes, own-f-bytes, own-g-bytes}
use Rattle.mbcr.proofs.Points.{Boards, length-neighbours, neighbours-boards, neighbours-first, length-points, points-bytes, points-distinct}
use Rattle.mbcr.proofs.Repair.{share-piece}
use Rattle.mbcr.proofs.Shape.{length-stripe, stripe-bytes}
use Rattle.mbcr.proofs.Stripe.{length_symbols, symbols-f, symbols-g, f-kept, g-kept, f-value, g-value}

-- a length, whatever the points
pub length-afresh : (z : Sizes) (xs ys : List ℕ) → Legal z → (S i : ℕ) (held : List ℕ) → length (share_afresh z xs ys S i held) ≡ S * α z
unfolding share_afresh kept_afresh
length-afresh z xs ys ok S i held = length-join S (α z) _ (λ s l. length_symbols z ys ok i _ _)

-- values at the new points, whatever these are
module _ (z : Sizes) (xs ys : List ℕ) (i : ℕ) (ok : Legal z) where
  open z use {n, k, d, r}

  pub length-kept-afresh : (w : List ℕ) → length (kept_afresh z xs ys i w) ≡ α z
  unfolding kept_afresh
  length-kept-afresh w = length_symbols z ys ok i (eval (own_f z xs i w)) (eval (own_g z xs i w))

  pub value-f : (w : List ℕ) (t : ℕ) → t < d + r → get_or (kept_afresh z xs ys i w) t 0 ≡ eval (own_f z xs i w) (point ys ((i + t) % n))
  unfolding kept_afresh
  value-f w t ht = symbols-f-at z ys ok i t (eval (own_f z xs i w)) (eval (own_g z xs i w)) ht

  pub value-g : (w : List ℕ) (t : ℕ) → suc t < d → get_or (kept_afresh z xs ys i w) (d + r + t) 0 ≡ eval (own_g z xs i w) (point ys ((i + suc t) % n))
  unfolding kept_afresh
  value-g w t ht = symbols-g-at z ys ok i t (eval (own_f z xs i w)) (eval (own_g z xs i w)) ht

  pub stays-f : (w : List ℕ) → length w ≡ α z → Bytes w → DifferentPoints z xs → i < n
      → (t : ℕ) → t < d + r → point ys ((i + t) % n) ≡ point xs ((i + t) % n) → get_or (kept_afresh z xs ys i w) t 0 ≡ get_or w t 0
  unfolding kept_afresh
  stays-f w l b pts h t ht e =
      symbols-f-at z ys ok i t (eval (own_f z xs i w)) (eval (own_g z xs i w)) ht ∙ ap (eval (own_f z xs i w)) e
      ∙ sym (symbols-f-at z xs ok i t (eval (own_f z xs i w)) (eval (own_g z xs i w)) ht) ∙ ap (λ (v : List ℕ). get_or v t 0) (symbols-of z xs ok i w l b pts h)

  pub stays-g : (w : List ℕ) → length w ≡ α z → Bytes w → DifferentPoints z xs → i < n
      → (t : ℕ) → suc t < d → point ys ((i + suc t) % n) ≡ point xs ((i + suc t) % n) → get_or (kept_afresh z xs ys i w) (d + r + t) 0 ≡ get_or w (d + r + t) 0
  unfolding kept_afresh
  stays-g w l b pts h t ht e =
      symbols-g-at z ys ok i t (eval (own_f z xs i w)) (eval (own_g z xs i w)) ht ∙ ap (eval (own_g z xs i w)) e
      ∙ sym (symbols-g-at z xs ok i t (eval (own_f z xs i w)) (eval (own_g z xs i w)) ht) ∙ ap (λ (v : List ℕ). get_or v (d + r + t) 0) (symbols-of z xs ok i w l b pts h)

module _ (z : Sizes) (xs ys : List ℕ) (i : ℕ) (ok : Legal z) (pts : DifferentPoints z xs) (new : DifferentPoints z ys) (h : i < z.n) (own : point ys i ≡ point xs i) where
  open z use {n, k, d, r}

  abbrev f : List ℕ → List ℕ
  f w = own_f z xs i w

  abbrev g : List ℕ → List ℕ
  g w = own_g z xs i w

  kept-afresh-bytes : (w : List ℕ) → Bytes w → Bytes (kept_afresh z xs ys i w)
  unfolding kept_afresh
  kept-afresh-bytes w b =
      symbols-bytes z ys ok i (eval (f w)) (eval (g w)) (λ y. eval-byte (f w) y (own-f-bytes z xs ok i w b)) (λ x. eval-byte (g w) x (own-g-bytes z xs ok i w b))

  afresh-bytes : (S : ℕ) (held : List ℕ) → Bytes held → Bytes (share_afresh z xs ys S i held)
  unfolding share_afresh
  afresh-bytes S held b = join-bytes S _ (λ s l. kept-afresh-bytes (piece (α z) s held) (piece_bytes (α z) s held b))

  -- f and g by what is kept of functions
  through_f : (a c : ℕ → ℕ) → own_f z ys i (symbols z ys i a c) ≡ interpolate (points ys (neighbours z i (d + r))) (map a (points ys (neighbours z i (d + r))))
  unfolding own_f
  through_f a c = ap (interpolate (points ys (neighbours z i (d + r)))) (symbols-f z ys ok i a c)

  through-g : (a c : ℕ → ℕ) → a (point ys i) ≡ c (point ys i)
      → own_g z ys i (symbols z ys i a c) ≡ interpolate (points ys (neighbours z i d)) (map c (points ys (neighbours z i d)))
  unfolding own_g
  through-g a c e = ap (interpolate (points ys (neighbours z i d))) (symbols-g z ys ok i a c h e)

  -- of F
  at_own : (u : List ℕ) → symbols z ys i (λ y. F z u (point xs i) y) (λ x. F z u x (point xs i)) ≡ kept z ys u i
  unfolding kept
  at_own u = ap (λ (p : ℕ). symbols z ys i (λ y. F z u p y) (λ x. F z u x p)) (sym own)

  whole-share : (file : List ℕ) → join (S z file) (λ s. kept z ys (stripe z file s) i) ≡ share z ys file i
  unfolding share
  whole-share file = refl

  -- ---- any bytes of one stripe

  module _ (w : List ℕ) (l : length w ≡ α z) (b : Bytes w) where
    -- the first value of a polynomial at the neighbours is that at the board's own point
    first_of : (p : List ℕ) (m : ℕ) (zs : List ℕ) → 0 < m → get_or (evals p (points zs (neighbours z i m))) 0 0 ≡ eval p (point zs i)
    first_of p zero zs e = absurd (omega arith)
    first_of p (suc m) zs e = rw (neighbours-first z i m h) refl

    -- byte 0 belongs to both
    meet : eval (f w) (point xs i) ≡ eval (g w) (point xs i)
    meet =
        sym (first_of (f w) (d + r) xs (omega (arith, ok.some-fresh)))
        ∙ ap (λ (v : List ℕ). get_or v 0 0) (own-f-values z xs ok i w l b pts h)
        ∙ heads (d + r) w (omega (arith, ok.some-fresh)) (omega (arith, l, α-parts z ok, ok.some-fresh))
        ∙ ap (λ (v : List ℕ). get_or v 0 0) (sym (own-g-values z xs ok i w l b pts h))
        ∙ first_of (g w) d xs (omega (arith, ok.some_read, ok.read-helpers))
      where
        heads : (m : ℕ) (v : List ℕ) → 0 < m → 0 < length v → get_or (take m v) 0 0 ≡ get_or (take 1 v ++ drop m v) 0 0
        heads zero v e q = absurd (omega arith)
        heads (suc m) [] e q = absurd (omega arith)
        heads (suc m) (c ∷ v) e q = refl

    same-f : own_f z ys i (kept_afresh z xs ys i w) ≡ f w
    unfolding kept_afresh
    same-f =
        let e : Boards z (neighbours z i (d + r)) = neighbours-boards z i (d + r) h ok.enough in
        through_f (eval (f w)) (eval (g w))
        ∙ interpolate-evals (f w) (points ys (neighbours z i (d + r)))
        (own-f-length z xs ok i w l ∙ sym (length-points ys (neighbours z i (d + r)) ∙ length-neighbours z i (d + r)))
        (own-f-bytes z xs ok i w b) (points-bytes z ys new _ e) (points-distinct z ys new _ e)

    same-g : own_g z ys i (kept_afresh z xs ys i w) ≡ g w
    unfolding kept_afresh
    same-g =
        let e : Boards z (neighbours z i d) = neighbours-boards z i d h (omega (arith, ok.enough)) in
        through-g (eval (f w)) (eval (g w)) (rw own meet)
        ∙ interpolate-evals (g w) (points ys (neighbours z i d))
        (own-g-length z xs ok i w l ∙ sym (length-points ys (neighbours z i d) ∙ length-neighbours z i d))
        (own-g-bytes z xs ok i w b) (points-bytes z ys new _ e) (points-distinct z ys new _ e)

    pair-at : (j : ℕ) → helper_pair z ys i j (kept_afresh z xs ys i w) ≡ eval (f w) (point ys j) ∷ eval (g w) (point ys j) ∷ []
    unfolding helper_pair
    pair-at j = ap₂ {C = List ℕ} (λ p q. eval p (point ys j) ∷ eval q (point ys j) ∷ []) same-f same-g

    kept_back : kept_afresh z ys xs i (kept_afresh z xs ys i w) ≡ w
    unfolding kept_afresh
    kept_back = ap₂ (λ (p q : List ℕ). symbols z xs i (eval p) (eval q)) same-f same-g ∙ symbols-of z xs ok i w l b pts h

  -- ---- S stripes

  afresh-piece : (S : ℕ) (held : List ℕ) (s : ℕ) → s < S → piece (α z) s (share_afresh z xs ys S i held) ≡ kept_afresh z xs ys i (piece (α z) s held)
  unfolding share_afresh
  afresh-piece S held s hs = piece-join S (α z) (λ s. kept_afresh z xs ys i (piece (α z) s held)) (λ s l. length-kept-afresh z xs ys i ok (piece (α z) s held)) s hs

  held-piece : (S : ℕ) (held : List ℕ) → length held ≡ S * α z → (s : ℕ) → s < S → length (piece (α z) s held) ≡ α z
  held-piece S held l s hs = length-piece (α z) s held (omega (arith, l, part_end s (α z) S hs))

  afresh-back : (S : ℕ) (held : List ℕ) → length held ≡ S * α z → Bytes held → share_afresh z ys xs S i (share_afresh z xs ys S i held) ≡ held
  unfolding share_afresh
  afresh-back S held l b =
      join-ext S _ (λ s. piece (α z) s held) (λ s hs. ap (kept_afresh z ys xs i) (afresh-piece S held s hs)
      ∙ kept_back (piece (α z) s held) (held-piece S held l s hs) (piece_bytes (α z) s held b))
      ∙ join-piece S (α z) held ∙ take_all (S * α z) held (omega (arith, l))

  packet-at : (S j : ℕ) (held : List ℕ) → length held ≡ S * α z → Bytes held
      → helper_packet z ys S i j (share_afresh z xs ys S i held) ≡ pairs_at z xs S i (point ys j) held
  unfolding helper_packet pairs_at
  packet-at S j held l b =
      join-ext S _ _ (λ s hs. ap (helper_pair z ys i j) (afresh-piece S held s hs)
      ∙ pair-at (piece (α z) s held) (held-piece S held l s hs) (piece_bytes (α z) s held b) j)

  stand-in-at : (S j : ℕ) (held : List ℕ) → length held ≡ S * α z → Bytes held
      → stand_in_packet z ys S i j (share_afresh z xs ys S i held) ≡ seconds S (pairs_at z xs S i (point ys j) held)
  unfolding stand_in_packet
  stand-in-at S j held l b = ap (seconds S) (packet-at S j held l b)

  byte_of : (S : ℕ) (held : List ℕ) (s t : ℕ) → s < S → t < α z
      → get_or (share_afresh z xs ys S i held) (s * α z + t) 0 ≡ get_or (kept_afresh z xs ys i (piece (α z) s held)) t 0
  byte_of S held s t hs ht = sym (piece-at (α z) s (share_afresh z xs ys S i held) t 0 ht) ∙ ap (λ (v : List ℕ). get_or v t 0) (afresh-piece S held s hs)

  stripe-true : (u : List ℕ) → length u ≡ B z → Bytes u → kept_afresh z xs ys i (kept z xs u i) ≡ kept z ys u i
  unfolding kept_afresh
  stripe-true u lu bu =
      ap₂ (symbols z ys i)
      (fun_ext (λ y. ap (λ (p : List ℕ). eval p y) (f-kept z xs ok pts u lu bu i h) ∙ f-value z xs ok pts u lu bu (point xs i) y))
      (fun_ext (λ x. ap (λ (p : List ℕ). eval p x) (g-kept z xs ok pts u lu bu i h) ∙ g-value z xs ok pts u lu bu x (point xs i)))
      ∙ at_own u

  afresh-true : (file : List ℕ) → Bytes file → share_afresh z xs ys (S z file) i (share z xs file i) ≡ share z ys file i
  unfolding share_afresh
  afresh-true file bf =
      join-ext (S z file) _ (λ s. kept z ys (stripe z file s) i)
      (λ s l. ap (kept_afresh z xs ys i) (share-piece z xs ok pts file bf i s l) ∙ stripe-true (stripe z file s) (length-stripe z file s) (stripe-bytes z file s bf))
      ∙ whole-share file

pub afresh-laws : AfreshClaim
afresh-laws z xs ys i legal pts new h own =
    let ok = legal-facts z legal in
    record {
      afresh-length = λ S held. length-afresh z xs ys ok S i held;
      afresh-bytes = afresh-bytes z xs ys i ok pts new h own;
      afresh-true = afresh-true z xs ys i ok pts new h own;
      afresh-back = afresh-back z xs ys i ok pts new h own;
      packet-at = packet-at z xs ys i ok pts new h own;
      stand-in-at = stand-in-at z xs ys i ok pts new h own;
      afresh-stays = λ S held l b s t hs. (
        (λ ht e. byte_of z xs ys i ok pts new h own S held s t hs (omega (arith, α-parts z ok))
            ∙ stays-f z xs ys i ok (piece (α z) s held) (held-piece z xs ys i ok pts new h own S held l s hs) (piece_bytes (α z) s held b) pts h t ht e
            ∙ piece-at (α z) s held t 0 (omega (arith, α-parts z ok))),
        (λ lt ht e.
            let q : suc (t - 1) ≡ t = omega arith in
            byte_of z xs ys i ok pts new h own S held s (z.d + z.r + (t - 1)) hs (omega (arith, α-parts z ok))
            ∙ stays-g z xs ys i ok (piece (α z) s held) (held-piece z xs ys i ok pts new h own S held l s hs) (piece_bytes (α z) s held b) pts h (t - 1) (omega arith)
            (ap (λ (m : ℕ). point ys ((i + m) % z.n)) q ∙ e ∙ ap (λ (m : ℕ). point xs ((i + m) % z.n)) (sym q))
            ∙ piece-at (α z) s held (z.d + z.r + (t - 1)) 0 (omega (arith, α-parts z ok))),
      );
      afresh-value = λ S held s t hs. (
        (λ ht. byte_of z xs ys i ok pts new h own S held s t hs (omega (arith, α-parts z ok)) ∙ value-f z xs ys i ok (piece (α z) s held) t ht),
        (λ lt ht.
            let q : suc (t - 1) ≡ t = omega arith in
            byte_of z xs ys i ok pts new h own S held s (z.d + z.r + (t - 1)) hs (omega (arith, α-parts z ok))
            ∙ value-g z xs ys i ok (piece (α z) s held) (t - 1) (omega arith)
            ∙ ap (λ (m : ℕ). eval (own_g z xs i (piece (α z) s held)) (point ys ((i + m) % z.n))) q),
      );
    }
