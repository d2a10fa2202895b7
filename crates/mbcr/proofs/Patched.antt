-- Where one board has a new point, another board's stripe changes in at most two bytes.
-- Assumes nothing.
use mathlib.Core.Path.{◌≡◌, refl, sym, ap, subst, ◌∙◌}
use mathlib.Core.Bool.{Bool, true, false}
use mathlib.Core.Logic.{◌≢◌}
use mathlib.Core.List.{List, [], ◌∷◌}
use Prim.Native.Nat.{ℕ, suc, ◌+◌, ◌-◌, ◌%◌, ◌<◌, ◌≤◌}
use native.Mathlib.Decide.{dec_lt}
use native.Mathlib.Nat.{mod-eq_of_lt}
use native.Mathlib.Omega.{arith}
use lib.Dec.{leb, ltb}
use lib.ListN.{length, get_or, set, length-set}
use lib.Seq.{get_or-set_same, get_or-set_other, ext_get_or}
use borrow.Author.Tests.{lt-ltb, le-leb, ltb-true}
use Rattle.lists.specs.Lists.{Bytes}
use Rattle.lists.specs.Tests.{pick, alls}
use Rattle.sizes.specs.Sizing.{α}
use Rattle.sizes.specs.declared.Sizes.{Sizes}
use Rattle.sizes.proofs.Legal.{Legal, legal-facts, α-parts}
use Rattle.polynomial.specs.Polynomial.{eval}
use Rattle.mbcr.specs.Afresh.{kept_afresh}
use Rattle.mbcr.specs.AfreshLaws.{patched, PatchedClaim}
use Rattle.mbcr.specs.Rebuild.{own_f, own_g}
use Rattle.mbcr.specs.Share.{DifferentPoints, point}
use Rattle.mbcr.proofs.AfreshLaws.{length-kept-afresh, value-f, value-g, stays-f, stays-g}
use Rattle.mbcr.proofs.Points.{turned_apart}
use Rattle.mbcr.proofs.TurnLaws.{turn-laws, dec_same}

-- ---- a list of which two places are set, or one, or none

module _ (z : Sizes) (ok : Legal z) (t a b : ℕ) (w : List ℕ) (l : length w ≡ α z) (lt : 1 ≤ t) where
  open z use {d, r}

  abbrev first : List ℕ
  first = pick (ltb t (d + r)) (set w t a) w

  length-pick : (c : Bool) (u v : List ℕ) → length u ≡ α z → length v ≡ α z → length (pick c u v) ≡ α z
  length-pick true u v e k = e
  length-pick false u v e k = k

  length-first : length first ≡ α z
  length-first = length-pick (ltb t (d + r)) (set w t a) w (length-set w t a ∙ l) l

  pub length-patched : length (patched z t a b w) ≡ α z
  unfolding patched
  length-patched =
      length-pick (alls (leb 1 t ∷ ltb t d ∷ [])) (set first (d + r + (t - 1)) b) first (length-set first (d + r + (t - 1)) b ∙ length-first) length-first

  second : alls (leb 1 t ∷ ltb t d ∷ []) ≡ ltb t d
  second = rw (le-leb 1 t lt) (go (ltb t d))
    where
      go : (c : Bool) → pick c true false ≡ c
      go true = refl
      go false = refl

  -- a byte of f
  first-same : t < d + r → get_or first t 0 ≡ a
  first-same s = rw (lt-ltb t (d + r) s) (get_or-set_same w t a 0 (omega (arith, l, α-parts z ok)))

  first-other : (q : ℕ) → q ≢ t → get_or first q 0 ≡ get_or w q 0
  first-other q e = go (ltb t (d + r))
    where
      go : (c : Bool) → get_or (pick c (set w t a) w) q 0 ≡ get_or w q 0
      go true = get_or-set_other w t q a 0 e
      go false = refl

  past-second : (q : ℕ) → q ≢ d + r + (t - 1) → get_or (patched z t a b w) q 0 ≡ get_or first q 0
  unfolding patched
  past-second q e = go (alls (leb 1 t ∷ ltb t d ∷ []))
    where
      go : (c : Bool) → get_or (pick c (set first (d + r + (t - 1)) b) first) q 0 ≡ get_or first q 0
      go true = get_or-set_other first (d + r + (t - 1)) q b 0 e
      go false = refl

  at_second : t < d → get_or (patched z t a b w) (d + r + (t - 1)) 0 ≡ b
  unfolding patched
  at_second h = rw (second, lt-ltb t d h) (get_or-set_same first (d + r + (t - 1)) b 0 (omega (arith, length-first, α-parts z ok)))

  -- past the bytes of f, the first set changes nothing
  first_past : (q : ℕ) → d + r ≤ q → get_or first q 0 ≡ get_or w q 0
  first_past q h = go (ltb t (d + r)) refl
    where
      go : (c : Bool) → ltb t (d + r) ≡ c → get_or (pick c (set w t a) w) q 0 ≡ get_or w q 0
      go true e = get_or-set_other w t q a 0 (λ x. let k = ltb-true t (d + r) e in omega arith)
      go false e = refl

-- ---- the stripe

module _ (z : Sizes) (xs : List ℕ) (m y i t : ℕ) (w : List ℕ) (ok : Legal z) (pts : DifferentPoints z xs) (hm : m < length xs)
    (hi : i < z.n) (other : i ≢ m) (ht : t < z.n) (at : (i + t) % z.n ≡ m) (l : length w ≡ α z) (bw : Bytes w) where
  open z use {n, k, d, r}

  abbrev ys : List ℕ
  ys = set xs m y

  -- m is not the board itself
  some : 1 ≤ t
  some = go (dec_lt 0 t)
    where
      go : Dec (0 < t) → 1 ≤ t
      go (yes e) = e
      go (no e) =
          let z0 : t ≡ 0 = omega arith in
          let q : i ≡ m = sym (mod-eq_of_lt hi) ∙ ap (λ (x : ℕ). x % n) (omega arith) ∙ at in
          absurd (other q)

  -- the point of a neighbour
  moved : (q : ℕ) → q ≡ t → point ys ((i + q) % n) ≡ y
  moved q e = ap (λ (x : ℕ). point ys ((i + x) % n)) e ∙ ap (point ys) at ∙ turn-laws.moved-point xs m y hm

  same : (q : ℕ) → q < n → q ≢ t → point ys ((i + q) % n) ≡ point xs ((i + q) % n)
  same q h e = turn-laws.other-point xs m y ((i + q) % n) (λ x. apart (dec_lt q t) (x ∙ sym at))
    where
      apart : Dec (q < t) → (i + q) % n ≡ (i + t) % n → ⊥
      apart (yes u) x = turned_apart n i q t hi u ht (sym x)
      apart (no u) x = turned_apart n i t q hi (omega arith) h x

  abbrev a : ℕ
  a = eval (own_f z xs i w) y

  abbrev b : ℕ
  b = eval (own_g z xs i w) y

  byte : (q : ℕ) → q < α z → Dec (q < d + r) → get_or (kept_afresh z xs ys i w) q 0 ≡ get_or (patched z t a b w) q 0
  byte q hq (yes h) = go (dec_same q t)
    where
      go : Dec (q ≡ t) → get_or (kept_afresh z xs ys i w) q 0 ≡ get_or (patched z t a b w) q 0
      go (yes e) =
          value-f z xs ys i ok w q h ∙ ap (eval (own_f z xs i w)) (moved q e)
          ∙ sym (past-second z ok t a b w l some q (λ x. omega arith) ∙ ap (λ (x : ℕ). get_or (first z ok t a b w l some) x 0) e
          ∙ first-same z ok t a b w l some (subst (λ (x : ℕ). x < d + r) e h))
      go (no e) =
          stays-f z xs ys i ok w l bw pts hi q h (same q (omega (arith, ok.enough)) e)
          ∙ sym (past-second z ok t a b w l some q (λ x. omega arith) ∙ first-other z ok t a b w l some q e)
  byte q hq (no h) = subst (λ (x : ℕ). get_or (kept_afresh z xs ys i w) x 0 ≡ get_or (patched z t a b w) x 0) back (go (dec_same (suc p) t))
    where
      p : ℕ
      p = q - (d + r)

      back : d + r + (q - (d + r)) ≡ q
      back = omega arith

      short : suc (q - (d + r)) < d
      short = omega (arith, α-parts z ok)

      go : Dec (suc (q - (d + r)) ≡ t) → get_or (kept_afresh z xs ys i w) (d + r + (q - (d + r))) 0 ≡ get_or (patched z t a b w) (d + r + (q - (d + r))) 0
      go (yes e) =
          let u : q - (d + r) ≡ t - 1 = omega arith in
          value-g z xs ys i ok w (q - (d + r)) short ∙ ap (eval (own_g z xs i w)) (moved (suc (q - (d + r))) e)
          ∙ sym (ap (λ (x : ℕ). get_or (patched z t a b w) (d + r + x) 0) u ∙ at_second z ok t a b w l some (omega (arith, short)))
      go (no e) =
          stays-g z xs ys i ok w l bw pts hi (q - (d + r)) short (same (suc (q - (d + r))) (omega (arith, short, ok.enough)) e)
          ∙ sym (past-second z ok t a b w l some (d + r + (q - (d + r))) (λ x. e (omega (arith, some)))
          ∙ first_past z ok t a b w l some (d + r + (q - (d + r))) (omega arith))

  whole : kept_afresh z xs ys i w ≡ patched z t a b w
  whole =
      ext_get_or 0 (kept_afresh z xs ys i w) (patched z t a b w)
      (length-kept-afresh z xs ys i ok w ∙ sym (length-patched z ok t a b w l some))
      (λ q h. byte q (omega (arith, length-kept-afresh z xs ys i ok w)) (dec_lt q (d + r)))

pub kept-patched : PatchedClaim
kept-patched z xs m y i t w ok pts hm hi other ht at l b = whole z xs m y i t w (legal-facts z ok) pts hm hi other ht at l b
