-- f and g by any bytes that a board keeps: lengths, bytes, and that they have these bytes for values.
-- Assumes nothing.
use mathlib.Core.Path.{◌≡◌, sym, ap, ap₂, ◌∙◌}
use mathlib.Core.List.{List, ◌++◌, map}
use Prim.Native.Nat.{ℕ, ◌+◌, ◌<◌, ◌≤◌}
use native.Mathlib.Omega.{arith}
use lib.ListN.{length, take, drop, length-append, length-drop, take-append-drop}
use lib.Seq.{length-take-le, drop_at}
use Rattle.lists.specs.Lists.{Bytes}
use Rattle.lists.proofs.Alls.{append-all, take-alls, drop-alls}
use Rattle.lists.proofs.Pieces.{map-drop}
use Rattle.sizes.specs.Sizing.{α}
use Rattle.sizes.specs.declared.Sizes.{Sizes}
use Rattle.sizes.proofs.Legal.{Legal, α-parts}
use Rattle.polynomial.specs.Polynomial.{eval, evals}
use Rattle.polynomial.proofs.Poly.{evals-interpolate, length-interpolate}
use Rattle.mbcr.specs.Rebuild.{own_f, own_g}
use Rattle.mbcr.specs.Share.{DifferentPoints, points, neighbours, symbols, point}
use Rattle.mbcr.proofs.Points.{Boards, length-neighbours, neighbours-boards, length-points, points-bytes, points-distinct}

module _ (z : Sizes) (xs : List ℕ) (legal : Legal z) (i : ℕ) (w : List ℕ) (l : length w ≡ α z) where
  open z use {n, k, d, r}

  f-given : length (take (d + r) w) ≡ d + r
  f-given = length-take-le (d + r) w (omega (arith, l, α-parts z legal))

  g-given : length (take 1 w ++ drop (d + r) w) ≡ d
  g-given =
      let one : length (take 1 w) ≡ 1 = length-take-le 1 w (omega (arith, l, α-parts z legal, legal.some-fresh)) in
      length-append (take 1 w) (drop (d + r) w) ∙ ap₂ ◌+◌ one (length-drop (d + r) w)
      ∙ omega (arith, l, α-parts z legal, legal.some_read, legal.read-helpers)

  f-points : (ys : List ℕ) → length (points ys (neighbours z i (d + r))) ≡ d + r
  f-points ys = length-points ys (neighbours z i (d + r)) ∙ length-neighbours z i (d + r)

  g-points : (ys : List ℕ) → length (points ys (neighbours z i d)) ≡ d
  g-points ys = length-points ys (neighbours z i d) ∙ length-neighbours z i d

  pub own-f-length : length (own_f z xs i w) ≡ d + r
  unfolding own_f
  own-f-length = length-interpolate (points xs (neighbours z i (d + r))) (take (d + r) w) (f-points xs ∙ sym f-given) ∙ f-points xs

  pub own-g-length : length (own_g z xs i w) ≡ d
  unfolding own_g
  own-g-length = length-interpolate (points xs (neighbours z i d)) (take 1 w ++ drop (d + r) w) (g-points xs ∙ sym g-given) ∙ g-points xs

  module _ (b : Bytes w) where
    f-bytes : Bytes (take (d + r) w)
    f-bytes = take-alls (λ a. a < 256) (d + r) w b

    g-bytes : Bytes (take 1 w ++ drop (d + r) w)
    g-bytes = append-all (λ a. a < 256) (take 1 w) (drop (d + r) w) (take-alls (λ a. a < 256) 1 w b) (drop-alls (λ a. a < 256) (d + r) w b)

    module _ (pts : DifferentPoints z xs) (h : i < n) where
      boards : (m : ℕ) → m ≤ n → Boards z (neighbours z i m)
      boards m e = neighbours-boards z i m h e

      -- the values of f and of g at the neighbours' points
      pub own-f-values : evals (own_f z xs i w) (points xs (neighbours z i (d + r))) ≡ take (d + r) w
      unfolding own_f
      own-f-values =
          let e = boards (d + r) legal.enough in
          evals-interpolate (points xs (neighbours z i (d + r))) (take (d + r) w) (f-points xs ∙ sym f-given) f-bytes (points-bytes z xs pts _ e) (points-distinct z xs pts _ e)

      pub own-g-values : evals (own_g z xs i w) (points xs (neighbours z i d)) ≡ take 1 w ++ drop (d + r) w
      unfolding own_g
      own-g-values =
          let e = boards d (omega (arith, legal.enough)) in
          evals-interpolate (points xs (neighbours z i d)) (take 1 w ++ drop (d + r) w) (g-points xs ∙ sym g-given) g-bytes (points-bytes z xs pts _ e) (points-distinct z xs pts _ e)

      -- kept values, of f and g by w, are w
      pub symbols-of : symbols z xs i (eval (own_f z xs i w)) (eval (own_g z xs i w)) ≡ w
      unfolding symbols
      symbols-of =
          let one : length (take 1 w) ≡ 1 = length-take-le 1 w (omega (arith, l, α-parts z legal, legal.some-fresh)) in
          ap₂ {C = List ℕ} (λ x y. x ++ y) own-f-values
          (ap (map _) (map-drop (point xs) 1 (neighbours z i d)) ∙ map-drop _ 1 (points xs (neighbours z i d))
          ∙ ap (drop 1) own-g-values ∙ drop_at (take 1 w) (drop (d + r) w) 1 one)
          ∙ take-append-drop (d + r) w
