-- A file from k shares. Document 001, section IV, in its words: first the b and c coefficients, then the a; and what is read must encode
-- to the shares it was read from.
-- Assumes nothing.
use Rattle.std.proofs.Math.Option.{Option, none, some}
use Rattle.std.specs.Prelude.{List, ◌++◌, ℕ, ◌+◌, ◌*◌, ◌-◌, get_or, take, replicate}
use Rattle.lists.specs.Tests.{pick, same}
use Rattle.lists.specs.Lists.{tabulate, join, piece}
use Rattle.gf256.specs.Field.{add}
use Rattle.sizes.specs.declared.Sizes.{Sizes}
use Rattle.sizes.specs.Sizing.{α, stripes}
use Rattle.polynomial.specs.Polynomial.{eval, interpolate}
use Rattle.mbcr.specs.Share.{point, points, shares}
use Rattle.mbcr.specs.Rebuild.{own_f, own_g}

module _ (z : Sizes) (xs : List ℕ) where
  open z use {n, k, d, r}

  -- the polynomial whose value at the point of boards[t] is v t
  unfoldable pub through : List ℕ → (ℕ → ℕ) → List ℕ
  through boards v = interpolate (points xs boards) (tabulate k v)

  -- column j, for k ≤ j < d + r, from what k boards keep of a stripe, w t being of boards[t]: the coefficients of Y^j in f_i
  unfoldable pub b_column : List ℕ → (ℕ → List ℕ) → ℕ → List ℕ
  b_column boards w j = through boards (λ t. get_or (own_f z xs (get_or boards t 0) (w t)) j 0)

  -- row i, for k ≤ i < d: "Similarly, we can get c_ij", from the coefficients of X^i in g_i
  unfoldable pub c_row : List ℕ → (ℕ → List ℕ) → ℕ → List ℕ
  c_row boards w i = through boards (λ t. get_or (own_g z xs (get_or boards t 0) (w t)) i 0)

  -- "Based on b_ij's and c_ij's we can further get a_ij's": column j, for j < k, from the coefficients of Y^j in f_i, less what the c_ij add
  unfoldable pub a_column : List ℕ → (ℕ → List ℕ) → ℕ → List ℕ
  a_column boards w j =
      let above = replicate k 0 ++ tabulate (d - k) (λ i. get_or (c_row boards w (k + i)) j 0) in
      through boards (λ t. add (get_or (own_f z xs (get_or boards t 0) (w t)) j 0) (eval above (point xs (get_or boards t 0))))

  -- the stripe: its B coefficients in the order a, b, c
  unfoldable pub decoded_stripe : List ℕ → (ℕ → List ℕ) → List ℕ
  decoded_stripe boards w =
      join k (λ i. tabulate k (λ j. get_or (a_column boards w j) i 0))
      ++ join k (λ i. tabulate (d + r - k) (λ j. get_or (b_column boards w (k + j)) i 0))
      ++ join (d - k) (λ i. c_row boards w (k + i))

  -- the first L bytes that the stripes of the given shares decode to
  unfoldable pub decoded_file : ℕ → List ℕ → List ℕ → List ℕ
  decoded_file L boards held =
      let S = stripes z L in
      take L (join S (λ s. decoded_stripe boards (λ t. piece (α z) s (piece (S * α z) t held))))

  -- the file of length L that has these shares, padding included; none: "no file of length L, padding included, has these k shares"
  unfoldable pub read_file : ℕ → List ℕ → List ℕ → Option (List ℕ)
  read_file L boards held =
      let file = decoded_file L boards held in
      pick (same (shares z xs file boards) held) (some file) none
