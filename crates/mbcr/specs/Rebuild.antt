-- Document 01, 'Rebuilding', over any bytes: what a board that follows the steps sends and writes; request A.3: what a stand-in sends. `S` is the
-- number of stripes.
-- Assumes nothing.
use Rattle.std.specs.Prelude.{List, [], ◌∷◌, ◌++◌, ℕ, ◌+◌, ◌*◌, ◌-◌, get_or, take, drop}
use Rattle.lists.specs.Lists.{tabulate, join, piece}
use Rattle.sizes.specs.declared.Sizes.{Sizes}
use Rattle.sizes.specs.Sizing.{α}
use Rattle.polynomial.specs.Polynomial.{eval, interpolate}
use Rattle.mbcr.specs.Share.{point, points, neighbours, symbols}

-- the second byte of each of S pairs
unfoldable pub seconds : ℕ → List ℕ → List ℕ
seconds S packet = tabulate S (λ s. get_or (piece 2 s packet) 1 0)

module _ (z : Sizes) where
  open z use {d, r}

  -- byte b of the pair for stripe s in each of d helper packets, which stand one after another
  unfoldable pub received : ℕ → ℕ → ℕ → List ℕ → List ℕ
  received S b s packets = tabulate d (λ t. get_or (piece 2 s (piece (2 * S) t packets)) b 0)

  -- byte s of each of r − 1 exchange packets, which stand one after another
  unfoldable pub exchanged : ℕ → ℕ → List ℕ → List ℕ
  exchanged S s packets = tabulate (r - 1) (λ t. get_or (piece S t packets) s 0)

module _ (z : Sizes) (xs : List ℕ) where
  open z use {n, k, d, r}

  -- "These fix f_i(Y) = F(x_i, Y), of degree below d + r": f_i by the bytes w that board i keeps of a stripe
  unfoldable pub own_f : ℕ → List ℕ → List ℕ
  own_f i w = interpolate (points xs (neighbours z i (d + r))) (take (d + r) w)

  -- "and g_i(X) = F(X, y_i), of degree below d"
  unfoldable pub own_g : ℕ → List ℕ → List ℕ
  own_g i w = interpolate (points xs (neighbours z i d)) (take 1 w ++ drop (d + r) w)

  -- "Helper j sends fresh board i, for each stripe, two bytes: F(x_j, y_i), then F(x_i, y_j). It works them out from its own share."
  unfoldable pub helper_pair : ℕ → ℕ → List ℕ → List ℕ
  helper_pair j i w = eval (own_f j w) (point xs i) ∷ eval (own_g j w) (point xs i) ∷ []

  -- "A packet is 2S bytes": from helper j, with this share, to board i
  unfoldable pub helper_packet : ℕ → ℕ → ℕ → List ℕ → List ℕ
  helper_packet S j i held = join S (λ s. helper_pair j i (piece (α z) s held))

  -- "A stand-in s sends only F(x_i, y_s), the second bytes of its helper packet": from stand-in j, with this share, to board i
  unfoldable pub stand_in_packet : ℕ → ℕ → ℕ → List ℕ → List ℕ
  stand_in_packet S j i held = seconds S (helper_packet S j i held)

  -- "Fresh board i finds g_i from the d first bytes"
  unfoldable pub g_from : List ℕ → List ℕ → List ℕ
  g_from helpers firsts = interpolate (points xs helpers) firsts

  -- "and sends each other fresh board m the byte F(x_m, y_i) = g_i(x_m). An exchange packet is S bytes."
  unfoldable pub exchange_packet : ℕ → List ℕ → List ℕ → ℕ → List ℕ
  exchange_packet S helpers packets m = join S (λ s. eval (g_from helpers (received z S 0 s packets)) (point xs m) ∷ [])

  -- "Board i finds f_i from d second bytes, r − 1 exchanged bytes and its own g_i(x_i)"
  unfoldable pub f_from : ℕ → List ℕ → List ℕ → List ℕ → List ℕ → List ℕ → List ℕ
  f_from i helpers seconds partners sent g =
      interpolate (points xs (helpers ++ partners ++ (i ∷ []))) (seconds ++ sent ++ (eval g (point xs i) ∷ []))

  -- one stripe that board i finishes: "and writes its share"
  unfoldable pub finished_stripe : ℕ → List ℕ → List ℕ → List ℕ → List ℕ → List ℕ → List ℕ
  finished_stripe i helpers firsts seconds partners sent =
      let g = g_from helpers firsts in
      let f = f_from i helpers seconds partners sent g in
      symbols z xs i (eval f) (eval g)

  -- the finished share of board i, from d helpers with their packets and r − 1 partners with theirs
  unfoldable pub finished_share : ℕ → ℕ → List ℕ → List ℕ → List ℕ → List ℕ → List ℕ
  finished_share S i helpers packets partners exchanges =
      join S (λ s. finished_stripe i helpers (received z S 0 s packets) (received z S 1 s packets) partners (exchanged z S s exchanges))
