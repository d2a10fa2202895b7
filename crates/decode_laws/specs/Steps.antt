-- What the kernels of a read work out, over rows of 32 bytes that stand one after another.
-- Assumes nothing.
use Rattle.std.specs.Prelude.{Bool, List, ◌++◌, map, ℕ, ◌+◌, ◌*◌, ◌-◌, ◌%◌, ◌≤◌, eqb, ltb, leb, length, get_or, take, drop}
use Rattle.lists.specs.Tests.{pick, alls, every, same}
use Rattle.lists.specs.Lists.{All, tabulate, join, piece, fit}
use Rattle.gf256.specs.Field.{mul}
use Rattle.polynomial.specs.Polynomial.{eval, interpolate, sum, power}
use Rattle.sizes.specs.declared.Sizes.{Sizes}
use Rattle.sizes.specs.Sizing.{α, B}
use Rattle.mbcr.specs.Share.{point, points, neighbours, kept}
use Rattle.mbcr.specs.Rebuild.{own_f, own_g}
use Rattle.mbcr.specs.Read.{decoded_stripe}
use Rattle.lagrange.specs.Steps.{unit, weight}

-- byte j of row i
abbrev pub cell : List ℕ → ℕ → ℕ → ℕ
cell rows i j = get_or rows (i * 32 + j) 0

-- the sum of m rows, row s times cs s
unfoldable pub sums : ℕ → (ℕ → ℕ) → List ℕ → List ℕ
sums m cs rows = tabulate 32 (λ j. sum m (λ s. mul (cs s) (cell rows s j)))

-- by how many boards b comes after a, modulo n
abbrev pub offset : ℕ → ℕ → ℕ → ℕ
offset n a b = pick (leb a b) (b - a) (b + n - a)

-- the value at the o-th board after its own of the polynomial through the c bytes of a row: one of these bytes, or the sum of them times
-- factors, of which there is a row of m for each board from the c-th on
unfoldable pub value_by : ℕ → ℕ → ℕ → List ℕ → List ℕ → ℕ
value_by c o m factors row = pick (ltb o c) (get_or row o 0) (sum m (λ j. mul (cell factors (o - c) j) (get_or row j 0)))

-- the value of boards[t] at targets[i]: `rows` has a row of c bytes for each board, `factors` n − c rows for each
abbrev pub value_at : ℕ → ℕ → ℕ → List ℕ → List ℕ → List ℕ → List ℕ → ℕ → ℕ → ℕ
value_at n c m boards targets factors rows t i =
    value_by c (offset n (get_or boards t 0) (get_or targets i 0)) m (drop (t * ((n - c) * 32)) factors) (piece 32 t rows)

-- the values of k boards at others
unfoldable pub values_of : ℕ → ℕ → ℕ → List ℕ → List ℕ → List ℕ → List ℕ → List ℕ
values_of n c m boards targets factors rows = join (length boards) (λ t. tabulate (length targets) (value_at n c m boards targets factors rows t))

-- f of boards[i] and g of each board, of which rows of w and of d bytes are kept, have one value where they meet
unfoldable pub board_meets : ℕ → ℕ → ℕ → ℕ → ℕ → List ℕ → List ℕ → List ℕ → List ℕ → List ℕ → ℕ → Bool
board_meets n d w p m boards ff gf fs gs i =
    alls (tabulate (length boards) (λ j. eqb (value_at n w m boards boards ff fs i j) (value_at n d p boards boards gf gs j i)))

-- so have those of each board
unfoldable pub boards_meet : ℕ → ℕ → ℕ → ℕ → ℕ → List ℕ → List ℕ → List ℕ → List ℕ → List ℕ → Bool
boards_meet n d w p m boards ff gf fs gs = alls (tabulate (length boards) (board_meets n d w p m boards ff gf fs gs))

-- the bytes of f, and those of g, of the bytes w that a board keeps of a stripe, of which c are of f: 00 behind them
abbrev pub f_row : ℕ → List ℕ → List ℕ
f_row c w = fit 32 (take c w)

abbrev pub g_row : ℕ → List ℕ → List ℕ
g_row c w = fit 32 (take 1 w ++ drop c w)

-- for each point, the coefficients of the polynomial that is 1 there and 0 at the others
unfoldable pub unit_rows : List ℕ → List ℕ
unit_rows xs = join (length xs) (λ t. fit 32 (interpolate xs (unit (length xs) t)))

-- for each power of X from the k-th on, its coefficient in each of them: 00 behind
unfoldable pub top_rows : ℕ → List ℕ → List ℕ
top_rows k xs = join (length xs - k) (λ i. fit 32 (tabulate (length xs) (λ s. get_or (interpolate xs (unit (length xs) s)) (k + i) 0)))

-- the values 1 at one point and 0 at the others; or, past the number of points, powers of the points
abbrev pub seeds : List ℕ → ℕ → List ℕ
seeds xs s = pick (ltb s (length xs)) (unit (length xs) s) (map (λ x. power x s) xs)

-- the coefficients of the polynomials through them
unfoldable pub seed_rows : ℕ → List ℕ → List ℕ
seed_rows d xs = join d (λ s. fit 32 (interpolate xs (seeds xs s)))

-- for each board, and each board from the c-th after it on, Lagrange's factors of the c bytes that it keeps: 00 behind them
unfoldable pub factors_of : Sizes → List ℕ → ℕ → ℕ → List ℕ
factors_of z xs c b =
    join (z.n - c) (λ o. fit 32 (tabulate c (λ j. weight (points xs (neighbours z b c)) j (point xs ((b + (c + o)) % z.n)))))

abbrev pub factor_rows : Sizes → List ℕ → ℕ → List ℕ → List ℕ
factor_rows z xs c boards = join (length boards) (λ t. factors_of z xs c (get_or boards t 0))

-- sums of rows, each times m numbers that stand one after another
unfoldable pub by_rows : ℕ → ℕ → List ℕ → List ℕ → List ℕ
by_rows count m a rows = join count (λ i. sums m (λ s. get_or a (i * m + s) 0) rows)

-- sums of m rows, each times byte from, from + 1, .. of as many others
unfoldable pub by_columns : ℕ → ℕ → ℕ → List ℕ → List ℕ → List ℕ
by_columns count from m a rows = join count (λ i. sums m (λ s. cell a s (from + i)) rows)

-- m bytes of each row, from one on
unfoldable pub parts : ℕ → ℕ → ℕ → List ℕ → List ℕ
parts count from m rows = join count (λ i. take m (drop from (piece 32 i rows)))

-- a column of m rows, from one on, for each of the first bytes
unfoldable pub turned : ℕ → ℕ → ℕ → List ℕ → List ℕ
turned count from m rows = join count (λ i. tabulate m (λ j. cell rows (from + j) i))

-- for each row of coefficients, the sum of its first m numbers times those of each board, of which d stand one after another
unfoldable pub tops_of : ℕ → ℕ → ℕ → ℕ → List ℕ → List ℕ → List ℕ
tops_of count k d m rows va = join count (λ i. tabulate k (λ t. sum m (λ s. mul (cell rows i s) (get_or va (t * d + s) 0))))

-- a stripe: from the coefficients of f of k boards, a row each; the coefficients of X^k, .. of their g, k for each power; and the rows e. First
-- its rows from k to d − 1, then the columns of those before
unfoldable pub stripe_by : ℕ → ℕ → ℕ → List ℕ → List ℕ → List ℕ → List ℕ
stripe_by k d w e f tops =
    let low = by_rows (d - k) k tops e in
    let columns = by_columns w 0 d (f ++ low) e in
    turned k 0 k columns ++ turned k k (w - k) columns ++ parts (d - k) 0 k low

-- values of k boards at k boards meet: value j of the i-th of the first, and value i of the j-th of the others
unfoldable pub meets : ℕ → List ℕ → List ℕ → Bool
meets k fv gv = alls (tabulate k (λ i. alls (tabulate k (λ j. eqb (get_or fv (i * k + j) 0) (get_or gv (j * k + i) 0)))))

-- the pairs of boards meet: f of each and g of each have one value at each other's points, w t being the bytes of boards[t]
unfoldable pub pairs_meet : Sizes → List ℕ → List ℕ → (ℕ → List ℕ) → Bool
pairs_meet z xs boards w =
    meets z.k
    (join z.k (λ t. tabulate z.k (λ i. eval (own_f z xs (get_or boards t 0) (w t)) (point xs (get_or boards i 0)))))
    (join z.k (λ t. tabulate z.k (λ i. eval (own_g z xs (get_or boards t 0) (w t)) (point xs (get_or boards i 0)))))

-- each byte is 00
abbrev pub zeros : List ℕ → Bool
zeros l = every (λ a. eqb a 0) l

module _ (z : Sizes) (xs : List ℕ) where
  -- boards[t] keeps w t of a stripe with this beginning, filled up with 00
  abbrev pub board_agrees : List ℕ → (ℕ → List ℕ) → List ℕ → ℕ → Bool
  board_agrees boards w part t = same (kept z xs (fit (B z) part) (get_or boards t 0)) (w t)

  -- each board does
  abbrev pub stripe_agrees : List ℕ → (ℕ → List ℕ) → List ℕ → Bool
  stripe_agrees boards w part = alls (tabulate z.k (board_agrees boards w part))

  -- the boards' bytes of stripe s are those of the stripe which they decode to, cut to a file of L bytes
  unfoldable pub stripe_reads : ℕ → List ℕ → (ℕ → ℕ → List ℕ) → ℕ → Bool
  stripe_reads L boards w s = stripe_agrees boards (w s) (take (L - s * B z) (decoded_stripe z xs boards (w s)))

-- what boards[t] holds of stripe s, where its bytes start at starts[t]
unfoldable pub held_at : Sizes → List ℕ → List ℕ → ℕ → ℕ → List ℕ
held_at z starts bytes s t = take (α z) (drop (get_or starts t 0 + s * α z) bytes)

-- there are S stripes from each of these places on
abbrev pub Placed : Sizes → List ℕ → List ℕ → ℕ → Type 0
Placed z starts bytes S = All (λ p. p + S * α z ≤ length bytes) starts
