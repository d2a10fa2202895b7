-- What the fresh boards of a repair finish of a stripe by Lagrange's rows, which are made once a call: those of each fresh board are d of its
-- helpers, then d + r of its helpers, its partners and itself. Each names c boards: d helpers, then its stand-ins.
-- Assumes nothing.
use Rattle.std.specs.Prelude.{ℕ, ◌+◌, ◌*◌, ◌-◌, List, ◌++◌, length, get_or, take, drop}
use Rattle.lists.specs.Lists.{tabulate, join, piece}
use Rattle.sizes.specs.declared.Sizes.{Sizes}
use Rattle.row_values.specs.Steps.{row_sums}
use Rattle.stripe_finish.specs.Steps.{finished_by}
use Rattle.repair_rows.specs.Steps.{past}

-- the rows of the a-th fresh board
abbrev pub rows_of : ℕ → ℕ → List ℕ → ℕ → List ℕ
rows_of d r rows a = piece ((d + (d + r)) * 32) a rows

-- the values of its g at L points, from the first bytes of its helpers, where the rows of one fresh board are w bytes
unfoldable pub g_row : ℕ → ℕ → ℕ → ℕ → List ℕ → List ℕ → ℕ → List ℕ
g_row d w c L rows firsts a = row_sums L (take d (piece c a firsts)) (take (d * 32) (piece w a rows))

-- those of t fresh boards
abbrev pub g_rows : Sizes → ℕ → ℕ → ℕ → List ℕ → List ℕ → List ℕ
g_rows z t c L rows firsts = join t (g_row z.d ((z.d + (z.d + z.r)) * 32) c L rows firsts)

-- the bytes that the other fresh boards send to board i, of r in all: the value of the g of each, at the point of that board
unfoldable pub sent_by : ℕ → ℕ → List ℕ → ℕ → ℕ → List ℕ
sent_by r L gs i a = tabulate (r - 1) (λ u. get_or gs (past a u * L + i) 0)

-- the stripe that it finishes: the second bytes are those of its helpers and of its stand-ins
unfoldable pub stripe_by : Sizes → ℕ → ℕ → List ℕ → List ℕ → List ℕ → List ℕ → ℕ → List ℕ
stripe_by z c L rows fresh seconds gs a =
    finished_by z.n (get_or fresh a 0) L (z.d - 1) (drop (z.d * 32) (rows_of z.d z.r rows a)) (piece L a gs)
    (piece c a seconds ++ sent_by (length fresh) L gs (get_or fresh a 0) a)
