-- The partners of a fresh board of a repair, by its place, and its rows of Lagrange's factors: the a-th fresh board names the a-th run of c boards, d
-- helpers and then its stand-ins, and hears the other fresh boards in their order.
-- Assumes nothing.
use Rattle.std.specs.Prelude.{List, ◌++◌, ℕ, suc, ◌-◌, ltb, length, get_or, take, drop}
use Rattle.lists.specs.Tests.{pick}
use Rattle.lists.specs.Lists.{tabulate, piece}
use Rattle.sizes.specs.declared.Sizes.{Sizes}
use Rattle.stripe_finish.specs.Steps.{board_rows}

-- the place of the u-th board other than the a-th
abbrev pub past : ℕ → ℕ → ℕ
past a u = pick (ltb u a) u (suc u)

-- the fresh boards other than the a-th
abbrev pub others_at : List ℕ → ℕ → List ℕ
others_at fresh a = tabulate (length fresh - 1) (λ u. get_or fresh (past a u) 0)

-- the helpers of the a-th: the first d of the c boards that it names; and its partners: the stand-ins behind them, and the other fresh boards
abbrev pub helpers_at : Sizes → ℕ → List ℕ → ℕ → List ℕ
helpers_at z c named a = take z.d (piece c a named)

abbrev pub partners_at : Sizes → ℕ → List ℕ → List ℕ → ℕ → List ℕ
partners_at z c fresh named a = drop z.d (piece c a named) ++ others_at fresh a

-- those of the a-th: of its helpers, then of its helpers, its partners and itself
unfoldable pub fresh_rows : Sizes → ℕ → List ℕ → List ℕ → List ℕ → ℕ → List ℕ
fresh_rows z c pts fresh named a = board_rows pts (helpers_at z c named a) (partners_at z c fresh named a) (get_or fresh a 0)
