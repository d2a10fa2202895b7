-- Shares that pairs of a text spell, one board's after another, and a stripe of them.
-- Assumes nothing.
use Rattle.std.specs.Prelude.{List, ℕ, ◌+◌, ◌*◌, ◌-◌, ◌≤◌, length}
use Rattle.lists.specs.Lists.{All, tabulate, joined}
use Rattle.sizes.specs.declared.Sizes.{Sizes}
use Rattle.sizes.specs.Sizing.{α, B}
use Rattle.text_in.specs.Steps.{bytes_at}

-- so many bytes of each board, whose pairs begin so far behind these places
unfoldable pub spelled : List ℕ → List ℕ → ℕ → ℕ → List ℕ
spelled text places from count = joined (λ p. bytes_at text (p + from) count) places

-- they stand in the text
abbrev pub Spelled : List ℕ → List ℕ → ℕ → ℕ → Type 0
Spelled text places from count = All (λ p. p + from + 2 * count ≤ length text) places

-- how many bytes of a file of L bytes stripe s has
abbrev pub part_of : Sizes → ℕ → ℕ → ℕ
part_of z L s = (L - s * B z) - ((L - s * B z) - B z)

-- where the bytes of a stripe of each board start, one after another
abbrev pub stripe_starts : Sizes → List ℕ
stripe_starts z = tabulate z.k (λ t. t * α z)
