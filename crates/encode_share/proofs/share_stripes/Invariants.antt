-- `encode_share::share_stripes` meets its contract. The loop's invariant: the stripes so far, before what was there.
-- Assumes nothing.
use Rattle.std.proofs.Common.{◌≡◌, List, ◌++◌, ℕ, ◌+◌, ◌*◌, length, drop}
use Rattle.lists.specs.Lists.{join}
use Rattle.mbcr.specs.Share.{stripe, point, kept}
use Rattle.row_sums.specs.Steps.{Tabled}
use Rattle.powers.specs.Steps.{power_rows}
use Rattle.encode_share.proofs.share_stripes.Given as goal

abbrev pub invariant-loop-s : goal.invariant-loop-s
invariant-loop-s l =
    ((xs : List ℕ) → length xs ≡ 32 → Tabled (power_rows xs (l.sizes.d + l.sizes.r)) l.tables → l.x ≡ point xs l.i
    → l.out ≡ join l.s (λ s. kept l.sizes xs (stripe l.sizes l.file s) l.i) ++ drop (l.s * l.w) l.initial.out) × (length l.out ≡ length l.initial.out) × (length l.rows ≡ 992)
