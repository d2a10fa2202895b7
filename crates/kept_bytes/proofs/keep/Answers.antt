-- `kept_bytes::keep` meets its contract. The callees' contracts, put together.
-- Assumes nothing.
use Rattle.std.proofs.Common.{ℕ, ◌+◌, ◌*◌, ◌-◌, List, get_or, take, drop, arith, rules}
use native.Mathlib.Nat.{mod-lt}
use Rattle.sizes.proofs.Legal.{legal-facts}
use Rattle.kept_bytes.proofs.Turns.{parts-kept, row_of, row-long}
use Rattle.kept_bytes.proofs.keep.Goals as goal

pub slice_bounds-turned_column-end : goal.slice_bounds-turned_column-end
slice_bounds-turned_column-end c = let f = legal-facts _ c.requires.0 in omega arith

pub turned_column-requires : goal.turned_column-requires
turned_column-requires c = let f = legal-facts _ c.requires.0 in search rules

pub next-requires : goal.next-requires
next-requires c = let f = legal-facts _ c.requires.0 in search rules

pub turned-requires : goal.turned-requires
turned-requires c =
    let f = legal-facts _ c.requires.0 in
    let a = c.args in
    (omega (arith, c.next.ensures, mod-lt (a.i + 1) {m = a.sizes.n} (omega arith)), f.few, omega (arith, row-long a.rows.now a.i (omega arith)))

pub returns : goal.returns
returns c =
    let a = c.args in
    let f = legal-facts _ c.requires.0 in
    let row : ℕ → ℕ = λ b. get_or a.rows.now (a.i * 32 + b) 0 in
    let part : List ℕ = take (a.i * 32 + 32 - a.i * 32) (drop (a.i * 32) a.rows.now) in
    parts-kept a.sizes (λ b. get_or a.rows.now (b * 32 + a.i) 0) row (λ b. get_or part b 0) a.i _ a.out.now _ _ (omega arith)
    (λ b h. row_of a.rows.now a.i b (omega arith)) (omega arith) c.next.ensures c.turned_column.ensures c.turned.ensures
