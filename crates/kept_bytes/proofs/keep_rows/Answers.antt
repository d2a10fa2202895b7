-- `kept_bytes::keep_rows` meets its contract. The callees' contracts, put together.
-- Assumes nothing.
use Rattle.std.proofs.Common.{◌+◌, get_or, refl, arith, rules}
use native.Mathlib.Nat.{mod-lt}
use Rattle.sizes.proofs.Legal.{legal-facts}
use Rattle.kept_bytes.proofs.Turns.{parts-kept}
use Rattle.kept_bytes.proofs.keep_rows.Goals as goal

pub slice_bounds-turned-end : goal.slice_bounds-turned-end
slice_bounds-turned-end c = let f = legal-facts _ c.requires.0 in omega arith

pub turned-requires : goal.turned-requires
turned-requires c = let f = legal-facts _ c.requires.0 in search rules

pub next-requires : goal.next-requires
next-requires c = let f = legal-facts _ c.requires.0 in search rules

pub turned-requires-2 : goal.turned-requires-2
turned-requires-2 c =
    let f = legal-facts _ c.requires.0 in
    let a = c.args in
    (omega (arith, c.next.ensures, mod-lt (a.i + 1) {m = a.sizes.n} (omega arith)), f.few, search rules)

pub returns : goal.returns
returns c =
    let a = c.args in
    let f = legal-facts _ c.requires.0 in
    parts-kept a.sizes (λ b. get_or a.f.now b 0) (λ b. get_or a.g.now b 0) (λ b. get_or a.g.now b 0) a.i _ a.out.now _ _ (omega arith) (λ b h. refl)
    (omega arith) c.next.ensures c.turned.ensures c.turned-2.ensures
