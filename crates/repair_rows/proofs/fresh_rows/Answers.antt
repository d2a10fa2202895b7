-- `repair_rows::fresh_rows` meets its contract: the callees' contracts, put together.
-- Assumes nothing.
use Rattle.std.proofs.Common.{◌≡◌, ap, ap₂, ◌∙◌, ◌++◌, ◌+◌, ◌-◌, ◌*◌, ◌<◌, length, take, drop, ℕ, List, arith}
use lib.ListN.{length-append, length-drop}
use Rattle.lists.specs.Lists.{piece}
use Rattle.sizes.specs.declared.Sizes.{Sizes}
use Rattle.sizes.proofs.Legal.{legal-facts}
use Rattle.lagrange_factors.proofs.Values.{board-below, below_more}
use Rattle.repair_hear.specs.Steps.{Naming}
use Rattle.repair_hear.proofs.Heard.{below-part}
use Rattle.repair_hear.proofs.Sent.{row-part, row-rest}
use Rattle.repair_rows.specs.Steps.{others_at}
use Rattle.repair_rows.proofs.Others.{others_below, length-others, both_below, run_long, helpers-long, rows_are}
use Rattle.repair_rows.proofs.fresh_rows.Goals as goal

-- its helpers and its stand-ins as they are cut out, and how many they are
abbrev hs : Sizes → ℕ → List ℕ → ℕ → List ℕ
hs z c named a = take (a * c + z.d - a * c) (drop (a * c) named)

abbrev ss : Sizes → ℕ → List ℕ → ℕ → List ℕ
ss z c named a = take (a * c + c - (a * c + z.d)) (drop (a * c + z.d) named)

counts : (z : Sizes) (c : ℕ) (fresh named : List ℕ) (a : ℕ) → Naming z (length fresh) c → length named ≡ length fresh * c → a < length fresh
    → (length (hs z c named a) ≡ z.d) × (length (ss z c named a) ≡ c - z.d)
counts z c fresh named a h l k = (
  ap length (row-part c a z.d named h.helps) ∙ helpers-long z c fresh named h l a k,
  ap length (row-rest c a z.d named h.helps) ∙ length-drop z.d (piece c a named) ∙ ap (λ (m : ℕ). m - z.d) (run_long z c fresh named h l a k),
)

pub partners-requires : goal.partners-requires
partners-requires c =
    let a = c.args in
    let p = c.requires in
    let f = legal-facts _ p.0 in
    let k = (counts a.sizes a.c a.fresh.now a.named.now a.a p.3 p.5 p.7).1 in
    let w = p.3.whole in
    let h = p.3.helps in
    let o = p.3.some in
    (omega arith, o, omega arith, omega arith)

pub board_rows-requires : goal.board_rows-requires
board_rows-requires c =
    let a = c.args in
    let p = c.requires in
    let z = a.sizes in
    let f = legal-facts _ p.0 in
    let w = p.3.whole in
    let q = p.3.helps in
    let e = c.partners.ensures in
    let h = hs z a.c a.named.now a.a in
    let s = ss z a.c a.named.now a.a in
    let o = others_at a.fresh.now a.a in
    let n = counts z a.c a.fresh.now a.named.now a.a p.3 p.5 p.7 in
    let m = ap length e ∙ length-append s o ∙ ap₂ ◌+◌ n.1 (length-others a.fresh.now a.a) in
    let b = board-below z.n a.fresh.now a.a p.4 p.7 in (
      p.2,
      p.1,
      below_more z.n 32 h f.few (below-part z.n (a.a * a.c + z.d - a.a * a.c) (a.a * a.c) a.named.now p.6),
      rw e (below_more z.n 32 (s ++ o) f.few
          (both_below z.n s o (below-part z.n (a.a * a.c + a.c - (a.a * a.c + z.d)) (a.a * a.c + z.d) a.named.now p.6) (others_below z.n a.a a.fresh.now p.4))),
      omega (arith, p, f, n),
      omega (arith, p, f, n),
      omega (arith, p, f, n),
      omega (arith, p, f, n),
    )

pub returns : goal.returns
returns c =
    let a = c.args in
    let z = a.sizes in
    let h = c.requires.3.helps in
    rows_are z a.c a.points.now a.fresh.now a.named.now _ _ _ _ a.a c.partners.ensures
    (row-rest a.c a.a z.d a.named.now h) (row-part a.c a.a z.d a.named.now h) c.board_rows.ensures
