-- `share_finish::stripe_by` meets its contract: the callees' contracts, put together.
-- Assumes nothing.
use mathlib.Core.Path.{◌≡◌, ap, ◌∙◌}
use Prim.Native.Nat.{ℕ, ◌+◌, ◌*◌, ◌-◌}
use native.Mathlib.Nat.{sub-zero}
use lib.ListN.{length, take, drop, length-take, length-drop}
use lib.Seq.{take_all}
use Rattle.sizes.proofs.Legal.{Legal, legal-facts}
use Rattle.finish_bytes.proofs.Shares.{stripe-step}
use borrow.Author.Rules.{rules}
use native.Mathlib.Omega.{arith}
use Rattle.share_finish.proofs.stripe_by.Statement.{statement}
use Rattle.share_finish.proofs.stripe_by.Tie as tie

-- places in the code
abbrev start-of-gather-arg-1 : tie.After-gather-arg-1 → tie.Start
start-of-gather-arg-1 c = c.before.before.before.before.before.before.before.before.before.before.before.before.before.before

abbrev start-of-row_sums-arg-2-1 : tie.After-row_sums-arg-2-1 → tie.Start
start-of-row_sums-arg-2-1 c = start-of-gather-arg-1 c.before.before.before.before.before

abbrev start-of-finish-arg-4-1 : tie.After-finish-arg-4-1 → tie.Start
start-of-finish-arg-4-1 c = start-of-row_sums-arg-2-1 c.before.before.before.before.before.before.before

abbrev start-of-slice_known-11-1 : tie.After-slice_known-11-1 → tie.Start
start-of-slice_known-11-1 c = start-of-finish-arg-4-1 c.before.before.before.before.before.before.before

facts : (c : tie.Start) → Legal c.args.sizes
facts c = legal-facts _ c.requires.0

gather-requires : tie.Need-gather-requires
gather-requires c κs = let p = c.requires in ((facts (start-of-gather-arg-1 c)).some-fresh, p.2, p.3, p.5, p.6, p.8)

row-sums-requires : tie.Need-row_sums-requires
row-sums-requires c κs =
    let f = facts (start-of-row_sums-arg-2-1 c) in
    let p = c.requires in
    let a = c.args in
    let l = c.firsts-1.given in
    let r : length (take (a.sizes.d * 32 - 0) (drop 0 a.rows.now)) ≡ a.sizes.d * 32 = simp length-take (omega (arith, p.4)) in
    (omega (arith, l, p.7), omega (arith, l, p.7, f.enough, f.few), omega (arith, p.10, p.11))

finish-requires : tie.Need-finish-requires
finish-requires c κs =
    let f = facts (start-of-finish-arg-4-1 c) in
    let p = c.requires in
    let a = c.args in
    let l = c.got-1.given in
    let g = c.g-1.given in
    let r : length (take (length a.rows.now - a.sizes.d * 32) (drop (a.sizes.d * 32) a.rows.now)) ≡ (a.sizes.d + a.sizes.r) * 32 =
    simp (length-take, length-drop) (omega (arith, p.4)) in (
      p.1,
      f.few,
      omega (arith, l, p.8, f.some-fresh),
      omega (arith, l, p.8, f.enough, f.few),
      omega (arith, l, p.8, r),
      omega (arith, g, p.9, p.11),
      p.9,
      p.10,
      omega (arith, l, p.8, p.12, f.some_read, f.read-helpers),
    )

returns : tie.Need-returns
returns c =
    let f = facts (start-of-slice_known-11-1 c) in
    let p = c.requires in
    let a = c.args in
    let z = a.sizes in
    let m : ℕ = z.d * 32 in
    stripe-step z a.i (length a.f.now) (length a.g.now) a.stripes a.s _ _ (length a.got.now) a.rows.now a.packets.now a.exchanges.now _ _ _ _ _ _
    c.finish.ensures c.row_sums.ensures p.11 c.received.ensures c.gather.ensures
    (ap (λ (k : ℕ). take k a.rows.now) (sub-zero m)) (take_all (length a.rows.now - m) (drop m a.rows.now) (simp length-drop (omega (arith, p.4))))
    (omega (arith, c.got-1.given)) c.got-1.given

pub stripe_by_spec : {M : Type 1} → statement M
stripe_by_spec =
    tie.close
    (tie.spec
    (λ c. search rules)
    (λ c κs. search rules)
    gather-requires
    (λ c. search rules)
    (λ c. search rules)
    (λ c. omega (arith, c.requires.4))
    row-sums-requires
    (λ c. omega (arith, c.requires))
    (λ c. omega (arith, c.requires))
    (λ c. search rules)
    finish-requires
    (λ c. c.firsts-1.given)
    (λ c. c.got-2-1.given ∙ c.got-1.given)
    (λ c. c.g-1.given)
    (λ c. c.f-1.given)
    (λ c. c.out-1.given)
    returns)
