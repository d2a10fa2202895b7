-- `step_board::share_in` meets its contract: the rows, and the share by them.
-- Assumes nothing.
use mathlib.Core.Path.{◌≡◌, sym, ap, ◌∙◌}
use mathlib.Core.Bool.{true}
use mathlib.Core.List.{List, ◌++◌}
use Prim.Native.Nat.{ℕ, ◌+◌, ◌-◌, ◌*◌, ◌<◌}
use lib.ListN.{length, get_or, length-append}
use Rattle.lists.specs.Tests.{below}
use Rattle.lists.proofs.Alls.{all_of, append-all}
use Rattle.sizes.proofs.Legal.{Legal, legal-facts}
use Rattle.lagrange_factors.proofs.Values.{below_more}
use Rattle.finish_bytes.proofs.Shares.{share-is}
use Rattle.repair_rows.specs.Steps.{others_at}
use Rattle.repair_rows.proofs.Others.{length-others}
use Rattle.step_board.proofs.Parties.{party-known}
use borrow.Author.Rules.{rules}
use native.Mathlib.Omega.{arith}
use Rattle.step_board.proofs.share_in.Statement.{statement}
use Rattle.step_board.proofs.share_in.Tie as tie

-- the places
abbrev shared-slice-known8-at-slice-known2 : tie.After-slice_known-2-1 → tie.After-shared_slice_known-8-1
shared-slice-known8-at-slice-known2 c = c.before.before

abbrev st-vectors : tie.After-slice_known-2-1 → tie.Start
st-vectors c = (shared-slice-known8-at-slice-known2 c).before.before.before.before.before.before.before.before

abbrev st-rows : tie.After-rows_of-arg-1 → tie.Start
st-rows c = st-vectors c.before.before

abbrev rows-work : tie.After-share_work-arg-1 → tie.After-rows-1
rows-work c = c.before.before.before

abbrev vectors-work : tie.After-share_work-arg-1 → tie.After-whole_vectors-lanes
vectors-work c = (rows-work c).before.before.before

abbrev st-work : tie.After-share_work-arg-1 → tie.Start
st-work c = st-vectors (vectors-work c).before

abbrev work-end : tie.After-slice_known-4-1 → tie.After-share_work
work-end c = c.before.before

abbrev st-end : tie.After-slice_known-4-1 → tie.Start
st-end c = st-work (work-end c).before

abbrev rows_of_end : tie.After-slice_known-4-1 → tie.After-rows_of
rows_of_end c = (rows-work (work-end c).before).before

abbrev vectors-end : tie.After-slice_known-4-1 → tie.After-whole_vectors-lanes
vectors-end c = vectors-work (work-end c).before

abbrev exchanges-end : tie.After-slice_known-4-1 → tie.After-shared_slice_known-8-1
exchanges-end c = shared-slice-known8-at-slice-known2 (vectors-end c).before

abbrev stood-end : tie.After-slice_known-4-1 → tie.After-shared_slice_known-7-1
stood-end c = (exchanges-end c).before

abbrev packets-end : tie.After-slice_known-4-1 → tie.After-shared_slice_known-6-1
packets-end c = (stood-end c).before

facts : (c : tie.Start) → Legal c.args.sizes
facts c = legal-facts _ c.requires.0

party : (c : tie.Start) → let a = c.args in let n = a.sizes.n in
    (below n a.helpers.now ≡ true) × (below n a.standins.now ≡ true) × (get_or a.fresh.now a.a 0 < n)
party c = let a = c.args in party-known a.sizes.n a.a a.helpers.now a.standins.now a.fresh.now c.requires.9

whole-vectors-requires : tie.Need-whole_vectors-lanes-requires
whole-vectors-requires c κs = (facts (st-vectors c)).few

rows-of-requires : tie.Need-rows_of-requires
rows-of-requires c κs =
    let s = st-rows c in
    let a = s.args in
    let p = s.requires in
    let f = facts s in
    let k = party s in (
      p.3,
      p.1,
      p.5,
      omega (arith, p.6, p.7, f.enough, f.few),
      below_more a.sizes.n 32 a.fresh.now f.few p.8,
      below_more a.sizes.n 32 a.helpers.now f.few k.0,
      below_more a.sizes.n 32 a.standins.now f.few k.1,
      omega (arith, p.6, p.7, p.14),
    )

share-work-requires : tie.Need-share_work-requires
share-work-requires c κs =
    let s = st-work c in
    let a = s.args in
    let p = s.requires in
    let v = (vectors-work c).whole_vectors-lanes.ensures in
    let m : a.sizes.r - 1 - length a.standins.now ≡ length a.fresh.now - 1 = omega (arith, p.5, p.7) in (
      p.0,
      (party s).2,
      omega (arith, p.5, p.7),
      p.4,
      (rows-work c).rows-1.given ∙ p.14,
      p.11,
      p.12,
      p.13 ∙ ap (λ (q : ℕ). q * a.stripes) (sym m),
      v.0,
      v.1,
      p.15,
    )

returns : tie.Need-returns
returns c =
    let s = st-end c in
    let a = s.args in
    let p = s.requires in
    let z = a.sizes in
    let v = (vectors-end c).whole_vectors-lanes.ensures in
    let partners : List ℕ = a.standins.now ++ others_at a.fresh.now a.a in
    let lp : length partners ≡ z.r - 1 =
    length-append a.standins.now (others_at a.fresh.now a.a) ∙ ap (λ (q : ℕ). length a.standins.now + q) (length-others a.fresh.now a.a) ∙ omega (arith, p.5, p.7) in
    let bp = all_of (λ x. x < 256) 0 a.packets.now (λ i l. omega (arith, (packets-end c).shared_slice_known-6-1.given i)) in
    let bs = all_of (λ x. x < 256) 0 a.stood.now (λ i l. omega (arith, (stood-end c).shared_slice_known-7-1.given i)) in
    let be = all_of (λ x. x < 256) 0 a.exchanges.now (λ i l. omega (arith, (exchanges-end c).shared_slice_known-8-1.given i)) in
    (work-end c).share_work.ensures
    ∙ share-is z a.points.now (facts s) p.2 (get_or a.fresh.now a.a 0) a.stripes _ a.helpers.now a.packets.now partners (a.stood.now ++ a.exchanges.now) _
    (party s).2 p.6 lp p.9 p.10 bp (append-all (λ x. x < 256) a.stood.now a.exchanges.now bs be) v.0 v.1
    (rows_of_end c).rows_of.ensures

pub share_in_spec : {M : Type 1} → statement M
share_in_spec =
    tie.close
    (tie.spec
    whole-vectors-requires
    rows-of-requires
    (λ c. search rules)
    (λ c. search rules)
    share-work-requires
    (λ c. search rules)
    (λ c. search rules)
    returns)
