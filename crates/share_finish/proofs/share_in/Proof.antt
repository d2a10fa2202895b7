-- `share_finish::share_in` meets its contract: the rows, and the share by them.
-- Assumes nothing.
use mathlib.Core.Path.{◌≡◌, ap, ◌∙◌}
use mathlib.Core.Bool.{true}
use mathlib.Core.List.{List, ◌++◌}
use Prim.Native.Nat.{ℕ, ◌*◌, ◌<◌}
use lib.ListN.{drop}
use Rattle.lists.specs.Tests.{below}
use Rattle.lists.proofs.Alls.{all_of}
use Rattle.sizes.specs.Sizing.{α}
use Rattle.sizes.proofs.Legal.{Legal, legal-facts}
use Rattle.lagrange_factors.proofs.Values.{below_more}
use Rattle.finish_bytes.proofs.Shares.{share-is, last-known}
use borrow.Author.Rules.{rules}
use native.Mathlib.Omega.{arith}
use Rattle.share_finish.proofs.share_in.Statement.{statement}
use Rattle.share_finish.proofs.share_in.Tie as tie

-- the places
abbrev st-lent-packets : tie.After-shared_slice_known-4-1 → tie.Start
st-lent-packets c = c.before.before.before.before

abbrev lent-packets-at-lent-exchanges : tie.After-shared_slice_known-6-1 → tie.After-shared_slice_known-4-1
lent-packets-at-lent-exchanges c = c.before.before

abbrev shared-slice-known6-at-slice-known3 : tie.After-slice_known-3-1 → tie.After-shared_slice_known-6-1
shared-slice-known6-at-slice-known3 c = c.before.before.before

abbrev st-slice-known3 : tie.After-slice_known-3-1 → tie.Start
st-slice-known3 c = st-lent-packets (lent-packets-at-lent-exchanges (shared-slice-known6-at-slice-known3 c))

abbrev whole-vectors-at-board-rows-arg2 : tie.After-board_rows-arg-2-1 → tie.After-whole_vectors-lanes
whole-vectors-at-board-rows-arg2 c = c.before.before

abbrev st-board-rows-arg2 : tie.After-board_rows-arg-2-1 → tie.Start
st-board-rows-arg2 c = st-slice-known3 (whole-vectors-at-board-rows-arg2 c).before

abbrev whole-vectors-at-board-rows : tie.After-board_rows → tie.After-whole_vectors-lanes
whole-vectors-at-board-rows c = whole-vectors-at-board-rows-arg2 c.before

abbrev rows-at-share-work-arg2 : tie.After-share_work-arg-1 → tie.After-rows-1
rows-at-share-work-arg2 c = c.before.before

abbrev all-at-rows : tie.After-rows-1 → tie.After-all-1
all-at-rows c = c.before.before

abbrev board-rows-at-share-work-arg2 : tie.After-share_work-arg-1 → tie.After-board_rows
board-rows-at-share-work-arg2 c = (all-at-rows (rows-at-share-work-arg2 c)).before

abbrev whole-vectors-at-share-work-arg2 : tie.After-share_work-arg-1 → tie.After-whole_vectors-lanes
whole-vectors-at-share-work-arg2 c = whole-vectors-at-board-rows (board-rows-at-share-work-arg2 c)

abbrev st-share-work-arg2 : tie.After-share_work-arg-1 → tie.Start
st-share-work-arg2 c = st-slice-known3 (whole-vectors-at-share-work-arg2 c).before

abbrev share-work-at-slice-known6 : tie.After-slice_known-6-1 → tie.After-share_work
share-work-at-slice-known6 c = c.before.before

abbrev share-work-arg2-at-slice-known6 : tie.After-slice_known-6-1 → tie.After-share_work-arg-1
share-work-arg2-at-slice-known6 c = (share-work-at-slice-known6 c).before

abbrev board-rows-at-end : tie.After-slice_known-6-1 → tie.After-board_rows
board-rows-at-end c = board-rows-at-share-work-arg2 (share-work-arg2-at-slice-known6 c)

abbrev whole-vectors-at-end : tie.After-slice_known-6-1 → tie.After-whole_vectors-lanes
whole-vectors-at-end c = whole-vectors-at-board-rows (board-rows-at-end c)

abbrev lent-exchanges-at-end : tie.After-slice_known-6-1 → tie.After-shared_slice_known-6-1
lent-exchanges-at-end c = shared-slice-known6-at-slice-known3 (whole-vectors-at-end c).before

abbrev lent-packets-at-end : tie.After-slice_known-6-1 → tie.After-shared_slice_known-4-1
lent-packets-at-end c = lent-packets-at-lent-exchanges (lent-exchanges-at-end c)

abbrev st-end : tie.After-slice_known-6-1 → tie.Start
st-end c = st-lent-packets (lent-packets-at-end c)

facts : (c : tie.Start) → Legal c.args.sizes
facts c = legal-facts _ c.requires.0

known : (c : tie.Start) → let a = c.args in (below a.sizes.n a.helpers.now ≡ true) × (below a.sizes.n a.partners.now ≡ true) × (a.i < a.sizes.n)
known c = last-known c.args.sizes.n c.args.i c.args.helpers.now c.args.partners.now c.requires.9

board-rows-requires : tie.Need-board_rows-requires
board-rows-requires c κs =
    let p = (st-board-rows-arg2 c).requires in
    let a = (st-board-rows-arg2 c).args in
    let f = facts (st-board-rows-arg2 c) in
    let k = known (st-board-rows-arg2 c) in (
      p.3,
      p.1,
      below_more a.sizes.n 32 a.helpers.now f.few k.0,
      below_more a.sizes.n 32 a.partners.now f.few k.1,
      omega (arith, p, f, k),
      omega (arith, p, f, k),
      omega (arith, p, f, k),
      omega (arith, p, f, k),
    )

share-work-requires : tie.Need-share_work-requires
share-work-requires c κs =
    let p = (st-share-work-arg2 c).requires in
    let k = known (st-share-work-arg2 c) in (
      p.0,
      k.2,
      p.4,
      omega (arith, (rows-at-share-work-arg2 c).rows-1.given),
      p.5,
      p.6,
      (whole-vectors-at-share-work-arg2 c).whole_vectors-lanes.ensures.0,
      (whole-vectors-at-share-work-arg2
          c).whole_vectors-lanes.ensures.1,
      p.11,
    )

returns : tie.Need-returns
returns c =
    let a = (st-end c).args in
    let p = (st-end c).requires in
    let v = (whole-vectors-at-end c).whole_vectors-lanes.ensures in
    let bp = all_of (λ x. x < 256) 0 a.packets.now (λ i l. omega (arith, (lent-packets-at-end c).shared_slice_known-4-1.given i)) in
    let be = all_of (λ x. x < 256) 0 a.exchanges.now (λ i l. omega (arith, (lent-exchanges-at-end c).shared_slice_known-6-1.given i)) in
    (share-work-at-slice-known6 c).share_work.ensures
    ∙ ap (λ (l : List ℕ). l ++ drop (a.stripes * α a.sizes) a.out.now)
    (share-is a.sizes a.points.now (facts (st-end c)) p.2 a.i a.stripes _ a.helpers.now a.packets.now a.partners.now a.exchanges.now _
    (known (st-end c)).2 p.7 p.8 p.9 p.10 bp be v.0 v.1 (board-rows-at-end c).board_rows.ensures)

pub share_in_spec : {M : Type 1} → statement M
share_in_spec =
    tie.close
    (tie.spec
    (λ c κs. let f = facts (st-slice-known3 c) in search rules)
    board-rows-requires
    share-work-requires
    (λ c. (all-at-rows (rows-at-share-work-arg2 (share-work-arg2-at-slice-known6 c))).all-1.given)
    (λ c. (rows-at-share-work-arg2 (share-work-arg2-at-slice-known6 c)).rows-1.given)
    (λ c. search rules)
    returns)
