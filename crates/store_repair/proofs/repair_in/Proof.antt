-- `store_repair::repair_in` meets its contract: factors and rows are made, and the stripes by them are those by places.
-- Assumes nothing.
use mathlib.Core.Path.{◌≡◌, sym, ap, ◌∙◌}
use Prim.Native.Nat.{ℕ, ◌+◌, ◌*◌, ◌<◌, ◌≤◌}
use native.Mathlib.Omega.{arith}
use lib.ListN.{length}
use borrow.Author.Rules.{rules}
use Rattle.lists.proofs.Alls.{all_of}
use Rattle.sizes.proofs.Legal.{Legal, legal-facts}
use Rattle.repair_hear.proofs.Heard.{few-runs}
use Rattle.repair_stripe.proofs.ByRows.{shares-are}
use Rattle.store_repair.proofs.repair_in.Statement.{statement}
use Rattle.store_repair.proofs.repair_in.Tie as tie

-- the places
abbrev st-at-sizes : tie.After-struct_known-1 → tie.Start
st-at-sizes c = c.before.before.before.before.before.before.before.before.before

abbrev st-at-f : tie.After-whole_vectors-fl → tie.Start
st-at-f c = st-at-sizes c.before

abbrev st-at-g : tie.After-whole_vectors-gl → tie.Start
st-at-g c = st-at-f c.before

abbrev whole-vectors-at-whole-vectors3 : tie.After-whole_vectors-lanes → tie.After-whole_vectors-fl
whole-vectors-at-whole-vectors3 c = c.before.before

abbrev st-at-widths : tie.After-whole_vectors-lanes → tie.Start
st-at-widths c = st-at-f (whole-vectors-at-whole-vectors3 c)

abbrev st-at-ff : tie.After-all_pair_rows-arg-1 → tie.Start
st-at-ff c = st-at-widths c.before

abbrev all-pair-rows-arg-at-all-pair-rows-arg2 : tie.After-all_pair_rows-arg-2-1 → tie.After-all_pair_rows-arg-1
all-pair-rows-arg-at-all-pair-rows-arg2 c = c.before.before.before.before

abbrev st-at-gf : tie.After-all_pair_rows-arg-2-1 → tie.Start
st-at-gf c = st-at-ff (all-pair-rows-arg-at-all-pair-rows-arg2 c)

abbrev all-pair-rows-arg2-at-all-rows-arg : tie.After-all_rows-arg-1 → tie.After-all_pair_rows-arg-2-1
all-pair-rows-arg2-at-all-rows-arg c = c.before.before.before.before

abbrev st-at-rows : tie.After-all_rows-arg-1 → tie.Start
st-at-rows c = st-at-gf (all-pair-rows-arg2-at-all-rows-arg c)

abbrev rows-at-work : tie.After-repair_work-arg-1 → tie.After-rows-1
rows-at-work c = c.before.before

abbrev gf-at-work : tie.After-repair_work-arg-1 → tie.After-gf-1
gf-at-work c = (rows-at-work c).before.before.before.before

abbrev ff-at-work : tie.After-repair_work-arg-1 → tie.After-ff-1
ff-at-work c = (gf-at-work c).before.before.before.before

abbrev widths-at-work : tie.After-repair_work-arg-1 → tie.After-whole_vectors-lanes
widths-at-work c = (ff-at-work c).before.before.before

abbrev st-at-work : tie.After-repair_work-arg-1 → tie.Start
st-at-work c = st-at-widths (widths-at-work c)

abbrev work-at-end : tie.After-slice_known-8-1 → tie.After-repair_work
work-at-end c = c.before.before

abbrev widths-at-end : tie.After-slice_known-8-1 → tie.After-whole_vectors-lanes
widths-at-end c = widths-at-work (work-at-end c).before

abbrev st-at-end : tie.After-slice_known-8-1 → tie.Start
st-at-end c = st-at-widths (widths-at-end c)

abbrev area-at-rows : tie.After-all_rows-arg-1 → tie.After-slice_known-4-1
area-at-rows c = (whole-vectors-at-whole-vectors3 (all-pair-rows-arg-at-all-pair-rows-arg2 (all-pair-rows-arg2-at-all-rows-arg c)).before).before.before

abbrev rows-at-end : tie.After-slice_known-8-1 → tie.After-all_rows
rows-at-end c = (rows-at-work (work-at-end c).before).before

abbrev area-at-end : tie.After-slice_known-8-1 → tie.After-slice_known-4-1
area-at-end c = area-at-rows (rows-at-end c).before

abbrev ff-at-end : tie.After-slice_known-8-1 → tie.After-all_pair_rows
ff-at-end c = (ff-at-work (work-at-end c).before).before

abbrev gf-at-end : tie.After-slice_known-8-1 → tie.After-all_pair_rows-2
gf-at-end c = (gf-at-work (work-at-end c).before).before

facts : (c : tie.Start) → Legal c.args.sizes
facts c = legal-facts _ c.requires.0

-- so many bytes of a row count: of f, of g and at all points
widths : (c : tie.After-whole_vectors-lanes)
    → let z = (st-at-widths c).args.sizes in
    (z.d + z.r ≤ (whole-vectors-at-whole-vectors3 c).whole_vectors-fl.result) × ((whole-vectors-at-whole-vectors3 c).whole_vectors-fl.result ≤ 32)
    × (z.d ≤ c.before.whole_vectors-gl.result) × (c.before.whole_vectors-gl.result ≤ 32)
    × (z.n ≤ c.whole_vectors-lanes.result) × (c.whole_vectors-lanes.result ≤ 32)
widths c =
    let f = (whole-vectors-at-whole-vectors3 c).whole_vectors-fl.ensures in
    let g = c.before.whole_vectors-gl.ensures in
    let a = c.whole_vectors-lanes.ensures in
    (f.0, f.1, g.0, g.1, a.0, a.1)

-- the boards named are few; a row of factors for each
few : (c : tie.Start) → length c.args.named.now ≤ 256
few c = let a = c.args in omega (arith, c.requires.9, few-runs a.sizes (facts c) (length a.fresh.now) a.c c.requires.7)

rows_long : (c : tie.Start) (m : ℕ) → m ≡ length c.args.fresh.now * c.args.c * 32 → m ≡ length c.args.named.now * 32
rows_long c m e = e ∙ ap (λ (k : ℕ). k * 32) (sym c.requires.9)

all-pair-rows-requires : tie.Need-all_pair_rows-requires
all-pair-rows-requires c κs =
    let p = (st-at-ff c).requires in
    let f = facts (st-at-ff c) in
    let q = p.7.helps in
    (p.3, p.1, f.few, omega (arith, p, f), omega (arith, p, f), p.8, p.10, p.9, few (st-at-ff c), rows_long (st-at-ff c) _ p.14)

all-pair-rows-requires-2 : tie.Need-all_pair_rows-requires-2
all-pair-rows-requires-2 c κs =
    let p = (st-at-gf c).requires in
    let f = facts (st-at-gf c) in
    let q = p.7.helps in
    (p.3, p.1, f.few, omega (arith, p, f), omega (arith, p, f), p.8, p.10, p.9, few (st-at-gf c), rows_long (st-at-gf c) _ p.15)

all-rows-requires : tie.Need-all_rows-requires
all-rows-requires c κs =
    let p = (st-at-rows c).requires in
    (p.0, p.1, p.3, p.7, p.8, p.9, p.10, p.16)

repair-work-requires : tie.Need-repair_work-requires
repair-work-requires c κs =
    let p = (st-at-work c).requires in
    let w = widths (widths-at-work c) in (
      p.0,
      w.1,
      w.3,
      w.4,
      w.5,
      (ff-at-work c).ff-1.given ∙ p.14,
      (gf-at-work c).gf-1.given ∙ p.15,
      (rows-at-work c).rows-1.given ∙ p.16,
      p.4,
      p.5,
      p.6,
      p.7,
      p.8,
      p.9,
      p.10,
      p.11,
      p.12,
      p.17,
    )

returns : tie.Need-returns
returns c =
    let a = (st-at-end c).args in
    let p = (st-at-end c).requires in
    let w = widths (widths-at-end c) in
    let bytes = all_of (λ x. x < 256) 0 a.area.now (λ i l. omega (arith, (area-at-end c).slice_known-4-1.given i)) in
    shares-are a.sizes (facts (st-at-end c)) _ _ _ _ _ _ a.fresh.now a.c a.named.now p.7 p.9 a.points.now p.2 p.8 p.10 p.11 p.12 p.13
    w.0 w.1 w.2 w.3 w.4 w.5 (ff-at-end c).all_pair_rows.ensures (gf-at-end c).all_pair_rows-2.ensures (rows-at-end c).all_rows.ensures
    a.area.now _ a.part a.stripes bytes p.17 p.5 (work-at-end c).repair_work.ensures

pub repair_in_spec : {M : Type 1} → statement M
repair_in_spec =
    tie.close
    (tie.spec
    (λ c. let f = facts (st-at-sizes c) in search rules)
    (λ c κs. let f = facts (st-at-sizes c) in search rules)
    (λ c κs. let f = facts (st-at-f c) in search rules)
    (λ c κs. let f = facts (st-at-g c) in search rules)
    all-pair-rows-requires
    all-pair-rows-requires-2
    all-rows-requires
    repair-work-requires
    (λ c. (ff-at-work (work-at-end c).before).ff-1.given)
    (λ c. (gf-at-work (work-at-end c).before).gf-1.given)
    (λ c. (rows-at-work (work-at-end c).before).rows-1.given)
    (λ c. c.before.area-1.given)
    returns)
