-- `step_board::share_of` meets its contract: the packets that lie for the board, in three parts.
-- Assumes nothing.
use mathlib.Core.Path.{◌≡◌, ap, ap₂, ◌∙◌}
use mathlib.Core.List.{List, ◌++◌}
use Prim.Native.Nat.{ℕ, ◌+◌, ◌-◌, ◌*◌, ◌≤◌}
use lib.ListN.{length, get_or, take, drop, length-take, length-drop}
use Rattle.lists.specs.Lists.{piece}
use Rattle.lists.proofs.Pieces.{part-piece}
use Rattle.sizes.proofs.Legal.{Legal, legal-facts}
use Rattle.mbcr.specs.Rebuild.{finished_share}
use Rattle.repair_rows.specs.Steps.{others_at}
use Rattle.step_board.proofs.Parties.{Lying, lying, part-behind, part_length}
use borrow.Author.Rules.{rules}
use native.Mathlib.Omega.{arith}
use Rattle.step_board.proofs.share_of.Statement.{statement}
use Rattle.step_board.proofs.share_of.Tie as tie

-- the places
abbrev st-w : tie.After-slice_known-1 → tie.Start
st-w c = c.before.before.before.before.before.before.before

abbrev st-known : tie.After-struct_known-1 → tie.Start
st-known c = st-w c.before

abbrev st-m : tie.After-struct_known-2-1 → tie.Start
st-m c = st-known c.before

abbrev st-m2 : tie.After-struct_known-3-1 → tie.Start
st-m2 c = st-m c.before

abbrev st_2 : tie.After-share_in-arg-1 → tie.Start
st_2 c = st-m2 c.before

abbrev st_3 : tie.After-share_in-arg-2-1 → tie.Start
st_3 c = st_2 c.before

abbrev st_4 : tie.After-share_in-arg-3-1 → tie.Start
st_4 c = st_3 c.before

abbrev st-arg : tie.After-share_in-arg-4-1 → tie.Start
st-arg c = st_4 c.before.before

abbrev in_end : tie.After-slice_known-2-1 → tie.After-share_in
in_end c = c.before.before.before

abbrev st-end : tie.After-slice_known-2-1 → tie.Start
st-end c = st-arg (in_end c).before

facts : (c : tie.Start) → Legal c.args.sizes
facts c = legal-facts _ c.requires.0

-- where they lie
lay : (c : tie.Start) → let a = c.args in Lying a.stripes (length a.fresh.now) a.sizes.d (length a.standins.now) (length a.packets.now) a.a
lay c =
    let a = c.args in
    let p = c.requires in
    lying a.stripes (length a.fresh.now) a.sizes.d (length a.standins.now) a.sizes.r (length a.packets.now) a.a p.7 p.5 p.11

record Ends (S t d e m a : ℕ) : Type 0 where
  first : a * (d * (2 * S)) + d * (2 * S) ≤ m
  second : t * (d * (2 * S)) + a * (e * S) + e * S ≤ m
  third : t * (d * (2 * S)) + t * (e * S) + a * ((t - 1) * S) + (t - 1) * S ≤ m

ends : (c : tie.Start) → let a = c.args in Ends a.stripes (length a.fresh.now) a.sizes.d (length a.standins.now) (length a.packets.now) a.a
ends c =
    let l = lay c in
    record {
      first = omega (arith, l.whole, l.helpers-end);
      second = omega (arith, l.whole, l.stand-ins-end);
      third = omega (arith, l.whole, l.others-end);
    }

longs : (c : tie.Start) → let a = c.args in let w = a.sizes.d * (2 * a.stripes) in let v = length a.standins.now * a.stripes in let t = length a.fresh.now in
    let x = (t - 1) * a.stripes in
    (length (take (a.a * w + w - a.a * w) (drop (a.a * w) a.packets.now)) ≡ w)
    × (length (take (t * w + a.a * v + v - (t * w + a.a * v)) (drop (t * w + a.a * v) a.packets.now)) ≡ v)
    × (length (take (t * w + t * v + a.a * x + x - (t * w + t * v + a.a * x)) (drop (t * w + t * v + a.a * x) a.packets.now)) ≡ x)
longs c =
    let a = c.args in
    let n = ends c in
    let w : ℕ = a.sizes.d * (2 * a.stripes) in
    let v : ℕ = length a.standins.now * a.stripes in
    let t : ℕ = length a.fresh.now in (
      part_length (a.a * w) w a.packets.now n.first,
      part_length (t * w + a.a * v) v a.packets.now n.second,
      part_length (t * w + t * v + a.a * ((t - 1) * a.stripes)) ((t - 1) * a.stripes) a.packets.now n.third,
    )

share-in-requires : tie.Need-share_in-requires
share-in-requires c κs =
    let p = (st-arg c).requires in
    let f = facts (st-arg c) in
    let n = longs (st-arg c) in
    (p.0, p.1, p.2, p.3, p.4, p.5, p.6, p.7, p.8, p.9, p.10, n.0, n.1, n.2, simp (length-take, length-drop) (omega (arith, f.enough, f.few)), p.12)

returns : tie.Need-returns
returns c =
    let a = (st-end c).args in
    let z = a.sizes in
    let w : ℕ = z.d * (2 * a.stripes) in
    let v : ℕ = length a.standins.now * a.stripes in
    let t : ℕ = length a.fresh.now in
    let u : ℕ = (t - 1) * a.stripes in
    let third : ℕ = t * w + t * v + a.a * u in
    let partners : List ℕ = a.standins.now ++ others_at a.fresh.now a.a in
    (in_end c).share_in.ensures
    ∙ ap₂ (λ (x y : List ℕ). finished_share z a.points.now a.stripes (get_or a.fresh.now a.a 0) a.helpers.now x partners
    (y ++ take (third + u - third) (drop third a.packets.now)))
    (part-piece w a.a a.packets.now) (part-behind (t * w) v a.a a.packets.now)
    ∙ ap (λ (y : List ℕ). finished_share z a.points.now a.stripes (get_or a.fresh.now a.a 0) a.helpers.now (piece w a.a a.packets.now) partners
    (piece v a.a (drop (t * w) a.packets.now) ++ y))
    (part-behind (t * w + t * v) ((t - 1) * a.stripes) a.a a.packets.now)

pub share_of_spec : {M : Type 1} → statement M
share_of_spec =
    tie.close
    (tie.spec
    (λ c. omega (arith, (st-w c).requires.4))
    (λ c. let n = ends (st-known c) in omega (arith, n.first))
    (λ c. let n = ends (st-known c) in omega (arith, n.second))
    (λ c. omega (arith, (st-known c).requires.5))
    (λ c. let n = ends (st-known c) in omega (arith, n.third))
    (λ c. let n = ends (st-known c) in omega (arith, n.first))
    (λ c. let n = ends (st-known c) in omega (arith, n.first))
    (λ c. let n = ends (st-known c) in omega (arith, n.second))
    (λ c. let n = ends (st-known c) in omega (arith, n.second))
    (λ c. let n = ends (st-known c) in omega (arith, n.second))
    (λ c. let n = ends (st-known c) in omega (arith, n.second))
    (λ c. let n = ends (st-known c) in omega (arith, n.third))
    (λ c. let n = ends (st-known c) in omega (arith, n.third))
    (λ c. let n = ends (st-known c) in omega (arith, n.third))
    (λ c. let n = ends (st-known c) in omega (arith, n.third))
    (λ c. let n = ends (st-known c) in omega (arith, n.third))
    (λ c. let n = ends (st-known c) in omega (arith, n.third))
    (λ c. let f = facts (st-m c) in omega (arith, f.enough, f.few))
    (λ c. let f = facts (st-m2 c) in omega (arith, f.enough, f.few))
    (λ c. let f = facts (st-m2 c) in omega (arith, f.enough, f.few))
    (λ c. search rules)
    (λ c. search rules)
    (λ c. let n = ends (st-m2 c) in omega (arith, n.first))
    (λ c. search rules)
    (λ c. search rules)
    (λ c. let n = ends (st_2 c) in omega (arith, n.second))
    (λ c. search rules)
    (λ c. search rules)
    (λ c. let n = ends (st_3 c) in omega (arith, n.third))
    (λ c. search rules)
    (λ c. search rules)
    (λ c. let f = facts (st_4 c) in omega (arith, f.enough, f.few))
    share-in-requires
    (λ c. search rules)
    returns)
