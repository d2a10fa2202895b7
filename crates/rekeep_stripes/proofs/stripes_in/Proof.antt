-- `rekeep_stripes::stripes_in` meets its contract: the callees' contracts, put together.
-- Assumes nothing.
use Prim.Native.Nat.{◌<◌}
use native.Mathlib.Omega.{arith}
use lib.ListN.{length}
use borrow.Author.Rules.{rules}
use Rattle.lists.specs.Lists.{Bytes}
use Rattle.lists.proofs.Alls.{all_of}
use Rattle.sizes.proofs.Legal.{Legal, legal-facts}
use Rattle.rekeep_stripes.proofs.Shares.{share-made}
use Rattle.rekeep_stripes.proofs.stripes_in.Statement.{statement}
use Rattle.rekeep_stripes.proofs.stripes_in.Tie as tie

-- places in the code
abbrev lent : tie.After-struct_known-1 → tie.After-slice_known-1
lent c = c.before.before.before

abbrev st-sizes : tie.After-struct_known-1 → tie.Start
st-sizes c = (lent c).before.before.before

abbrev first : tie.After-byte_factors_from-arg-2-1 → tie.After-byte_factors_from
first c = c.before.before.before

abbrev second : tie.After-patch_stripes-arg-1 → tie.After-byte_factors_from-2
second c = c.before.before.before

abbrev sizes-at-end : tie.After-patch_stripes-arg-1 → tie.After-struct_known-1
sizes-at-end c = (first (second c).before).before.before

facts : (c : tie.Start) → Legal c.args.sizes
facts c = legal-facts _ c.requires.0

byte-factors-from-requires : tie.Need-byte_factors_from-requires
byte-factors-from-requires c κs = let g = st-sizes c.before in let p = g.requires in (p.3, p.1, p.5, (facts g).few, p.9, p.10)

byte-factors-from-requires-2 : tie.Need-byte_factors_from-requires-2
byte-factors-from-requires-2 c κs = let g = st-sizes (first c).before.before in let p = g.requires in (p.3, p.1, p.5, (facts g).few, p.11, p.12)

patch-stripes-requires : tie.Need-patch_stripes-requires
patch-stripes-requires c κs = let p = (st-sizes (sizes-at-end c)).requires in (p.0, p.6, p.7, search rules, search rules, p.4, p.8)

returns : tie.Need-returns
returns c =
    let m = c.before.before in
    let k = m.before in
    let g = st-sizes (sizes-at-end k) in
    let a = g.args in
    let p = g.requires in
    let bytes : Bytes a.held.now = all_of (λ b. b < 256) 0 a.held.now (λ i h. omega (arith, (lent (sizes-at-end k)).slice_known-1.given i)) in
    share-made a.sizes a.points.now (facts g) p.2 a.i p.5 a.t a.y a.stripes (length a.ff.now) (length a.gf.now) _ _ a.held.now _
    p.9 p.11 (first (second k).before).byte_factors_from.ensures (second k).byte_factors_from-2.ensures p.8 bytes m.patch_stripes.ensures

pub stripes_in_spec : {M : Type 1} → statement M
stripes_in_spec =
    tie.close
    (tie.spec
    (λ c. omega (arith, facts (st-sizes c)))
    byte-factors-from-requires
    byte-factors-from-requires-2
    patch-stripes-requires
    (λ c. search rules)
    (λ c. search rules)
    (λ c. search rules)
    returns)
