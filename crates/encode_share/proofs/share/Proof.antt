-- `encode_share::share` meets its contract. The callees' contracts, put together.
-- Assumes nothing.
use mathlib.Core.Path.{refl}
use Prim.Native.Nat.{◌+◌}
use native.Mathlib.Omega.{arith}
use borrow.Author.Rules.{rules}
use Rattle.sizes.proofs.Legal.{legal-facts}
use Rattle.powers.proofs.Turns.{powers-tabled}
use Rattle.encode_share.proofs.Shares.{stripes-share}
use Rattle.encode_share.proofs.share.Statement.{statement}
use Rattle.encode_share.proofs.share.Tie as tie

-- places in the code
abbrev st-at-struct-known : tie.After-struct_known-1 → tie.Start
st-at-struct-known c = c.before.before.before.before

abbrev st : tie.After-shared_slice_known-3-1 → tie.Start
st c = st-at-struct-known c.before

abbrev st_2 : tie.After-tables-1 → tie.Start
st_2 c = st c.before

abbrev fill-powers : tie.After-slice_known-2-1 → tie.After-fill_powers
fill-powers c = c.before.before.before.before.before.before.before.before

abbrev st_3 : tie.After-slice_known-2-1 → tie.Start
st_3 c = st_2 (fill-powers c).before

add-m : tie.Need-overflow_add-m
add-m c = omega (arith, legal-facts _ (st-at-struct-known c).requires.0)

abbrev st-unread : tie.After-shared_slice_known-3-1-unread → tie.Start
st-unread c = st-at-struct-known c.before

shared-slice-read-x : tie.Need-bounds-points-i
shared-slice-read-x c =
    let f = legal-facts _ (st-unread c).requires.0 in omega (arith, f.few, (st-unread c).requires.1, (st-unread c).requires.2)

fill-powers-requires : tie.Need-fill_powers-requires
fill-powers-requires c κs =
    let s = st_2 c in let f = legal-facts _ s.requires.0 in (s.requires.2, omega (arith, f.enough, f.few), omega (arith, f.enough, f.few))

returns : tie.Need-returns
returns c =
    let s = st_3 c in
    let a = s.args in
    let z = a.sizes in
    let xs = a.points.now in
    let t = powers-tabled xs _ _ (z.d + z.r) s.requires.2 (fill-powers c).fill_powers.ensures in
    stripes-share z xs a.file.now _ _ a.i a.count s.requires.3 (c.before.before.before.share_stripes.ensures xs s.requires.2 t refl)

pub share_spec : {M : Type 1} → statement M
share_spec =
    tie.close
    (tie.spec
    add-m
    shared-slice-read-x
    (λ c. search rules)
    fill-powers-requires
    (λ c. search rules)
    (λ c. search rules)
    (λ c κs. search rules)
    (λ c. search rules)
    returns)
