-- `size_rows::put_row` meets its contract: the pieces, one behind the other.
-- Assumes nothing.
use mathlib.Core.Path.{◌≡◌, ap, ◌∙◌}
use mathlib.Core.List.{[], ◌∷◌}
use native.Mathlib.Omega.{arith}
use lib.ListN.{length}
use Rattle.lists.specs.Tests.{pick}
use Rattle.sizes.specs.Sizing.{α, B}
use Rattle.sizes.proofs.Legal.{legal-facts}
use Rattle.text_lines.specs.Steps.{Wrote}
use Rattle.text_lines.proofs.Writes.{same-room, room, then, more}
use Rattle.size_list.specs.Combinations.{row}
use Rattle.size_rows.proofs.Lines.{Rooms, rooms, row-most, to_n, to_k, to_d, to_r, to_share, to_stripe}
use borrow.Author.Rules.{rules}
use Rattle.size_rows.proofs.put_row.Statement.{statement}
use Rattle.size_rows.proofs.put_row.Tie as tie

-- places in the code
abbrev put_named-d-of-put_named-arg-9-1 : tie.After-put_named-arg-9-1 → tie.After-put_named-d
put_named-d-of-put_named-arg-9-1 c = c.before.before.before.before.before

abbrev put_named-k-of-put_named-arg-6-1 : tie.After-put_named-arg-6-1 → tie.After-put_named-k
put_named-k-of-put_named-arg-6-1 c = c.before.before.before.before.before

abbrev put_named-r-of-put_named-arg-12-1 : tie.After-put_named-arg-12-1 → tie.After-put_named-r
put_named-r-of-put_named-arg-12-1 c = c.before.before.before.before.before

abbrev put_named-d-of-put_named-r : tie.After-put_named-r → tie.After-put_named-d
put_named-d-of-put_named-r c = put_named-d-of-put_named-arg-9-1 c.before

abbrev put_named-k-of-put_named-d : tie.After-put_named-d → tie.After-put_named-k
put_named-k-of-put_named-d c = put_named-k-of-put_named-arg-6-1 c.before

abbrev put_named-r-of-put_named-share : tie.After-put_named-share → tie.After-put_named-r
put_named-r-of-put_named-share c = put_named-r-of-put_named-arg-12-1 c.before

abbrev put_named-share-of-put_named-arg-15-1 : tie.After-put_named-arg-15-1 → tie.After-put_named-share
put_named-share-of-put_named-arg-15-1 c = c.before.before.before.before.before.before

abbrev put_named-stripe-of-put_named-arg-18-1 : tie.After-put_named-arg-18-1 → tie.After-put_named-stripe
put_named-stripe-of-put_named-arg-18-1 c = c.before.before.before.before.before.before

abbrev put_named-share-of-put_named-stripe : tie.After-put_named-stripe → tie.After-put_named-share
put_named-share-of-put_named-stripe c = put_named-share-of-put_named-arg-15-1 c.before

abbrev put_named-stripe-of-put_named-last : tie.After-put_named-last → tie.After-put_named-stripe
put_named-stripe-of-put_named-last c = put_named-stripe-of-put_named-arg-18-1 c.before

abbrev start-of-put_named-arg-6-1 : tie.After-put_named-arg-6-1 → tie.Start
start-of-put_named-arg-6-1 c = c.before.before.before.before.before.before.before.before.before.before

abbrev start-of-put_named-d : tie.After-put_named-d → tie.Start
start-of-put_named-d c = start-of-put_named-arg-6-1 c.before

abbrev start-of-put_named-arg-9-1 : tie.After-put_named-arg-9-1 → tie.Start
start-of-put_named-arg-9-1 c = start-of-put_named-d c.before.before.before.before.before

abbrev start-of-put_named-r : tie.After-put_named-r → tie.Start
start-of-put_named-r c = start-of-put_named-arg-9-1 c.before

abbrev start-of-put_named-arg-12-1 : tie.After-put_named-arg-12-1 → tie.Start
start-of-put_named-arg-12-1 c = start-of-put_named-r c.before.before.before.before.before

abbrev start-of-put_named-share : tie.After-put_named-share → tie.Start
start-of-put_named-share c = start-of-put_named-arg-12-1 c.before

abbrev start-of-put_named-arg-15-1 : tie.After-put_named-arg-15-1 → tie.Start
start-of-put_named-arg-15-1 c = start-of-put_named-share c.before.before.before.before.before.before

abbrev start-of-put_named-stripe : tie.After-put_named-stripe → tie.Start
start-of-put_named-stripe c = start-of-put_named-arg-15-1 c.before

abbrev start-of-put_named-arg-18-1 : tie.After-put_named-arg-18-1 → tie.Start
start-of-put_named-arg-18-1 c = start-of-put_named-stripe c.before.before.before.before.before.before

abbrev start-of-put_named-last : tie.After-put_named-last → tie.Start
start-of-put_named-last c = start-of-put_named-arg-18-1 c.before

abbrev start-of-slice_known-7-1 : tie.After-slice_known-7-1 → tie.Start
start-of-slice_known-7-1 c = start-of-put_named-last c.before.before

fits : (c : tie.Start) → let a = c.args in Rooms a.z a.at (length a.out.now)
fits c = rooms _ _ _ (legal-facts _ c.requires.0) c.requires.2

-- past each piece: where the call began, and what is written so far
by_n : (c : tie.After-put_named-k) → let a = c.args in Wrote a.out.now a.at (to_n a.z) c.put_named-k.new.out c.put_named-k.result
by_n c = c.put_named-k.ensures

by-k : (c : tie.After-put_named-d) → let a = c.args in Wrote a.out.now a.at (to_k a.z) c.put_named-d.new.out c.put_named-d.result
by-k c = then (by_n (put_named-k-of-put_named-d c)) c.put_named-d.ensures (fits (start-of-put_named-d c)).k

by-d : (c : tie.After-put_named-r) → let a = c.args in Wrote a.out.now a.at (to_d a.z) c.put_named-r.new.out c.put_named-r.result
by-d c = then (by-k (put_named-d-of-put_named-r c)) c.put_named-r.ensures (fits (start-of-put_named-r c)).d

by-r : (c : tie.After-put_named-share) → let a = c.args in Wrote a.out.now a.at (to_r a.z) c.put_named-share.new.out c.put_named-share.result
by-r c = then (by-d (put_named-r-of-put_named-share c)) c.put_named-share.ensures (fits (start-of-put_named-share c)).r

is_share : (c : tie.After-share_len) → c.share_len.result ≡ α c.args.z
is_share c = c.share_len.ensures ∙ ap (λ t. pick t (α c.args.z) 0) c.requires.0

by-share : (c : tie.After-put_named-stripe)
    → let a = c.args in Wrote a.out.now a.at (to_share a.z) c.put_named-stripe.new.out c.put_named-stripe.result
by-share c = then (by-r (put_named-share-of-put_named-stripe c)) (rw (is_share c.before.before) at c.put_named-stripe.ensures) (fits (start-of-put_named-stripe c)).share

is-stripe : (c : tie.After-stripe_len) → c.stripe_len.result ≡ B c.args.z
is-stripe c = c.stripe_len.ensures ∙ ap (λ t. pick t (B c.args.z) 0) c.requires.0

by-stripe : (c : tie.After-put_named-last)
    → let a = c.args in Wrote a.out.now a.at (to_stripe a.z) c.put_named-last.new.out c.put_named-last.result
by-stripe c = then (by-share (put_named-stripe-of-put_named-last c)) (rw (is-stripe c.before.before) at c.put_named-last.ensures) (fits (start-of-put_named-last c)).stripe

returns : tie.Need-returns
unfolding row
returns c = more (by-stripe c.before.before) 0x0A (fits (start-of-slice_known-7-1 c)).whole

add-result : tie.Need-overflow_add-result
add-result c =
    let w = returns c in
    omega (arith, w.ends, row-most c.args.z (legal-facts _ c.requires.0), c.requires.1)

same_length : tie.Need-shape_of-out
unfolding row
same_length c = same-room (returns c) (fits (start-of-slice_known-7-1 c)).whole

pub put_row_spec : {M : Type 1} → statement M
put_row_spec =
    tie.close
    (tie.spec
    (λ c κs. (fits c.before.before.before.before).n)
    (λ c κs. room (by_n (put_named-k-of-put_named-arg-6-1 c)) _ (fits (start-of-put_named-arg-6-1 c)).k)
    (λ c κs. room (by-k (put_named-d-of-put_named-arg-9-1 c)) _ (fits (start-of-put_named-arg-9-1 c)).d)
    (λ c κs. room (by-d (put_named-r-of-put_named-arg-12-1 c)) _ (fits (start-of-put_named-arg-12-1 c)).r)
    (λ c κs. search rules)
    (λ c κs. rw (is_share c.before) (room (by-r (put_named-share-of-put_named-arg-15-1 c)) _ (fits (start-of-put_named-arg-15-1 c)).share))
    (λ c κs. search rules)
    (λ c κs. rw (is-stripe c.before) (room (by-share (put_named-stripe-of-put_named-arg-18-1 c)) _ (fits (start-of-put_named-arg-18-1 c)).stripe))
    (λ c. omega (arith, room (by-stripe c.before.before) (0x0A ∷ []) (fits (start-of-slice_known-7-1 c)).whole))
    add-result
    same_length
    returns)
