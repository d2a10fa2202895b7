-- `stripe_holds::still_holds` meets its contract: what the board keeps is compared with what it holds.
-- Assumes nothing.
use mathlib.Core.Bool.{not}
use mathlib.Core.Path.{◌≡◌, refl, ap, ◌∙◌}
use mathlib.Core.List.{List}
use Prim.Native.Nat.{ℕ}
use native.Mathlib.Omega.{arith}
use lib.ListN.{length, take, drop, replicate}
use borrow.Author.Rules.{rules}
use borrow.Author.Tests.{not-true, not-false}
use Rattle.lists.specs.Tests.{same}
use Rattle.sizes.specs.Sizing.{α}
use Rattle.sizes.proofs.Legal.{Legal, legal-facts}
use Rattle.mbcr.specs.Share.{kept}
use Rattle.decode_stripe.proofs.Made.{part-long}
use Rattle.stripe_holds.proofs.Compared.{failed, goes-on, own-most, compared}
use Rattle.stripe_holds.proofs.still_holds.Statement.{statement}
use Rattle.stripe_holds.proofs.still_holds.Tie as tie

-- places in the code
abbrev start-of-struct_known-2-1 : tie.After-struct_known-2-1 → tie.Start
start-of-struct_known-2-1 c = c.before.before.before.before.before.before.before

abbrev start-of-shared_slice_known-5-1 : tie.After-shared_slice_known-5-1 → tie.Start
start-of-shared_slice_known-5-1 c = start-of-struct_known-2-1 c.before

abbrev start-of-shared_slice_known-5-1-unread : tie.After-shared_slice_known-5-1-unread → tie.Start
start-of-shared_slice_known-5-1-unread c = start-of-struct_known-2-1 c.before

abbrev start-of-own-1 : tie.After-own-1 → tie.Start
start-of-own-1 c = start-of-shared_slice_known-5-1 c.before

abbrev start-of-share_rows : tie.After-share_rows → tie.Start
start-of-share_rows c = start-of-own-1 c.before

facts : (g : tie.Start) → Legal g.args.sizes
facts g = legal-facts _ g.requires.0

abbrev zeros : List ℕ
zeros = replicate 64 0

-- what the board keeps is as long as it should be
abbrev own : tie.After-share_rows → List ℕ
own c = c.share_rows.new.out

long : (c : tie.After-share_rows) → length (own c) ≡ α c.args.sizes
long c = c.share_rows.auto.out ∙ part-long (α c.args.sizes) zeros (omega (arith, facts (start-of-share_rows c)))

share-rows-requires : tie.Need-share_rows-requires
share-rows-requires c κs =
    (c.requires.0, c.requires.1, c.requires.3, c.requires.4, part-long (α c.args.sizes) zeros (omega (arith, facts (start-of-own-1 c))))

returns : tie.Need-returns-then-not-before
returns c =
    λ u rest lu tb er.
    let a = c.args in
    failed a.before (same (take (α a.sizes) (drop a.at a.area.now)) (kept a.sizes a.points.now u a.i)) (not-true a.before (ap not c.if-not-before.true))

returns-2 : tie.Need-returns
returns-2 c =
    λ u rest lu tb er.
    let a = c.args in
    compared (α a.sizes) zeros (own c.before.before.before.before) (long c.before.before.before.before) a.at a.area.now _ c.same_bytes.ensures
    ∙ ap (same (take (α a.sizes) (drop a.at a.area.now))) (c.share_rows.ensures a.points.now u rest c.requires.2 lu tb refl er)
    ∙ goes-on a.before (same (take (α a.sizes) (drop a.at a.area.now)) (kept a.sizes a.points.now u a.i)) (not-false a.before (ap not c.if-not-before.false))

pub still_holds_spec : {M : Type 1} → statement M
still_holds_spec =
    tie.close
    (tie.spec
    returns
    (λ c. search rules)
    (λ c. search rules)
    (λ c. omega (arith, facts (start-of-struct_known-2-1 c)))
    (λ c. search rules)
    (λ c. omega (arith, (facts (start-of-shared_slice_known-5-1-unread c)).few, c.requires.1, c.requires.2))
    (λ c. search rules)
    (λ c. search rules)
    (λ c. omega (arith, facts (start-of-shared_slice_known-5-1 c)))
    share-rows-requires
    (λ c. search rules)
    (λ c. search rules)
    (λ c. search rules)
    (λ c. search rules)
    (λ c. search rules)
    (λ c. own-most (α c.args.sizes) zeros (own c.before.before) (long c.before.before))
    (λ c κs. search rules)
    returns-2)
