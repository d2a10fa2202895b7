-- `text_head::head_at` meets its contract: each part is taken apart, and a text that does not stand there is left early.
-- Assumes nothing.
use mathlib.Core.Path.{◌≡◌, sym, ap₂, ◌∙◌, ap}
use mathlib.Core.Bool.{true, not}
use Prim.Native.Nat.{◌*◌, ◌≤◌}
use native.Mathlib.Nat.{mul-le-mul}
use native.Mathlib.Omega.{arith}
use borrow.Author.Tests.{not-true, not-false}
use Rattle.number_lines.proofs.Picks.{yes}
use Rattle.sizes.specs.Sizing.{α, stripes}
use Rattle.sizes.proofs.Legal.{legal-facts}
use Rattle.text_spec.specs.Texts.{admitted}
use Rattle.text_head.specs.declared.Six.{Six}
use Rattle.text_head.proofs.Text.{no-stand, no_six, no-sizes, no-points, all-stand, legal-admitted}
use borrow.Author.Rules.{rules}
use Rattle.text_head.proofs.head_at.Statement.{statement}
use Rattle.text_head.proofs.head_at.Tie as tie

abbrev st : tie.After-six_at-six → tie.Start
st c = c.before.before

abbrev s : tie.After-six_at-six → Six
s c = c.six_at-six.result

-- the lines stand there
lines : (c : tie.Else-not-six) → (s c.before.before).ok ≡ true
lines c = not-false _ c.if-not-six.false

-- the sizes, the board and the length may be told
abbrev at-six : tie.After-admitted → tie.After-six_at-six
at-six c = c.before.before.before.before

ok : (c : tie.Else-not-admitted) → let x = s (at-six c.before) in admitted x.sizes x.node x.length ≡ true
ok c = sym c.before.admitted.ensures ∙ not-false _ (ap not c.if-not-admitted.false)

abbrev at-else : tie.After-points_at-pointed → tie.Else-not-admitted
at-else c = c.before

returns : tie.Need-returns-then-not-six
returns c =
    let k = c.before.before.before in
    let a = (st k).args in
    no-stand a.text.now a.at _ c.nothing.ensures (no_six a.text.now a.at (s k) k.six_at-six.ensures (not-true _ c.before.if-not-six.true))

returns-2 : tie.Need-returns-then-not-admitted
returns-2 c =
    let d = c.before.before in
    let k = at-six d in
    let a = (st k).args in
    no-stand a.text.now a.at _ c.nothing-then-not-admitted.ensures
    (no-sizes a.text.now a.at (s k) k.six_at-six.ensures (lines d.before.before) (sym d.admitted.ensures ∙ not-true _ (ap not c.before.if-not-admitted.true)))

points-at-requires : tie.Need-points_at-pointed-requires
points-at-requires c κs = let x = s (at-six c.before) in (legal-admitted x.sizes x.node x.length (ok c)).0

returns-3 : tie.Need-returns-then-not-pointed
returns-3 c =
    let p = c.before.before.before in
    let e = at-else p in
    let d = e.before in
    let k = at-six d in
    let a = (st k).args in
    no-stand a.text.now a.at _ c.nothing-then-not-pointed.ensures
    (no-points a.text.now a.at (s k) k.six_at-six.ensures p.points_at-pointed.result p.points_at-pointed.ensures (lines d.before.before) (ok e) (not-true _ c.before.if-not-pointed.true))

stripe-count-requires : tie.Need-stripe_count-requires
stripe-count-requires c κs =
    let e = at-else c.before.before in
    let x = s (at-six e.before) in
    let h = legal-admitted x.sizes x.node x.length (ok e) in
    record { is-legal = h.0; not-long = h.1 }

abbrev points-at-at-share-len : tie.After-share_len → tie.After-points_at-pointed
points-at-at-share-len c = c.before.before.before.before

-- the share's bytes
count-is : (c : tie.After-share_len) → let x = s (at-six (at-else (points-at-at-share-len c)).before) in
    (c.before.stripe_count.result ≡ stripes x.sizes x.length) × (c.share_len.result ≡ α x.sizes) × (c.share_len.result ≤ 62)
count-is c =
    let e = at-else (points-at-at-share-len c) in
    let x = s (at-six e.before) in
    let h = legal-admitted x.sizes x.node x.length (ok e) in
    let f = legal-facts x.sizes h.0 in
    let w = c.share_len.ensures ∙ yes _ _ _ h.0 in
    (c.before.stripe_count.ensures.0, w, omega (arith, w, f.few, f.enough, f.some-fresh))

mul-count : tie.Need-overflow_mul-count
mul-count c =
    let n = count-is c in
    record { fits = omega (arith, mul-le-mul c.before.stripe_count.ensures.1 n.2) }

returns-4 : tie.Need-returns
returns-4 c =
    let l = c.before in
    let n = l.before in
    let p = points-at-at-share-len n in
    let e = at-else p in
    let d = e.before in
    let k = at-six d in
    let a = (st k).args in
    let q = count-is n in
    all-stand a.text.now a.at (s k) k.six_at-six.ensures p.points_at-pointed.result p.points_at-pointed.ensures (lines d.before.before) (ok e)
    (not-false _ n.before.before.if-not-pointed.false) (n.before.stripe_count.result * n.share_len.result) (ap₂ ◌*◌ q.0 q.1) l.pairs_from-data.result l.pairs_from-data.ensures

pub head_at_spec : {M : Type 1} → statement M
head_at_spec =
    tie.close
    (tie.spec
    (λ c κs. search rules)
    (λ c κs. search rules)
    returns
    (λ c κs. search rules)
    (λ c κs. search rules)
    returns-2
    points-at-requires
    (λ c κs. search rules)
    returns-3
    stripe-count-requires
    (λ c κs. search rules)
    mul-count
    (λ c κs. search rules)
    returns-4)
