-- `gather_told::gather_told` meets its contract: each test is taken apart, and a refusal returned early; DISAGREE is asked before a byte is written.
-- Assumes nothing.
use mathlib.Core.Path.{◌≡◌, sym, ap, subst, ◌∙◌}
use mathlib.Core.Bool.{true, not}
use mathlib.Core.List.{List, ◌++◌}
use Prim.Native.Nat.{ℕ, ◌*◌}
use lib.ListN.{drop}
use borrow.Author.Tests.{not-true, not-false}
use borrow.Author.Rules.{rules}
use native.Mathlib.Omega.{arith}
use Rattle.lists.specs.Tests.{different, given}
use Rattle.sizes.specs.Sizing.{α, stripes}
use Rattle.mbcr.specs.Read.{decoded_file, read_file}
use Rattle.decode_stripe.specs.Steps.{Asked}
use Rattle.text_stripes.specs.Steps.{spelled, Spelled}
use Rattle.gather_told.specs.Steps.{Ready}
use Rattle.gather_told.proofs.ToldCall as law
use Rattle.gather_told.proofs.gather_told.Statement.{statement}
use Rattle.gather_told.proofs.gather_told.Tie as tie

-- places in the code
abbrev st : tie.After-different → tie.Start
st c = c.before.before.before.before.before.before

abbrev else1-at-stripe-count : tie.After-stripe_count-stripes → tie.Else-not-different
else1-at-stripe-count c = c.before.before

abbrev at-different : tie.After-stripe_count-stripes → tie.After-different
at-different c = (else1-at-stripe-count c).before

abbrev fill-inverses-at-tables : tie.After-tables-1 → tie.After-fill_inverses
fill-inverses-at-tables c = c.before.before.before

abbrev stripe-count-at-fill-inverses : tie.After-fill_inverses → tie.After-stripe_count-stripes
stripe-count-at-fill-inverses c = c.before.before

abbrev at_count : tie.After-fill → tie.After-stripe_count-stripes
at_count c = stripe-count-at-fill-inverses (fill-inverses-at-tables c.before)

abbrev at_fill : tie.After-agrees → tie.After-fill
at_fill c = c.before.before.before

abbrev else3-at-file-arg : tie.After-write_file-arg-1 → tie.Else-not-agrees
else3-at-file-arg c = c.before.before

abbrev at-agrees : tie.After-write_file → tie.After-agrees
at-agrees c = (else3-at-file-arg c.before).before

ready : (g : tie.Start) → let a = g.args in Ready a.text.now a.sizes a.points.now a.len a.boards.now a.places.now
ready g = g.requires

-- no board stands twice
unlike : (c : tie.Else-not-different) → different (st c.before).args.boards.now ≡ true
unlike c = sym c.before.different.ensures ∙ not-false _ (ap not c.if-not-different.false)

asks : (c : tie.After-stripe_count-stripes) → let a = (st (at-different c)).args in Asked a.sizes a.points.now a.boards.now
asks c = let g = st (at-different c) in let a = g.args in
    law.asked-told a.text.now a.sizes a.points.now a.len a.boards.now a.places.now a.out.now (ready g) (unlike (else1-at-stripe-count c))

-- the number of stripes
many : (c : tie.After-stripe_count-stripes) → let a = (st (at-different c)).args in c.stripe_count-stripes.result ≡ stripes a.sizes a.len
many c = c.stripe_count-stripes.ensures.0

spelt : (c : tie.After-stripe_count-stripes) → let a = (st (at-different c)).args in Spelled a.text.now a.places.now 0 (c.stripe_count-stripes.result * α a.sizes)
spelt c = let g = st (at-different c) in let a = g.args in subst (λ (S : ℕ). Spelled a.text.now a.places.now 0 (S * α a.sizes)) (sym (many c)) (ready g).spelt

-- the shares, by what the definitions say
abbrev shares : tie.Start → ℕ → List ℕ
shares g S = let a = g.args in spelled a.text.now a.places.now 0 (S * α a.sizes)

found : (c : tie.After-agrees) → let g = st (at-different (at_count (at_fill c))) in let a = g.args in
    c.agrees.result ≡ given (read_file a.sizes a.points.now a.len a.boards.now (shares g (stripes a.sizes a.len)))
found c =
    let k = at_count (at_fill c) in
    let g = st (at-different k) in
    let a = g.args in
    c.agrees.ensures ∙ ap (λ (S : ℕ). given (read_file a.sizes a.points.now a.len a.boards.now (shares g S))) (many k)

repeated : tie.Need-returns-then-not-different
repeated c =
    let k = c.before in
    let a = (st k).args in
    law.refuses-repeat a.text.now a.sizes a.points.now a.len a.boards.now a.places.now a.out.now (ready (st k))
    (sym k.different.ensures ∙ not-true _ (ap not c.if-not-different.true))

short : tie.Need-returns-then-out-len
short c =
    let e = c.before in
    let g = st e.before in
    let a = g.args in
    law.refuses-short a.text.now a.sizes a.points.now a.len a.boards.now a.places.now a.out.now (ready g) (unlike e) c.if-out-len.true

fill-asks : tie.Need-fill-requires
fill-asks c κs =
    let i = fill-inverses-at-tables c in
    let k = stripe-count-at-fill-inverses i in
    let g = st (at-different k) in
    let a = g.args in
    let t = law.points-taken a.text.now a.sizes a.points.now a.len a.boards.now a.places.now a.out.now (ready g) in
    (asks k, i.fill_inverses.ensures, t.long, omega (arith, (st (at-different (stripe-count-at-fill-inverses (i)))).requires))

agrees-ask : tie.Need-agrees-requires
agrees-ask c κs =
    let f = c.before.before in
    let k = at_count f in
    (asks k, f.fill.ensures, k.stripe_count-stripes.ensures.1, many k, (ready (st (at-different k))).as_many, spelt k)

disagrees : tie.Need-returns-then-not-agrees
disagrees c =
    let w = c.before in
    let k = at_count (at_fill w) in
    let g = st (at-different k) in
    let a = g.args in
    law.refuses-disagree a.text.now a.sizes a.points.now a.len a.boards.now a.places.now a.out.now (ready g) (unlike (else1-at-stripe-count k)) k.before.if-out-len.false
    (sym (found w) ∙ not-true _ (ap not c.if-not-agrees.true))

file-asks : tie.Need-write_file-requires
file-asks c κs =
    let w = (else3-at-file-arg c).before in
    let f = at_fill w in
    let k = at_count f in
    (asks k, f.fill.ensures, k.stripe_count-stripes.ensures.1, many k, (ready (st (at-different k))).as_many, spelt k, k.before.if-out-len.false)

works : tie.Need-returns
works c =
    let t = c.before.before in
    let e = else3-at-file-arg t.before in
    let w = at-agrees t in
    let k = at_count (at_fill w) in
    let g = st (at-different k) in
    let a = g.args in
    law.works a.text.now a.sizes a.points.now a.len a.boards.now a.places.now a.out.now (ready g) (unlike (else1-at-stripe-count k)) k.before.if-out-len.false
    (sym (found w) ∙ not-false _ (ap not e.if-not-agrees.false)) _
    (t.write_file.ensures ∙ ap (λ (S : ℕ). decoded_file a.sizes a.points.now a.len a.boards.now (shares g S) ++ drop a.len a.out.now) (many k))

pub gather_told_spec : {M : Type 1} → statement M
gather_told_spec =
    tie.close
    (tie.spec
    (λ c κs. search rules)
    repeated
    short
    (λ c κs. (ready (st c.before.before)).stated)
    (λ c. search rules)
    (λ c κs. search rules)
    (λ c. search rules)
    (λ c. omega arith)
    fill-asks
    (λ c. omega arith)
    agrees-ask
    disagrees
    (λ c. omega (arith, (st (at-different (at_count (at_fill c.before.before)))).requires))
    file-asks
    (λ c. c.before.out-1.given)
    works)
