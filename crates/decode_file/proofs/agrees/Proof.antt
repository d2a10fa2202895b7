-- `decode_file::agrees` meets its contract: the pairs of boards, then the padding.
-- Assumes nothing.
use mathlib.Core.Bool.{Bool, true, not}
use Prim.Native.Nat.{◌/◌}
use native.Mathlib.Nat.{div-add-mod', mod-lt}
use borrow.Author.Tests.{not-true, not-false}
use Rattle.lists.specs.Tests.{pick, alls}
use Rattle.lists.specs.Lists.{Bytes, tabulate}
use Rattle.lists.proofs.Alls.{all_of}
use Rattle.sizes.specs.Sizing.{B}
use Rattle.sizes.proofs.Legal.{Legal, legal-facts, B-pos}
use Rattle.mbcr.proofs.Points.{Boards, boards-of}
use Rattle.decode_laws.specs.Steps.{pairs_meet, held_at}
use Rattle.decode_laws.proofs.Held.{placed-before}
use Rattle.decode_file.proofs.Agree.{no_pairs, last-cut, none-cut}
use mathlib.Core.Path.{◌≡◌, sym, ap, ◌∙◌}
use Prim.Native.Nat.{◌≤◌, ◌<◌, ◌-◌, ◌+◌, ◌*◌}
use native.Mathlib.Omega.{arith}
use borrow.Author.Rules.{rules}
use Rattle.decode_file.proofs.agrees.Statement.{statement}
use Rattle.decode_file.proofs.agrees.Tie as tie

-- places in the code
abbrev st-lent-bytes : tie.After-shared_slice_known-4-1 → tie.Start
st-lent-bytes c = c.before.before.before.before

abbrev shared-slice-known4-at-pairs-meet : tie.After-pairs_meet → tie.After-shared_slice_known-4-1
shared-slice-known4-at-pairs-meet c = c.before.before

abbrev pairs-meet-at-stripe-len : tie.After-stripe_len-b → tie.After-pairs_meet
pairs-meet-at-stripe-len c = c.before.before

abbrev st-stripe-len : tie.After-stripe_len-b → tie.Start
st-stripe-len c = st-lent-bytes (shared-slice-known4-at-pairs-meet (pairs-meet-at-stripe-len c))

abbrev lent-bytes-at-else2 : tie.Else-whole-stripes → tie.After-shared_slice_known-4-1
lent-bytes-at-else2 c = shared-slice-known4-at-pairs-meet (pairs-meet-at-stripe-len c.before)

abbrev stripe-len-at-padding : tie.After-padding → tie.After-stripe_len-b
stripe-len-at-padding c = c.before.before

abbrev lent-bytes-at-padding : tie.After-padding → tie.After-shared_slice_known-4-1
lent-bytes-at-padding c = shared-slice-known4-at-pairs-meet (pairs-meet-at-stripe-len (stripe-len-at-padding c))

abbrev st-padding : tie.After-padding → tie.Start
st-padding c = st-lent-bytes (lent-bytes-at-padding c)

-- the sizes are legal
facts : (c : tie.Start) → Legal c.args.sizes
facts c = legal-facts _ c.requires.0.sized

-- the boards are known, and the bytes are bytes
known : (c : tie.Start) → Boards c.args.sizes c.args.boards.now
known c = boards-of c.args.sizes c.args.boards.now c.requires.0.known c.requires.0.unlike

bytes : (c : tie.After-shared_slice_known-4-1) → Bytes (st-lent-bytes c).args.bytes.now
bytes c = all_of (λ b. b < 256) 0 (st-lent-bytes c).args.bytes.now (λ i h. omega (arith, c.shared_slice_known-4-1.given i))

-- whether the pairs meet
abbrev meeting : tie.Start → Bool
meeting c =
    let a = c.args in
    alls (tabulate a.stripes (λ s. pairs_meet a.sizes a.points.now a.boards.now (held_at a.sizes a.starts.now a.bytes.now s)))

met : (c : tie.Else-not-pairs_meet) → meeting (st-lent-bytes (shared-slice-known4-at-pairs-meet c.before)) ≡ true
met c = sym c.before.pairs_meet.ensures ∙ not-false c.before.pairs_meet.result (ap not c.if-not-pairs_meet.false)

-- the length of a stripe
whole : (c : tie.After-stripe_len-b) → c.stripe_len-b.result ≡ B (st-stripe-len c).args.sizes
whole c = c.stripe_len-b.ensures ∙ ap (λ b. pick b (B (st-stripe-len c).args.sizes) 0) (st-stripe-len c).requires.0.sized

some : (c : tie.After-stripe_len-b) → 0 < c.stripe_len-b.result
some c = omega (arith, whole c, B-pos _ (facts (st-stripe-len c)))

-- the bytes of the stripes that are not cut
before : (c : tie.After-stripe_len-b) → let b = c.stripe_len-b.result in let L = (st-stripe-len c).args.len in (L / b * b ≤ L) × (L - L / b * b < b)
before c =
    let b = c.stripe_len-b.result in
    let L = (st-stripe-len c).args.len in
    (omega (arith, div-add-mod' L b), omega (arith, div-add-mod' L b, mod-lt L (some c)))

pairs-meet-requires : tie.Need-pairs_meet-requires
pairs-meet-requires c κs = let p = (st-lent-bytes c.before).requires in (p.0, p.1, p.2, p.3, p.5)

returns : tie.Need-returns-then-not-pairs_meet
returns c =
    let g = st-lent-bytes (shared-slice-known4-at-pairs-meet c.before) in
    let a = g.args in
    let p = g.requires in
    let k = c.before in
    no_pairs a.sizes a.points.now (facts g) p.0.distinct a.boards.now (known g) p.0.counted a.len a.stripes p.4 a.starts.now a.bytes.now p.1 p.2
    (bytes (shared-slice-known4-at-pairs-meet c.before)) (sym k.pairs_meet.ensures ∙ not-true k.pairs_meet.result (ap not c.if-not-pairs_meet.true))

div-whole : tie.Need-nonzero_div-whole
div-whole c = some c

mul-rest : tie.Need-overflow_mul-rest
mul-rest c = omega (arith, (before c.before).0)

sub-rest : tie.Need-overflow_sub-rest
sub-rest c = (before c.before).0

padding-requires : tie.Need-padding-requires
padding-requires c κs =
    let g = st-stripe-len c.before in
    let a = g.args in
    let p = g.requires in
    let k = c.before in (
      p.0,
      p.1,
      placed-before a.sizes a.starts.now a.bytes.now (a.len / k.stripe_len-b.result + 1) a.stripes (omega (arith, c.if-whole-stripes.true)) p.2,
      omega (arith, c.if-whole-stripes.true, p.3),
      omega (arith, (before k).1, whole k),
      p.5,
    )

returns-2 : tie.Need-returns-then-whole-stripes
returns-2 c =
    let g = st-padding c in
    let a = g.args in
    let p = g.requires in
    let k = stripe-len-at-padding c in
    c.padding.ensures
    ∙ last-cut a.sizes a.points.now (facts g) p.0.distinct a.boards.now (known g) p.0.counted a.len a.stripes p.4 a.starts.now a.bytes.now p.1 p.2
    (bytes (lent-bytes-at-padding c)) (met (stripe-len-at-padding c).before) k.stripe_len-b.result (whole k) c.before.if-whole-stripes.true

returns-3 : tie.Need-returns
returns-3 c =
    let g = st-stripe-len c.before in
    let a = g.args in
    let p = g.requires in
    let k = c.before in
    none-cut a.sizes a.points.now (facts g) p.0.distinct a.boards.now (known g) p.0.counted a.len a.stripes p.4 a.starts.now a.bytes.now p.1 p.2
    (bytes (lent-bytes-at-else2 c)) (met c.before.before) k.stripe_len-b.result (whole k) c.if-whole-stripes.false

pub agrees_spec : {M : Type 1} → statement M
agrees_spec =
    tie.close
    (tie.spec
    pairs-meet-requires
    returns
    (λ c κs. search rules)
    div-whole
    mul-rest
    sub-rest
    padding-requires
    returns-2
    returns-3)
