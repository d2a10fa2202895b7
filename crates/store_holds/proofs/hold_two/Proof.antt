-- `store_holds::hold_two` meets its contract: the parts of boards are their shares, compared stripe by stripe.
-- Assumes nothing.
use mathlib.Core.Path.{◌≡◌, refl, sym, ap, ◌∙◌}
use mathlib.Core.List.{List}
use Prim.Native.Nat.{ℕ, ◌+◌, ◌*◌, ◌<◌, ◌≤◌}
use native.Mathlib.Omega.{arith}
use lib.ListN.{length, replicate, length-append}
use borrow.Author.Rules.{rules}
use Rattle.lists.specs.Lists.{Bytes}
use Rattle.lists.specs.Tests.{pick}
use Rattle.lists.proofs.Alls.{all_of}
use Rattle.sizes.specs.declared.Sizes.{Sizes}
use Rattle.sizes.specs.Sizing.{α, B}
use Rattle.sizes.proofs.Legal.{Legal, legal-facts, B-most}
use Rattle.mbcr.specs.Demand2.{Named}
use Rattle.store_spec.specs.Record.{Record, part_len}
use Rattle.store_spec.proofs.Records.{Sound, sound-facts}
use Rattle.record.specs.Records.{record_of}
use Rattle.powers.proofs.Turns.{powers-tabled}
use Rattle.decode_stripe.proofs.Made.{part-long}
use Rattle.decode_area.proofs.Parts.{below-32, lent-are, lent-long, lent_placed}
use Rattle.store_holds.proofs.Stripes.{stripes-few, asked_is, part-short, area-short, starts-low, stripes-low}
use Rattle.store_holds.proofs.hold_two.Statement.{statement}
use Rattle.store_holds.proofs.hold_two.Tie as tie

-- places in the code
abbrev places-of-points-3-1 : tie.After-points-3-1 → tie.After-places
places-of-points-3-1 c = c.before.before.before.before.before.before

abbrev start-of-stripe_len-b : tie.After-stripe_len-b → tie.Start
start-of-stripe_len-b c = c.before.before.before.before.before.before

abbrev start-of-struct_known-1 : tie.After-struct_known-1 → tie.Start
start-of-struct_known-1 c = start-of-stripe_len-b c.before

abbrev start-of-share_len : tie.After-share_len → tie.Start
start-of-share_len c = start-of-struct_known-1 c.before

abbrev start-of-struct_known-2-1 : tie.After-struct_known-2-1 → tie.Start
start-of-struct_known-2-1 c = start-of-share_len c.before

abbrev places-of-rows-1 : tie.After-rows-1 → tie.After-places
places-of-rows-1 c = places-of-points-3-1 c.before.before.before.before

abbrev start-of-starts-1 : tie.After-starts-1 → tie.Start
start-of-starts-1 c = start-of-struct_known-2-1 c.before

abbrev start-of-places : tie.After-places → tie.Start
start-of-places c = start-of-starts-1 c.before

abbrev places-of-rows-2-1 : tie.After-rows-2-1 → tie.After-places
places-of-rows-2-1 c = places-of-rows-1 c.before.before.before

abbrev share_len-of-rows-1 : tie.After-rows-1 → tie.After-share_len
share_len-of-rows-1 c = c.before.before.before.before.before.before.before.before.before.before.before.before.before

abbrev stripe_len-b-of-powers-3-1 : tie.After-powers-3-1 → tie.After-stripe_len-b
stripe_len-b-of-powers-3-1 c = c.before.before.before.before.before.before.before.before.before.before.before.before.before

abbrev start-of-powers-1 : tie.After-powers-1 → tie.Start
start-of-powers-1 c = start-of-places c.before.before.before

abbrev stripe_len-b-of-rows-1 : tie.After-rows-1 → tie.After-stripe_len-b
stripe_len-b-of-rows-1 c = stripe_len-b-of-powers-3-1 c.before.before

abbrev share_len-of-rows-2-1 : tie.After-rows-2-1 → tie.After-share_len
share_len-of-rows-2-1 c = share_len-of-rows-1 c.before.before.before

abbrev start-of-points-3-1 : tie.After-points-3-1 → tie.Start
start-of-points-3-1 c = start-of-powers-1 c.before.before.before

abbrev start-of-powers-3-1 : tie.After-powers-3-1 → tie.Start
start-of-powers-3-1 c = start-of-points-3-1 c.before.before

abbrev start-of-rows-1 : tie.After-rows-1 → tie.Start
start-of-rows-1 c = start-of-powers-3-1 c.before.before

abbrev start-of-rows-2-1 : tie.After-rows-2-1 → tie.Start
start-of-rows-2-1 c = start-of-rows-1 c.before.before.before

-- places in the code
abbrev st-first : tie.After-stripe_len-b → tie.Start
st-first c = c.before.before.before.before.before.before

abbrev len-at-part : tie.After-share_len → tie.After-stripe_len-b
len-at-part c = c.before.before

abbrev st : tie.After-share_len → tie.Start
st c = st-first (len-at-part c)

-- ---- what is given

abbrev R : tie.Start → Record
R g = record_of g.args.kept

good : (g : tie.Start) → Sound (R g)
good g = sound-facts _ g.requires.0

facts : (g : tie.Start) → Legal g.args.kept.sizes
facts g = legal-facts _ (good g).is-legal

few : (g : tie.Start) → g.args.stripes ≤ g.args.kept.capacity
few g = omega (arith, g.requires.1, stripes-few (R g) (good g))

-- the length of a stripe, and of a board's part
long : (c : tie.After-stripe_len-b) → c.stripe_len-b.result ≡ B c.args.kept.sizes
long c = c.stripe_len-b.ensures ∙ ap (λ b. pick b (B c.args.kept.sizes) 0) (good (start-of-stripe_len-b c)).is-legal

row : (c : tie.After-share_len) → c.share_len.result ≡ α c.args.kept.sizes
row c = c.share_len.ensures ∙ ap (λ b. pick b (α c.args.kept.sizes) 0) (good (start-of-share_len c)).is-legal

abbrev part : tie.After-share_len → ℕ
part c = c.args.kept.capacity * c.share_len.result

part-is : (c : tie.After-share_len) → part c ≡ part_len (R (start-of-share_len c))
part-is c = ap (λ (m : ℕ). c.args.kept.capacity * m) (row c)

-- a board's part is in the area
module _ (c : tie.After-share_len) where
  abbrev g : tie.Start
  g = st c

  abbrev z : Sizes
  z = c.args.kept.sizes

  short : part c ≤ 253952
  short = part-short z (facts (start-of-share_len c)) c.args.kept.capacity (part c) c.args.area.now (good (start-of-share_len c)).cap-high (part-is c) c.requires.5

  all_short : length c.args.area.now ≤ 8126464
  all_short = area-short z (facts (start-of-share_len c)) c.args.kept.capacity (part c) c.args.area.now (good (start-of-share_len c)).cap-high (part-is c) c.requires.5

  low : (i : ℕ) → i < z.n → i * part c + part c ≤ length c.args.area.now
  low = starts-low z (facts (start-of-share_len c)) c.args.kept.capacity (part c) c.args.area.now (good (start-of-share_len c)).cap-high (part-is c) c.requires.5

  in-part : (i : ℕ) → i < z.n → i * part c + c.args.stripes * α z ≤ length c.args.area.now
  in-part i h = stripes-low z (facts (start-of-share_len c)) c.args.kept.capacity (part c) c.args.area.now (good (start-of-share_len c)).cap-high (part-is c) c.requires.5 i c.args.stripes h (few (start-of-share_len c))

-- there are 32 points
points-long : (q : tie.Start) → length q.args.kept.points ≡ 32
points-long q = search rules

-- where the parts of the k boards start
abbrev zeros : List ℕ
zeros = replicate 32 0

abbrev starts : tie.After-places → List ℕ
starts c = c.places.new.out

starts-long : (c : tie.After-places) → length (starts c) ≡ c.args.kept.sizes.k
starts-long c = c.places.auto.out ∙ part-long _ _ (omega (arith, facts (start-of-places c)))

places-requires : tie.Need-places-requires
places-requires c κs =
    let f = facts (start-of-starts-1 c) in (
      below-32 c.args.kept.sizes c.args.boards.now f.few c.requires.2.known,
      short c.before.before,
      omega (arith, f, c.requires.2.counted),
      part-long _ _ (omega (arith, f)) ∙ sym c.requires.2.counted,
    )

fill-powers-requires : tie.Need-fill_powers-requires
fill-powers-requires c κs =
    let f = facts (start-of-powers-1 c) in
    (points-long (start-of-powers-1 c), omega (arith, f.enough, f.few), omega (arith, f.enough, f.few))

hold-stripes-requires : tie.Need-hold_stripes-requires
hold-stripes-requires c κs =
    let a = c.args in
    let r = a.kept in
    let p = c.requires in (
      p.2,
      lent-long r.sizes r.capacity r.length a.stripes (part (share_len-of-rows-1 c)) a.boards.now a.area.now zeros (starts (places-of-rows-1 c))
          p.2.known p.2.counted p.5 p.1 (few (start-of-rows-1 c)) (part-is (share_len-of-rows-1 c)) c.places.ensures,
      lent_placed r.sizes r.capacity r.length a.stripes (part (share_len-of-rows-1 c)) a.boards.now a.area.now zeros (starts (places-of-rows-1 c))
          p.2.known p.2.counted p.5 p.1 (few (start-of-rows-1 c)) (part-is (share_len-of-rows-1 c)) c.places.ensures,
      omega (arith, few (start-of-rows-1 c), (good (start-of-rows-1 c)).cap-high),
      p.6,
      points-long (start-of-rows-1 c),
      p.3,
      in-part (share_len-of-rows-1 c) a.p p.3,
      p.4,
      in-part (share_len-of-rows-1 c) a.q p.4,
      all_short (share_len-of-rows-1 c),
      c.fill_powers.auto.tables,
      powers-tabled r.points _ _ (r.sizes.d + r.sizes.r) (points-long (start-of-rows-1 c)) c.fill_powers.ensures,
      part-long _ _ (omega (arith, long (stripe_len-b-of-rows-1 c), B-most _ (facts (start-of-rows-1 c)))) ∙ long (stripe_len-b-of-rows-1 c),
      refl {a = 992},
    )

returns : tie.Need-returns
returns c =
    let a = c.args in
    let r = a.kept in
    let p = c.requires in
    let bytes : Bytes a.area.now = all_of (λ b. b < 256) 0 a.area.now (λ i h. omega (arith, c.shared_slice_known-2-1.given i)) in
    let named : Named r.sizes r.sizes.k a.boards.now = (p.2.counted, p.2.known, p.2.unlike) in
    let are = lent-are r.sizes r.capacity r.length a.stripes (part (share_len-of-rows-2-1 c)) a.boards.now a.area.now zeros (starts (places-of-rows-2-1 c))
    p.2.known p.2.counted p.5 p.1 (few (start-of-rows-2-1 c)) (part-is (share_len-of-rows-2-1 c)) c.places.ensures in (
      (λ there. asked_is (R (start-of-rows-2-1 c)) a.area.now (good (start-of-rows-2-1 c)) p.5 bytes a.boards.now named there a.p a.stripes (part (share_len-of-rows-2-1 c)) _ _ p.3 p.1 (part-is (share_len-of-rows-2-1 c)) are c.hold_stripes.ensures.0),
      (λ there. asked_is (R (start-of-rows-2-1 c)) a.area.now (good (start-of-rows-2-1 c)) p.5 bytes a.boards.now named there a.q a.stripes (part (share_len-of-rows-2-1 c)) _ _ p.4 p.1 (part-is (share_len-of-rows-2-1 c)) are c.hold_stripes.ensures.1),
    )

pub hold_two_spec : {M : Type 1} → statement M
hold_two_spec =
    tie.close
    (tie.spec
    (λ c κs. search rules)
    (λ c. omega (arith, facts (start-of-struct_known-1 c)))
    (λ c κs. search rules)
    (λ c. omega (arith, short c.before))
    (λ c. omega (arith, low c.before c.args.p c.requires.3, all_short c.before))
    (λ c. omega (arith, low c.before c.args.q c.requires.4, all_short c.before))
    (λ c. search rules)
    (λ c. search rules)
    (λ c. omega (arith, facts (start-of-struct_known-2-1 c)))
    places-requires
    (λ c. search rules)
    (λ c. search rules)
    fill-powers-requires
    (λ c. sym (points-long (start-of-points-3-1 c)))
    (λ c. search rules)
    (λ c. search rules)
    (λ c. simp length-append (omega (arith, facts (start-of-points-3-1 c), starts-long (places-of-points-3-1 c))))
    (λ c. search rules)
    (λ c. search rules)
    (λ c. search rules)
    (λ c. omega (arith, long (stripe_len-b-of-powers-3-1 c), B-most _ (facts (start-of-powers-3-1 c))))
    (λ c. search rules)
    hold-stripes-requires
    returns)
