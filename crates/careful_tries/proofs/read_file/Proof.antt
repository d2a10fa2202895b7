-- `careful_tries::read_file` meets its contract: the file by the boards and the tables of the try that found it.
-- Assumes nothing.
use mathlib.Core.Path.{◌≡◌, refl, sym, ◌∙◌, subst}
use mathlib.Core.Bool.{true}
use mathlib.Core.List.{List}
use Prim.Native.Nat.{ℕ, ◌*◌, ◌≤◌}
use native.Mathlib.Nat.{mul-le-mul_right}
use native.Mathlib.Omega.{arith}
use lib.ListN.{length, replicate}
use borrow.Author.Rules.{rules}
use borrow.Author.Tests.{not-true, not-false}
use Rattle.lists.proofs.Tests.{true-false}
use Rattle.sizes.specs.Sizing.{B}
use Rattle.sizes.proofs.Legal.{Legal, legal-facts}
use Rattle.store_spec.specs.Record.{Record}
use Rattle.store_spec.proofs.Records.{Sound, sound-facts, sound-points}
use Rattle.record.specs.Records.{record_of}
use Rattle.decode_stripe.specs.Steps.{Asked}
use Rattle.decode_stripe.proofs.Made.{part-long}
use Rattle.decode_setup.specs.Steps.{Made}
use Rattle.stripe_holds.proofs.Compared.{own-most, own_back}
use Rattle.store_holds.proofs.Stripes.{stripes-few}
use Rattle.careful_tries.specs.Steps.{Found}
use Rattle.careful_tries.proofs.Found.{written_is}
use Rattle.careful_tries.proofs.read_file.Statement.{statement}
use Rattle.careful_tries.proofs.read_file.Tie as tie

-- places in the code
abbrev start-of-points-1 : tie.After-points-1 → tie.Start
start-of-points-1 c = c.before.before.before.before.before

abbrev tries-tried-of-points-2-1 : tie.After-points-2-1 → tie.After-tries-tried
tries-tried-of-points-2-1 c = c.before.before.before.before.before

abbrev start-of-stripe_count-stripes : tie.After-stripe_count-stripes → tie.Start
start-of-stripe_count-stripes c = start-of-points-1 c.before

abbrev else-not-tried-of-slice_known-2-1 : tie.After-slice_known-2-1 → tie.Else-not-tried
else-not-tried-of-slice_known-2-1 c = c.before.before.before.before.before.before.before

abbrev start-of-tables-1 : tie.After-tables-1 → tie.Start
start-of-tables-1 c = start-of-stripe_count-stripes c.before.before

abbrev tries-tried-of-write_file-arg-2-1 : tie.After-write_file-arg-2-1 → tie.After-tries-tried
tries-tried-of-write_file-arg-2-1 c = tries-tried-of-points-2-1 c.before.before.before

abbrev start-of-tries-tried : tie.After-tries-tried → tie.Start
start-of-tries-tried c = start-of-tables-1 c.before

abbrev stripe_count-stripes-of-write_file-arg-2-1 : tie.After-write_file-arg-2-1 → tie.After-stripe_count-stripes
stripe_count-stripes-of-write_file-arg-2-1 c = c.before.before.before.before.before.before.before.before.before.before.before

abbrev tries-tried-of-slice_known-2-1 : tie.After-slice_known-2-1 → tie.After-tries-tried
tries-tried-of-slice_known-2-1 c = tries-tried-of-write_file-arg-2-1 c.before.before.before

abbrev start-of-write_file-arg-2-1 : tie.After-write_file-arg-2-1 → tie.Start
start-of-write_file-arg-2-1 c = start-of-tries-tried c.before.before.before.before.before.before.before.before

abbrev start-of-slice_known-2-1 : tie.After-slice_known-2-1 → tie.Start
start-of-slice_known-2-1 c = start-of-write_file-arg-2-1 c.before.before.before

-- places in the code
abbrev st : tie.After-stripe_count-stripes → tie.Start
st c = c.before.before.before.before.before.before

abbrev count-at-tries : tie.After-tries-tried → tie.After-stripe_count-stripes
count-at-tries c = c.before.before.before

-- ---- what is given

abbrev R : tie.Start → Record
R g = record_of g.args.kept

good : (g : tie.Start) → Sound (R g)
good g = sound-facts _ g.requires.0.is-sound

facts : (g : tie.Start) → Legal g.args.kept.sizes
facts g = legal-facts _ (good g).is-legal

not-long : (g : tie.Start) → g.args.kept.length ≤ 4096 * B g.args.kept.sizes
not-long g =
    let q : g.args.kept.capacity * B g.args.kept.sizes ≤ 4096 * B g.args.kept.sizes = mul-le-mul_right (B g.args.kept.sizes) (good g).cap-high in
    omega (arith, q, (good g).fits)

few : (c : tie.After-stripe_count-stripes) → c.stripe_count-stripes.result ≤ c.args.kept.capacity
few c = omega (arith, c.stripe_count-stripes.ensures.0, stripes-few (R (start-of-stripe_count-stripes c)) (good (start-of-stripe_count-stripes c)))

abbrev zeros : List ℕ
zeros = replicate 32 0

-- ---- the boards of the try that found the file, as they are lent again
module _ (c : tie.After-tries-tried) where
  abbrev g : tie.Start
  g = st (count-at-tries c)

  abbrev k : ℕ
  k = c.args.kept.sizes.k

  abbrev chosen : List ℕ
  chosen = c.tries-tried.new.chosen

  abbrev tables : List ℕ
  tables = c.tries-tried.new.tables

  long : length chosen ≡ k
  long = c.tries-tried.auto.chosen ∙ part-long k zeros (omega (arith, facts (start-of-tries-tried c)))

  module _ (yes : c.tries-tried.result.found ≡ true) where
    found : Found (R g) g.args.boards.now g.args.area.now chosen tables c.tries-tried.result.odd
    found = c.tries-tried.ensures.1 yes

    lent-made : (l : List ℕ) → l ≡ chosen → Asked g.args.kept.sizes g.args.kept.points l × Made g.args.kept.sizes g.args.kept.points l tables
    lent-made l e =
        subst (λ (b : List ℕ). Asked g.args.kept.sizes g.args.kept.points b × Made g.args.kept.sizes g.args.kept.points b tables) (sym e)
        (record { sized = (good g).is-legal; distinct = sound-points (R g) (good g); counted = found.named.0; known = found.named.1; unlike = found.named.2 }, found.made)

yes-at : (c : tie.Else-not-tried) → c.tries-tried.result.found ≡ true
yes-at c = not-false c.tries-tried.result.found c.if-not-tried.false

file-requires : tie.Need-write_file-requires
file-requires c κs =
    let w = lent-made (tries-tried-of-write_file-arg-2-1 c) (yes-at c.before.before.before.before) _ (own_back (k (tries-tried-of-write_file-arg-2-1 c)) zeros (chosen (tries-tried-of-write_file-arg-2-1 c)) (long (tries-tried-of-write_file-arg-2-1 c))) in
    (w.0, c.stripe_count-stripes.ensures.0, (good (start-of-write_file-arg-2-1 c)).cap-high, few (stripe_count-stripes-of-write_file-arg-2-1 c), c.requires.0.area-is, w.1, c.requires.1)

returns : tie.Need-returns-then-not-tried
returns c =
    let no = not-true c.tries-tried.result.found c.if-not-tried.true in
    (c.tries-tried.ensures.0, ((λ h. absurd (true-false h no)), ((λ h. absurd (true-false h no)), (λ h. refl))))

returns-2 : tie.Need-returns
returns-2 c =
    let yes = yes-at (else-not-tried-of-slice_known-2-1 c) in
    let f = found (tries-tried-of-slice_known-2-1 c) yes in (
      c.tries-tried.ensures.0,
      (
        (λ h. f.is_odd),
        (
          (λ h.
              written_is (R (start-of-slice_known-2-1 c)) (facts (start-of-slice_known-2-1 c)) c.args.area.now c.args.boards.now (chosen (tries-tried-of-slice_known-2-1 c)) _ (tables (tries-tried-of-slice_known-2-1 c)) c.args.out.now _ _ f
              (own_back (k (tries-tried-of-slice_known-2-1 c)) zeros (chosen (tries-tried-of-slice_known-2-1 c)) (long (tries-tried-of-slice_known-2-1 c))) c.write_file.ensures),
          (λ h. absurd (true-false yes h)),
        ),
      ),
    )

pub read_file_spec : {M : Type 1} → statement M
read_file_spec =
    tie.close
    (tie.spec
    (λ c κs. record { is-legal = (good (start-of-points-1 c)).is-legal; not-long = not-long (start-of-points-1 c) })
    (λ c. search rules)
    (λ c. search rules)
    (λ c. omega (arith, facts (start-of-stripe_count-stripes c)))
    (λ c. search rules)
    (λ c κs. (c.requires.0, c.stripe_count-stripes.ensures.0, part-long _ _ (omega (arith, facts (start-of-tables-1 c))), search rules))
    returns
    (λ c. search rules)
    (λ c. search rules)
    (λ c. search rules)
    (λ c. own-most (k (tries-tried-of-points-2-1 c)) zeros (chosen (tries-tried-of-points-2-1 c)) (long (tries-tried-of-points-2-1 c)))
    (λ c. search rules)
    file-requires
    (λ c. search rules)
    returns-2)
