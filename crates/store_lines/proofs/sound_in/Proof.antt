-- `store_lines::sound_in` meets its contract: the tests in their order.
-- Assumes nothing.
use Prim.Native.Nat.{◌*◌, ◌≤◌}
use mathlib.Core.Path.{◌≡◌, refl, sym, ap, ◌∙◌}
use mathlib.Core.Bool.{true, not}
use native.Mathlib.Omega.{arith}
use lib.ListN.{length, drop}
use borrow.Author.Rules.{rules}
use Rattle.lists.proofs.Tests.{not-no}
use Rattle.sizes.specs.Sizing.{B}
use Rattle.sizes.proofs.Legal.{legal-facts, B-most}
use Rattle.store_spec.specs.Record.{Record, all_off, sound}
use Rattle.record.specs.Records.{record_of}
use Rattle.store_lines.proofs.Sound.{few, not-pointed, Sized, no-room, much-room, Roomy, long, past, accepted, some-length, by-marks}
use Rattle.store_lines.proofs.sound_in.Statement.{statement}
use Rattle.store_lines.proofs.sound_in.Tie as tie

abbrev R : tie.After-points_taken → Record
R c = record_of c.args.kept

-- there are 32 marks
marks-long : (g : tie.Start) → length g.args.kept.marks ≡ 32
marks-long g = search rules

-- what is known there
sized_on : (c : tie.Else-not-points_taken) → Sized (R c.before)
sized_on c = record { is-legal = c.requires; is-pointed = sym c.points_taken.ensures ∙ not-no _ (ap not c.if-not-points_taken.false) }

roomy-on : (c : tie.After-stripe_len) → Roomy (R c.before.before.before.before.before.before)
roomy-on c = record { sized = sized_on c.before.before.before.before.before; low = c.if-kept-lt1.false; high = c.if-kept-gt-MAX_STRIPES.false }

-- the sizes are legal, so the answer of `stripe_len` is B
stripe : (c : tie.After-stripe_len) → c.stripe_len.result ≡ B (R c.before.before.before.before.before.before).sizes
stripe c = c.stripe_len.ensures ∙ (rw c.requires refl)

-- the file's room
room : (c : tie.After-stripe_len) → let s = R c.before.before.before.before.before.before in s.capacity * c.stripe_len.result ≡ s.capacity * B s.sizes
room c = ap (λ m. (R c.before.before.before.before.before.before).capacity * m) (stripe c)

fits_on : (c : tie.Else-kept-stripe_len) → let s = R c.before.before.before.before.before.before.before.before.before in s.length ≤ s.capacity * B s.sizes
fits_on c = omega (arith, room c.before.before.before, c.if-kept-stripe_len.false)

beyond-on : (c : tie.Else-some_on) → let s = R c.before.before.before.before.before.before.before.before.before.before.before.before in all_off (drop s.sizes.n s.marks) ≡ true
beyond-on c = sym c.some_on.ensures ∙ ap not c.if-some_on.false

-- the last test is of all marks
last_on : (c : tie.After-some_on-2) → not c.some_on-2.result ≡ sound (R c.before.before.before.before.before.before.before.before.before.before.before.before.before.before.before.before.before)
last_on c =
    c.some_on-2.ensures ∙ by-marks _ (roomy-on c.before.before.before.before.before.before.before.before.before.before.before) (fits_on c.before.before.before.before.before.before.before.before) (beyond-on c.before.before.before.before.before) c.if-kept.false c.if-kept-gt0.false

pub sound_in_spec : {M : Type 1} → statement M
sound_in_spec =
    tie.close
    (tie.spec
    (λ c. search rules)
    (λ c κs. c.requires)
    (λ c. not-pointed (R c.before) c.requires (ap not (sym c.points_taken.ensures) ∙ (ap not c.if-not-points_taken.true)))
    (λ c. no-room _ (sized_on c.before.before) c.if-kept-lt1.true)
    (λ c. much-room _ (sized_on c.before.before.before.before) c.if-kept-lt1.false c.if-kept-gt-MAX_STRIPES.true)
    (λ c κs. search rules)
    (λ c. let k = roomy-on c.before in omega (arith, few _ c.stripe_len.result _ k.high (stripe c.before) (B-most _ (legal-facts _ k.sized.is-legal))))
    (λ c. long _ (roomy-on c.before.before.before) (omega (arith, room c.before.before.before, c.if-kept-stripe_len.true)))
    (λ c. sym (marks-long c.before.before.before.before.before.before.before.before.before.before.before.before.before.before.before))
    (λ c κs. search rules)
    (λ c. past _ (roomy-on c.before.before.before.before.before.before) (fits_on c.before.before.before) (sym c.some_on.ensures ∙ ap not c.if-some_on.true))
    (λ c. accepted _ (roomy-on c.before.before.before.before.before.before.before) (fits_on c.before.before.before.before) (beyond-on c.before) c.if-kept.true)
    (λ c. some-length _ (roomy-on c.before.before.before.before.before.before.before.before.before) (fits_on c.before.before.before.before.before.before) (beyond-on c.before.before.before) c.if-kept.false c.if-kept-gt0.true)
    (λ c. sym (marks-long c.before.before.before.before.before.before.before.before.before.before.before.before.before.before.before.before.before.before.before.before.before))
    (λ c κs. search rules)
    (λ c. ap not (sym c.if-some_on-2.true) ∙ last_on c.before)
    (λ c. ap not (sym c.if-some_on-2.false) ∙ last_on c.before))
