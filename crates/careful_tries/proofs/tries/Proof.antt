-- `careful_tries::tries` meets its contract. The loop's invariant: the file is the first of the tries that are left.
-- Assumes nothing.
use mathlib.Core.Path.{◌≡◌, refl, sym, ap, ◌∙◌, subst}
use mathlib.Core.Bool.{true, false}
use Prim.Native.Nat.{ℕ, ◌-◌, ◌<◌, ◌≤◌}
use native.Mathlib.Omega.{arith}
use lib.ListN.{length}
use borrow.Author.Rules.{rules}
use Rattle.lists.specs.Lists.{Bytes}
use Rattle.lists.specs.Tests.{given}
use Rattle.lists.proofs.Alls.{all_of}
use Rattle.lists.proofs.Tests.{true-false}
use Rattle.store_spec.specs.Record.{Record}
use Rattle.store_spec.proofs.Records.{Sound, sound-facts}
use Rattle.record.specs.Records.{record_of}
use Rattle.careful_tries.proofs.Found.{attempt, Rest, step-none, step-some, end_none, all_are, found-by}
use Rattle.careful_tries.proofs.tries.Statement.{statement}
use Rattle.careful_tries.proofs.tries.Tie as tie

abbrev invariant-loop : tie.invariant-loop-end
invariant-loop kept stripes boards area chosen₀ tables₀ end₀ from₀ chosen tables end from =
    Rest (record_of kept) area boards end × (end ≤ length boards) × (length chosen ≡ kept.sizes.k) × (length tables ≡ 49152)

abbrev decreases-loop : tie.decreases-loop-end
decreases-loop kept stripes boards area chosen₀ tables₀ end₀ from₀ chosen tables end from = end

-- places in the code
abbrev try_pair-tried-of-else-tried : tie.Else-tried invariant-loop decreases-loop → tie.After-try_pair-tried invariant-loop decreases-loop
try_pair-tried-of-else-tried c = c.before.before.before.before.before

abbrev try_pair-tried-of-then-tried : tie.Then-tried invariant-loop decreases-loop → tie.After-try_pair-tried invariant-loop decreases-loop
try_pair-tried-of-then-tried c = c.before.before.before.before.before

abbrev start-of-loop-end : tie.After-loop-end invariant-loop decreases-loop → tie.Start invariant-loop decreases-loop
start-of-loop-end c = c.before.before.before.before.before.before

abbrev start-of-else-tried : tie.Else-tried invariant-loop decreases-loop → tie.Start invariant-loop decreases-loop
start-of-else-tried c = c.before.before.before.before.before.before.before.before.before.before.before.before.before.before.before

abbrev start-of-then-tried : tie.Then-tried invariant-loop decreases-loop → tie.Start invariant-loop decreases-loop
start-of-then-tried c = c.before.before.before.before.before.before.before.before.before.before.before.before.before.before.before

-- places in the code
abbrev st : tie.At-loop-end invariant-loop decreases-loop → tie.Start invariant-loop decreases-loop
st c = c.before.before.before.before.before

abbrev turn : tie.After-try_pair-tried invariant-loop decreases-loop → tie.In-loop-end invariant-loop decreases-loop
turn c = c.before.before.before.before

abbrev R : tie.Start invariant-loop decreases-loop → Record
R g = record_of g.args.kept

good : (g : tie.Start invariant-loop decreases-loop) → Sound (R g)
good g = sound-facts _ g.requires.0.is-sound

-- the pair that is left out
module _ (c : tie.After-try_pair-tried invariant-loop decreases-loop) where
  abbrev t : tie.In-loop-end invariant-loop decreases-loop
  t = turn c

  abbrev g : tie.Start invariant-loop decreases-loop
  g = st t.before

  abbrev p : ℕ
  p = c.pair_before-p.result

  p-is : p ≡ c.loop-end.end - 2
  p-is = c.pair_before-p.ensures

  some_left : 0 < c.loop-end.end
  some_left = c.loop-end-test.true

  bytes : Bytes c.args.area.now
  bytes = all_of (λ b. b < 256) 0 c.args.area.now (λ i h. omega (arith, c.shared_slice_known-2-1.given i))

loop-holds : tie.Need-loop-end-init invariant-loop decreases-loop
loop-holds c =
    let a = c.args in
    let bytes : Bytes a.area.now = all_of (λ b. b < 256) 0 a.area.now (λ i h. omega (arith, c.shared_slice_known-2-1.given i)) in
    (all_are (R c.before.before.before.before) a.area.now (good c.before.before.before.before) c.requires.0.area-is bytes a.boards.now c.requires.0.named, omega arith, c.requires.2, c.requires.3)

try-pair-requires : tie.Need-try_pair-tried-requires invariant-loop decreases-loop
try-pair-requires c κs =
    let l = c.loop-end in
    (c.requires.0, c.requires.1, omega (arith, c.pair_before-p.ensures, l.invariant.1, c.requires.0.named.0), l.invariant.2, l.invariant.3)

-- the file is found
returns : tie.Need-returns-then-tried invariant-loop decreases-loop
returns c =
    let l = c.loop-end in
    let a = c.args in
    let e = c.try_pair-tried.ensures in
    let yes : given (attempt (R (start-of-then-tried c)) a.area.now a.boards.now (p (try_pair-tried-of-then-tried c))) ≡ true = sym e.0 ∙ c.if-tried.true in
    let w = step-some (R (start-of-then-tried c)) a.area.now a.boards.now l.end (some_left (try_pair-tried-of-then-tried c)) l.invariant.0 (ap (λ (i : ℕ). given (attempt (R (start-of-then-tried c)) a.area.now a.boards.now i)) (sym (p-is (try_pair-tried-of-then-tried c))) ∙ yes) in (
      c.if-tried.true ∙ sym (ap given w.0 ∙ w.1),
      (λ h. found-by (R (start-of-then-tried c)) a.area.now (good (start-of-then-tried c)) c.requires.0.area-is (bytes (try_pair-tried-of-then-tried c)) a.boards.now c.requires.0.named l.end (p (try_pair-tried-of-then-tried c)) _ _ _ (some_left (try_pair-tried-of-then-tried c)) l.invariant.1 (p-is (try_pair-tried-of-then-tried c)) l.invariant.0
          yes e.1.1.0 e.1.1.1 (e.1.0 h)),
    )

-- it is not
loop-again : tie.Need-loop-end-preserved invariant-loop decreases-loop
loop-again c =
    let l = c.loop-end in
    let a = c.args in
    let no : given (attempt (R (start-of-else-tried c)) a.area.now a.boards.now (l.end - 2)) ≡ false =
    ap (λ (i : ℕ). given (attempt (R (start-of-else-tried c)) a.area.now a.boards.now i)) (sym (p-is (try_pair-tried-of-else-tried c))) ∙ sym c.try_pair-tried.ensures.0 ∙ c.if-tried.false in (
      subst (Rest (R (start-of-else-tried c)) a.area.now a.boards.now) (sym (p-is (try_pair-tried-of-else-tried c))) (step-none (R (start-of-else-tried c)) a.area.now a.boards.now l.end (some_left (try_pair-tried-of-else-tried c)) l.invariant.0 no),
      omega (arith, p-is (try_pair-tried-of-else-tried c), l.invariant.1),
      c.try_pair-tried.auto.chosen ∙ l.invariant.2,
      c.try_pair-tried.auto.tables ∙ l.invariant.3,
    )

returns-2 : tie.Need-returns invariant-loop decreases-loop
returns-2 c =
    let l = c.loop-end in
    (end_none (R (start-of-loop-end c)) c.args.area.now c.args.boards.now l.end (omega (arith, c.loop-end-test.false)) l.invariant.0, (λ h. absurd (true-false h refl)))

pub tries_spec : {M : Type 1} → statement M
tries_spec =
    tie.close
    (tie.spec
    invariant-loop
    decreases-loop
    loop-holds
    (λ c κs. search rules)
    try-pair-requires
    (λ c. search rules)
    (λ c. search rules)
    returns
    (λ c. omega (arith, p-is (try_pair-tried-of-else-tried c), some_left (try_pair-tried-of-else-tried c)))
    loop-again
    (λ c. search rules)
    (λ c. search rules)
    returns-2)
