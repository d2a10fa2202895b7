-- `prefix_lines::number_on` meets its contract: each branch as the definition has it.
-- Assumes nothing.
use mathlib.Core.Path.{◌≡◌, sym, ◌∙◌, ap}
use mathlib.Core.Bool.{true, not}
use mathlib.Core.List.{[], ◌∷◌}
use Prim.Native.Nat.{◌+◌, ◌-◌, ◌≤◌, ◌<◌}
use native.Mathlib.Omega.{arith}
use lib.ListN.{length, get_or, drop}
use borrow.Author.Rules.{rules}
use borrow.Author.Tests.{not-true, not-false}
use Rattle.number_lines.specs.Lines.{digit}
use Rattle.number_lines.proofs.Fed.{digit-range}
use Rattle.prefix_spec.specs.Prefix.{opens}
use Rattle.prefix_spec.proofs.Numbers.{opens-yes, open-low}
use Rattle.prefix_steps.proofs.Steps.{goes-stop, stopped-range, name-value}
use Rattle.prefix_lines.proofs.Digits.{number_past, number-no-zero, number-zero, number-other, number-shut, number-digit}
use Rattle.prefix_lines.proofs.number_on.Statement.{statement}
use Rattle.prefix_lines.proofs.number_on.Tie as tie

-- places in the code
abbrev shared_slice_known-2-1-of-name_on : tie.After-name_on → tie.After-shared_slice_known-2-1
shared_slice_known-2-1-of-name_on c = c.before.before.before.before.before

abbrev shared_slice_known-2-1-of-digits_on : tie.After-digits_on → tie.After-shared_slice_known-2-1
shared_slice_known-2-1-of-digits_on c = c.before.before.before.before.before.before

abbrev shared_slice_known-2-1-of-stopped-then-not-opens : tie.After-stopped-then-not-opens → tie.After-shared_slice_known-2-1
shared_slice_known-2-1-of-stopped-then-not-opens c = c.before.before.before.before.before.before

inside : (c : tie.After-shared_slice_known-2-1) → c.args.at < length c.args.text.now
inside c = c.if-text-at.false

is_digit : (c : tie.Else-not-is_digit) → digit (get_or c.args.text.now c.args.at 0) ≡ true
is_digit c = sym c.is_digit.ensures ∙ not-false _ (ap not c.if-not-is_digit.false)

returns : tie.Need-returns-then-text-at
returns c =
    let a = c.args in (
      goes-stop a.text.now a.at _ c.stopped.result a.at c.stopped.ensures (λ go. number_past a.text.now a.lo a.hi a.at go c.if-text-at.true),
      stopped-range c.stopped.result a.at a.lo a.hi c.stopped.ensures,
    )

returns-2 : tie.Need-returns-then-lo-ne0
returns-2 c =
    let a = c.args in (
      goes-stop a.text.now a.at _ c.stopped-then-lo-ne0.result a.at c.stopped-then-lo-ne0.ensures
          (λ go. number-no-zero a.text.now a.lo a.hi a.at go (inside c.before.before.before) c.if-b-eq48.true c.if-lo-ne0.true),
      stopped-range c.stopped-then-lo-ne0.result a.at a.lo a.hi c.stopped-then-lo-ne0.ensures,
    )

returns-3 : tie.Need-returns-then-b-eq48
returns-3 c =
    let a = c.args in (
      λ go. number-zero a.text.now a.lo a.hi a.at go (inside (shared_slice_known-2-1-of-name_on c)) c.if-b-eq48.true c.if-lo-ne0.false ∙ c.name_on.ensures go,
      λ ok.
          let v = name-value a.text.now (0x0A ∷ []) (drop (a.at + 1) a.text.now) (a.at + 1) c.name_on.result c.name_on.ensures ok in
          (omega (arith, c.if-lo-ne0.false), omega (arith, v)),
    )

returns-4 : tie.Need-returns-then-not-is_digit
returns-4 c =
    let a = c.args in (
      goes-stop a.text.now a.at _ c.stopped-then-not-is_digit.result a.at c.stopped-then-not-is_digit.ensures
          (λ go. number-other a.text.now a.lo a.hi a.at go (inside c.before.before.before.before) c.if-b-eq48.false (sym c.is_digit.ensures ∙ not-true _ (ap not c.if-not-is_digit.true))),
      stopped-range c.stopped-then-not-is_digit.result a.at a.lo a.hi c.stopped-then-not-is_digit.ensures,
    )

low : (c : tie.Else-not-is_digit) → (0x30 ≤ get_or c.args.text.now c.args.at 0) × (get_or c.args.text.now c.args.at 0 ≤ 0x39)
low c = digit-range _ (is_digit c)

returns-5 : tie.Need-returns-then-not-opens
returns-5 c =
    let a = c.args in (
      goes-stop a.text.now a.at _ c.stopped-then-not-opens.result a.at c.stopped-then-not-opens.ensures
          (λ go. number-shut a.text.now a.lo a.hi a.at go (inside (shared_slice_known-2-1-of-stopped-then-not-opens c)) c.if-b-eq48.false (sym c.opens.ensures ∙ not-true _ (ap not c.if-not-opens.true))),
      stopped-range c.stopped-then-not-opens.result a.at a.lo a.hi c.stopped-then-not-opens.ensures,
    )

is_open : (c : tie.Else-not-opens) → opens c.args.lo c.args.hi
    (get_or c.args.text.now c.args.at 0 - 0x30) ≡ true
is_open c = sym c.opens.ensures ∙ not-false _ (ap not c.if-not-opens.false)

returns-6 : tie.Need-returns
returns-6 c =
    let a = c.args in (
      λ go. number-digit a.text.now a.lo a.hi a.at go (inside (shared_slice_known-2-1-of-digits_on c)) c.if-b-eq48.false (is_digit c.before.before.before) (is_open c.before) ∙ c.digits_on.ensures.0 go,
      c.digits_on.ensures.1,
    )

pub number_on_spec : {M : Type 1} → statement M
number_on_spec =
    tie.close
    (tie.spec
    (λ c κs. search rules)
    returns
    (λ c. search rules)
    (λ c κs. search rules)
    returns-2
    (λ c. search rules)
    (λ c κs. search rules)
    returns-3
    (λ c κs. search rules)
    (λ c κs. search rules)
    returns-4
    (λ c. (low c).0)
    (λ c. record { fits = omega (arith, (low c).1) })
    (λ c κs. omega (arith, (low c).1))
    (λ c κs. search rules)
    returns-5
    (λ c. search rules)
    (λ c κs. (open-low _ _ _ (opens-yes _ _ _ (is_open c)), c.requires))
    returns-6)
