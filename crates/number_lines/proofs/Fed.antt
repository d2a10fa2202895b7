-- What a byte gives, case by case; the digits.
-- Assumes nothing.
use mathlib.Core.Path.{◌≡◌, refl, sym, ◌∙◌}
use mathlib.Core.Bool.{Bool, true, false}
use mathlib.Core.List.{List}
use Prim.Native.Nat.{ℕ, ◌≤◌, ◌<◌}
use native.Mathlib.Omega.{arith}
use lib.Dec.{ltb}
use lib.ListN.{length}
use borrow.Author.Tests.{ltb-true, ltb-false, lt-ltb, le-ltb}
use Rattle.lists.proofs.Tests.{true-false}
use Rattle.number_lines.specs.declared.Reader.{Reader}
use Rattle.number_lines.specs.Lines.{digit}
use Rattle.number_lines.specs.Steps.{fed_lone, fed_digits, fed_first, fed_name, fed}
use Rattle.number_lines.proofs.Picks.{yes, no, if-eq, if-ne, if-lt, if-le}

abbrev pub Digit : ℕ → Type 0
Digit c = (0x30 ≤ c) × (c ≤ 0x39)

pub digit-yes : (c : ℕ) → Digit c → digit c ≡ true
digit-yes c h = no (ltb c 0x30) false (ltb c 0x3A) (le-ltb c 0x30 h.0) ∙ lt-ltb c 0x3A (omega (arith, h.1))

pub digit-range : (b : ℕ) → digit b ≡ true → Digit b
digit-range b e = go (ltb b 0x30) refl
  where
    go : (t : Bool) → ltb b 0x30 ≡ t → Digit b
    go true h = absurd (true-false e (yes (ltb b 0x30) false (ltb b 0x3A) h))
    go false h =
        let k = ltb-false b 0x30 h in
        let m = ltb-true b 0x3A (sym (no (ltb b 0x30) false (ltb b 0x3A) h) ∙ e) in
        (k, omega arith)

module _ (name : List ℕ) (most : ℕ) (r : Reader) (b : ℕ) where
  pub fed-lone : r.part ≡ 1 → fed name most r b ≡ fed_lone b
  unfolding fed
  fed-lone e = if-eq r.part 1 _ _ e

  module _ (not-lone : r.part ≡ 1 → ⊥) where
    pub fed-digits : r.part ≡ 2 → fed name most r b ≡ fed_digits most r b
    unfolding fed
    fed-digits e = if-ne r.part 1 _ _ not-lone ∙ if-eq r.part 2 _ _ e

    module _ (no-digits : r.part ≡ 2 → ⊥) where
      pub fed-name : r.at < length name → fed name most r b ≡ fed_name name r b
      unfolding fed
      fed-name h = if-ne r.part 1 _ _ not-lone ∙ if-ne r.part 2 _ _ no-digits ∙ if-lt r.at (length name) _ _ h

      pub fed-first : length name ≤ r.at → fed name most r b ≡ fed_first most r b
      unfolding fed
      fed-first h = if-ne r.part 1 _ _ not-lone ∙ if-ne r.part 2 _ _ no-digits ∙ if-le r.at (length name) _ _ h
