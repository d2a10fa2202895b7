-- How far a line goes from a place of a text, as functions tell it.
-- Assumes nothing.
use Rattle.std.specs.Prelude.{◌≡◌, false, List, ℕ, ◌+◌, drop}
use Rattle.lists.specs.Tests.{pick}
use Rattle.prefix_steps.specs.declared.Went.{Went}

-- no further than this place
abbrev pub stopped : ℕ → Went
stopped at = record { ok = false; value = 0; at = at }

-- the count, from a place on, with whatever follows: where the line went through, what follows goes on from the place behind it; else that place is the end
abbrev pub Goes : List ℕ → ℕ → ((ℕ → List ℕ → ℕ) → ℕ) → Went → Type 0
Goes text at count w = (go : ℕ → List ℕ → ℕ) → at + count go ≡ pick w.ok (w.at + go w.value (drop w.at text)) w.at
