-- What a walk from the first combination meets: all of them, whatever the limit, and in blocks of 1,024 lines what the program writes.
-- Assumes nothing.
use Rattle.std.specs.Prelude.{◌≡◌, ℕ, ◌*◌, ◌≤◌, length, Some, None}
use Rattle.lists.specs.Lists.{join}
use Rattle.size_list.specs.Combinations.{combinations, rows}
use Rattle.size_steps.specs.Steps.{Place, met, after}

abbrev pub start : Place
start = Some (record { n = 2; k = 1; d = 1; r = 1 })

pub record WalkLaws : Type 0 where
  -- all combinations up to N, and then the end
  pub all : (N m : ℕ) → 2 ≤ N → length (combinations N) ≤ m → met N m start ≡ combinations N
  pub ends : (N m : ℕ) → 2 ≤ N → length (combinations N) ≤ m → after N m start ≡ None
  -- 46 blocks of 1,024 steps each
  pub blocks : (N : ℕ) → 2 ≤ N → N ≤ 32 → join 46 (λ t. rows (met N 1024 (after N (t * 1024) start))) ≡ rows (combinations N)
