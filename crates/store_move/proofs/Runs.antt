-- The boards that are named for the fresh ones, in one list: none stands twice in a run of it.
-- Assumes nothing.
use Prim.Native.Nat.{ℕ, ◌<◌, ◌+◌}
use mathlib.Core.Path.{◌≡◌, ap, ap₂, ◌∙◌}
use mathlib.Core.List.{List, ◌++◌}
use native.Mathlib.Omega.{arith}
use lib.ListN.{length, length-append}
use Rattle.lists.specs.Lists.{piece}
use Rattle.lists.specs.Tests.{different}
use Rattle.lists.proofs.Pieces.{length-piece, piece-join}
use Rattle.sizes.proofs.Legal.{row_fits}
use Rattle.store_spec.specs.Record.{Record}
use Rattle.store_spec.specs.Packets.{stand_ins_each}
use Rattle.repair_stripe.specs.Steps.{DifferentRuns}
use Rattle.check_repair.proofs.Repairable.{Repairable}
use Rattle.repair_seam.proofs.Repaired.{named_of, run_of}

-- no fresh board names a board twice, in the list of all that are named
pub runs-named : (s : Record) (m : ℕ) (fresh helpers stand_ins : List ℕ) → Repairable s m fresh helpers stand_ins
    → DifferentRuns (run_of s fresh) fresh (named_of s fresh helpers stand_ins)
runs-named s m fresh helpers stand_ins f = record { each = λ a h. ap different (piece-join (length fresh) (run_of s fresh) _ named-run a h) ∙ f.runs-different a h }
  where
    d : ℕ
    d = s.sizes.d

    e : ℕ
    e = stand_ins_each s fresh

    named-run : (b : ℕ) → b < length fresh → length (piece d b helpers ++ piece e b stand_ins) ≡ run_of s fresh
    named-run b h =
        length-append (piece d b helpers) (piece e b stand_ins)
        ∙ ap₂ ◌+◌ (length-piece d b helpers (omega (arith, f.helper-count, row_fits b (length fresh) d h)))
        (length-piece e b stand_ins (omega (arith, f.stand-in-count, row_fits b (length fresh) e h)))
