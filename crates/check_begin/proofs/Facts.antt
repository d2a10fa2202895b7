-- What it says of a call that its check of the area passes.
-- Assumes nothing.
use Prim.Native.Nat.{ℕ}
use mathlib.Core.Path.{◌≡◌, refl}
use mathlib.Core.Bool.{true}
use borrow.Author.Tests.{eqb-true}
use Rattle.lists.proofs.Tests.{not-no}
use Rattle.std.specs.Prelude.{Ok}
use Rattle.sizes.specs.declared.Refusal.TheVariants.{Size, Area}
use Rattle.sizes.specs.Refusals.{first, store_order}
use Rattle.sizes.proofs.Orders.{clear-off}
use Rattle.store_spec.specs.Record.{Record, sound, area_len}
use Rattle.beside_spec.specs.Running.{Running, sound_beside}
use Rattle.beside_spec.proofs.Beside.{both_facts}
use Rattle.check_begin.specs.Steps.{area_lines}

pub record Lent (s : Record) (p : Running) (m : ℕ) : Type 0 where
  pub is-sound : sound s ≡ true
  pub is-beside : sound_beside s p ≡ true
  pub area-is : m ≡ area_len s

pub area-facts : (s : Record) (p : Running) (m : ℕ) → first store_order (area_lines s p m) ≡ Ok tt → Lent s p m
area-facts s p m h =
    let off = clear-off (area_lines s p m) store_order h in
    let e = both_facts s p (off Size refl) in
    record { is-sound = e.0; is-beside = e.1; area-is = eqb-true _ _ (not-no _ (off Area refl)) }
