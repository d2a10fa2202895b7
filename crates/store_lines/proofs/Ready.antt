-- What kernels ask of a record, where it is sound.
-- Assumes nothing.
use Prim.Native.Nat.{◌*◌, ◌≤◌}
use mathlib.Core.Path.{◌≡◌}
use mathlib.Core.Bool.{true}
use native.Mathlib.Nat.{mul-le-mul_right}
use native.Mathlib.Omega.{arith}
use lib.ListN.{length}
use Rattle.sizes.specs.Sizing.{B, stripes}
use Rattle.sizes.proofs.Legal.{legal-facts, stripes-least}
use Rattle.store_spec.specs.Record.{Record, sound}
use Rattle.store_spec.proofs.Records.{sound-facts}
use Rattle.line_checks.specs.Steps.{Stated}
use Rattle.board_lines.proofs.Facts.{Taken, taken}

pub record Ready (s : Record) : Type 0 where
  pub stated : Stated s.sizes s.length
  pub points-taken : Taken s.sizes s.points
  pub few-points : s.sizes.n ≤ length s.points
  pub cap-high : s.capacity ≤ 4096
  pub few-stripes : stripes s.sizes s.length ≤ s.capacity

pub ready : (s : Record) → sound s ≡ true → Ready s
ready s h =
    let f = sound-facts s h in
    let g = legal-facts _ f.is-legal in
    let t = taken s.sizes s.points f.is-legal f.is-pointed in
    let p : s.capacity * B s.sizes ≤ 4096 * B s.sizes = mul-le-mul_right (B s.sizes) f.cap-high in
    record {
      stated = record { is-legal = f.is-legal; not-long = omega (arith, f.fits, p) };
      points-taken = t;
      few-points = omega (arith, t.long, g.few);
      cap-high = f.cap-high;
      few-stripes = stripes-least s.sizes g s.length s.capacity f.fits;
    }
