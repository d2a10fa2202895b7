-- What the kernels of a read and of an edit ask, of a record and k boards that can be read from.
-- Assumes nothing.
use Prim.Native.Nat.{ℕ}
use mathlib.Core.List.{List}
use Rattle.store_spec.specs.Record.{Record}
use Rattle.store_spec.proofs.Records.{Reads}
use Rattle.store_lines.proofs.Ready.{ready}
use Rattle.decode_stripe.specs.Steps.{Asked}
use Rattle.store_work.specs.Steps.{Readable}

-- what a read or an edit told of its k boards
pub readable : (s : Record) (m : ℕ) (boards : List ℕ) → Reads s m s.sizes.k boards → Readable s m boards
readable s m boards f = record { is-sound = f.is-sound; area-is = f.area-is; count = f.count; named-below = f.named-below; all-different = f.all-different }

pub read_asked : (s : Record) (m : ℕ) (boards : List ℕ) → Readable s m boards → Asked s.sizes s.points boards
read_asked s m boards f =
    let r = ready s f.is-sound in
    record {
      sized = r.stated.is-legal;
      distinct = r.points-taken.differ;
      counted = f.count;
      known = f.named-below;
      unlike = f.all-different;
    }
