-- `store::Store::write` meets its contract: it hands on what its check refuses, and past it the shares are written.
-- Assumes nothing.
use Prim.Native.Nat.{◌*◌, ◌≤◌}
use mathlib.Core.Path.{◌≡◌, sym, ◌∙◌}
use native.Mathlib.Nat.{mul-le-mul_right}
use native.Mathlib.Omega.{arith}
use mathlib.Core.List.{[]}
use lib.ListN.{length}
use borrow.Author.Rules.{rules}
use Rattle.std.specs.Prelude.{Ok}
use Rattle.sizes.specs.Sizing.{B}
use Rattle.sizes.proofs.Legal.{legal-facts, stripes-least}
use Rattle.store_spec.specs.Record.{Record}
use Rattle.beside_spec.specs.Running.{Running}
use Rattle.beside_spec.specs.Both.{write_both}
use Rattle.store_spec.proofs.Records.{Sound, sound-facts, Writes, write-facts}
use Rattle.record.specs.Records.{running_in}
use Rattle.store_work.specs.Handing.{turned_down}
use Rattle.store.specs.Handing.{record_in}
use Rattle.store_work.proofs.Settled.{checked, write-refuses, write_alone, write-works}
use Rattle.store.proofs.Store.write.Statement.{statement}
use Rattle.store.proofs.Store.write.Tie as tie

-- places in the code
abbrev in-default-of-write_shares-arg-1 : tie.After-write_shares-arg-1 → tie.In_default
in-default-of-write_shares-arg-1 c = c.before.before.before.before.before

abbrev check_write-of-write_shares-arg-1 : tie.After-write_shares-arg-1 → tie.After-check_write
check_write-of-write_shares-arg-1 c = c.before.before.before.before.before.before

abbrev in-default-of-first_on-marks : tie.After-first_on-marks → tie.In_default
in-default-of-first_on-marks c = in-default-of-write_shares-arg-1 c.before.before.before.before

abbrev start-of-points-2-1 : tie.After-points-2-1 → tie.Start
start-of-points-2-1 c = c.before.before.before.before.before.before.before.before.before

abbrev check_write-of-first_on-marks : tie.After-first_on-marks → tie.After-check_write
check_write-of-first_on-marks c = check_write-of-write_shares-arg-1 c.before.before.before.before

abbrev start-of-write_shares-arg-1 : tie.After-write_shares-arg-1 → tie.Start
start-of-write_shares-arg-1 c = start-of-points-2-1 c.before

abbrev R : tie.After-check_write → Record
R c = record_in c.args.self

abbrev P : tie.After-check_write → Running
P c = running_in c.args.running

-- what the check told
passed : (c : tie.In_default) → checked (R c.before) (P c.before) c.args.area.now c.args.file.now ≡ Ok tt
passed c = sym c.check_write.ensures ∙ c.in_default.is

facts : (c : tie.In_default) → Writes (R c.before) (length c.args.area.now) c.args.file.now
facts c =
    let a = c.args in
    write-facts (R c.before) (length a.area.now) a.file.now (write_alone (R c.before) (P c.before) a.area.now a.file.now (passed c))

sound-on : (c : tie.In_default) → Sound (R c.before)
sound-on c = sound-facts _ (facts c).is-sound

-- the file is at most 4,096 stripes
at_most : (c : tie.In_default) → length c.args.file.now ≤ 4096 * B (R c.before).sizes
at_most c =
    let s = R c.before in
    let p : s.capacity * B s.sizes ≤ 4096 * B s.sizes = mul-le-mul_right (B s.sizes) (sound-on c).cap-high in
    omega (arith, (facts c).file-fits, p)

-- there are 32 points
points-long : (g : tie.Start) → length g.args.self.record.points ≡ 32
points-long g = search rules

-- the work
shares-ask : tie.Need-write_shares-requires
shares-ask c κs =
    let s = R (check_write-of-write_shares-arg-1 c) in
    let f = sound-on (in-default-of-write_shares-arg-1 c) in
    let g = legal-facts _ f.is-legal in
    let e = c.stripe_count-count.ensures.0 in
    (f.is-legal, f.cap-high, points-long (start-of-write_shares-arg-1 c), e, rw e (stripes-least s.sizes g _ s.capacity (facts (in-default-of-write_shares-arg-1 c)).file-fits), (facts (in-default-of-write_shares-arg-1 c)).area-is)

write-done : tie.Need-returns
write-done c =
    write-works (R (check_write-of-first_on-marks c)) (P (check_write-of-first_on-marks c)) c.args.area.now c.args.file.now _ _ (passed (in-default-of-first_on-marks c)) c.first_on-marks.ensures c.write_shares.ensures

write-refused : (c : tie.In-Err)
    → let a = c.args in turned_down (R c.before) (P c.before) a.area.now [] [] c.in-Err.x ≡ write_both (R c.before) (P c.before) a.area.now a.file.now
write-refused c =
    write-refuses (R c.before) (P c.before) c.args.area.now c.args.file.now c.check_write.ensures c.in-Err.is

pub write_spec : {M : Type 1} → statement M
write_spec =
    tie.close
    (tie.spec
    (λ c κs. search rules)
    (λ c. search rules)
    (λ c κs. search rules)
    (λ c. c.refuse.ensures _ [] [] ∙ write-refused c.before)
    (λ c. search rules)
    (λ c κs. record { is-legal = (sound-on c.before.before).is-legal; not-long = at_most c.before.before })
    (λ c. sym (points-long (start-of-points-2-1 c)))
    shares-ask
    (λ c κs. search rules)
    (λ c. search rules)
    write-done)
