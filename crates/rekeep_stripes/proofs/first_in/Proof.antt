-- `rekeep_stripes::first_in` meets its contract: 00 behind the bytes of f adds nothing.
-- Assumes nothing.
use mathlib.Core.Path.{◌≡◌, ap}
use lib.ListN.{length, take}
use native.Mathlib.Omega.{arith}
use borrow.Author.Rules.{rules}
use Rattle.lagrange_factors.proofs.Values.{dot-row}
use Rattle.own_rows.proofs.Kept.{f-row}
use Rattle.rekeep_stripes.proofs.first_in.Statement.{statement}
use Rattle.rekeep_stripes.proofs.first_in.Tie as tie

-- places in the code
abbrev start-of-slice_known-2-1 : tie.After-slice_known-2-1 → tie.Start
start-of-slice_known-2-1 c = c.before.before.before.before.before.before.before.before

abbrev start-of-dot : tie.After-dot → tie.Start
start-of-dot c = start-of-slice_known-2-1 c.before

-- the row has 32 bytes
long : (c : tie.Start) → length c.args.row.now ≡ 32
long c = ap length c.requires.3

part-copy-end-2 : tie.Need-slice_bounds-copy-end-2
part-copy-end-2 c = omega (arith, c.requires.0, long c.before.before.before.before)

dot-requires : tie.Need-dot-requires
dot-requires c κs = omega (arith, c.row-1.given, c.requires.2, long (start-of-slice_known-2-1 c))

returns : tie.Need-returns
returns c =
    let a = c.args in
    let p = c.requires in
    dot-row a.ff.now (take a.w a.stripe.now) _ a.row.now a.w _ p.3
    (f-row a.w a.stripe.now a.row.now _ p.1 (omega (arith, p.0, long (start-of-dot c))) c.copy.ensures) c.dot.ensures

pub first_in_spec : {M : Type 1} → statement M
first_in_spec =
    tie.close
    (tie.spec
    (λ c. search rules)
    (λ c. search rules)
    (λ c. search rules)
    (λ c. search rules)
    (λ c. search rules)
    part-copy-end-2
    (λ c κs. search rules)
    dot-requires
    (λ c. search rules)
    returns)
