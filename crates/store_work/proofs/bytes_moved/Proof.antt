-- `store_work::bytes_moved` meets its contract: the numbers are small.
-- Assumes nothing.
use Prim.Native.Nat.{◌+◌, ◌*◌, ◌-◌, ◌≤◌}
use native.Mathlib.Nat.{mul-le-mul}
use native.Mathlib.Omega.{arith}
use borrow.Author.Rules.{rules}
use Rattle.sizes.proofs.Legal.{Legal, legal-facts}
use Rattle.store_work.proofs.bytes_moved.Statement.{statement}
use Rattle.store_work.proofs.bytes_moved.Tie as tie

legal-on : (g : tie.Start) → Legal g.args.sizes
legal-on g = legal-facts _ g.requires.0.is-legal

few-fresh : (g : tie.Start) → g.args.stripes * g.args.t ≤ 131072
few-fresh g =
    let t : g.args.t ≤ 32 = omega (arith, (legal-on g).enough, (legal-on g).few, g.requires.1) in
    mul-le-mul g.requires.0.few t

few_bytes : (g : tie.Start) → let z = g.args.sizes in g.args.stripes * g.args.t * (2 * z.d + z.r - 1) ≤ 12582912
few_bytes g =
    let w : 2 * g.args.sizes.d + g.args.sizes.r - 1 ≤ 96 = omega (arith, (legal-on g).enough, (legal-on g).few) in
    mul-le-mul (few-fresh g) w

-- the places
abbrev st-at-struct-known2 : tie.After-struct_known-2-1 → tie.Start
st-at-struct-known2 c = c.before.before

pub bytes_moved_spec : {M : Type 1} → statement M
bytes_moved_spec =
    tie.close
    (tie.spec
    (λ c. omega (arith, few-fresh c))
    (λ c. let f = legal-on c.before in omega (arith, f.enough, f.few))
    (λ c. let f = legal-on (st-at-struct-known2 c) in omega (arith, f.enough, f.few))
    (λ c. omega (arith, (legal-on (st-at-struct-known2 c)).some-fresh))
    (λ c. omega (arith, few_bytes (st-at-struct-known2 c)))
    (λ c. search rules))
