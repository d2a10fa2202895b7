-- `step_packet::place` meets its contract.
-- Assumes nothing.
use mathlib.Core.Path.{sym, ap}
use Prim.Native.Nat.{ℕ, ◌+◌, ◌*◌, ◌≤◌}
use native.Mathlib.Nat.{mul-le-mul, min-eq_left, min-eq_right}
use borrow.Author.Rules.{rules}
use native.Mathlib.Omega.{arith}
use Rattle.step_packet.proofs.place.Statement.{statement}
use Rattle.step_packet.proofs.place.Tie as tie

-- the greatest place
few : (m S : ℕ) → m ≤ 4096 → S ≤ 4096 → m * S ≤ 16777216
few m S h k = mul-le-mul h k

returns : tie.Need-returns-then-q-h
returns c =
    let a = c.before.args in
    let k : a.q ≤ a.h = omega (arith, c.if-q-h.true) in
    ap (λ (x : ℕ). (a.q + x) * a.stripes) (sym (min-eq_left k))

returns-2 : tie.Need-returns-else-q-h
returns-2 c =
    let a = c.before.args in
    let k : a.h ≤ a.q = omega (arith, c.if-q-h.false) in
    ap (λ (x : ℕ). (a.q + x) * a.stripes) (sym (min-eq_right k))

pub place_spec : {M : Type 1} → statement M
place_spec =
    tie.close
    (tie.spec
    (λ c. search rules)
    (λ c. let a = c.before.args in let p = c.before.requires in omega (arith, few (a.q + a.q) a.stripes (omega (arith, p.1)) p.2))
    (λ c. search rules)
    (λ c. let a = c.before.args in let p = c.before.requires in omega (arith, few (a.q + a.h) a.stripes (omega (arith, p.0, p.1)) p.2))
    returns
    returns-2)
