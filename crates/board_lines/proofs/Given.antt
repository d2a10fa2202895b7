-- Lines in the order in which a call tests them; and that the bytes of shares and packets are few.
-- Assumes nothing.
use Prim.Native.Nat.{ℕ, ◌*◌, ◌≤◌}
use mathlib.Core.Path.{◌≡◌, refl, ◌∙◌}
use mathlib.Core.Bool.{Bool, true}
use mathlib.Core.List.{List, [], ◌∷◌}
use native.Mathlib.Omega.{arith}
use native.Mathlib.Nat.{mul-le-mul_right}
use Rattle.lists.specs.Tests.{pick}
use Rattle.std.specs.Prelude.{Ok, Err}
use Rattle.sizes.specs.Refusals.{Line, Check}

-- lines in the order in which a call tests them
abbrev pub chain : List Line → Check
chain [] = Ok tt
chain (l ∷ lines) = pick l.applies (Err l.refusal) (chain lines)

-- the bytes of so many stripes, and that they are few
pub as_many : (s q S a : ℕ) (t : Bool) → s ≡ S → q ≡ pick t a 0 → t ≡ true → s * q ≡ S * a
as_many s q S a t e f h = rw e (rw f (rw h refl))

pub few_bytes : (s q a : ℕ) (t : Bool) → s ≤ 4096 → q ≡ pick t a 0 → t ≡ true → a ≤ 62 → s * q ≤ 253952
few_bytes s q a t h f g k =
    let e : q ≡ a = f ∙ rw g refl in
    let p : s * q ≤ 4096 * q = mul-le-mul_right q h in
    omega arith

-- the bytes of the packets of so many boards are few
pub few-packets : (m s b : ℕ) → m ≤ 32 → s ≤ 4096 → b ≤ 2 → m * (b * s) ≤ 262144
few-packets m s b h k l =
    let p : b * s ≤ 2 * s = mul-le-mul_right s l in
    let q : m * (b * s) ≤ 32 * (b * s) = mul-le-mul_right (b * s) h in
    omega arith
