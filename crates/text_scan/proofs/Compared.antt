-- Tests in a row of which all but the last hold: the last decides; and what would follow if false were true.
-- Assumes nothing.
use Rattle.std.proofs.Common.{◌≡◌, Bool, true, false, [], ◌∷◌, refl, ap}
use Rattle.lists.specs.Tests.{pick, alls}

pub last-decides : (a b t : Bool) → a ≡ true → b ≡ true → t ≡ alls (a ∷ b ∷ t ∷ [])
last-decides a b true e f = rw (e, f) refl
last-decides a b false e f = rw (e, f) refl

pub never : (x y : Bool) → false ≡ true → x ≡ y
never x y e = ap (λ b. pick b y x) e
