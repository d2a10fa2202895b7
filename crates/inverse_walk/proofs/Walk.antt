-- The whole walk, computed once, and a turn of it.
-- Assumes nothing.
use mathlib.Core.Path.{◌≡◌, refl, sym, ap, ◌∙◌}
use mathlib.Core.List.{List}
use Prim.Native.Nat.{ℕ, suc, ◌-◌, ◌+◌, ◌<◌}
use native.Mathlib.Omega.{arith}
use lib.ListN.{set}
use Rattle.lists.specs.Lists.{tabulate}
use Rattle.gf256.specs.Field.{add, product, reduce, mul, squares, inverse}
use Rattle.inverse_walk.specs.Steps.{halved, walk}

pub walked : walk 255 1 1 (tabulate 256 (λ j. 0)) ≡ tabulate 256 inverse
unfolding add product reduce mul squares inverse halved walk
walked = refl

-- a turn of the walk, from what is left of it
pub walk_turn : (e x y x' y' : ℕ) (t w : List ℕ) → e < 255 → x' ≡ mul 2 x → y' ≡ halved y → walk (255 - e) x y t ≡ w
    → walk (255 - (e + 1)) x' y' (set t x y) ≡ w
unfolding walk
walk_turn e x y x' y' t w h ex ey i =
    let s : 255 - e ≡ suc (255 - (e + 1)) = omega arith in
    rw (ex, ey) (sym (ap (λ (n : ℕ). walk n x y t) s) ∙ i)

-- its end
pub walk_end : (e x y : ℕ) (t w : List ℕ) → e ≡ 255 → walk (255 - e) x y t ≡ w → t ≡ w
unfolding walk
walk_end e x y t w h i = sym (ap (λ (n : ℕ). walk (255 - n) x y t) h) ∙ i
