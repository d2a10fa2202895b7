-- A part of a list that is lent, filled and put back.
-- Assumes nothing.
use mathlib.Core.Path.{◌≡◌, sym, ap, ◌∙◌}
use mathlib.Core.List.{List, ◌++◌, append_assoc}
use Prim.Native.Nat.{ℕ, ◌+◌, ◌-◌, ◌≤◌}
use native.Mathlib.Omega.{arith}
use lib.ListN.{length, take, drop, length-drop}
use lib.Seq.{drop-drop, length-take-le}
use borrow.Rule.Slice.PartMut.{put_mid}
use Rattle.lists.specs.Lists.{put}

-- as much as is lent
pub part-there : (a m : ℕ) (l : List ℕ) → a + m ≤ length l → length (take (a + m - a) (drop a l)) ≡ m
part-there a m l fits = length-take-le (a + m - a) (drop a l) (omega (arith, length-drop a l, fits)) ∙ omega arith

-- what the list is then
pub put-part : (a m : ℕ) (l y : List ℕ) → length y ≡ m → put_mid a (a + m - a) l y ≡ put l a y
unfolding put
put-part a m l y e =
    let h : a + m - a ≡ length y = omega (arith, e) in
    ap (λ (v : ℕ). take a l ++ (y ++ drop v (drop a l))) h ∙ ap (λ (x : List ℕ). take a l ++ (y ++ x)) (drop-drop (length y) a l)
    ∙ sym (append_assoc (take a l) y (drop (a + length y) l))
