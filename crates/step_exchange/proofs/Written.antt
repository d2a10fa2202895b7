-- Bytes put one after another at a place, and what stands before them.
-- Assumes nothing.
use mathlib.Core.Path.{◌≡◌, sym, ap, ◌∙◌}
use mathlib.Core.List.{List, [], ◌∷◌, ◌++◌, append-nil, append_assoc}
use Prim.Native.Nat.{ℕ, ◌+◌, ◌-◌, ◌≤◌, ◌<◌}
use native.Mathlib.Numerals.{add-one}
use native.Mathlib.Omega.{arith}
use lib.ListN.{length, take, drop, set, take-append-drop}
use lib.Seq.{set_split}
use Rattle.lists.specs.Lists.{tabulate, put}
use Rattle.lists.proofs.Pieces.{length-tabulate, tabulate-suc}
use Rattle.lists.proofs.Put.{put-append, put-before, length-put}

pub put-none : (l : List ℕ) (at : ℕ) → l ≡ put l at []
unfolding put
put-none l at = let z : at + 0 ≡ at = omega arith in rw (append-nil, z) (sym (take-append-drop at l))

-- one byte
put_one : (l : List ℕ) (i v : ℕ) → i < length l → set l i v ≡ put l i (v ∷ [])
unfolding put
put_one l i v h =
    set_split l i v h ∙ sym (append_assoc (take i l) (v ∷ []) (drop (i + 1) l) ∙ ap (λ (n : ℕ). take i l ++ (v ∷ drop n l)) (add-one i))

-- one byte more
pub put-more : (l now : List ℕ) (at s v : ℕ) (f : ℕ → ℕ) → at + s < length l → now ≡ put l at (tabulate s f) → v ≡ f s
    → set now (at + s) v ≡ put l at (tabulate (s + 1) f)
put-more l now at s v f h e ev =
    let n : length (tabulate s f) ≡ s = length-tabulate s f in
    let fits : at + length (tabulate s f) ≤ length l = omega (arith, n) in
    ap (λ (x : List ℕ). set x (at + s) v) e
    ∙ put_one (put l at (tabulate s f)) (at + s) v (omega (arith, length-put l at (tabulate s f) fits))
    ∙ ap (λ (m : ℕ). put (put l at (tabulate s f)) (at + m) (v ∷ [])) (sym n)
    ∙ sym (put-append l at (tabulate s f) (v ∷ []) (omega (arith, n)))
    ∙ ap (put l at) (ap (λ (x : ℕ). tabulate s f ++ (x ∷ [])) ev ∙ sym (ap (λ (m : ℕ). tabulate m f) (add-one s) ∙ tabulate-suc s f))

-- as long
pub written-long : (l now : List ℕ) (at s : ℕ) (f : ℕ → ℕ) → at + s ≤ length l → now ≡ put l at (tabulate s f) → length now ≡ length l
written-long l now at s f h e = ap length e ∙ length-put l at (tabulate s f) (omega (arith, length-tabulate s f))

-- what stands before stays
pub heard-still : (l now : List ℕ) (at s from w : ℕ) (f : ℕ → ℕ) → at + s ≤ length l → from + w ≤ at → now ≡ put l at (tabulate s f)
    → take (from + w - from) (drop from now) ≡ take w (drop from l)
heard-still l now at s from w f h k e =
    let m : from + w - from ≡ w = omega arith in
    ap (λ (n : ℕ). take n (drop from now)) m ∙ ap (λ (x : List ℕ). take w (drop from x)) e
    ∙ put-before l at (tabulate s f) (omega (arith, length-tabulate s f)) from w k

-- at the end of the loop
pub written-end : (l now : List ℕ) (at s S : ℕ) (f : ℕ → ℕ) → s ≡ S → now ≡ put l at (tabulate s f) → now ≡ put l at (tabulate S f)
written-end l now at s S f e h = rw e at h
