-- Where a board's bytes lie in the area; and a packet put at a place.
-- Assumes nothing.
use Prim.Native.Nat.{ℕ, ◌+◌, ◌-◌, ◌*◌, ◌≤◌, ◌<◌}
use mathlib.Core.Path.{◌≡◌, sym, ◌∙◌, ap}
use mathlib.Core.List.{List, [], ◌++◌, append-nil, append_assoc}
use native.Mathlib.Nat.{mul-le-mul, mul-le-mul_right}
use native.Mathlib.Omega.{arith}
use lib.ListN.{length, take, drop, length-take, length-drop, drop_of_length-le}
use lib.Seq.{drop-drop}
use borrow.Rule.Slice.PartMut.{put_mid}
use Rattle.lists.specs.Lists.{put}
use Rattle.lists.proofs.Put.{part_end}
use Rattle.sizes.specs.declared.Sizes.{Sizes}
use Rattle.sizes.specs.Sizing.{α}
use Rattle.sizes.proofs.Legal.{Legal, α-most}
use Rattle.step_laws.specs.Steps.{held_at}

-- what board j holds lies in its part, and the area is no longer than 8,126,464 bytes
pub record Held (z : Sizes) (C S j : ℕ) : Type 0 where
  pub used : S * α z ≤ C * α z
  pub ends : j * (C * α z) + C * α z ≤ z.n * (C * α z)
  pub few : C * α z ≤ 253952
  pub all : z.n * (C * α z) ≤ 8126464

pub held_in : (z : Sizes) → Legal z → (C S j : ℕ) → C ≤ 4096 → S ≤ C → j < z.n → Held z C S j
held_in z f C S j hc hs hj =
    let few : C * α z ≤ 4096 * 62 = mul-le-mul hc (α-most z f) in
    record {
      used = mul-le-mul_right (α z) hs;
      ends = part_end j (C * α z) z.n hj;
      few = few;
      all = mul-le-mul f.few few;
    }

pub held-part : (z : Sizes) (C S j : ℕ) (area : List ℕ)
    → take (j * (C * α z) + S * α z - j * (C * α z)) (drop (j * (C * α z)) area) ≡ held_at z C S area j
held-part z C S j area =
    let e : j * (C * α z) + S * α z - j * (C * α z) ≡ S * α z = omega arith in
    ap (λ (m : ℕ). take m (drop (j * (C * α z)) area)) e

pub held-long : (z : Sizes) (C S j : ℕ) (area : List ℕ) → Held z C S j → length area ≡ z.n * (C * α z)
    → length (take (j * (C * α z) + S * α z - j * (C * α z)) (drop (j * (C * α z)) area)) ≡ S * α z
held-long z C S j area h l =
    let a = h.used in
    let b = h.ends in
    simp (length-take, length-drop) (omega arith)

-- a part that is written anew
pub put-made : (at w : ℕ) (l ys b : List ℕ) → length b ≡ w → ys ≡ b ++ drop w (take (at + w - at) (drop at l)) → put_mid at (at + w - at) l ys ≡ put l at b
unfolding put
put-made at w l ys b n e =
    let k : at + w - at ≡ length b = omega arith in
    let none : drop w (take (at + w - at) (drop at l)) ≡ [] = drop_of_length-le _ {i = w} (simp length-take (omega arith)) in
    ap (λ (x : List ℕ). put_mid at (at + w - at) l x) (e ∙ ap (λ (x : List ℕ). b ++ x) none ∙ append-nil b)
    ∙ ap (λ (v : ℕ). put_mid at v l b) k
    ∙ sym (append_assoc (take at l) b (drop (length b) (drop at l)))
    ∙ ap (λ (r : List ℕ). (take at l ++ b) ++ r) (drop-drop (length b) at l)

pub room : (at w : ℕ) (l : List ℕ) → at + w ≤ length l → w ≤ length (take (at + w - at) (drop at l))
room at w l h = simp (length-take, length-drop) (omega arith)

-- a part that is written anew as a whole
pub put_whole : (at w : ℕ) (l b : List ℕ) → length b ≡ w → put_mid at (at + w - at) l b ≡ put l at b
put_whole at w l b n =
    let none : drop w (take (at + w - at) (drop at l)) ≡ [] = drop_of_length-le _ {i = w} (simp length-take (omega arith)) in
    put-made at w l b b n (sym (ap (λ (x : List ℕ). b ++ x) none ∙ append-nil b))
