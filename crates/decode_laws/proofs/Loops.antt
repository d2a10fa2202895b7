-- Parts of lists that were lent and are put back, as the borrow checker has them, and loops that put pieces behind each other.
-- Assumes nothing.
use mathlib.Core.Path.{◌≡◌, refl, sym, ap, ap₂, ◌∙◌}
use mathlib.Core.Bool.{Bool, true, false}
use mathlib.Core.List.{List, ◌++◌, append-nil, append_assoc}
use Prim.Native.Nat.{ℕ, suc, ◌+◌, ◌*◌, ◌-◌, ◌<◌, ◌≤◌}
use native.Mathlib.Nat.{sub-zero, suc-mul}
use native.Mathlib.Numerals.{add-one}
use native.Mathlib.Omega.{arith}
use lib.ListN.{length, take, drop, length-append, drop_of_length-le}
use lib.Seq.{take_at, drop_at, drop-cons}
use borrow.Rule.Slice.PartMut.{put_mid}
use Rattle.lists.specs.Tests.{pick, alls}
use Rattle.lists.specs.Lists.{tabulate, join}
use Rattle.lists.proofs.Pieces.{join-turn, length-tabulate, tabulate-at}

-- a turn of a loop that puts one piece of w bytes behind the others
pub join-loop : (f : ℕ → List ℕ) (w s : ℕ) (out₀ out ys : List ℕ) → ((i : ℕ) → i < s → length (f i) ≡ w) → ys ≡ f s
    → out ≡ join s f ++ drop (s * w) out₀ → put_mid (s * w) (s * w + w - s * w) out ys ≡ join (s + 1) f ++ drop ((s + 1) * w) out₀
join-loop f w s out₀ out ys h ey eo =
    let a : s * w + w - s * w ≡ w = omega arith in
    let b : (s + 1) * w ≡ s * w + w = ap (λ (m : ℕ). m * w) (add-one s) ∙ suc-mul s w in
    ap₂ {C = List ℕ} (λ (m : ℕ) (y : List ℕ). put_mid (s * w) m out y) a ey
    ∙ ap (λ (l : List ℕ). put_mid (s * w) w l (f s)) eo
    ∙ join-turn s w f out₀ h
    ∙ ap₂ {C = List ℕ} (λ (i j : ℕ). join i f ++ drop j out₀) (sym (add-one s)) (sym b)

-- at its end all is filled in
pub join-end : (f : ℕ → List ℕ) (w s n : ℕ) (out₀ out : List ℕ) → s ≡ n → length out₀ ≡ n * w → out ≡ join s f ++ drop (s * w) out₀ → out ≡ join n f
join-end f w s n out₀ out e l h =
    h ∙ ap (λ (m : ℕ). join m f ++ drop (m * w) out₀) e
    ∙ ap (λ (x : List ℕ). join n f ++ x) (drop_of_length-le out₀ {i = n * w} (omega arith)) ∙ append-nil (join n f)

-- the first m bytes, lent and put back, again
pub back-part : (m : ℕ) (l y : List ℕ) → length y ≡ m → take (m - 0) (drop 0 (put_mid 0 (m - 0) l y)) ≡ y
back-part m l y e = ap (λ (k : ℕ). take k (put_mid 0 (m - 0) l y)) (sub-zero m) ∙ take_at y _ m e

-- parts put in one after another
pub put_next : (p r y l : List ℕ) (a m : ℕ) → length p ≡ a → l ≡ p ++ r → put_mid a m l y ≡ (p ++ y) ++ drop m r
put_next p r y l a m h e =
    ap (λ (l : List ℕ). put_mid a m l y) e
    ∙ ap₂ {C = List ℕ} (λ s t. s ++ (y ++ drop m t)) (take_at p r a h) (drop_at p r a h) ∙ sym (append_assoc p y (drop m r))

pub three-parts : (a b : ℕ) (u x y w : List ℕ) → a ≤ b → length x ≡ a → length y ≡ b - a
    → put_mid b (length u - b) (put_mid a (b - a) (put_mid 0 (a - 0) u x) y) w ≡ x ++ y ++ w
three-parts a b u x y w h lx ly =
    let r : List ℕ = drop (a - 0) u in
    let s : List ℕ = drop (b - a) r in
    let n : length (x ++ y) ≡ b = length-append x y ∙ omega arith in
    put_next (x ++ y) s w _ b (length u - b) n (put_next x r y (x ++ r) a (b - a) lx refl)
    ∙ ap (λ (l : List ℕ). (x ++ y) ++ w ++ l) (drop_of_length-le s {i = length u - b} (simp lib.ListN.length-drop (omega arith)))
    ∙ append-nil (x ++ y ++ w)

-- ---- a loop over tests

module _ (q : ℕ → Bool) (n t : ℕ) where
  abbrev T : List Bool
  T = tabulate n q

  first : t < n → alls (drop t T) ≡ pick (q t) (alls (drop (suc t) T)) false
  first h =
      ap alls (drop-cons T t true (rw (length-tabulate n q) h)) ∙ ap (λ (b : Bool). pick b (alls (drop (suc t) T)) false) (tabulate-at n q true t h)

  pub alls-next : t < n → q t ≡ true → alls (drop (t + 1) T) ≡ alls (drop t T)
  alls-next h e =
      ap (λ (m : ℕ). alls (drop m T)) (add-one t) ∙ sym (first h ∙ ap (λ (b : Bool). pick b (alls (drop (suc t) T)) false) e)

  pub alls-no : t < n → q t ≡ false → alls (drop t T) ≡ false
  alls-no h e = first h ∙ ap (λ (b : Bool). pick b (alls (drop (suc t) T)) false) e

  pub alls-end : n ≤ t → alls (drop t T) ≡ true
  alls-end h = ap alls (drop_of_length-le T {i = t} (rw (length-tabulate n q) h))
