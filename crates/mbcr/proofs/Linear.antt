-- Shares add like files: stripes, F and what a board keeps respect sums.
-- Assumes nothing.
use mathlib.Core.Path.{◌≡◌, refl, sym, ap, ap₂, fun_ext, ◌∙◌}
use mathlib.Core.List.{List, [], ◌∷◌, ◌++◌, map}
use Prim.Native.Nat.{ℕ, zero, suc, ◌+◌, ◌*◌, ◌<◌, ◌≤◌}
use native.Mathlib.Decide.{dec_lt}
use native.Mathlib.Omega.{arith}
use lib.ListN.{length, get_or, drop, length-map}
use mathlib.Core.Logic.{◌⊎◌, inl, inr}
use Rattle.lists.specs.Lists.{fit, join}
use Rattle.lists.proofs.Pieces.{join-ext}
use Rattle.gf256.specs.Field.{add, mul}
use Rattle.gf256.proofs.Ring.{ring}
use Rattle.sizes.specs.Sizing.{B, stripes}
use Rattle.sizes.specs.declared.Sizes.{Sizes}
use Rattle.sizes.proofs.Legal.{Legal}
use Rattle.polynomial.specs.Polynomial.{plus, eval, entry, at_y}
use Rattle.polynomial.proofs.Grid.{at_y-at}
use Rattle.polynomial.proofs.Linear.{length-plus, eval-zero, plus-at, eval-plus}
use Rattle.mbcr.specs.Share.{stripe, grid, F, symbols, point, points, neighbours, kept, share}
use Rattle.mbcr.proofs.Repair.{length-kept}
use Rattle.mbcr.proofs.Shape.{entry-none, entry-a, entry-b, entry-c, length-stripe}

-- ---- lists of one length

none-sum : (a : ℕ) → a ≡ add 0 a
none-sum a = simp ring

sum-none : (a : ℕ) → a ≡ add a 0
sum-none a = simp ring

plus_none : (m : ℕ) (p : List ℕ) → fit m p ≡ plus (fit m p) (fit m [])
plus_none zero p = refl
plus_none (suc m) [] = ap₂ {C = List ℕ} (λ x l. x ∷ l) (sum-none 0) (plus_none m [])
plus_none (suc m) (a ∷ p) = ap₂ {C = List ℕ} (λ x l. x ∷ l) (sum-none a) (plus_none m p)

fit-plus : (m : ℕ) (p q : List ℕ) → fit m (plus p q) ≡ plus (fit m p) (fit m q)
fit-plus zero p q = refl
fit-plus (suc m) [] [] = ap₂ {C = List ℕ} (λ x l. x ∷ l) (none-sum 0) (fit-plus m [] [])
fit-plus (suc m) [] (b ∷ q) = ap₂ {C = List ℕ} (λ x l. x ∷ l) (none-sum b) (fit-plus m [] q)
fit-plus (suc m) (a ∷ p) [] = ap₂ {C = List ℕ} (λ x l. x ∷ l) (sum-none a) (plus_none m p)
fit-plus (suc m) (a ∷ p) (b ∷ q) = ap {B = List ℕ} (λ l. add a b ∷ l) (fit-plus m p q)

drop-plus : (m : ℕ) (p q : List ℕ) → length p ≡ length q → drop m (plus p q) ≡ plus (drop m p) (drop m q)
drop-plus zero p q h = refl
drop-plus (suc m) [] [] h = refl
drop-plus (suc m) [] (b ∷ q) h = absurd (omega arith)
drop-plus (suc m) (a ∷ p) [] h = absurd (omega arith)
drop-plus (suc m) (a ∷ p) (b ∷ q) h = drop-plus m p q (omega arith)

append-plus : (p q p' q' : List ℕ) → length p ≡ length q → plus p q ++ plus p' q' ≡ plus (p ++ p') (q ++ q')
append-plus [] [] p' q' h = refl
append-plus [] (b ∷ q) p' q' h = absurd (omega arith)
append-plus (a ∷ p) [] p' q' h = absurd (omega arith)
append-plus (a ∷ p) (b ∷ q) p' q' h = ap {B = List ℕ} (λ l. add a b ∷ l) (append-plus p q p' q' (omega arith))

join-plus : (n : ℕ) (f g : ℕ → List ℕ) → ((i : ℕ) → length (f i) ≡ length (g i)) → join n (λ i. plus (f i) (g i)) ≡ plus (join n f) (join n g)
join-plus zero f g h = refl
join-plus (suc n) f g h =
    ap (λ (l : List ℕ). plus (f 0) (g 0) ++ l) (join-plus n (λ i. f (suc i)) (λ i. g (suc i)) (λ i. h (suc i)))
    ∙ append-plus (f 0) (g 0) (join n (λ i. f (suc i))) (join n (λ i. g (suc i))) (h 0)

map-plus : (f g : ℕ → ℕ) (l : List ℕ) → map (λ x. add (f x) (g x)) l ≡ plus (map f l) (map g l)
map-plus f g [] = refl
map-plus f g (x ∷ l) = ap {B = List ℕ} (λ t. add (f x) (g x) ∷ t) (map-plus f g l)

-- ---- polynomials by their coefficients

pub eval-ext : (p q : List ℕ) (x : ℕ) → ((i : ℕ) → get_or p i 0 ≡ get_or q i 0) → eval p x ≡ eval q x
eval-ext [] q x h = sym (eval-zero q x (λ i. sym (h i)))
eval-ext (a ∷ p) [] x h = eval-zero (a ∷ p) x h
eval-ext (a ∷ p) (b ∷ q) x h = ap₂ (λ (c e : ℕ). add c (mul x e)) (h zero) (eval-ext p q x (λ i. h (suc i)))

module _ (z : Sizes) (legal : Legal z) where
  open z use {n, k, d, r}

  pub stripe-plus : (f g : List ℕ) (s : ℕ) → length f ≡ length g → stripe z (plus f g) s ≡ plus (stripe z f s) (stripe z g s)
  unfolding stripe
  stripe-plus f g s h = ap (fit (B z)) (drop-plus (s * B z) f g h) ∙ fit-plus (B z) (drop (s * B z) f) (drop (s * B z) g)

  module _ (u v : List ℕ) (lu : length u ≡ B z) (lv : length v ≡ B z) where
    both_long : length (plus u v) ≡ B z
    both_long = length-plus u v (lu ∙ sym lv) ∙ lu

    zero-plus : add 0 0 ≡ 0
    zero-plus = simp ring

    entry-plus : (i j : ℕ) → entry (grid z (plus u v)) i j ≡ add (entry (grid z u) i j) (entry (grid z v) i j)
    entry-plus i j = go (dec_lt i k) (dec_lt j k) (dec_lt i d) (dec_lt j (d + r))
      where
        none : ((k ≤ i) × (k ≤ j)) ⊎ ((d ≤ i) ⊎ (d + r ≤ j)) → entry (grid z (plus u v)) i j ≡ add (entry (grid z u) i j) (entry (grid z v) i j)
        none h =
            entry-none z legal (plus u v) both_long i j h
            ∙ sym (ap₂ add (entry-none z legal u lu i j h) (entry-none z legal v lv i j h) ∙ zero-plus)

        go : Dec (i < k) → Dec (j < k) → Dec (i < d) → Dec (j < d + r) → entry (grid z (plus u v)) i j ≡ add (entry (grid z u) i j) (entry (grid z v) i j)
        go (yes a) (yes b) c e =
            entry-a z legal (plus u v) both_long i j a b ∙ plus-at u v _
            ∙ sym (ap₂ add (entry-a z legal u lu i j a b) (entry-a z legal v lv i j a b))
        go (yes a) (no b) c (yes e) =
            entry-b z legal (plus u v) both_long i j a (omega arith) e ∙ plus-at u v _
            ∙ sym (ap₂ add (entry-b z legal u lu i j a (omega arith) e) (entry-b z legal v lv i j a (omega arith) e))
        go (yes a) (no b) c (no e) = none (inr (inr (omega arith)))
        go (no a) (yes b) (yes c) e =
            entry-c z legal (plus u v) both_long i j (omega arith) c b ∙ plus-at u v _
            ∙ sym (ap₂ add (entry-c z legal u lu i j (omega arith) c b) (entry-c z legal v lv i j (omega arith) c b))
        go (no a) (yes b) (no c) e = none (inr (inl (omega arith)))
        go (no a) (no b) c e = none (inl (omega arith, omega arith))

    row-plus : (i y : ℕ) → eval (get_or (grid z (plus u v)) i []) y ≡ add (eval (get_or (grid z u) i []) y) (eval (get_or (grid z v) i []) y)
    row-plus i y =
        eval-ext (get_or (grid z (plus u v)) i []) (plus (get_or (grid z u) i []) (get_or (grid z v) i [])) y
        (λ j. entry-plus i j ∙ sym (plus-at (get_or (grid z u) i []) (get_or (grid z v) i []) j))
        ∙ eval-plus (get_or (grid z u) i []) (get_or (grid z v) i []) y

    pub F-plus : (x y : ℕ) → F z (plus u v) x y ≡ add (F z u x y) (F z v x y)
    unfolding F
    F-plus x y =
        eval-ext (at_y (grid z (plus u v)) y) (plus (at_y (grid z u) y) (at_y (grid z v) y)) x
        (λ i. at_y-at (grid z (plus u v)) y i ∙ row-plus i y
        ∙ sym (plus-at (at_y (grid z u) y) (at_y (grid z v) y) i ∙ ap₂ add (at_y-at (grid z u) y i) (at_y-at (grid z v) y i)))
        ∙ eval-plus (at_y (grid z u) y) (at_y (grid z v) y) x

module _ (z : Sizes) (xs : List ℕ) (legal : Legal z) where
  open z use {n, k, d, r}

  symbols-plus : (i : ℕ) (f g f' g' : ℕ → ℕ)
      → symbols z xs i (λ y. add (f y) (f' y)) (λ x. add (g x) (g' x)) ≡ plus (symbols z xs i f g) (symbols z xs i f' g')
  unfolding symbols
  symbols-plus i f g f' g' =
      let ys : List ℕ = points xs (neighbours z i (d + r)) in
      let bs : List ℕ = points xs (drop 1 (neighbours z i d)) in
      ap₂ {C = List ℕ} (λ x y. x ++ y) (map-plus f f' ys) (map-plus g g' bs)
      ∙ append-plus (map f ys) (map f' ys) (map g bs) (map g' bs) (length-map ys f ∙ sym (length-map ys f'))

  kept-plus : (u v : List ℕ) → length u ≡ B z → length v ≡ B z → (i : ℕ) → kept z xs (plus u v) i ≡ plus (kept z xs u i) (kept z xs v i)
  unfolding kept
  kept-plus u v lu lv i =
      ap₂ (symbols z xs i) (fun_ext (λ y. F-plus z legal u v lu lv (point xs i) y)) (fun_ext (λ x. F-plus z legal u v lu lv x (point xs i)))
      ∙ symbols-plus i _ _ _ _

  pub shares-add : (f g : List ℕ) → length f ≡ length g → (i : ℕ) → share z xs (plus f g) i ≡ plus (share z xs f i) (share z xs g i)
  unfolding share
  shares-add f g h i =
      let S : ℕ = stripes z (length f) in
      ap (λ (m : ℕ). join (stripes z m) (λ s. kept z xs (stripe z (plus f g) s) i)) (length-plus f g h)
      ∙ join-ext S _ (λ s. plus (kept z xs (stripe z f s) i) (kept z xs (stripe z g s) i))
      (λ s l. ap (λ (u : List ℕ). kept z xs u i) (stripe-plus z legal f g s h)
      ∙ kept-plus (stripe z f s) (stripe z g s) (length-stripe z f s) (length-stripe z g s) i)
      ∙ join-plus S (λ s. kept z xs (stripe z f s) i) (λ s. kept z xs (stripe z g s) i)
      (λ s. length-kept z xs legal (stripe z f s) i ∙ sym (length-kept z xs legal (stripe z g s) i))
      ∙ ap (λ (m : ℕ). plus (join S (λ s. kept z xs (stripe z f s) i)) (join (stripes z m) (λ s. kept z xs (stripe z g s) i))) h
