-- Values as sums of coefficients times powers.
-- Assumes nothing.
use mathlib.Core.Path.{◌≡◌, refl, sym, ap, ap₂, ◌∙◌}
use mathlib.Core.List.{List, [], ◌∷◌}
use Prim.Native.Nat.{ℕ, zero, suc, ◌≤◌}
use native.Mathlib.Omega.{arith}
use lib.ListN.{length, get_or}
use Rattle.lists.specs.Lists.{All, Bytes}
use Rattle.lists.proofs.Alls.{all-at_d}
use Rattle.gf256.specs.Field.{add, mul}
use Rattle.gf256.proofs.Field.{mul-one, mul-add, mul-zero}
use Rattle.gf256.proofs.Ring.{ring}
use Rattle.polynomial.specs.Polynomial.{eval, sum, power, Grid, entry, at_y, eval_grid}
use Rattle.polynomial.proofs.Poly.{eval-byte}

pub sum-ext : (n : ℕ) (f g : ℕ → ℕ) → ((i : ℕ) → f i ≡ g i) → sum n f ≡ sum n g
sum-ext zero f g h = refl
sum-ext (suc n) f g h = ap₂ add (h 0) (sum-ext n (λ i. f (suc i)) (λ i. g (suc i)) (λ i. h (suc i)))

pub sum-scale : (n c : ℕ) (f : ℕ → ℕ) → mul c (sum n f) ≡ sum n (λ i. mul c (f i))
sum-scale zero c f = mul-zero c
sum-scale (suc n) c f = mul-add c (f 0) (sum n (λ i. f (suc i))) ∙ ap (add (mul c (f 0))) (sum-scale n c (λ i. f (suc i)))

shift-law : (x c e : ℕ) → mul x (mul c e) ≡ mul c (mul x e)
shift-law x c e = simp ring

none-law : (x e : ℕ) → e ≡ 0 → 0 ≡ add (mul 0 1) (mul x e)
none-law x e h = rw h (simp ring)

-- over at least as many coefficients as there are
pub eval-sum : (n : ℕ) (p : List ℕ) (x : ℕ) → length p ≤ n → Bytes p → eval p x ≡ sum n (λ i. mul (get_or p i 0) (power x i))
eval-sum zero [] x h b = refl
eval-sum zero (c ∷ p) x h b = absurd (omega arith)
eval-sum (suc n) [] x h b =
    none-law x (eval [] x) refl
    ∙ ap (add (mul 0 1)) (ap (mul x) (eval-sum n [] x (omega arith) tt) ∙ sum-scale n x (λ i. mul 0 (power x i))
    ∙ sum-ext n (λ i. mul x (mul 0 (power x i))) (λ i. mul 0 (mul x (power x i))) (λ i. shift-law x 0 (power x i)))
eval-sum (suc n) (c ∷ p) x h b =
    ap₂ add (sym (mul-one c b.0))
    (ap (mul x) (eval-sum n p x (omega arith) b.1) ∙ sum-scale n x (λ i. mul (get_or p i 0) (power x i))
    ∙ sum-ext n (λ i. mul x (mul (get_or p i 0) (power x i))) (λ i. mul (get_or p i 0) (mul x (power x i))) (λ i. shift-law x (get_or p i 0) (power x i)))

regroup : (a b c : ℕ) → mul (mul a b) c ≡ mul a (mul c b)
regroup a b c = simp ring

scale-right : (n c : ℕ) (f : ℕ → ℕ) → mul (sum n f) c ≡ sum n (λ i. mul (f i) c)
scale-right n c f = Rattle.gf256.proofs.Field.mul_comm (sum n f) c ∙ sum-scale n c f ∙ sum-ext n (λ i. mul c (f i)) (λ i. mul (f i) c) (λ i. Rattle.gf256.proofs.Field.mul_comm c (f i))

-- the values of the rows, as bytes
values-bytes : (g : Grid) (y : ℕ) → All Bytes g → Bytes (at_y g y)
values-bytes [] y h = tt
values-bytes (row ∷ g) y h = (eval-byte row y h.0, values-bytes g y h.1)

length-values : (g : Grid) (y : ℕ) → length (at_y g y) ≡ length g
length-values [] y = refl
length-values (row ∷ g) y = ap suc (length-values g y)

value-at : (g : Grid) (y i : ℕ) → get_or (at_y g y) i 0 ≡ eval (get_or g i []) y
value-at g y i = lib.ListN.get_or-map (λ row. eval row y) g i []

pub grid-sum : (g : Grid) (x y m w : ℕ) → All Bytes g → length g ≤ m → All (λ row. length row ≤ w) g
    → eval_grid g x y ≡ sum m (λ i. sum w (λ j. mul (entry g i j) (mul (power x i) (power y j))))
grid-sum g x y m w b lg lw =
    eval-sum m (at_y g y) x (rw length-values lg) (values-bytes g y b)
    ∙ sum-ext m (λ i. mul (get_or (at_y g y) i 0) (power x i)) (λ i. sum w (λ j. mul (entry g i j) (mul (power x i) (power y j)))) (λ i.
    ap (λ (v : ℕ). mul v (power x i))
    (value-at g y i ∙ eval-sum w (get_or g i []) y (all-at_d (λ row. length row ≤ w) [] g lw (omega arith) i) (all-at_d Bytes [] g b tt i))
    ∙ scale-right w (power x i) (λ j. mul (entry g i j) (power y j))
    ∙ sum-ext w (λ j. mul (mul (entry g i j) (power y j)) (power x i)) (λ j. mul (entry g i j) (mul (power x i) (power y j))) (λ j. regroup (entry g i j) (power y j) (power x i)))
