-- Loops over rows: a sum that grows at its end, and bytes changed in their places.
-- Assumes nothing.
use mathlib.Core.Path.{◌≡◌, refl, sym, ap, ap₂, ◌∙◌}
use mathlib.Core.List.{List, [], ◌∷◌, ◌++◌, append-nil}
use Prim.Native.Nat.{ℕ, zero, suc, ◌+◌, ◌*◌, ◌-◌, ◌<◌, ◌≤◌}
use native.Mathlib.Nat.{add-zero, suc-mul, sub-zero}
use native.Mathlib.Numerals.{add-one}
use native.Mathlib.Omega.{arith}
use lib.ListN.{length, get_or, take, drop, set, replicate, length-take, length-drop, drop_of_length-le}
use lib.Seq.{get_or-append-add, get_or-drop, take_at, drop_at, drop-drop, take-take, take-append-le, length-take-le, drop-cons}
use borrow.Rule.Slice.PartMut.{put_mid}
use Rattle.lists.specs.Lists.{tabulate, concat, join, fit}
use Rattle.lists.proofs.Pieces.{length-tabulate, tabulate-at, fill-loop, fill_end, fill-all, join-turn}
use Rattle.gf256.specs.Field.{add}
use Rattle.gf256.proofs.Ring.{ring}
use Rattle.gf256.proofs.Sums.{add_zero_l, add_zero_r}
use Rattle.polynomial.specs.Polynomial.{sum}

-- ---- sums

pub sum-suc : (m : ℕ) (f : ℕ → ℕ) → sum (suc m) f ≡ add (sum m f) (f m)
sum-suc zero f = add_zero_r (f 0) ∙ sym (add_zero_l (f 0))
sum-suc (suc m) f = ap (add (f 0)) (sum-suc m (λ i. f (suc i))) ∙ law (f 0) (sum m (λ i. f (suc i))) (f (suc m))
  where
    law : (a b c : ℕ) → add a (add b c) ≡ add (add a b) c
    law a b c = simp ring

pub sum_same : (m : ℕ) (f g : ℕ → ℕ) → ((i : ℕ) → i < m → f i ≡ g i) → sum m f ≡ sum m g
sum_same zero f g h = refl
sum_same (suc m) f g h = ap₂ add (h 0 (omega arith)) (sum_same m (λ i. f (suc i)) (λ i. g (suc i)) (λ i k. h (suc i) (omega arith)))

-- terms that are 00 add nothing
pub sum-cut : (c m : ℕ) (f : ℕ → ℕ) → c ≤ m → ((i : ℕ) → c ≤ i → f i ≡ 0) → sum m f ≡ sum c f
sum-cut zero zero f h z = refl
sum-cut zero (suc m) f h z = ap₂ add (z 0 (omega arith)) (sum-cut zero m (λ i. f (suc i)) (omega arith) (λ i k. z (suc i) (omega arith))) ∙ add_zero_l 0
sum-cut (suc c) zero f h z = absurd (omega arith)
sum-cut (suc c) (suc m) f h z = ap (add (f 0)) (sum-cut c m (λ i. f (suc i)) (omega arith) (λ i k. z (suc i) (omega arith)))

-- a turn of the loop
pub sum-turn : (f : ℕ → ℕ) (j s v : ℕ) → s ≡ sum j f → v ≡ f j → add s v ≡ sum (j + 1) f
sum-turn f j s v e h = rw (add-one j) (ap₂ add e h ∙ sym (sum-suc j f))

-- ---- in place

-- zeros, as a list of them and by their places
pub zeros : (n : ℕ) → replicate {A = ℕ} n 0 ≡ tabulate n (λ _. 0)
zeros zero = refl
zeros (suc n) = ap (λ (l : List ℕ). 0 ∷ l) (zeros n)

-- what is not yet done is as it was
pub rest_at : (f : ℕ → ℕ) (a₀ a : List ℕ) (t : ℕ) → a ≡ tabulate t f ++ drop t a₀ → get_or a t 0 ≡ get_or a₀ t 0
rest_at f a₀ a t e =
    ap (λ (l : List ℕ). get_or l t 0) e
    ∙ ap (λ (i : ℕ). get_or (tabulate t f ++ drop t a₀) i 0) (sym (ap (λ (m : ℕ). m + 0) (length-tabulate t f) ∙ add-zero t))
    ∙ get_or-append-add (tabulate t f) (drop t a₀) 0 0 ∙ get_or-drop t a₀ 0 0 ∙ ap (λ (i : ℕ). get_or a₀ i 0) (add-zero t)

-- a turn of a loop that changes byte t, x, to f t x
pub change : (f : ℕ → ℕ → ℕ) (a₀ a : List ℕ) (t v : ℕ) → t < length a₀ → v ≡ f t (get_or a t 0)
    → a ≡ tabulate t (λ j. f j (get_or a₀ j 0)) ++ drop t a₀ → set a t v ≡ tabulate (t + 1) (λ j. f j (get_or a₀ j 0)) ++ drop (t + 1) a₀
change f a₀ a t v h ev e = fill-loop (λ j. f j (get_or a₀ j 0)) a₀ a t v h (ev ∙ ap (f t) (rest_at (λ j. f j (get_or a₀ j 0)) a₀ a t e)) e

-- its end
pub changed : (f : ℕ → ℕ) (a₀ a : List ℕ) (t : ℕ) → length a₀ ≤ t → t ≤ length a₀ → a ≡ tabulate t f ++ drop t a₀ → a ≡ tabulate (length a₀) f
changed f a₀ a t h k e =
    let m : t ≡ length a₀ = omega arith in
    fill_end f a₀ a t (length a₀) m e ∙ fill-all f a₀ (length a₀) (omega arith)

-- ---- parts that are lent and put back

-- a turn of a loop that puts one piece of w bytes behind the others
pub join-loop : (f : ℕ → List ℕ) (w s : ℕ) (out₀ out ys : List ℕ) → ((i : ℕ) → i < s → length (f i) ≡ w) → ys ≡ f s
    → out ≡ join s f ++ drop (s * w) out₀ → put_mid (s * w) (s * w + w - s * w) out ys ≡ join (s + 1) f ++ drop ((s + 1) * w) out₀
join-loop f w s out₀ out ys h ey eo =
    let a : s * w + w - s * w ≡ w = omega arith in
    let b : (s + 1) * w ≡ s * w + w = ap (λ (m : ℕ). m * w) (add-one s) ∙ suc-mul s w in
    ap₂ {C = List ℕ} (λ (m : ℕ) (y : List ℕ). put_mid (s * w) m out y) a ey
    ∙ ap (λ (l : List ℕ). put_mid (s * w) w l (f s)) eo
    ∙ join-turn s w f out₀ h
    ∙ ap₂ {C = List ℕ} (λ (i j : ℕ). join i f ++ drop j out₀) (sym (add-one s)) (sym b)

-- a turn of a loop from the end down, that changes the last piece that is as it was
pub back-loop : (f : ℕ → List ℕ) (w m s : ℕ) (out₀ out ys : List ℕ) → s < m → s * w + w ≤ length out₀ → ys ≡ f s
    → out ≡ take (s * w + w) out₀ ++ concat (drop (suc s) (tabulate m f))
    → put_mid (s * w) (s * w + w - s * w) out ys ≡ take (s * w) out₀ ++ concat (drop s (tabulate m f))
back-loop f w m s out₀ out ys h l ey eo =
    let a : s * w + w - s * w ≡ w = omega arith in
    let rest : List ℕ = concat (drop (suc s) (tabulate m f)) in
    let n : length (take (s * w + w) out₀) ≡ s * w + w = length-take-le (s * w + w) out₀ l in
    let c : drop s (tabulate m f) ≡ f s ∷ drop (suc s) (tabulate m f) =
    drop-cons (tabulate m f) s [] (rw (length-tabulate m f) h) ∙ ap (λ (x : List ℕ). x ∷ drop (suc s) (tabulate m f)) (tabulate-at m f [] s h) in
    ap₂ {C = List ℕ} (λ (m : ℕ) (y : List ℕ). put_mid (s * w) m out y) a ey
    ∙ ap (λ (q : List ℕ). put_mid (s * w) w q (f s)) eo
    ∙ ap₂ {C = List ℕ} (λ x y. x ++ (f s ++ y))
    (take-append-le (s * w) (take (s * w + w) out₀) rest (omega arith) ∙ take-take (s * w) (s * w + w) out₀ (omega arith))
    (drop-drop w (s * w) (take (s * w + w) out₀ ++ rest) ∙ drop_at (take (s * w + w) out₀) rest (s * w + w) n)
    ∙ ap (λ (q : List (List ℕ)). take (s * w) out₀ ++ concat q) (sym c)

-- the end of a loop that fills all of a list by pieces
pub join-end : (f : ℕ → List ℕ) (w s m : ℕ) (out₀ out : List ℕ) → s ≡ m → length out₀ ≤ m * w → out ≡ join s f ++ drop (s * w) out₀ → out ≡ join m f
join-end f w s m out₀ out e l h =
    h ∙ ap (λ (i : ℕ). join i f ++ drop (i * w) out₀) e ∙ ap (λ (r : List ℕ). join m f ++ r) (drop_of_length-le out₀ {i = m * w} l) ∙ append-nil (join m f)

-- the first m of a list, lent and put back, lent again
pub part-back : (m : ℕ) (l a : List ℕ) → length a ≡ m → take (m - 0) (drop 0 (put_mid 0 (m - 0) l a)) ≡ a
part-back m l a e = ap (λ (k : ℕ). take k (put_mid 0 (m - 0) l a)) (sub-zero m) ∙ take_at a (drop (m - 0) l) m e

-- n elements of one list copied over n of another, as the borrow checker has the parts
pub copied : (k p k' q n : ℕ) (out src ys : List ℕ) → k ≡ n → k' ≡ n → p + n ≤ length out
    → ys ≡ take (length (take k (drop p out))) (take k' (drop q src)) → ys ≡ take n (drop q src)
copied k p k' q n out src ys e e' h ey =
    let l : length (take k (drop p out)) ≡ n = simp (length-take, length-drop) (omega arith) in
    ey ∙ ap₂ {C = List ℕ} (λ (i j : ℕ). take i (take j (drop q src))) l e' ∙ take-take n n (drop q src) (omega arith)

-- filled up with 00
pub fit-zeros : (l : List ℕ) (m : ℕ) → length l ≤ m → l ++ drop (length l) (tabulate m (λ j. 0)) ≡ fit m l
fit-zeros [] zero h = refl
fit-zeros [] (suc m) h = ap {B = List ℕ} (λ l. 0 ∷ l) (fit-zeros [] m (omega arith))
fit-zeros (x ∷ l) zero h = absurd (omega arith)
fit-zeros (x ∷ l) (suc m) h = ap {B = List ℕ} (λ l. x ∷ l) (fit-zeros l m (omega arith))
