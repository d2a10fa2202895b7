-- Tables of multiples: a number is the sum of its four windows, so a product is the sum of four of the sixteen multiples.
-- Assumes nothing.
use mathlib.Core.Path.{◌≡◌, refl, sym, ap, ap₂, ◌∙◌}
use mathlib.Core.List.{List, [], ◌∷◌}
use Prim.Native.Nat.{ℕ, zero, suc, ◌+◌, ◌*◌, ◌/◌, ◌%◌, ◌<◌}
use native.Mathlib.Omega.{arith}
use lib.ListN.{length, get_or, take, drop, replicate}
use lib.Seq.{drop-cons}
use lib.Dec.{T, eqb, eqb→eq}
use Rattle.lists.specs.Lists.{piece}
use Rattle.lists.proofs.Pieces.{piece-join, length-join}
use Rattle.gf256.specs.Field.{add}
use Rattle.gf256.proofs.Field.{all, all-at, add-mul}
use Rattle.gf256.proofs.Sums.{add_zero_l, add_zero_r, add_assoc}
use Rattle.polynomial.specs.Polynomial.{plus, scale}
use Rattle.polynomial.proofs.Linear.{length-scale, length-plus}
use Rattle.row_sums.specs.Steps.{factor, multiples, Wide, combined}

-- a number below 256 is the sum of its windows of two bits
abbrev windows : ℕ → ℕ
windows c = add (add (factor (c % 4)) (factor (c / 4 % 4 + 4))) (add (factor (c / 16 % 4 + 8)) (factor (c / 64 + 12)))

windows-test : T (all 256 (λ c. eqb (windows c) c))
unfolding add all
windows-test = tt

windows-are : (c : ℕ) → c < 256 → windows c ≡ c
windows-are c h = eqb→eq _ _ (all-at 256 _ windows-test c h)

-- two multiples of a row
pub scale-plus : (a b : ℕ) (row : List ℕ) → plus (scale a row) (scale b row) ≡ scale (add a b) row
scale-plus a b [] = refl
scale-plus a b (x ∷ row) = ap₂ {C = List ℕ} (λ y l. y ∷ l) (sym (add-mul x a b)) (scale-plus a b row)

-- one of the multiples
multiple : (row : List ℕ) (e : ℕ) → length row ≡ 32 → e < 16 → piece 32 e (multiples row) ≡ scale (factor e) row
unfolding multiples
multiple row e l h = piece-join 16 32 (λ e. scale (factor e) row) (λ e _. length-scale (factor e) row ∙ l) e h

pub length-multiples : (row : List ℕ) → length row ≡ 32 → length (multiples row) ≡ 512
unfolding multiples
length-multiples row l = length-join 16 32 (λ e. scale (factor e) row) (λ e _. length-scale (factor e) row ∙ l)

-- where it lies
at : (t row : List ℕ) (e i : ℕ) → length row ≡ 32 → t ≡ multiples row → e < 16 → i ≡ e * 32 → take 32 (drop i t) ≡ scale (factor e) row
unfolding piece
at t row e i l eq h ei = ap₂ (λ (k : ℕ) (m : List ℕ). take 32 (drop k m)) ei eq ∙ multiple row e l h

-- the sum of four of them
pub product_is : (t row : List ℕ) (c : ℕ) (r low high a b g h : List ℕ) → c < 256 → length row ≡ 32 → t ≡ multiples row
    → a ≡ take 32 (drop (c % 4 * 32) t) → b ≡ take 32 (drop (c / 4 % 4 * 32 + 128) t) → g ≡ take 32 (drop (c / 16 % 4 * 32 + 256) t)
    → h ≡ take 32 (drop (c / 64 * 32 + 384) t) → low ≡ plus a b → high ≡ plus g h → r ≡ plus low high → r ≡ scale c row
product_is t row c r low high a b g h lc lr eq ea eb eg eh el ehi er =
    er
    ∙ ap₂ plus
    (el ∙ ap₂ plus (ea ∙ at t row (c % 4) (c % 4 * 32) lr eq (omega arith) refl) (eb ∙ at t row (c / 4 % 4 + 4) (c / 4 % 4 * 32 + 128) lr eq (omega arith) (omega arith))
    ∙ scale-plus (factor (c % 4)) (factor (c / 4 % 4 + 4)) row)
    (ehi ∙ ap₂ plus (eg ∙ at t row (c / 16 % 4 + 8) (c / 16 % 4 * 32 + 256) lr eq (omega arith) (omega arith))
    (eh ∙ at t row (c / 64 + 12) (c / 64 * 32 + 384) lr eq (omega arith) (omega arith))
    ∙ scale-plus (factor (c / 16 % 4 + 8)) (factor (c / 64 + 12)) row)
    ∙ scale-plus (add (factor (c % 4)) (factor (c / 4 % 4 + 4))) (add (factor (c / 16 % 4 + 8)) (factor (c / 64 + 12))) row
    ∙ ap (λ (k : ℕ). scale k row) (windows-are c lc)

-- ---- sums

pub wide_at : (rows : List (List ℕ)) (i : ℕ) → Wide rows → i < length rows → length (get_or rows i []) ≡ 32
wide_at [] i w h = absurd (omega arith)
wide_at (row ∷ rows) zero w h = w.0
wide_at (row ∷ rows) (suc i) w h = wide_at rows i w.1 (omega arith)

pub length-combined : (cs : List ℕ) (rows : List (List ℕ)) → Wide rows → length (combined cs rows) ≡ 32
length-combined [] rows w = refl
length-combined (c ∷ cs) [] w = refl
length-combined (c ∷ cs) (row ∷ rows) w =
    length-plus (scale c row) (combined cs rows) (length-scale c row ∙ w.0 ∙ sym (length-combined cs rows w.1)) ∙ length-scale c row ∙ w.0

pub plus_assoc : (p q r : List ℕ) → plus (plus p q) r ≡ plus p (plus q r)
plus_assoc [] q r = refl
plus_assoc (x ∷ p) [] r = refl
plus_assoc (x ∷ p) (y ∷ q) [] = refl
plus_assoc (x ∷ p) (y ∷ q) (z ∷ r) = ap₂ {C = List ℕ} (λ a l. a ∷ l) (add_assoc x y z) (plus_assoc p q r)

pub zeros-plus : (n : ℕ) (p : List ℕ) → length p ≡ n → plus (replicate n 0) p ≡ p
zeros-plus zero p h = refl
zeros-plus (suc n) [] h = absurd (omega arith)
zeros-plus (suc n) (x ∷ p) h = ap₂ {C = List ℕ} (λ a l. a ∷ l) (add_zero_l x) (zeros-plus n p (omega arith))

plus-zeros : (n : ℕ) (p : List ℕ) → length p ≡ n → plus p (replicate n 0) ≡ p
plus-zeros zero [] h = refl
plus-zeros zero (x ∷ p) h = absurd (omega arith)
plus-zeros (suc n) [] h = absurd (omega arith)
plus-zeros (suc n) (x ∷ p) h = ap₂ {C = List ℕ} (λ a l. a ∷ l) (add_zero_r x) (plus-zeros n p (omega arith))

pub wide-drop : (i : ℕ) (rows : List (List ℕ)) → Wide rows → Wide (drop i rows)
wide-drop zero rows w = w
wide-drop (suc i) [] w = tt
wide-drop (suc i) (row ∷ rows) w = wide-drop i rows w.1

-- the loop: at its start, a turn, its end
pub sum-start : (cs : List ℕ) (rows : List (List ℕ)) → Wide rows → plus (replicate 32 0) (combined cs rows) ≡ combined cs rows
sum-start cs rows w = zeros-plus 32 (combined cs rows) (length-combined cs rows w)

pub sum-turn : (s s' p : List ℕ) (cs : List ℕ) (rows : List (List ℕ)) (i : ℕ) → i < length cs → i < length rows → s' ≡ plus s p
    → p ≡ scale (get_or cs i 0) (get_or rows i []) → plus s' (combined (drop (suc i) cs) (drop (suc i) rows)) ≡ plus s (combined (drop i cs) (drop i rows))
sum-turn s s' p cs rows i hc hr es ep =
    ap (λ (l : List ℕ). plus l (combined (drop (suc i) cs) (drop (suc i) rows))) (es ∙ ap (plus s) ep)
    ∙ plus_assoc s (scale (get_or cs i 0) (get_or rows i [])) (combined (drop (suc i) cs) (drop (suc i) rows))
    ∙ ap (plus s) (ap₂ combined (sym (drop-cons cs i 0 hc)) (sym (drop-cons rows i [] hr)))

pub sum-end : (s cs : List ℕ) (rows : List (List ℕ)) → length s ≡ 32 → cs ≡ [] → plus s (combined cs rows) ≡ s
sum-end s cs rows l e = ap (λ (k : List ℕ). plus s (combined k rows)) e ∙ plus-zeros 32 s l
