-- Laws of bytes put at a place: what was put is there, and nothing else changed.
-- Assumes nothing.
use Prim.Native.Nat.{ℕ, zero, suc, ◌+◌, ◌-◌, ◌*◌, ◌≤◌, ◌<◌}
use mathlib.Core.Path.{◌≡◌, refl, sym, ◌∙◌, ap}
use mathlib.Core.Bool.{Bool, true, false}
use mathlib.Core.List.{List, [], ◌∷◌, ◌++◌, append_assoc}
use mathlib.Core.Logic.{◌⊎◌, inl, inr, ⊎_elim}
use native.Mathlib.Omega.{arith}
use native.Mathlib.Nat.{suc-mul, mul-le-mul_right, eq-or-lt_of_le}
use lib.Dec.{ltb}
use borrow.Author.Tests.{ltb-true, ltb-false}
use lib.ListN.{length, take, drop, get_or, length-append, length-drop, take-append-drop, get_or-append}
use lib.Seq.{length-take-le, take_at, drop_at, take-append-le, drop-append-le, drop-append-add, drop-drop, take-take, get_or-take, get_or-drop, ext_get_or}
use Rattle.lists.specs.Lists.{put}

-- ---- bytes put at a place

front : (xs ys : List ℕ) (p w : ℕ) → p + w ≤ length xs → take w (drop p (xs ++ ys)) ≡ take w (drop p xs)
front xs ys p w h =
    let h1 : p ≤ length xs = omega arith in
    ap (take w) (drop-append-le p xs ys h1) ∙ take-append-le w (drop p xs) ys (rw length-drop (omega arith))

module _ (area : List ℕ) (at : ℕ) (b : List ℕ) (fits : at + length b ≤ length area) where
  head-length : length (take at area) ≡ at
  head-length = length-take-le at area (omega arith)

  pub length-put : length (put area at b) ≡ length area
  unfolding put
  length-put = let h = head-length in simp (length-append, length-drop, h) (omega arith)

  pub put_same : take (length b) (drop at (put area at b)) ≡ b
  unfolding put
  put_same =
      rw append_assoc (ap (take (length b)) (drop_at (take at area) _ at head-length) ∙ take_at b _ (length b) refl)

  pub put-before : (p w : ℕ) → p + w ≤ at → take w (drop p (put area at b)) ≡ take w (drop p area)
  unfolding put
  put-before p w h =
      let l = head-length in
      let h1 : p + w ≤ length (take at area) = omega arith in
      rw append_assoc
      (front (take at area) (b ++ drop (at + length b) area) p w h1
      ∙ sym (front (take at area) (drop at area) p w h1)
      ∙ ap (λ (x : List ℕ). take w (drop p x)) (take-append-drop at area))

  pub put-after : (p : ℕ) → at + length b ≤ p → drop p (put area at b) ≡ drop p area
  unfolding put
  put-after p h =
      let e : length (take at area ++ b) ≡ at + length b = length-append (take at area) b ∙ ap (λ (x : ℕ). x + length b) head-length in
      let q : p ≡ length (take at area ++ b) + (p - (at + length b)) = omega arith in
      let r : at + length b + (p - (at + length b)) ≡ p = omega arith in
      ap (λ (x : ℕ). drop x (take at area ++ b ++ drop (at + length b) area)) q
      ∙ drop-append-add (take at area ++ b) (drop (at + length b) area) (p - (at + length b))
      ∙ drop-drop (p - (at + length b)) (at + length b) area
      ∙ ap (λ (x : ℕ). drop x area) r

-- ---- parts of width w

pub part_end : (q w n : ℕ) → q < n → q * w + w ≤ n * w
part_end q w n h = rw (← suc-mul) (mul-le-mul_right w h)

unlike : (p q : ℕ) → (q ≡ p → ⊥) → (p < q) ⊎ (q < p)
unlike p q ne = go (ltb p q) refl
  where
    go : (t : Bool) → ltb p q ≡ t → (p < q) ⊎ (q < p)
    go true h = inl (ltb-true p q h)
    go false h = let k = ltb-false p q h in inr (⊎_elim (λ s. absurd (ne s)) (λ s. s) (eq-or-lt_of_le k))

pub put_other : (w n : ℕ) (area : List ℕ) (i : ℕ) (b : List ℕ) → length area ≡ n * w → i < n → length b ≤ w
    → (p v : ℕ) → p < n → (i ≡ p → ⊥) → v ≤ w → take v (drop (p * w) (put area (i * w) b)) ≡ take v (drop (p * w) area)
put_other w n area i b e hi hb p v hp ne hv =
    let fits : i * w + length b ≤ length area = omega (arith, part_end i w n hi) in
    ⊎_elim
    (λ s. put-before area (i * w) b fits (p * w) v (omega (arith, part_end p w i s)))
    (λ s. ap (take v) (put-after area (i * w) b fits (p * w) (omega (arith, part_end i w p s))))
    (unlike p i ne)

-- ---- for code that writes stripe by stripe

-- two pieces in one go, or one after the other
pub put-append : (l : List ℕ) (at : ℕ) (a b : List ℕ) → at + length a + length b ≤ length l → put l at (a ++ b) ≡ put (put l at a) (at + length a) b
unfolding put
put-append l at a b fits =
    let h : length (take at l) ≡ at = length-take-le at l (omega arith) in
    let e : length (take at l ++ a) ≡ at + length a = length-append (take at l) a ∙ ap (λ (x : ℕ). x + length a) h in
    let n : length (a ++ b) ≡ length a + length b = length-append a b in
    let q : at + length a + length b ≡ length (take at l ++ a) + length b = omega arith in
    let t : take (at + length a) (take at l ++ a ++ drop (at + length a) l) ≡ take at l ++ a = take_at (take at l ++ a) (drop (at + length a) l) (at + length a) e in
    let d : drop (at + length a + length b) (take at l ++ a ++ drop (at + length a) l) ≡ drop (at + length a + length b) l =
    ap (λ (x : ℕ). drop x (take at l ++ a ++ drop (at + length a) l)) q
    ∙ drop-append-add (take at l ++ a) (drop (at + length a) l) (length b)
    ∙ drop-drop (length b) (at + length a) l in
    let m : at + length (a ++ b) ≡ at + length a + length b = omega arith in
    rw (t, d, m) (ap (λ (x : List ℕ). x ++ drop (at + length a + length b) l) (sym (append_assoc (take at l) a b)))

-- each byte after a put
module _ (l : List ℕ) (at : ℕ) (b : List ℕ) (fits : at + length b ≤ length l) where
  pub byte-before : (i : ℕ) → i < at → get_or (put l at b) i 0 ≡ get_or l i 0
  unfolding put
  byte-before i k =
      let h = head-length l at b fits in
      rw append_assoc (get_or-append (take at l) (b ++ drop (at + length b) l) 0 i (omega arith) ∙ get_or-take at l i 0 k)

  pub byte-in : (i : ℕ) → i < length b → get_or (put l at b) (at + i) 0 ≡ get_or b i 0
  unfolding put
  byte-in i k =
      rw append_assoc
      (sym (get_or-drop at (take at l ++ (b ++ drop (at + length b) l)) i 0)
      ∙ ap (λ (x : List ℕ). get_or x i 0) (drop_at (take at l) (b ++ drop (at + length b) l) at (head-length l at b fits))
      ∙ get_or-append b (drop (at + length b) l) 0 i k)

  pub byte-after : (i : ℕ) → at + length b ≤ i → get_or (put l at b) i 0 ≡ get_or l i 0
  byte-after i k =
      let z : i + 0 ≡ i = omega arith in
      rw z at (sym (get_or-drop i (put l at b) 0 0) ∙ ap (λ (x : List ℕ). get_or x 0 0) (put-after l at b fits i k) ∙ get_or-drop i l 0 0)

-- two pieces at places apart, in either order
pub put-comm : (l : List ℕ) (p : ℕ) (a : List ℕ) (q : ℕ) (b : List ℕ) → p + length a ≤ q → q + length b ≤ length l
    → put (put l p a) q b ≡ put (put l q b) p a
put-comm l p a q b h k =
    ext_get_or 0 _ _ (length-put (put l p a) q b fb ∙ la ∙ sym (length-put (put l q b) p a fa ∙ lb))
    (λ i x. go i (ltb i p) refl (ltb i (p + length a)) refl (ltb i q) refl (ltb i (q + length b)) refl)
  where
    la : length (put l p a) ≡ length l
    la = length-put l p a (omega arith)

    lb : length (put l q b) ≡ length l
    lb = length-put l q b k

    fb : q + length b ≤ length (put l p a)
    fb = let e = la in omega arith

    fa : p + length a ≤ length (put l q b)
    fa = let e = lb in omega arith

    f : p + length a ≤ length l
    f = omega arith

    go : (i : ℕ) (t : Bool) → ltb i p ≡ t → (u : Bool) → ltb i (p + length a) ≡ u → (v : Bool) → ltb i q ≡ v → (w : Bool) → ltb i (q + length b) ≡ w
        → get_or (put (put l p a) q b) i 0 ≡ get_or (put (put l q b) p a) i 0
    go i true t u eu v ev w ew =
        let t2 = ltb-true i p t in
        byte-before (put l p a) q b fb i (omega arith) ∙ byte-before l p a f i t2
        ∙ sym (byte-before (put l q b) p a fa i t2 ∙ byte-before l q b k i (omega arith))
    go i false t true u v ev w ew =
        let t2 = ltb-false i p t in
        let u2 = ltb-true i (p + length a) u in
        let j : p + (i - p) ≡ i = omega arith in
        byte-before (put l p a) q b fb i (omega arith)
        ∙ (rw j at (byte-in l p a f (i - p) (omega arith) ∙ sym (byte-in (put l q b) p a fa (i - p) (omega arith))))
    go i false t false u true v w ew =
        let u2 = ltb-false i (p + length a) u in
        let v2 = ltb-true i q v in
        byte-before (put l p a) q b fb i v2 ∙ byte-after l p a f i u2
        ∙ sym (byte-after (put l q b) p a fa i u2 ∙ byte-before l q b k i v2)
    go i false t false u false v true w =
        let u2 = ltb-false i (p + length a) u in
        let v2 = ltb-false i q v in
        let w2 = ltb-true i (q + length b) w in
        let j : q + (i - q) ≡ i = omega arith in
        (rw j at (byte-in (put l p a) q b fb (i - q) (omega arith) ∙ sym (byte-in l q b k (i - q) (omega arith))))
        ∙ sym (byte-after (put l q b) p a fa i u2)
    go i false t false u false v false w =
        let u2 = ltb-false i (p + length a) u in
        let w2 = ltb-false i (q + length b) w in
        byte-after (put l p a) q b fb i w2 ∙ byte-after l p a f i u2
        ∙ sym (byte-after (put l q b) p a fa i u2 ∙ byte-after l q b k i w2)

-- a part that ends within the first m elements
pub within : (w m p : ℕ) (l : List ℕ) → p + w ≤ m → take w (drop p (take m l)) ≡ take w (drop p l)
within w m zero l k = take-take w m l (omega arith)
within w zero (suc p) l k = absurd (omega arith)
within w (suc m) (suc p) [] k = refl
within w (suc m) (suc p) (x ∷ l) k = within w m p l (omega arith)
