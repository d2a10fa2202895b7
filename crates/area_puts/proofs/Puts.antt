-- Bytes put at many places: one more, places apart in any order, and stripe after stripe.
-- Assumes nothing.
use Prim.Native.Nat.{ℕ, zero, suc, ◌+◌, ◌*◌, ◌-◌, ◌≤◌, ◌<◌}
use mathlib.Core.Path.{◌≡◌, refl, sym, ap, ap₂, ◌∙◌}
use mathlib.Core.List.{List, [], ◌++◌, append_assoc, append-nil}
use mathlib.Core.Logic.{◌⊎◌, inl, inr, ⊎_elim}
use native.Mathlib.Nat.{suc-mul}
use native.Mathlib.Numerals.{add-one}
use native.Mathlib.Omega.{arith}
use lib.ListN.{length, take, drop, length-drop, take-append-drop}
use lib.Seq.{drop-drop, length-take-le}
use borrow.Rule.Slice.PartMut.{put_mid}
use Rattle.lists.specs.Lists.{join, put}
use Rattle.lists.proofs.Pieces.{length-join, join-suc}
use Rattle.lists.proofs.Put.{length-put, put-append, put-comm, put-before, put-after}
use Rattle.area_puts.specs.Steps.{puts}

pub puts-same : (p q : ℕ → ℕ) (f g : ℕ → List ℕ) (m : ℕ) (l : List ℕ) → ((a : ℕ) → a < m → p a ≡ q a) → ((a : ℕ) → a < m → f a ≡ g a)
    → puts p f m l ≡ puts q g m l
puts-same p q f g zero l ep ef = refl
puts-same p q f g (suc m) l ep ef =
    ap (λ (x : List ℕ). put x (p m) (f m)) (puts-same p q f g m l (λ a h. ep a (omega arith)) (λ a h. ef a (omega arith)))
    ∙ ap₂ {C = List ℕ} (λ (i : ℕ) (b : List ℕ). put (puts q g m l) i b) (ep m (omega arith)) (ef m (omega arith))

pub length-puts : (p : ℕ → ℕ) (f : ℕ → List ℕ) (m : ℕ) (l : List ℕ) → ((a : ℕ) → a < m → p a + length (f a) ≤ length l) → length (puts p f m l) ≡ length l
length-puts p f zero l h = refl
length-puts p f (suc m) l h =
    let e : length (puts p f m l) ≡ length l = length-puts p f m l (λ a k. h a (omega arith)) in
    length-put (puts p f m l) (p m) (f m) (omega (arith, e, h m (omega arith))) ∙ e

-- a part that is written anew
put-part : (at w : ℕ) (l ys : List ℕ) → length ys ≡ w → put_mid at (at + w - at) l ys ≡ put l at ys
unfolding put
put-part at w l ys e =
    let k : at + w - at ≡ length ys = omega arith in
    ap (λ (v : ℕ). put_mid at v l ys) k
    ∙ sym (append_assoc (take at l) ys (drop (length ys) (drop at l)))
    ∙ ap (λ (r : List ℕ). (take at l ++ ys) ++ r) (drop-drop (length ys) at l)

-- as long as it is cut
pub part-long : (at w : ℕ) (l : List ℕ) → at + w ≤ length l → length (take (at + w - at) (drop at l)) ≡ w
part-long at w l h =
    let e : length (take (at + w - at) (drop at l)) ≡ at + w - at = length-take-le (at + w - at) (drop at l) (omega (arith, length-drop at l)) in
    omega arith

-- a turn of the loop over the places
pub puts-turn : (p : ℕ → ℕ) (f : ℕ → List ℕ) (w a at : ℕ) (l₀ l ys : List ℕ) → at ≡ p a → length ys ≡ w → ys ≡ f a → l ≡ puts p f a l₀
    → put_mid at (at + w - at) l ys ≡ puts p f (a + 1) l₀
puts-turn p f w a at l₀ l ys ea long ey el =
    put-part at w l ys long
    ∙ ap₂ {C = List ℕ} (λ (i : ℕ) (b : List ℕ). put l i b) ea ey
    ∙ ap (λ (x : List ℕ). put x (p a) (f a)) el
    ∙ ap (λ (m : ℕ). puts p f m l₀) (sym (add-one a))

-- two pieces at places apart, in either order
either : (l : List ℕ) (p : ℕ) (a : List ℕ) (q : ℕ) (b : List ℕ) → (p + length a ≤ q) ⊎ (q + length b ≤ p) → p + length a ≤ length l → q + length b ≤ length l
    → put (put l p a) q b ≡ put (put l q b) p a
either l p a q b d hp hq = ⊎_elim (λ k. put-comm l p a q b k hq) (λ k. sym (put-comm l q b p a k hp)) d

-- a piece apart from all of them, before or after them
pub puts-comm : (p : ℕ → ℕ) (f : ℕ → List ℕ) (m : ℕ) (l : List ℕ) (q : ℕ) (b : List ℕ) → ((a : ℕ) → a < m → p a + length (f a) ≤ length l) → q + length b ≤ length l
    → ((a : ℕ) → a < m → (q + length b ≤ p a) ⊎ (p a + length (f a) ≤ q)) → puts p f m (put l q b) ≡ put (puts p f m l) q b
puts-comm p f zero l q b h hq d = refl
puts-comm p f (suc m) l q b h hq d =
    let e : length (puts p f m l) ≡ length l = length-puts p f m l (λ a k. h a (omega arith)) in
    ap (λ (x : List ℕ). put x (p m) (f m)) (puts-comm p f m l q b (λ a k. h a (omega arith)) hq (λ a k. d a (omega arith)))
    ∙ either (puts p f m l) q b (p m) (f m) (d m (omega arith)) (omega (arith, e, hq)) (omega (arith, e, h m (omega arith)))

-- stripe s behind the stripes before it, in M parts of W bytes that are apart
module _ (p : ℕ → ℕ) (W w s M : ℕ) (g : ℕ → ℕ → List ℕ) (long : (a t : ℕ) → a < M → length (g a t) ≡ w) (room : s * w + w ≤ W) where
  before : (a : ℕ) → a < M → length (join s (g a)) ≡ s * w
  before a k = length-join s w (g a) (λ t h. long a t k)

  after : (a : ℕ) → a < M → length (join (s + 1) (g a)) ≡ s * w + w
  after a k = length-join (s + 1) w (g a) (λ t h. long a t k) ∙ ap (λ (m : ℕ). m * w) (add-one s) ∙ suc-mul s w

  -- those of the first m parts
  stripes-of : (m : ℕ) (l : List ℕ) → m ≤ M → ((a : ℕ) → a < m → p a + W ≤ length l) → ((a b : ℕ) → a < b → b < m → (p b + W ≤ p a) ⊎ (p a + W ≤ p b))
      → puts (λ a. p a + s * w) (λ a. g a s) m (puts p (λ a. join s (g a)) m l) ≡ puts p (λ a. join (s + 1) (g a)) m l
  stripes-of zero l few h d = refl
  stripes-of (suc m) l few h d =
      let base : List ℕ = puts p (λ a. join s (g a)) m l in
      let e : length base ≡ length l =
      length-puts p (λ a. join s (g a)) m l (λ a k. let x = h a (omega arith) in omega (arith, x, before a (omega arith), room)) in
      let hm = h m (omega arith) in
      let bm = before m (omega arith) in
      ap (λ (x : List ℕ). put x (p m + s * w) (g m s))
      (puts-comm (λ a. p a + s * w) (λ a. g a s) m base (p m) (join s (g m))
      (λ a k. let x = h a (omega arith) in omega (arith, x, e, long a s (omega arith), room))
      (omega (arith, e, hm, bm, room))
      (λ a k.
      ⊎_elim (λ x. inl (omega (arith, x, bm, room))) (λ x. inr (omega (arith, x, long a s (omega arith), room))) (d a m k (omega arith))))
      ∙ ap (λ (x : List ℕ). put (put x (p m) (join s (g m))) (p m + s * w) (g m s)) (stripes-of m l (omega arith) (λ a k. h a (omega arith)) (λ a b k j. d a b k (omega arith)))
      ∙ behind (puts p (λ a. join (s + 1) (g a)) m l)
      (length-puts p (λ a. join (s + 1) (g a)) m l (λ a k. let x = h a (omega arith) in omega (arith, x, after a (omega arith), room)))
    where
      behind : (x : List ℕ) → length x ≡ length l → put (put x (p m) (join s (g m))) (p m + s * w) (g m s) ≡ put x (p m) (join (s + 1) (g m))
      behind x e =
          let hm = h m (omega arith) in
          let bm = before m (omega arith) in
          ap (λ (v : ℕ). put (put x (p m) (join s (g m))) (p m + v) (g m s)) (sym bm)
          ∙ sym (put-append x (p m) (join s (g m)) (g m s) (omega (arith, e, hm, bm, long m s (omega arith), room)))
          ∙ ap (put x (p m)) (sym (ap (λ (n : ℕ). join n (g m)) (add-one s) ∙ join-suc s (g m)))

  pub puts-stripe : (l : List ℕ) → ((a : ℕ) → a < M → p a + W ≤ length l) → ((a b : ℕ) → a < b → b < M → (p b + W ≤ p a) ⊎ (p a + W ≤ p b))
      → puts (λ a. p a + s * w) (λ a. g a s) M (puts p (λ a. join s (g a)) M l) ≡ puts p (λ a. join (s + 1) (g a)) M l
  puts-stripe l h d = stripes-of M l (omega arith) h d

-- what stands apart from all of them stays
pub puts-other : (p : ℕ → ℕ) (f : ℕ → List ℕ) (m : ℕ) (l : List ℕ) (q v : ℕ) → ((a : ℕ) → a < m → p a + length (f a) ≤ length l)
    → ((a : ℕ) → a < m → (q + v ≤ p a) ⊎ (p a + length (f a) ≤ q)) → take v (drop q (puts p f m l)) ≡ take v (drop q l)
puts-other p f zero l q v h d = refl
puts-other p f (suc m) l q v h d =
    let e : length (puts p f m l) ≡ length l = length-puts p f m l (λ a k. h a (omega arith)) in
    let fits : p m + length (f m) ≤ length (puts p f m l) = omega (arith, e, h m (omega arith)) in
    ⊎_elim (λ k. put-before (puts p f m l) (p m) (f m) fits q v k) (λ k. ap (take v) (put-after (puts p f m l) (p m) (f m) fits q k)) (d m (omega arith))
    ∙ puts-other p f m l q v (λ a k. h a (omega arith)) (λ a k. d a (omega arith))

-- ---- before the first stripe

put-none : (l : List ℕ) (at : ℕ) → put l at [] ≡ l
unfolding put
put-none l at =
    let e : at + 0 ≡ at = omega arith in
    ap (λ (x : List ℕ). x ++ drop (at + 0) l) (append-nil (take at l)) ∙ ap (λ (m : ℕ). take at l ++ drop m l) e ∙ take-append-drop at l

pub puts_none : (p : ℕ → ℕ) (m : ℕ) (l : List ℕ) → l ≡ puts p (λ a. []) m l
puts_none p zero l = refl
puts_none p (suc m) l = puts_none p m l ∙ sym (put-none (puts p (λ a. []) m l) (p m))
