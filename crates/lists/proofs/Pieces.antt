-- Laws of `tabulate`, `join`, `joined`, `piece` and `fit`: a piece of a join is what was put there, and the pieces of a list join to it.
-- Assumes nothing.
use mathlib.Core.Path.{◌≡◌, refl, sym, ap, ap₂, ◌∙◌}
use mathlib.Core.List.{List, [], ◌∷◌, ◌++◌, map, append-nil, append_assoc}
use Prim.Native.Nat.{ℕ, zero, suc, ◌+◌, ◌*◌, ◌-◌, ◌<◌, ◌≤◌}
use native.Mathlib.Nat.{zero-mul, suc-mul, add_comm, zero-add, suc-add}
use native.Mathlib.Numerals.{add-one}
use native.Mathlib.Omega.{arith}
use lib.ListN.{length, get_or, take, drop, set, length-append, length-take, length-drop, drop_of_length-le}
use lib.Seq.{sets-eq, take_at, drop_at, drop-append-add, take-add, drop-drop, drop-nil, get_or-take, get_or-drop, length-take-le}
use Rattle.lists.specs.Lists.{All, Bytes, tabulate, join, joined, piece, fit}
use Rattle.lists.proofs.Alls.{append-all, take-alls, drop-alls}

module _ {A : Type 0} where
  pub length-tabulate : (n : ℕ) (f : ℕ → A) → length (tabulate n f) ≡ n
  length-tabulate zero f = refl
  length-tabulate (suc n) f = ap suc (length-tabulate n (λ i. f (suc i)))

  pub tabulate-at : (n : ℕ) (f : ℕ → A) (z : A) (i : ℕ) → i < n → get_or (tabulate n f) i z ≡ f i
  tabulate-at zero f z i l = absurd (omega arith)
  tabulate-at (suc n) f z zero l = refl
  tabulate-at (suc n) f z (suc i) l = tabulate-at n (λ i. f (suc i)) z i (omega arith)

  pub tabulate-ext : (n : ℕ) (f g : ℕ → A) → ((i : ℕ) → i < n → f i ≡ g i) → tabulate n f ≡ tabulate n g
  tabulate-ext zero f g h = refl
  tabulate-ext (suc n) f g h =
      ap₂ {C = List A} (λ x l. x ∷ l) (h 0 (omega arith)) (tabulate-ext n (λ i. f (suc i)) (λ i. g (suc i)) (λ i l. h (suc i) (omega arith)))

  pub tabulate-get_d : (n : ℕ) (l : List A) (z : A) → length l ≡ n → tabulate n (λ t. get_or l t z) ≡ l
  tabulate-get_d zero [] z e = refl
  tabulate-get_d zero (x ∷ l) z e = absurd (omega arith)
  tabulate-get_d (suc n) [] z e = absurd (omega arith)
  tabulate-get_d (suc n) (x ∷ l) z e = ap {B = List A} (λ l. x ∷ l) (tabulate-get_d n l z (omega arith))

  pub tabulate-all : (P : A → Type 0) (n : ℕ) (f : ℕ → A) → ((i : ℕ) → i < n → P (f i)) → All P (tabulate n f)
  tabulate-all P zero f h = tt
  tabulate-all P (suc n) f h = (h 0 (omega arith), tabulate-all P n (λ i. f (suc i)) (λ i l. h (suc i) (omega arith)))

module _ {A C : Type 0} where
  pub map-tabulate : (h : A → C) (n : ℕ) (f : ℕ → A) → map h (tabulate n f) ≡ tabulate n (λ i. h (f i))
  map-tabulate h zero f = refl
  map-tabulate h (suc n) f = ap {B = List C} (λ l. h (f 0) ∷ l) (map-tabulate h n (λ i. f (suc i)))

  -- a value for each element, by its index
  pub tabulate-map : (h : A → C) (n : ℕ) (l : List A) (z : A) → length l ≡ n → tabulate n (λ t. h (get_or l t z)) ≡ map h l
  tabulate-map h n l z e = sym (map-tabulate h n (λ t. get_or l t z)) ∙ ap (map h) (tabulate-get_d n l z e)

  pub map-append : (h : A → C) (xs ys : List A) → map h (xs ++ ys) ≡ map h xs ++ map h ys
  map-append h [] ys = refl
  map-append h (x ∷ xs) ys = ap {B = List C} (λ l. h x ∷ l) (map-append h xs ys)

  pub map-drop : (h : A → C) (n : ℕ) (xs : List A) → map h (drop n xs) ≡ drop n (map h xs)
  map-drop h zero xs = refl
  map-drop h (suc n) [] = refl
  map-drop h (suc n) (x ∷ xs) = map-drop h n xs

-- ---- joins of pieces of one width

pub join-ext : (n : ℕ) (f g : ℕ → List ℕ) → ((i : ℕ) → i < n → f i ≡ g i) → join n f ≡ join n g
join-ext zero f g h = refl
join-ext (suc n) f g h =
    ap₂ {C = List ℕ} (λ x l. x ++ l) (h 0 (omega arith)) (join-ext n (λ i. f (suc i)) (λ i. g (suc i)) (λ i l. h (suc i) (omega arith)))

pub length-join : (n w : ℕ) (f : ℕ → List ℕ) → ((i : ℕ) → i < n → length (f i) ≡ w) → length (join n f) ≡ n * w
length-join zero w f h = sym (zero-mul w)
length-join (suc n) w f h =
    length-append (f 0) (join n (λ i. f (suc i)))
    ∙ ap₂ ◌+◌ (h 0 (omega arith)) (length-join n w (λ i. f (suc i)) (λ i l. h (suc i) (omega arith)))
    ∙ add_comm w (n * w) ∙ sym (suc-mul n w)

-- a turn of a loop that appends
pub join-suc : (n : ℕ) (f : ℕ → List ℕ) → join (suc n) f ≡ join n f ++ f n
join-suc zero f = append-nil (f 0)
join-suc (suc n) f =
    ap (λ (l : List ℕ). f 0 ++ l) (join-suc n (λ i. f (suc i))) ∙ sym (append_assoc (f 0) (join n (λ i. f (suc i))) (f (suc n)))

pub join-bytes : (n : ℕ) (f : ℕ → List ℕ) → ((i : ℕ) → i < n → Bytes (f i)) → Bytes (join n f)
join-bytes zero f h = tt
join-bytes (suc n) f h =
    append-all (λ a. a < 256) (f 0) (join n (λ i. f (suc i))) (h 0 (omega arith)) (join-bytes n (λ i. f (suc i)) (λ i l. h (suc i) (omega arith)))

-- piece s of a join is the list that was put there
pub piece-join : (n w : ℕ) (f : ℕ → List ℕ) → ((i : ℕ) → i < n → length (f i) ≡ w) → (s : ℕ) → s < n → piece w s (join n f) ≡ f s
unfolding piece
piece-join zero w f h s l = absurd (omega arith)
piece-join (suc n) w f h zero l = rw (zero-mul w) (take_at (f 0) (join n (λ i. f (suc i))) w (h 0 (omega arith)))
piece-join (suc n) w f h (suc s) l =
    let e : suc s * w ≡ length (f 0) + s * w = suc-mul s w ∙ add_comm (s * w) w ∙ ap (λ (m : ℕ). m + s * w) (sym (h 0 (omega arith))) in
    rw (e, drop-append-add (f 0) (join n (λ i. f (suc i))) (s * w))
    (piece-join n w (λ i. f (suc i)) (λ i l. h (suc i) (omega arith)) s (omega arith))

-- piece s + 1 is piece s of what follows the first
pub piece-suc : (w s : ℕ) (l : List ℕ) → piece w (suc s) l ≡ piece w s (drop w l)
unfolding piece
piece-suc w s l = ap (take w) (ap (λ (m : ℕ). drop m l) (suc-mul s w ∙ add_comm (s * w) w) ∙ sym (drop-drop (s * w) w l))

pub piece-zero : (w : ℕ) (l : List ℕ) → piece w 0 l ≡ take w l
unfolding piece
piece-zero w l = rw (zero-mul w)

-- the pieces of a list join to it
pub join-piece : (n w : ℕ) (l : List ℕ) → join n (λ s. piece w s l) ≡ take (n * w) l
join-piece zero w l = rw (zero-mul w)
join-piece (suc n) w l =
    ap₂ {C = List ℕ} (λ x y. x ++ y) (piece-zero w l)
    (join-ext n (λ s. piece w (suc s) l) (λ s. piece w s (drop w l)) (λ s h. piece-suc w s l) ∙ join-piece n w (drop w l))
    ∙ sym (take-add w (n * w) l) ∙ ap (λ (m : ℕ). take m l) (add_comm w (n * w) ∙ sym (suc-mul n w))

pub piece-at : (w s : ℕ) (l : List ℕ) (i z : ℕ) → i < w → get_or (piece w s l) i z ≡ get_or l (s * w + i) z
unfolding piece
piece-at w s l i z h = get_or-take w (drop (s * w) l) i z h ∙ get_or-drop (s * w) l i z

pub length-piece : (w s : ℕ) (l : List ℕ) → s * w + w ≤ length l → length (piece w s l) ≡ w
unfolding piece
length-piece w s l h = simp (length-take, length-drop) (omega arith)

pub piece_bytes : (w s : ℕ) (l : List ℕ) → Bytes l → Bytes (piece w s l)
unfolding piece
piece_bytes w s l h = take-alls (λ a. a < 256) w (drop (s * w) l) (drop-alls (λ a. a < 256) (s * w) l h)

-- ---- loops that fill a list from the front

pub tabulate-suc : (n : ℕ) (f : ℕ → ℕ) → tabulate (suc n) f ≡ tabulate n f ++ (f n ∷ [])
tabulate-suc zero f = refl
tabulate-suc (suc n) f = ap {B = List ℕ} (λ l. f 0 ∷ l) (tabulate-suc n (λ i. f (suc i)))

-- one element: out[t] = f t
pub fill-turn : (t : ℕ) (f : ℕ → ℕ) (out : List ℕ) → t < length out
    → set (tabulate t f ++ drop t out) t (f t) ≡ tabulate (suc t) f ++ drop (suc t) out
fill-turn zero f [] h = absurd (omega arith)
fill-turn zero f (x ∷ out) h = refl
fill-turn (suc t) f [] h = absurd (omega arith)
fill-turn (suc t) f (x ∷ out) h = ap {B = List ℕ} (λ l. f 0 ∷ l) (fill-turn t (λ i. f (suc i)) out (omega arith))

-- the same as code has it
pub fill-loop : (f : ℕ → ℕ) (out₀ out : List ℕ) (t v : ℕ) → t < length out₀ → v ≡ f t → out ≡ tabulate t f ++ drop t out₀
    → set out t v ≡ tabulate (t + 1) f ++ drop (t + 1) out₀
fill-loop f out₀ out t v h ev e = rw (add-one t, e, ev) (fill-turn t f out₀ h)

-- at the end of the loop
pub fill_end : (f : ℕ → ℕ) (out₀ out : List ℕ) (t m : ℕ) → t ≡ m → out ≡ tabulate t f ++ drop t out₀ → out ≡ tabulate m f ++ drop m out₀
fill_end f out₀ out t m e h = rw e at h

-- where all of it is filled in
pub fill-all : (f : ℕ → ℕ) (out : List ℕ) (m : ℕ) → length out ≤ m → tabulate m f ++ drop m out ≡ tabulate m f
fill-all f out m h = ap (λ (l : List ℕ). tabulate m f ++ l) (drop_of_length-le out h) ∙ append-nil (tabulate m f)

pub tabulate-take : (m : ℕ) (l : List ℕ) → m ≤ length l → tabulate m (λ t. get_or l t 0) ≡ take m l
tabulate-take m l h =
    tabulate-ext m (λ t. get_or l t 0) (λ t. get_or (take m l) t 0) (λ t k. sym (get_or-take m l t 0 k)) ∙ tabulate-get_d m (take m l) 0 (length-take-le m l h)

-- a piece of w elements: out[s * w .. s * w + w] = f s, as the borrow checker puts a part back
pub join-turn : (s w : ℕ) (f : ℕ → List ℕ) (out : List ℕ) → ((i : ℕ) → i < s → length (f i) ≡ w)
    → let l : List ℕ = join s f ++ drop (s * w) out in
    take (s * w) l ++ (f s ++ drop w (drop (s * w) l)) ≡ join (suc s) f ++ drop (s * w + w) out
join-turn s w f out h =
    let e : length (join s f) ≡ s * w = length-join s w f h in
    ap₂ {C = List ℕ} (λ x y. x ++ (f s ++ drop w y)) (take_at (join s f) (drop (s * w) out) (s * w) e) (drop_at (join s f) (drop (s * w) out) (s * w) e)
    ∙ ap (λ (l : List ℕ). join s f ++ (f s ++ l)) (drop-drop w (s * w) out)
    ∙ sym (append_assoc (join s f) (f s) (drop (s * w + w) out))
    ∙ ap (λ (l : List ℕ). l ++ drop (s * w + w) out) (sym (join-suc s f))

-- the part &l[s * w .. s * w + w], as the borrow checker gives it
pub part-piece : (w s : ℕ) (l : List ℕ) → take (s * w + w - s * w) (drop (s * w) l) ≡ piece w s l
unfolding piece
part-piece w s l = let e : s * w + w - s * w ≡ w = omega arith in ap (λ (m : ℕ). take m (drop (s * w) l)) e

-- a piece of two, store by store
pub two-turn : (f : ℕ → List ℕ) (out₀ out : List ℕ) (s a b : ℕ) → ((i : ℕ) → length (f i) ≡ 2) → s * 2 + 2 ≤ length out₀ → length out ≡ length out₀
    → a ∷ b ∷ [] ≡ f s → out ≡ join s f ++ drop (s * 2) out₀
    → set (set out (s * 2) a) (s * 2 + 1) b ≡ join (s + 1) f ++ drop ((s + 1) * 2) out₀
two-turn f out₀ out s a b h l lo e eo =
    let m : (s + 1) * 2 ≡ s * 2 + 2 = omega arith in
    rw (add-one (s * 2))
    (sets-eq (a ∷ b ∷ []) out (s * 2) (omega arith)
    ∙ append_assoc (take (s * 2) out) (a ∷ b ∷ []) (drop (s * 2 + 2) out)
    ∙ ap₂ {C = List ℕ} (λ x y. take (s * 2) out ++ (x ++ y)) e (sym (drop-drop 2 (s * 2) out))
    ∙ ap (λ (l : List ℕ). take (s * 2) l ++ (f s ++ drop 2 (drop (s * 2) l))) eo
    ∙ join-turn s 2 f out₀ (λ i k. h i)
    ∙ ap₂ {C = List ℕ} (λ (i j : ℕ). join i f ++ drop j out₀) (sym (add-one s)) (sym m))

-- pieces of one element
pub join-ones : (n : ℕ) (f : ℕ → ℕ) → join n (λ s. f s ∷ []) ≡ tabulate n f
join-ones zero f = refl
join-ones (suc n) f = ap {B = List ℕ} (λ l. f 0 ∷ l) (join-ones n (λ i. f (suc i)))

-- byte b of piece s of part t: where it stands
pub piece-piece-at : (w s v t : ℕ) (l : List ℕ) (b : ℕ) → b < w → s * w + b < v → get_or (piece w s (piece v t l)) b 0 ≡ get_or l (t * v + (s * w + b)) 0
piece-piece-at w s v t l b h k = piece-at w s (piece v t l) b 0 h ∙ piece-at v t l (s * w + b) 0 k

-- ---- what each number of a list has

-- by its place
pub join-joined : (f : ℕ → List ℕ) (l : List ℕ) → join (length l) (λ t. f (get_or l t 0)) ≡ joined f l
join-joined f [] = refl
join-joined f (x ∷ l) = ap (λ (t : List ℕ). f x ++ t) (join-joined f l)

pub joined_bytes : (f : ℕ → List ℕ) (l : List ℕ) → All (λ x. Bytes (f x)) l → Bytes (joined f l)
joined_bytes f [] h = tt
joined_bytes f (x ∷ l) h = append-all (λ a. a < 256) (f x) (joined f l) h.0 (joined_bytes f l h.1)

pub length-joined : (w : ℕ) (f : ℕ → List ℕ) → ((x : ℕ) → length (f x) ≡ w) → (l : List ℕ) → length (joined f l) ≡ length l * w
length-joined w f h [] = sym (zero-mul w)
length-joined w f h (x ∷ l) =
    length-append (f x) (joined f l) ∙ ap₂ ◌+◌ (h x) (length-joined w f h l) ∙ add_comm w (length l * w) ∙ sym (suc-mul (length l) w)

-- ---- filled up with 0

pub length-fit : (m : ℕ) (p : List ℕ) → length (fit m p) ≡ m
length-fit zero p = refl
length-fit (suc m) [] = ap suc (length-fit m [])
length-fit (suc m) (c ∷ p) = ap suc (length-fit m p)

pub fit-bytes : (m : ℕ) (p : List ℕ) → Bytes p → Bytes (fit m p)
fit-bytes zero p h = tt
fit-bytes (suc m) [] h = (omega arith, fit-bytes m [] tt)
fit-bytes (suc m) (c ∷ p) h = (h.0, fit-bytes m p h.1)

pub fit_at : (m : ℕ) (p : List ℕ) (i : ℕ) → i < m → get_or (fit m p) i 0 ≡ get_or p i 0
fit_at zero p i l = absurd (omega arith)
fit_at (suc m) [] zero l = refl
fit_at (suc m) [] (suc i) l = fit_at m [] i (omega arith)
fit_at (suc m) (c ∷ p) zero l = refl
fit_at (suc m) (c ∷ p) (suc i) l = fit_at m p i (omega arith)

fit-add : (m n : ℕ) (l : List ℕ) → fit m l ++ fit n (drop m l) ≡ fit (m + n) l
fit-add zero n l = ap (λ (m : ℕ). fit m l) (sym (zero-add n))
fit-add (suc m) n [] = ap {B = List ℕ} (λ l. 0 ∷ l) (ap (λ (l : List ℕ). fit m [] ++ fit n l) (sym (drop-nil m)) ∙ fit-add m n []) ∙ ap (λ (m : ℕ). fit m []) (sym (suc-add m n))
fit-add (suc m) n (x ∷ l) = ap {B = List ℕ} (λ l. x ∷ l) (fit-add m n l) ∙ ap (λ (m : ℕ). fit m (x ∷ l)) (sym (suc-add m n))

pub take-fit : (m : ℕ) (l : List ℕ) → length l ≤ m → take (length l) (fit m l) ≡ l
take-fit m [] h = refl
take-fit zero (x ∷ l) h = absurd (omega arith)
take-fit (suc m) (x ∷ l) h = ap {B = List ℕ} (λ l. x ∷ l) (take-fit m l (omega arith))

pub join-fit : (S w : ℕ) (l : List ℕ) → join S (λ s. fit w (drop (s * w) l)) ≡ fit (S * w) l
join-fit zero w l = rw (zero-mul w)
join-fit (suc S) w l =
    ap₂ {C = List ℕ} (λ x y. x ++ y) (ap (λ (m : ℕ). fit w (drop m l)) (zero-mul w))
    (join-ext S _ (λ s. fit w (drop (s * w) (drop w l)))
    (λ s h. ap (fit w) (ap (λ (m : ℕ). drop m l) (suc-mul s w ∙ add_comm (s * w) w) ∙ sym (drop-drop (s * w) w l)))
    ∙ join-fit S w (drop w l))
    ∙ fit-add w (S * w) l ∙ ap (λ (m : ℕ). fit m l) (add_comm w (S * w) ∙ sym (suc-mul S w))

-- ---- maps, by place

pub map_at : (f : ℕ → ℕ) (l : List ℕ) (i : ℕ) → i < length l → get_or (map f l) i 0 ≡ f (get_or l i 0)
map_at f [] i h = absurd (omega arith)
map_at f (x ∷ l) zero h = refl
map_at f (x ∷ l) (suc i) h = map_at f l i (omega arith)

pub map-bytes : (f : ℕ → ℕ) (l : List ℕ) → ((x : ℕ) → f x < 256) → Bytes (map f l)
map-bytes f [] h = tt
map-bytes f (x ∷ l) h = (h x, map-bytes f l h)
