-- What the tests mean: each holds just where the statement beside it does. Where a refusal's line asks a test, this says in
-- propositions what it asks. And what the lists of specs/Lists.antt are, at every length.
-- Assumes nothing.
use Rattle.std.specs.Prelude.{◌≡◌, Bool, true, false, ◌≢◌, ◌↔◌, List, [], ◌∷◌, ◌++◌, ℕ, suc, ◌+◌, ◌*◌, ◌-◌, ◌≤◌, ◌<◌, min, max, eqb, length, get_or}
use Rattle.std.proofs.Math.Option.{Option, some}
use Rattle.lists.specs.Tests.{pick, every, alls, below, among, different, apart, same, given}
use Rattle.lists.specs.Lists.{All, tabulate, concat, join, joined, piece, fit, without, put, over}

pub record TestsMean : Type 1 where
  pub pick_is : {A : Type 0} (a b : A) → (pick true a b ≡ a) × (pick false a b ≡ b)
  -- of the element at each place
  pub all-is : {A : Type 0} (P : A → Type 0) (l : List A) → All P l ↔ ((i : ℕ) → i < length l → (other : A) → P (get_or l i other))
  pub every-is : {A : Type 0} (p : A → Bool) (l : List A) → (every p l ≡ true) ↔ All (λ x. p x ≡ true) l
  pub alls-is : (l : List Bool) → (alls l ≡ true) ↔ All (λ b. b ≡ true) l
  pub given_is : {A : Type 0} (o : Option A) → (given o ≡ true) ↔ ((a : A) × (o ≡ some a))
  pub below-is : (n : ℕ) (l : List ℕ) → (below n l ≡ true) ↔ All (λ x. x < n) l
  -- the number stands at some place
  pub among-is : (l : List ℕ) (x : ℕ) → (among l x ≡ true) ↔ ((a : ℕ) × (a < length l) × (get_or l a 0 ≡ x))
  -- at any two places stand different numbers
  pub different-is : (l : List ℕ) → (different l ≡ true) ↔ ((a b : ℕ) → a < b → b < length l → get_or l b 0 ≢ get_or l a 0)
  -- wherever in the two lists, the numbers differ
  pub apart-is : (l xs : List ℕ) → (apart l xs ≡ true) ↔ ((a b : ℕ) → a < length l → b < length xs → get_or l a 0 ≢ get_or xs b 0)
  pub same-is : (xs ys : List ℕ) → (same xs ys ≡ true) ↔ (xs ≡ ys)
  -- bytes over a list: these first, then the list as it was, and as long as it was
  pub over_first : (bytes l : List ℕ) (i : ℕ) → i < length bytes → get_or (over bytes l) i 0 ≡ get_or bytes i 0
  pub over-rest : (bytes l : List ℕ) (i : ℕ) → length bytes ≤ i → get_or (over bytes l) i 0 ≡ get_or l i 0
  pub over-length : (bytes l : List ℕ) → length bytes ≤ length l → length (over bytes l) ≡ length l
  -- n elements, f i at place i
  pub tabulate-length : {A : Type 0} (n : ℕ) (f : ℕ → A) → length (tabulate n f) ≡ n
  pub tabulate-at : {A : Type 0} (n : ℕ) (f : ℕ → A) (i : ℕ) → i < n → (other : A) → get_or (tabulate n f) i other ≡ f i
  -- of no lists, of one, and of more
  pub concat-none : {A : Type 0} → concat {A = A} [] ≡ []
  pub concat-one : {A : Type 0} (l : List A) → concat (l ∷ []) ≡ l
  pub concat-parts : {A : Type 0} (ls ms : List (List A)) → concat (ls ++ ms) ≡ concat ls ++ concat ms
  -- f 0, then f 1, and so on; where each has w elements, piece s is f s
  pub join-none : (f : ℕ → List ℕ) → join 0 f ≡ []
  pub join_last : (n : ℕ) (f : ℕ → List ℕ) → join (suc n) f ≡ join n f ++ f n
  pub join-length : (n w : ℕ) (f : ℕ → List ℕ) → ((i : ℕ) → i < n → length (f i) ≡ w) → length (join n f) ≡ n * w
  pub join-piece : (n w : ℕ) (f : ℕ → List ℕ) → ((i : ℕ) → i < n → length (f i) ≡ w) → (s : ℕ) → s < n → piece w s (join n f) ≡ f s
  -- the same for each number of a list, in the list's order
  pub joined_is : (f : ℕ → List ℕ) (l : List ℕ) → joined f l ≡ join (length l) (λ t. f (get_or l t 0))
  pub joined_length : (f : ℕ → List ℕ) (w : ℕ) → ((x : ℕ) → length (f x) ≡ w) → (l : List ℕ) → length (joined f l) ≡ length l * w
  pub joined-piece : (f : ℕ → List ℕ) (w : ℕ) → ((x : ℕ) → length (f x) ≡ w) → (l : List ℕ) (t : ℕ) → t < length l → piece w t (joined f l) ≡ f (get_or l t 0)
  -- w elements from place s * w on, as far as the list goes
  pub piece-length : (w s : ℕ) (l : List ℕ) → length (piece w s l) ≡ min w (length l - s * w)
  pub piece-at : (w s i : ℕ) (l : List ℕ) → i < w → get_or (piece w s l) i 0 ≡ get_or l (s * w + i) 0
  -- m elements: the list's, then 0
  pub fit_length : (m : ℕ) (l : List ℕ) → length (fit m l) ≡ m
  pub fit_at : (m : ℕ) (l : List ℕ) (i : ℕ) → i < m → get_or (fit m l) i 0 ≡ get_or l i 0
  -- the number goes wherever it stands, and all else stays in its order
  pub without_not : (x : ℕ) (l : List ℕ) → among l x ≡ false → without x l ≡ l
  pub without-once : (x : ℕ) (a b : List ℕ) → among a x ≡ false → among b x ≡ false → without x (a ++ (x ∷ b)) ≡ a ++ b
  pub without-parts : (x : ℕ) (a b : List ℕ) → without x (a ++ b) ≡ without x a ++ without x b
  pub without-among : (x : ℕ) (l : List ℕ) (y : ℕ) → among (without x l) y ≡ pick (eqb x y) false (among l y)
  -- bytes from a place on: they stand there, all else is as it was, and the list is longer only where they reach past its end
  pub put-length : (l : List ℕ) (at : ℕ) (bytes : List ℕ) → at ≤ length l → length (put l at bytes) ≡ max (length l) (at + length bytes)
  pub put-before : (l : List ℕ) (at : ℕ) (bytes : List ℕ) → at ≤ length l → (p : ℕ) → p < at → get_or (put l at bytes) p 0 ≡ get_or l p 0
  pub put-inside : (l : List ℕ) (at : ℕ) (bytes : List ℕ) → at ≤ length l → (i : ℕ) → i < length bytes → get_or (put l at bytes) (at + i) 0 ≡ get_or bytes i 0
  pub put-after : (l : List ℕ) (at : ℕ) (bytes : List ℕ) → at ≤ length l → (p : ℕ) → at + length bytes ≤ p → get_or (put l at bytes) p 0 ≡ get_or l p 0
  pub put-beyond : (l : List ℕ) (at : ℕ) (bytes : List ℕ) → length l ≤ at → put l at bytes ≡ l ++ bytes
