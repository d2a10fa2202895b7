-- Lists of numbers: bytes; lists put together of pieces and taken apart; bytes put over others.
-- Assumes nothing.
use Rattle.std.specs.Prelude.{List, [], ◌∷◌, ◌++◌, map, ℕ, zero, suc, ◌+◌, ◌*◌, ◌<◌, eqb, length, take, drop}
use Rattle.lists.specs.Tests.{pick}

-- P of each element
abbrev pub All : {A : Type 0} → (A → Type 0) → List A → Type 0
All P [] = Unit {0}
All P (x ∷ xs) = P x × All P xs

-- each number is a byte
abbrev pub Bytes : List ℕ → Type 0
Bytes = All (λ a. a < 256)

-- f 0, f 1, .. , f (n − 1)
abbrev pub tabulate : {A : Type 0} → ℕ → (ℕ → A) → List A
tabulate zero f = []
tabulate (suc n) f = f 0 ∷ tabulate n (λ i. f (suc i))

-- lists, one after another
abbrev pub concat : {A : Type 0} → List (List A) → List A
concat [] = []
concat (l ∷ ls) = l ++ concat ls

-- the lists f 0, f 1, .. , f (n − 1), one after another
abbrev pub join : ℕ → (ℕ → List ℕ) → List ℕ
join n f = concat (tabulate n f)

-- what each number of a list has, one after another
abbrev pub joined : (ℕ → List ℕ) → List ℕ → List ℕ
joined f l = concat (map f l)

-- piece s of a list of pieces of w elements, counted from 0
unfoldable pub piece : ℕ → ℕ → List ℕ → List ℕ
piece w s l = take w (drop (s * w) l)

-- the first m elements; what the list lacks is 0
abbrev pub fit : ℕ → List ℕ → List ℕ
fit zero l = []
fit (suc m) [] = 0 ∷ fit m []
fit (suc m) (x ∷ l) = x ∷ fit m l

-- the list without a number
abbrev pub without : ℕ → List ℕ → List ℕ
without x [] = []
without x (y ∷ l) = pick (eqb y x) [] (y ∷ []) ++ without x l

-- the list with these bytes from a place on
unfoldable pub put : List ℕ → ℕ → List ℕ → List ℕ
put l at bytes = take at l ++ bytes ++ drop (at + length bytes) l

-- these bytes first, and the rest as it was
abbrev pub over : List ℕ → List ℕ → List ℕ
over bytes l = bytes ++ drop (length bytes) l
