-- Request A.12: "Show that each legal combination appears once and no other does", that they rise, and how many there are; N is any limit. The line of
-- any sizes, which inputs have a limit, and what is written of each input.
-- Assumes nothing.
use Rattle.std.specs.Prelude.{◌≡◌, true, ◌⊎◌, List, [], ◌∷◌, ◌++◌, map, ℕ, ◌+◌, ◌*◌, ◌-◌, ◌<◌, ◌≤◌, length, get_or}
use Rattle.lists.specs.Lists.{All, concat}
use Rattle.sizes.specs.declared.Sizes.{Sizes}
use Rattle.sizes.specs.Sizing.{legal}
use Rattle.board_spec.specs.Text.{decimal}
use Rattle.size_list.specs.Combinations.{combinations, limit, listed, row}

-- y comes before z in the order of n, then k, then d, then r
abbrev pub Before : Sizes → Sizes → Type 0
Before y z =
    (y.n < z.n)
    ⊎ ((y.n ≡ z.n) × ((y.k < z.k)
    ⊎ ((y.k ≡ z.k) × ((y.d < z.d)
    ⊎ ((y.d ≡ z.d) × (y.r < z.r))))))

-- z stands at place i of a list
pub record Stands (z : Sizes) (l : List Sizes) (i : ℕ) : Type 0 where
  pub inside : i < length l
  pub there : (other : Sizes) → get_or l i other ≡ z

pub record ListLaws : Type 0 where
  -- each legal combination appears
  pub all : (N : ℕ) (z : Sizes) → legal z ≡ true → z.n ≤ N → (i : ℕ) × Stands z (combinations N) i
  -- once
  pub once : (N : ℕ) (z : Sizes) (i j : ℕ) → Stands z (combinations N) i → Stands z (combinations N) j → i ≡ j
  -- and no other does
  pub no_other : (N : ℕ) → N ≤ 32 → All (λ z. (legal z ≡ true) × (z.n ≤ N)) (combinations N)
  -- "in rising order of n, k, d, r"
  pub rising : (N : ℕ) (y z : Sizes) (i j : ℕ) → i < j → Stands y (combinations N) i → Stands z (combinations N) j → Before y z
  -- "up to N there are (N + 2)(N + 1)N(N − 1) / 24 of them"
  pub count : (N : ℕ) → 24 * length (combinations N) ≡ (N + 2) * (N + 1) * N * (N - 1)
  -- "1 for N = 2, 5 for N = 3, 46,376 for N = 32"
  pub two : length (combinations 2) ≡ 1
  pub three : length (combinations 3) ≡ 5
  pub most : length (combinations 32) ≡ 46376
  -- every limit from 2 to 32 is taken
  pub taken : (v : ℕ) → 2 ≤ v → v ≤ 32 → limit (decimal v ++ (0x0A ∷ [])) ≡ v
  -- and nothing else: an input that has a limit is its decimal and byte 0A
  pub no-other-input : (input : List ℕ) → (limit input ≡ 0) ⊎ ((2 ≤ limit input) × (limit input ≤ 32) × (input ≡ decimal (limit input) ++ (0x0A ∷ [])))
  -- "one line each, n= k= d= r= share= stripe=, separated by single spaces": "share is α and stripe is B"
  pub row_is : (z : Sizes) → row z ≡ concat
      (((0x6E ∷ 0x3D ∷ []) ++ decimal z.n)
      ∷ ((0x20 ∷ 0x6B ∷ 0x3D ∷ []) ++ decimal z.k)
      ∷ ((0x20 ∷ 0x64 ∷ 0x3D ∷ []) ++ decimal z.d)
      ∷ ((0x20 ∷ 0x72 ∷ 0x3D ∷ []) ++ decimal z.r)
      ∷ ((0x20 ∷ 0x73 ∷ 0x68 ∷ 0x61 ∷ 0x72 ∷ 0x65 ∷ 0x3D ∷ []) ++ decimal (2 * z.d + z.r - 1))
      ∷ ((0x20 ∷ 0x73 ∷ 0x74 ∷ 0x72 ∷ 0x69 ∷ 0x70 ∷ 0x65 ∷ 0x3D ∷ []) ++ decimal (z.k * (2 * z.d + z.r - z.k)))
      ∷ (0x0A ∷ [])
      ∷ [])
  -- of a limit the lines up to it are written; of any other input refused=1
  pub listed-is : (v : ℕ) → 2 ≤ v → v ≤ 32 → listed (decimal v ++ (0x0A ∷ [])) ≡ concat (map row (combinations v))
  pub listed-else : (input : List ℕ) → ((v : ℕ) → 2 ≤ v → v ≤ 32 → input ≡ decimal v ++ (0x0A ∷ []) → ⊥)
      → listed input ≡ 0x72 ∷ 0x65 ∷ 0x66 ∷ 0x75 ∷ 0x73 ∷ 0x65 ∷ 0x64 ∷ 0x3D ∷ 0x31 ∷ 0x0A ∷ []
  -- an input of more than three bytes is refused, so that a program may read as few
  pub short : (input : List ℕ) → 4 ≤ length input → limit input ≡ 0
