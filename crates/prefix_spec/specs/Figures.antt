-- Figures of how far a text makes sense: no bytes, one byte, numbers within and without their range, points that were used or come to 0 to n − 1, data to
-- its end and a byte more. proofs/Figures.antt has `figures`.
-- Assumes nothing.
use Rattle.std.specs.Prelude.{◌≡◌, List, [], ◌∷◌, ◌++◌, map, ℕ, ◌-◌, length}
use Rattle.lists.specs.Lists.{tabulate, joined}
use Rattle.board_spec.specs.Text.{hex_pair}
use Rattle.prefix_spec.specs.Prefix.{longest}

-- n=
abbrev n : List ℕ → List ℕ
n digits = 0x6E ∷ 0x3D ∷ digits

-- n=4, k=3, d=
abbrev four : List ℕ → List ℕ
four digits = n (0x34 ∷ 0x0A ∷ 0x6B ∷ 0x3D ∷ 0x33 ∷ 0x0A ∷ 0x64 ∷ 0x3D ∷ digits)

-- n=32, k=20, d=
abbrev twenty : List ℕ → List ℕ
twenty digits = n (0x33 ∷ 0x32 ∷ 0x0A ∷ 0x6B ∷ 0x3D ∷ 0x32 ∷ 0x30 ∷ 0x0A ∷ 0x64 ∷ 0x3D ∷ digits)

-- n=5, k=2, d=3, r=
abbrev five : List ℕ → List ℕ
five digits = n (0x35 ∷ 0x0A ∷ 0x6B ∷ 0x3D ∷ 0x32 ∷ 0x0A ∷ 0x64 ∷ 0x3D ∷ 0x33 ∷ 0x0A ∷ 0x72 ∷ 0x3D ∷ digits)

-- the same, and r=2, node=4, length=
abbrev five_long : List ℕ → List ℕ
five_long digits = five (0x32 ∷ 0x0A ∷ 0x6E ∷ 0x6F ∷ 0x64 ∷ 0x65 ∷ 0x3D ∷ 0x34 ∷ 0x0A ∷ 0x6C ∷ 0x65 ∷ 0x6E ∷ 0x67 ∷ 0x74 ∷ 0x68 ∷ 0x3D ∷ digits)

-- this n, and k=1, d=1, r=1, node=
abbrev ones : List ℕ → List ℕ → List ℕ
ones digits node =
    n (digits ++ (0x0A ∷ 0x6B ∷ 0x3D ∷ 0x31 ∷ 0x0A ∷ 0x64 ∷ 0x3D ∷ 0x31 ∷ 0x0A ∷ 0x72 ∷ 0x3D ∷ 0x31 ∷ 0x0A ∷ 0x6E ∷ 0x6F ∷ 0x64 ∷ 0x65 ∷ 0x3D ∷ node))

-- the same, and node=0, length=
abbrev long : List ℕ → List ℕ → List ℕ
long digits rest = ones digits (0x30 ∷ 0x0A ∷ 0x6C ∷ 0x65 ∷ 0x6E ∷ 0x67 ∷ 0x74 ∷ 0x68 ∷ 0x3D ∷ rest)

-- the same, and length=1, points=
abbrev points : List ℕ → List ℕ → List ℕ
points digits rest = long digits (0x31 ∷ 0x0A ∷ 0x70 ∷ 0x6F ∷ 0x69 ∷ 0x6E ∷ 0x74 ∷ 0x73 ∷ 0x3D ∷ rest)

-- so many pairs 00, 01, .. and these bytes
abbrev in_order : ℕ → List ℕ → List ℕ
in_order m rest = joined hex_pair (tabulate m (λ i. i)) ++ rest

-- how many bytes of these make sense beyond the first
abbrev beyond : (List ℕ → List ℕ) → List (List ℕ) → List ℕ
beyond text l = map (λ rest. longest (text rest) - length (text [])) l

pub record PrefixFigures : Type 0 where
  pub first-bytes : map longest ([] ∷ (0x78 ∷ []) ∷ (0x6E ∷ []) ∷ (0x6E ∷ 0x20 ∷ []) ∷ []) ≡ 0 ∷ 0 ∷ 1 ∷ 1 ∷ []
  -- 0; 02; 1; 1 and byte 0A; 2 and byte 0A; 32; 33; 4 and 0
  pub boards : beyond n ((0x30 ∷ []) ∷ (0x30 ∷ 0x32 ∷ []) ∷ (0x31 ∷ []) ∷ (0x31 ∷ 0x0A ∷ []) ∷ (0x32 ∷ 0x0A ∷ [])
      ∷ (0x33 ∷ 0x32 ∷ []) ∷ (0x33 ∷ 0x33 ∷ []) ∷ (0x34 ∷ 0x30 ∷ []) ∷ [])
      ≡ 0 ∷ 0 ∷ 1 ∷ 1 ∷ 2 ∷ 2 ∷ 1 ∷ 1 ∷ []
  -- n=4, k=3: d is 3
  pub helpers : beyond four ((0x32 ∷ []) ∷ (0x33 ∷ []) ∷ (0x34 ∷ []) ∷ []) ≡ 0 ∷ 1 ∷ 0 ∷ []
  -- n=32, k=20: d=1, 2, 3, 20, 32
  pub many-helpers : beyond twenty ((0x31 ∷ []) ∷ (0x32 ∷ []) ∷ (0x33 ∷ []) ∷ (0x32 ∷ 0x30 ∷ []) ∷ (0x33 ∷ 0x32 ∷ []) ∷ []) ≡ 0 ∷ 1 ∷ 1 ∷ 2 ∷ 1 ∷ []
  -- n=5, k=2, d=3: r=0, 1, 2, 3; then with r=2 a length of 4,096 × 12, one more, and one digit more
  pub fresh : beyond five ((0x30 ∷ []) ∷ (0x31 ∷ []) ∷ (0x32 ∷ []) ∷ (0x33 ∷ []) ∷ []) ≡ 0 ∷ 1 ∷ 1 ∷ 0 ∷ []
  pub file : beyond five_long ((0x34 ∷ 0x39 ∷ 0x31 ∷ 0x35 ∷ 0x32 ∷ []) ∷ (0x34 ∷ 0x39 ∷ 0x31 ∷ 0x35 ∷ 0x33 ∷ [])
      ∷ (0x31 ∷ 0x30 ∷ 0x30 ∷ 0x30 ∷ 0x30 ∷ 0x30 ∷ []) ∷ [])
      ≡ 5 ∷ 4 ∷ 5 ∷ []
  -- n=32: node=4, 40, 31, 32, 0, 00
  pub node : beyond (ones (0x33 ∷ 0x32 ∷ [])) ((0x34 ∷ []) ∷ (0x34 ∷ 0x30 ∷ []) ∷ (0x33 ∷ 0x31 ∷ []) ∷ (0x33 ∷ 0x32 ∷ []) ∷ (0x30 ∷ []) ∷ (0x30 ∷ 0x30 ∷ []) ∷ [])
      ≡ 1 ∷ 1 ∷ 2 ∷ 1 ∷ 1 ∷ 1 ∷ []
  -- n=2: a length of 4,096 × B and one more
  pub longest-file : beyond (long (0x32 ∷ [])) ((0x38 ∷ 0x31 ∷ 0x39 ∷ 0x32 ∷ []) ∷ (0x38 ∷ 0x31 ∷ 0x39 ∷ 0x33 ∷ []) ∷ []) ≡ 4 ∷ 3 ∷ []
  -- n=2: 0001 would be 0 to n − 1; 0000 repeats; 0002 stands
  pub two-points : beyond (points (0x32 ∷ [])) (in_order 2 [] ∷ (0x30 ∷ 0x30 ∷ 0x30 ∷ 0x30 ∷ []) ∷ (0x30 ∷ 0x30 ∷ 0x30 ∷ 0x32 ∷ []) ∷ (0x30 ∷ 0x41 ∷ []) ∷ [])
      ≡ 3 ∷ 3 ∷ 4 ∷ 1 ∷ []
  -- n=16 behind 00 to 0e: 0f would be the row; n=17 behind 00 to 0f: all of 00 to 0f are used; n=32 behind 00 to 1e: 1f would be the row
  pub sixteen : beyond (points (0x31 ∷ 0x36 ∷ [])) (in_order 15 (0x30 ∷ []) ∷ in_order 15 (0x31 ∷ []) ∷ []) ≡ 30 ∷ 31 ∷ []
  pub seventeen : beyond (points (0x31 ∷ 0x37 ∷ [])) (in_order 16 (0x30 ∷ []) ∷ in_order 16 (0x31 ∷ 0x30 ∷ []) ∷ in_order 16 (0x31 ∷ 0x31 ∷ []) ∷ []) ≡ 32 ∷ 33 ∷ 34 ∷ []
  pub thirty_two : beyond (points (0x33 ∷ 0x32 ∷ [])) (in_order 31 (0x31 ∷ []) ∷ in_order 31 (0x66 ∷ 0x66 ∷ 0x0A ∷ []) ∷ []) ≡ 62 ∷ 65 ∷ []
  -- n=2, length=1: two pairs of data and byte 0A, and nothing behind; another name
  pub share : beyond (λ rest. long (0x32 ∷ []) (0x31 ∷ 0x0A ∷ rest))
      ((0x64 ∷ 0x61 ∷ 0x74 ∷ 0x61 ∷ 0x3D ∷ 0x30 ∷ 0x35 ∷ 0x30 ∷ 0x36 ∷ 0x0A ∷ [])
      ∷ (0x64 ∷ 0x61 ∷ 0x74 ∷ 0x61 ∷ 0x3D ∷ 0x30 ∷ 0x35 ∷ 0x30 ∷ 0x36 ∷ 0x0A ∷ 0x0A ∷ [])
      ∷ (0x64 ∷ 0x61 ∷ 0x74 ∷ 0x61 ∷ 0x3D ∷ 0x30 ∷ 0x35 ∷ 0x30 ∷ 0x36 ∷ 0x30 ∷ [])
      ∷ (0x64 ∷ 0x61 ∷ 0x74 ∷ 0x61 ∷ 0x3D ∷ 0x30 ∷ 0x0A ∷ [])
      ∷ (0x78 ∷ [])
      ∷ [])
      ≡ 10 ∷ 10 ∷ 9 ∷ 6 ∷ 0 ∷ []
