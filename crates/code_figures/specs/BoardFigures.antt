-- Figures of the board-level calls over the definitions: for each call each refusal that it has, then each adjacent pair of the order, where
-- both lines hold and the first is given; and figures with two stripes. proofs/BoardFigures.antt has `figures`.
-- Assumes nothing.
use Rattle.std.specs.Prelude.{◌≡◌, true, false, List, [], ◌∷◌, ◌++◌, map, ℕ, take, replicate, set}
use Rattle.sizes.specs.declared.Sizes.{Sizes}
use Rattle.sizes.specs.Sizing.{legal, stripes}
use Rattle.mbcr.specs.Share.{standard, share, shares}
use Rattle.mbcr.specs.PointLaws.{first_series}
use Rattle.board_spec.specs.Text.{share_text}
use Rattle.board_spec.specs.Runs.{equal_points, own_runs, exchange_runs, finish_runs, read_runs}
use Rattle.board_spec.specs.Calls.{BoardOutcome, share_call, file_call, helper_call, exchange_call, finished_call, text_call}

abbrev sizes : ℕ → ℕ → ℕ → ℕ → Sizes
sizes n k d r = record { n = n; k = k; d = d; r = r }

abbrev small : Sizes
small = sizes 2 1 1 1

-- one board too few
abbrev tight : Sizes
tight = sizes 1 1 1 1

abbrev five : Sizes
five = sizes 5 2 3 2

-- B = 12, α = 7
abbrev seven : Sizes
seven = sizes 7 2 3 2

-- document 01's points, but board a has that of board b
abbrev alike : ℕ → ℕ → List ℕ
alike a b = set (standard seven) a b

-- B = 3, α = 3
abbrev four : Sizes
four = sizes 4 1 1 2

-- four points that all differ, 00 among them, and 00 from n up; the same and one more
abbrev points4 : List ℕ
points4 = 0x05 ∷ 0x00 ∷ 0x80 ∷ 0x1D ∷ replicate 28 0

abbrev points5 : List ℕ
points5 = set points4 4 0xFF

abbrev twice : List ℕ
twice = 0x07 ∷ 0x07 ∷ replicate 30 0

-- the six calls at points of four boards; nothing else is wrong
abbrev six : List ℕ → List BoardOutcome
six xs =
    share_call four xs 0 (replicate 3 0) (replicate 3 0)
    ∷ file_call four xs 3 (0 ∷ []) (replicate 3 0) (replicate 3 0)
    ∷ helper_call four xs 3 2 0 (replicate 3 0) (replicate 2 0)
    ∷ exchange_call four xs 3 0 (2 ∷ []) (replicate 2 0) 1 (0 ∷ [])
    ∷ finished_call four xs 3 0 (2 ∷ []) (replicate 2 0) (1 ∷ []) (0 ∷ []) (replicate 3 0)
    ∷ text_call four xs 3 0 (replicate 3 0) (replicate 60 0)
    ∷ []

-- eleven bytes 00, then 01
abbrev file : List ℕ
file = replicate 11 0 ++ (1 ∷ [])

-- "L may be 0 to 4,096 × B": one more than 4,096 × 2
abbrev long : ℕ
long = 8193

abbrev answers : List BoardOutcome → List ℕ
answers os = map (λ o. o.answer.refusal) os

-- the shares of boards 0 and 1, the last byte altered
abbrev altered : List ℕ
altered = replicate 7 0 ++ (0x01 ∷ 0x02 ∷ 0x03 ∷ 0x04 ∷ 0x00 ∷ 0x04 ∷ 0x06 ∷ [])

pub record BoardFigures : Type 0 where
  -- "n = 32, d + r = n, k = d are legal; n = 33, d + r = n + 1, k = d + 1, r = 0 give SIZE"
  pub legal-sizes : map legal (small ∷ five ∷ sizes 32 16 16 16 ∷ sizes 32 1 1 1 ∷ []) ≡ true ∷ true ∷ true ∷ true ∷ []
  pub illegal-sizes : map legal (sizes 33 1 1 1 ∷ tight ∷ sizes 5 4 3 2 ∷ sizes 5 2 3 0 ∷ sizes 5 0 3 2 ∷ []) ≡ false ∷ false ∷ false ∷ false ∷ false ∷ []
  -- request A.9: each call is accepted at document 01's points, at i + 1, at others with a board's 00; and gives SIZE where the first point is
  -- repeated, the last one, where board 4 or 31 of four has one other than 00, and at 31 points
  pub points-accepted : map (λ xs. answers (six xs)) (standard four ∷ first_series four ∷ points4 ∷ []) ≡ replicate 3 (replicate 6 0)
  pub points-refused :
      map (λ xs. answers (six xs))
      (set points4 1 0x05 ∷ set points4 3 0x80 ∷ points5 ∷ set points4 31 1 ∷ take 31 points4 ∷ [])
      ≡ replicate 5 (replicate 6 1)
  -- such points before LONG: two boards with one point
  pub points-first :
      answers
      (share_call small twice 0 (replicate long 0) []
      ∷ file_call small twice long (0 ∷ []) [] []
      ∷ helper_call small twice long 0 1 [] []
      ∷ exchange_call small twice long 0 (1 ∷ []) [] 1 []
      ∷ finished_call small twice long 0 (1 ∷ []) [] [] [] []
      ∷ text_call small twice long 0 [] []
      ∷ [])
      ≡ replicate 6 1
  -- what the calls give at five other points: all shares; helper 2 to board 0; board 3 to board 0; board 0's share of helpers 1, 2, 4 and partner 3;
  -- and, of four boards, a file from one
  pub points-shares : map (λ i. (share_call five points5 i file (replicate 7 0xEE)).output) (0 ∷ 1 ∷ 2 ∷ 3 ∷ 4 ∷ [])
      ≡ (0x55 ∷ 0x00 ∷ 0x68 ∷ 0xD0 ∷ 0xB4 ∷ 0x00 ∷ 0x5F ∷ [])
      ∷ (0x00 ∷ 0x00 ∷ 0x00 ∷ 0x00 ∷ 0x00 ∷ 0x00 ∷ 0x00 ∷ [])
      ∷ (0x75 ∷ 0xEA ∷ 0x57 ∷ 0x5F ∷ 0x00 ∷ 0xC9 ∷ 0x44 ∷ [])
      ∷ (0x8F ∷ 0x41 ∷ 0x61 ∷ 0x00 ∷ 0xC9 ∷ 0x88 ∷ 0xD0 ∷ [])
      ∷ (0x26 ∷ 0x4D ∷ 0x00 ∷ 0x44 ∷ 0x88 ∷ 0xB4 ∷ 0x00 ∷ [])
      ∷ []
  pub points-packet : (helper_call five points5 12 2 0 (0x75 ∷ 0xEA ∷ 0x57 ∷ 0x5F ∷ 0x00 ∷ 0xC9 ∷ 0x44 ∷ []) (0xEE ∷ 0xEE ∷ [])).output ≡ 0x5F ∷ 0x68 ∷ []
  pub points-exchange : (exchange_call five points5 12 3 (1 ∷ 2 ∷ 4 ∷ []) (0x00 ∷ 0x00 ∷ 0xEA ∷ 0xC9 ∷ 0x88 ∷ 0x41 ∷ []) 0 (0xEE ∷ [])).output ≡ 0xD0 ∷ []
  pub points-finished :
      (finished_call five points5 12 0 (1 ∷ 2 ∷ 4 ∷ []) (0x00 ∷ 0x00 ∷ 0x5F ∷ 0x68 ∷ 0x4D ∷ 0xB4 ∷ []) (3 ∷ []) (0xD0 ∷ []) (replicate 7 0xEE)).output
      ≡ 0x55 ∷ 0x00 ∷ 0x68 ∷ 0xD0 ∷ 0xB4 ∷ 0x00 ∷ 0x5F ∷ []
  pub points-file : file_call four points4 3 (2 ∷ []) (0x29 ∷ 0xEF ∷ 0x38 ∷ []) (replicate 4 0xEE)
      ≡ record { answer = record { refusal = 0; reported = 3 }; output = 0x01 ∷ 0x02 ∷ 0x03 ∷ 0xEE ∷ [] }
  -- 1, 3, 5, 7; then 1 before 3, 3 before 5, 5 before 7
  pub share-refusals :
      answers
      (share_call (sizes 33 1 1 1) (standard (sizes 33 1 1 1)) 0 [] []
      ∷ share_call small (standard small) 0 (replicate long 0) []
      ∷ share_call five (standard five) 5 [] []
      ∷ share_call five (standard five) 0 (1 ∷ []) (replicate 6 0)
      ∷ share_call tight (standard tight) 0 (replicate long 0) []
      ∷ share_call small (standard small) 2 (replicate long 0) []
      ∷ share_call five (standard five) 5 (1 ∷ []) []
      ∷ [])
      ≡ 1 ∷ 3 ∷ 5 ∷ 7 ∷ 1 ∷ 3 ∷ 5 ∷ []
  -- 1, 3, 4, 5, 6, 2, 7, 10; then each before the next
  pub file-refusals :
      answers
      (file_call (sizes 5 4 3 2) (standard (sizes 5 4 3 2)) 12 (0 ∷ 1 ∷ []) altered []
      ∷ file_call small (standard small) long (0 ∷ []) [] []
      ∷ file_call five (standard five) 12 (0 ∷ []) [] []
      ∷ file_call five (standard five) 12 (0 ∷ 5 ∷ []) [] []
      ∷ file_call five (standard five) 12 (1 ∷ 1 ∷ []) [] []
      ∷ file_call five (standard five) 12 (0 ∷ 1 ∷ []) (0 ∷ altered) (replicate 12 0)
      ∷ file_call five (standard five) 12 (0 ∷ 1 ∷ []) (shares five (standard five) file (0 ∷ 1 ∷ [])) (replicate 11 0)
      ∷ file_call small (standard small) 1 (0 ∷ []) (0x05 ∷ 0x06 ∷ []) (0 ∷ [])
      ∷ file_call tight (standard tight) long (0 ∷ []) [] []
      ∷ file_call small (standard small) long [] [] []
      ∷ file_call five (standard five) 12 (9 ∷ []) [] []
      ∷ file_call five (standard five) 12 (9 ∷ 9 ∷ []) [] []
      ∷ file_call five (standard five) 12 (1 ∷ 1 ∷ []) [] (replicate 12 0)
      ∷ file_call five (standard five) 12 (0 ∷ 1 ∷ []) [] []
      ∷ file_call five (standard five) 12 (0 ∷ 1 ∷ []) altered (replicate 11 0)
      ∷ [])
      ≡ 1 ∷ 3 ∷ 4 ∷ 5 ∷ 6 ∷ 2 ∷ 7 ∷ 10 ∷ 1 ∷ 3 ∷ 4 ∷ 5 ∷ 6 ∷ 2 ∷ 7 ∷ []
  -- 1, 3, 5 of the worker and of the receiver, 6, 2, 7; then each before the next
  pub helper-refusals :
      answers
      (helper_call (sizes 5 2 3 0) (standard (sizes 5 2 3 0)) 12 2 0 (replicate 7 0) []
      ∷ helper_call small (standard small) long 0 1 [] []
      ∷ helper_call five (standard five) 12 5 0 (replicate 7 0) []
      ∷ helper_call five (standard five) 12 2 5 (replicate 7 0) []
      ∷ helper_call five (standard five) 12 2 2 (replicate 7 0) []
      ∷ helper_call five (standard five) 12 2 0 (replicate 8 0) (0 ∷ 0 ∷ [])
      ∷ helper_call five (standard five) 12 2 0 (replicate 7 0) (0 ∷ [])
      ∷ helper_call tight (standard tight) long 0 1 [] []
      ∷ helper_call small (standard small) long 2 1 [] []
      ∷ helper_call five (standard five) 12 5 5 [] []
      ∷ helper_call five (standard five) 12 2 2 [] []
      ∷ helper_call five (standard five) 12 2 0 [] []
      ∷ [])
      ≡ 1 ∷ 3 ∷ 5 ∷ 5 ∷ 6 ∷ 2 ∷ 7 ∷ 1 ∷ 3 ∷ 5 ∷ 6 ∷ 2 ∷ []
  -- 1, 3, 4, 5 of the worker, of a helper and of the receiver, 6 of each, 2, 7; then each before the next
  pub exchange-refusals :
      answers
      (exchange_call (sizes 5 0 3 2) (standard (sizes 5 0 3 2)) 12 0 (2 ∷ 3 ∷ 4 ∷ []) (replicate 6 0) 1 (0 ∷ [])
      ∷ exchange_call small (standard small) long 0 (1 ∷ []) [] 1 []
      ∷ exchange_call five (standard five) 12 0 (2 ∷ 3 ∷ []) (replicate 6 0) 1 (0 ∷ [])
      ∷ exchange_call five (standard five) 12 5 (2 ∷ 3 ∷ 4 ∷ []) (replicate 6 0) 1 (0 ∷ [])
      ∷ exchange_call five (standard five) 12 0 (2 ∷ 5 ∷ 4 ∷ []) (replicate 6 0) 1 (0 ∷ [])
      ∷ exchange_call five (standard five) 12 0 (2 ∷ 3 ∷ 4 ∷ []) (replicate 6 0) 5 (0 ∷ [])
      ∷ exchange_call five (standard five) 12 0 (2 ∷ 2 ∷ 4 ∷ []) (replicate 6 0) 1 (0 ∷ [])
      ∷ exchange_call five (standard five) 12 3 (2 ∷ 3 ∷ 4 ∷ []) (replicate 6 0) 1 (0 ∷ [])
      ∷ exchange_call five (standard five) 12 0 (2 ∷ 3 ∷ 4 ∷ []) (replicate 6 0) 4 (0 ∷ [])
      ∷ exchange_call five (standard five) 12 0 (2 ∷ 3 ∷ 4 ∷ []) (replicate 6 0) 0 (0 ∷ [])
      ∷ exchange_call five (standard five) 12 0 (2 ∷ 3 ∷ 4 ∷ []) (replicate 5 0) 1 (0 ∷ [])
      ∷ exchange_call five (standard five) 12 0 (2 ∷ 3 ∷ 4 ∷ []) (replicate 6 0) 1 []
      ∷ exchange_call tight (standard tight) long 0 (1 ∷ []) [] 1 []
      ∷ exchange_call small (standard small) long 0 [] [] 1 []
      ∷ exchange_call five (standard five) 12 9 [] [] 1 []
      ∷ exchange_call five (standard five) 12 9 (9 ∷ 3 ∷ 4 ∷ []) [] 1 []
      ∷ exchange_call five (standard five) 12 0 (2 ∷ 2 ∷ 4 ∷ []) [] 1 (0 ∷ [])
      ∷ exchange_call five (standard five) 12 0 (2 ∷ 3 ∷ 4 ∷ []) [] 1 []
      ∷ [])
      ≡ 1 ∷ 3 ∷ 4 ∷ 5 ∷ 5 ∷ 5 ∷ 6 ∷ 6 ∷ 6 ∷ 6 ∷ 2 ∷ 7 ∷ 1 ∷ 3 ∷ 4 ∷ 5 ∷ 6 ∷ 2 ∷ []
  -- 1, 3, 4 of helpers and of partners, 5 of each, 6 of each, 2 of packets and of exchanges, 7; then each before the next
  pub finished-refusals :
      answers
      (finished_call (sizes 33 2 3 2) (standard (sizes 33 2 3 2)) 12 0 (2 ∷ 3 ∷ 4 ∷ []) (replicate 6 0) (1 ∷ []) (0 ∷ []) (replicate 7 0)
      ∷ finished_call small (standard small) long 0 (1 ∷ []) [] [] [] []
      ∷ finished_call five (standard five) 12 0 (2 ∷ 3 ∷ []) (replicate 6 0) (1 ∷ []) (0 ∷ []) (replicate 7 0)
      ∷ finished_call five (standard five) 12 0 (2 ∷ 3 ∷ 9 ∷ []) (replicate 6 0) [] (0 ∷ []) (replicate 7 0)
      ∷ finished_call five (standard five) 12 5 (2 ∷ 3 ∷ 4 ∷ []) (replicate 6 0) (1 ∷ []) (0 ∷ []) (replicate 7 0)
      ∷ finished_call five (standard five) 12 0 (2 ∷ 3 ∷ 5 ∷ []) (replicate 6 0) (1 ∷ []) (0 ∷ []) (replicate 7 0)
      ∷ finished_call five (standard five) 12 0 (2 ∷ 3 ∷ 4 ∷ []) (replicate 6 0) (5 ∷ []) (0 ∷ []) (replicate 7 0)
      ∷ finished_call five (standard five) 12 0 (2 ∷ 2 ∷ 4 ∷ []) (replicate 6 0) (1 ∷ []) (0 ∷ []) (replicate 7 0)
      ∷ finished_call five (standard five) 12 0 (2 ∷ 3 ∷ 4 ∷ []) (replicate 6 0) (4 ∷ []) (0 ∷ []) (replicate 7 0)
      ∷ finished_call five (standard five) 12 0 (2 ∷ 3 ∷ 4 ∷ []) (replicate 6 0) (0 ∷ []) (0 ∷ []) (replicate 7 0)
      ∷ finished_call five (standard five) 12 2 (2 ∷ 3 ∷ 4 ∷ []) (replicate 6 0) (1 ∷ []) (0 ∷ []) (replicate 7 0)
      ∷ finished_call five (standard five) 12 0 (2 ∷ 3 ∷ 4 ∷ []) (replicate 5 0) (1 ∷ []) (0 ∷ []) (replicate 7 0)
      ∷ finished_call five (standard five) 12 0 (2 ∷ 3 ∷ 4 ∷ []) (replicate 6 0) (1 ∷ []) [] (replicate 7 0)
      ∷ finished_call five (standard five) 12 0 (2 ∷ 3 ∷ 4 ∷ []) (replicate 6 0) (1 ∷ []) (0 ∷ []) (replicate 6 0)
      ∷ finished_call tight (standard tight) long 0 (1 ∷ []) [] [] [] []
      ∷ finished_call small (standard small) long 0 [] [] [] [] []
      ∷ finished_call five (standard five) 12 9 [] [] (1 ∷ []) [] []
      ∷ finished_call five (standard five) 12 9 (9 ∷ 3 ∷ 4 ∷ []) [] (1 ∷ []) [] []
      ∷ finished_call five (standard five) 12 0 (2 ∷ 2 ∷ 4 ∷ []) [] (1 ∷ []) (0 ∷ []) (replicate 7 0)
      ∷ finished_call five (standard five) 12 0 (2 ∷ 3 ∷ 4 ∷ []) [] (1 ∷ []) (0 ∷ []) []
      ∷ [])
      ≡ 1 ∷ 3 ∷ 4 ∷ 4 ∷ 5 ∷ 5 ∷ 5 ∷ 6 ∷ 6 ∷ 6 ∷ 6 ∷ 2 ∷ 2 ∷ 7 ∷ 1 ∷ 3 ∷ 4 ∷ 5 ∷ 6 ∷ 2 ∷ []
  -- 1, 3, 5, 2, 7; then each before the next
  pub text-refusals :
      answers
      (text_call tight (standard tight) 2 0 (5 ∷ 6 ∷ []) (replicate 64 0)
      ∷ text_call small (standard small) long 0 [] (replicate 64 0)
      ∷ text_call small (standard small) 2 2 (5 ∷ 6 ∷ []) (replicate 64 0)
      ∷ text_call small (standard small) 2 0 (5 ∷ []) (replicate 64 0)
      ∷ text_call small (standard small) 2 0 (5 ∷ 6 ∷ []) (replicate 41 0)
      ∷ text_call tight (standard tight) long 0 [] []
      ∷ text_call small (standard small) long 2 [] []
      ∷ text_call small (standard small) 2 2 [] []
      ∷ text_call small (standard small) 2 0 [] []
      ∷ [])
      ≡ 1 ∷ 3 ∷ 5 ∷ 2 ∷ 7 ∷ 1 ∷ 3 ∷ 5 ∷ 2 ∷ []
  -- a refusal leaves the output; an accepted call answers its bytes, and output beyond them stays (the file 05 03, of which L = 1 leaves 03 in
  -- the padding; the file 05 03 07)
  pub refused-stays : file_call small (standard small) 1 (0 ∷ []) (0x05 ∷ 0x06 ∷ []) (replicate 3 0xEE) ≡ record { answer = record { refusal = 10; reported = 0 }; output = replicate 3 0xEE }
  pub file-read : file_call small (standard small) 3 (1 ∷ []) (0x06 ∷ 0x05 ∷ 0x07 ∷ 0x07 ∷ []) (replicate 4 0xEE)
      ≡ record { answer = record { refusal = 0; reported = 3 }; output = 0x05 ∷ 0x03 ∷ 0x07 ∷ 0xEE ∷ [] }
  pub finished-written : finished_call five (standard five) 12 1 (2 ∷ 3 ∷ 4 ∷ []) (0x04 ∷ 0x02 ∷ 0x05 ∷ 0x03 ∷ 0x10 ∷ 0x04 ∷ []) (0 ∷ []) (0x00 ∷ []) (replicate 8 0xEE)
      ≡ record { answer = record { refusal = 0; reported = 7 }; output = 0x01 ∷ 0x02 ∷ 0x03 ∷ 0x04 ∷ 0x00 ∷ 0x04 ∷ 0x05 ∷ 0xEE ∷ [] }
  -- "L = B is one stripe, B + 1 two"
  pub stripe-counts : map (stripes five) (0 ∷ 1 ∷ 12 ∷ 13 ∷ 24 ∷ 25 ∷ []) ≡ 0 ∷ 1 ∷ 1 ∷ 2 ∷ 2 ∷ 3 ∷ []
  -- "L may be 0 to 4,096 × B": 4,096 × 12 is not LONG, one more is
  pub longest : answers (file_call five (standard five) 49152 [] [] [] ∷ file_call five (standard five) 49153 [] [] [] ∷ []) ≡ 4 ∷ 3 ∷ []
  -- the boards at whose points each call interpolates, of n=7, k=2, d=3, r=2: for f and g of what board 5 keeps; for g and f of board 1 from the
  -- packets of boards 6, 4, 2 and of its partner 0, and for g alone; for a file from boards 6 and 3
  pub own-runs : own_runs seven 5 ≡ (5 ∷ 6 ∷ 0 ∷ 1 ∷ 2 ∷ []) ∷ (5 ∷ 6 ∷ 0 ∷ []) ∷ []
  pub finish-runs : finish_runs 1 (6 ∷ 4 ∷ 2 ∷ []) (0 ∷ []) ≡ (6 ∷ 4 ∷ 2 ∷ []) ∷ (6 ∷ 4 ∷ 2 ∷ 0 ∷ 1 ∷ []) ∷ []
  pub exchange-runs : exchange_runs (6 ∷ 4 ∷ 2 ∷ []) ≡ (6 ∷ 4 ∷ 2 ∷ []) ∷ []
  pub read-runs : read_runs seven (6 ∷ 3 ∷ [])
      ≡ (6 ∷ 3 ∷ []) ∷ (6 ∷ 0 ∷ 1 ∷ 2 ∷ 3 ∷ []) ∷ (6 ∷ 0 ∷ 1 ∷ []) ∷ (3 ∷ 4 ∷ 5 ∷ 6 ∷ 0 ∷ []) ∷ (3 ∷ 4 ∷ 5 ∷ []) ∷ []
  pub read-runs-of-three : read_runs seven (6 ∷ 3 ∷ 5 ∷ [])
      ≡ (6 ∷ 3 ∷ 5 ∷ []) ∷ (6 ∷ 0 ∷ 1 ∷ 2 ∷ 3 ∷ []) ∷ (6 ∷ 0 ∷ 1 ∷ []) ∷ (3 ∷ 4 ∷ 5 ∷ 6 ∷ 0 ∷ []) ∷ (3 ∷ 4 ∷ 5 ∷ [])
      ∷ (5 ∷ 6 ∷ 0 ∷ 1 ∷ 2 ∷ []) ∷ (5 ∷ 6 ∷ 0 ∷ []) ∷ []
  -- two of these boards with one point are equal points, two others are not
  pub equal-points :
      equal_points (alike 1 2) (own_runs seven 5)
      ∷ equal_points (alike 3 4) (own_runs seven 5)
      ∷ equal_points (alike 4 2) (exchange_runs (6 ∷ 4 ∷ 2 ∷ []))
      ∷ equal_points (alike 1 0) (exchange_runs (6 ∷ 4 ∷ 2 ∷ []))
      ∷ equal_points (alike 0 1) (finish_runs 1 (6 ∷ 4 ∷ 2 ∷ []) (0 ∷ []))
      ∷ equal_points (alike 3 5) (finish_runs 1 (6 ∷ 4 ∷ 2 ∷ []) (0 ∷ []))
      ∷ equal_points (alike 4 5) (read_runs seven (6 ∷ 3 ∷ []))
      ∷ equal_points (alike 1 4) (read_runs seven (6 ∷ 3 ∷ []))
      ∷ []
      ≡ true ∷ false ∷ true ∷ false ∷ true ∷ false ∷ true ∷ false ∷ []
  -- two stripes, the last filled up with 00, and output just long enough: shares, a packet stripe by stripe, an exchange packet
  pub two-stripes : map (λ i. share_call small (standard small) i (0x05 ∷ 0x03 ∷ 0x07 ∷ []) (replicate 4 0xEE)) (0 ∷ 1 ∷ [])
      ≡ record { answer = record { refusal = 0; reported = 4 }; output = 0x05 ∷ 0x06 ∷ 0x07 ∷ 0x07 ∷ [] }
      ∷ record { answer = record { refusal = 0; reported = 4 }; output = 0x06 ∷ 0x05 ∷ 0x07 ∷ 0x07 ∷ [] }
      ∷ []
  pub two-pairs : helper_call small (standard small) 3 0 1 (0x05 ∷ 0x06 ∷ 0x07 ∷ 0x07 ∷ []) (replicate 4 0xEE)
      ≡ record { answer = record { refusal = 0; reported = 4 }; output = 0x06 ∷ 0x05 ∷ 0x07 ∷ 0x07 ∷ [] }
  pub two-exchanged : exchange_call (sizes 3 1 1 2) (standard (sizes 3 1 1 2)) 4 0 (2 ∷ []) (0x0A ∷ 0x0B ∷ 0x0C ∷ 0x0D ∷ []) 1 (0xEE ∷ 0xEE ∷ [])
      ≡ record { answer = record { refusal = 0; reported = 2 }; output = 0x0A ∷ 0x0C ∷ [] }
  -- document 01's example of a share as text
  pub text : share_text small (standard small) 2 0 (share small (standard small) (0x05 ∷ 0x03 ∷ []) 0)
      ≡ 0x6E ∷ 0x3D ∷ 0x32 ∷ 0x0A
      ∷ 0x6B ∷ 0x3D ∷ 0x31 ∷ 0x0A
      ∷ 0x64 ∷ 0x3D ∷ 0x31 ∷ 0x0A
      ∷ 0x72 ∷ 0x3D ∷ 0x31 ∷ 0x0A
      ∷ 0x6E ∷ 0x6F ∷ 0x64 ∷ 0x65 ∷ 0x3D ∷ 0x30 ∷ 0x0A
      ∷ 0x6C ∷ 0x65 ∷ 0x6E ∷ 0x67 ∷ 0x74 ∷ 0x68 ∷ 0x3D ∷ 0x32 ∷ 0x0A
      ∷ 0x64 ∷ 0x61 ∷ 0x74 ∷ 0x61 ∷ 0x3D ∷ 0x30 ∷ 0x35 ∷ 0x30 ∷ 0x36 ∷ 0x0A ∷ []
  -- a share as text at four other points, n=4, k=d=1, r=2, node 2, through the call
  pub points-text : text_call four points4 3 2 (0x29 ∷ 0xEF ∷ 0x38 ∷ []) (replicate 61 0xEE)
      ≡ record {
        answer = record { refusal = 0; reported = 60 };
        output =
            0x6E ∷ 0x3D ∷ 0x34 ∷ 0x0A
            ∷ 0x6B ∷ 0x3D ∷ 0x31 ∷ 0x0A
            ∷ 0x64 ∷ 0x3D ∷ 0x31 ∷ 0x0A
            ∷ 0x72 ∷ 0x3D ∷ 0x32 ∷ 0x0A
            ∷ 0x6E ∷ 0x6F ∷ 0x64 ∷ 0x65 ∷ 0x3D ∷ 0x32 ∷ 0x0A
            ∷ 0x6C ∷ 0x65 ∷ 0x6E ∷ 0x67 ∷ 0x74 ∷ 0x68 ∷ 0x3D ∷ 0x33 ∷ 0x0A
            ∷ 0x70 ∷ 0x6F ∷ 0x69 ∷ 0x6E ∷ 0x74 ∷ 0x73 ∷ 0x3D ∷ 0x30 ∷ 0x35 ∷ 0x30 ∷ 0x30 ∷ 0x38 ∷ 0x30 ∷ 0x31 ∷ 0x64 ∷ 0x0A
            ∷ 0x64 ∷ 0x61 ∷ 0x74 ∷ 0x61 ∷ 0x3D ∷ 0x32 ∷ 0x39 ∷ 0x65 ∷ 0x66 ∷ 0x33 ∷ 0x38 ∷ 0x0A
            ∷ 0xEE ∷ [];
      }
  -- n=12, k=2, d=3, r=4, node 10, L = 1, nine bytes, through the call
  pub longer-text : text_call (sizes 12 2 3 4) (standard (sizes 12 2 3 4)) 1 10 (0x00 ∷ 0x01 ∷ 0x0F ∷ 0x10 ∷ 0x7F ∷ 0x80 ∷ 0xAB ∷ 0xCD ∷ 0xFF ∷ []) (replicate 59 0xEE)
      ≡ record {
        answer = record { refusal = 0; reported = 58 };
        output =
            0x6E ∷ 0x3D ∷ 0x31 ∷ 0x32 ∷ 0x0A
            ∷ 0x6B ∷ 0x3D ∷ 0x32 ∷ 0x0A
            ∷ 0x64 ∷ 0x3D ∷ 0x33 ∷ 0x0A
            ∷ 0x72 ∷ 0x3D ∷ 0x34 ∷ 0x0A
            ∷ 0x6E ∷ 0x6F ∷ 0x64 ∷ 0x65 ∷ 0x3D ∷ 0x31 ∷ 0x30 ∷ 0x0A
            ∷ 0x6C ∷ 0x65 ∷ 0x6E ∷ 0x67 ∷ 0x74 ∷ 0x68 ∷ 0x3D ∷ 0x31 ∷ 0x0A
            ∷ 0x64 ∷ 0x61 ∷ 0x74 ∷ 0x61 ∷ 0x3D
            ∷ 0x30 ∷ 0x30 ∷ 0x30 ∷ 0x31 ∷ 0x30 ∷ 0x66 ∷ 0x31 ∷ 0x30 ∷ 0x37 ∷ 0x66 ∷ 0x38 ∷ 0x30 ∷ 0x61 ∷ 0x62 ∷ 0x63 ∷ 0x64 ∷ 0x66 ∷ 0x66
            ∷ 0x0A
            ∷ 0xEE ∷ [];
      }
