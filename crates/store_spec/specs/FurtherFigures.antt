-- Further figures of the store over the definitions: for each call each refusal that it has, then each adjacent pair of the order, where both
-- lines hold and the first is given; places in the area; each fresh board's own helpers. proofs/Figures.antt has `further-figures`.
-- Assumes nothing.
use Rattle.std.specs.Prelude.{◌≡◌, Bool, true, false, List, [], ◌∷◌, ◌++◌, map, ℕ, take, drop, replicate, set}
use Rattle.sizes.specs.declared.Sizes.{Sizes}
use Rattle.mbcr.specs.Share.{standard}
use Rattle.mbcr.specs.PointLaws.{first_series}
use Rattle.store_spec.specs.Record.{Record, sound, new_record, with_marks}
use Rattle.store_spec.specs.Runs.{repair_runs}
use Rattle.store_spec.specs.Packets.{sent_to, senders_of, contents, helper_packets, exchange_packets, repair_packets}
use Rattle.store_spec.specs.Calls.{StoreOutcome, set_up_call, write_call, lose_call, repair_call, read_call}

-- "n=2, k=d=r=1, file 05 03"
abbrev pub two : Sizes
two = record { n = 2; k = 1; d = 1; r = 1 }

abbrev pub two_file : List ℕ
two_file = 0x05 ∷ 0x03 ∷ []

-- "n=5, k=2, d=3, r=2 .. File: eleven bytes 00, then 01, so F = X²Y"
abbrev pub five : Sizes
five = record { n = 5; k = 2; d = 3; r = 2 }

abbrev pub five_file : List ℕ
five_file = replicate 11 0 ++ (1 ∷ [])

-- the record and the area after this file is written on five boards of one stripe
abbrev pub written : Record
written = record { sizes = five; points = standard five; capacity = 1; written = true; length = 12; marks = replicate 5 true ++ replicate 27 false }

abbrev pub boards234 : List ℕ
boards234 =
    0x08 ∷ 0x0C ∷ 0x10 ∷ 0x00 ∷ 0x04 ∷ 0x0A ∷ 0x20
    ∷ 0x0F ∷ 0x14 ∷ 0x00 ∷ 0x05 ∷ 0x0A ∷ 0x30 ∷ 0x00
    ∷ 0x40 ∷ 0x00 ∷ 0x10 ∷ 0x20 ∷ 0x30 ∷ 0x00 ∷ 0x04 ∷ []

abbrev pub area : List ℕ
area = replicate 7 0 ++ (0x01 ∷ 0x02 ∷ 0x03 ∷ 0x04 ∷ 0x00 ∷ 0x04 ∷ 0x05 ∷ []) ++ boards234

-- "boards 0 and 1 fresh, helpers 2, 3, 4", all bytes of the fresh boards spoiled
abbrev pub spoiled : List ℕ
spoiled = replicate 14 0x77 ++ boards234

abbrev pub helpers : List ℕ
helpers = 2 ∷ 3 ∷ 4 ∷ 2 ∷ 3 ∷ 4 ∷ []

-- an outcome by the refusal's number or 0, the number reported, record, area and output
abbrev pub gives : ℕ → ℕ → Record → List ℕ → List ℕ → StoreOutcome
gives refusal value handed area output = record { answer = record { refusal = refusal; reported = value }; handed = handed; area = area; output = output }

abbrev answers : List StoreOutcome → List ℕ
answers os = map (λ o. o.answer.refusal) os

-- a record of five boards, one stripe
abbrev five_record : Bool → ℕ → List Bool → Record
five_record written length on = record { sizes = five; points = standard five; capacity = 1; written = written; length = length; marks = take 32 (on ++ replicate 32 false) }

-- a record that no call returns
abbrev unsound : Record
unsound = five_record true 13 []

-- the file is written, and boards 0 and 1, then 4 too, are lost
abbrev lost : Record
lost = with_marks written (false ∷ false ∷ true ∷ true ∷ true ∷ replicate 27 false)

abbrev lost_three : Record
lost_three = with_marks written (false ∷ false ∷ true ∷ true ∷ replicate 28 false)

-- board 1 is lost alone, and its bytes spoiled
abbrev pub lost_one : Record
lost_one = with_marks written (true ∷ false ∷ true ∷ true ∷ true ∷ replicate 27 false)

abbrev pub one_spoiled : List ℕ
one_spoiled = replicate 7 0 ++ replicate 7 0x77 ++ boards234

-- n=4, k=1, d=1, r=2, the file 01 02 03, F = 1 + 2Y + 3Y²: boards 0 and 1 are lost and spoiled, and have different helpers
abbrev four_sizes : Sizes
four_sizes = record { n = 4; k = 1; d = 1; r = 2 }

abbrev four_at : List ℕ → List Bool → Record
four_at xs on = record { sizes = four_sizes; points = xs; capacity = 1; written = true; length = 3; marks = take 32 (on ++ replicate 32 false) }

abbrev four : List Bool → Record
four on = four_at (standard four_sizes) on

abbrev four_lost : Record
four_lost = four (false ∷ false ∷ true ∷ true ∷ [])

-- four other points, 00 among them, and 00 from n up
abbrev points4 : List ℕ
points4 = 0x05 ∷ 0x00 ∷ 0x80 ∷ 0x1D ∷ replicate 28 0

-- the record of one stripe with these points and no file
abbrev pointed_record : List ℕ → Record
pointed_record xs = new_record four_sizes xs 1

-- the area at these points
abbrev points4_area : List ℕ
points4_area = 0x38 ∷ 0x01 ∷ 0x29 ∷ 0x01 ∷ 0x29 ∷ 0xEF ∷ 0x29 ∷ 0xEF ∷ 0x38 ∷ 0xEF ∷ 0x38 ∷ 0x01 ∷ []

abbrev boards23 : List ℕ
boards23 = 0x09 ∷ 0x08 ∷ 0x01 ∷ 0x08 ∷ 0x01 ∷ 0x00 ∷ []

abbrev four_spoiled : List ℕ
four_spoiled = replicate 6 0x77 ++ boards23

-- n=2, C=2, a file of one stripe and so many bytes; its area after the file 05 03 is written
abbrev half_full : ℕ → Record
half_full length = record { sizes = two; points = standard two; capacity = 2; written = true; length = length; marks = true ∷ true ∷ replicate 30 false }

abbrev half_full_area : List ℕ
half_full_area = 0x05 ∷ 0x06 ∷ 0xFF ∷ 0xFF ∷ 0x06 ∷ 0x05 ∷ 0xFF ∷ 0xFF ∷ []

pub record FurtherFigures : Type 0 where
  -- a record of a file, of no file, of an empty file, and with all boards lost; then L above C × B, a mark from n up, no file with L above 0
  -- or with a mark, C outside its range, sizes not legal
  pub sound-records : map sound (five_record true 12 (true ∷ []) ∷ new_record five (standard five) 1
      ∷ five_record true 0 (true ∷ []) ∷ five_record true 12 [] ∷ new_record five (standard five) 4096 ∷ [])
      ≡ true ∷ true ∷ true ∷ true ∷ true ∷ []
  pub unsound-records :
      map sound
      (unsound
      ∷ five_record true 12 (false ∷ false ∷ false ∷ false ∷ false ∷ true ∷ [])
      ∷ five_record false 1 []
      ∷ five_record false 0 (true ∷ [])
      ∷ new_record five (standard five) 0
      ∷ new_record five (standard five) 4097
      ∷ new_record (record { n = 4; k = 2; d = 3; r = 2 }) (standard (record { n = 4; k = 2; d = 3; r = 2 })) 1
      ∷ [])
      ≡ false ∷ false ∷ false ∷ false ∷ false ∷ false ∷ false ∷ []
  -- request A.9: points of the first series, and others with a board's 00, are taken; a repeated point, one other than 00 kept for board 4 or 31 of
  -- four, and 31 points are not, whatever the call
  pub pointed-records : map (λ xs. sound (pointed_record xs)) (standard four_sizes ∷ first_series four_sizes ∷ points4 ∷ []) ≡ true ∷ true ∷ true ∷ []
  pub unpointed-records :
      map
      (λ xs. answers
      (set_up_call unsound four_sizes xs 1
      ∷ write_call (pointed_record xs) (replicate 12 0) []
      ∷ lose_call (pointed_record xs) [] 0
      ∷ repair_call (four_at xs (replicate 4 true)) points4_area (0 ∷ 1 ∷ []) (2 ∷ 3 ∷ []) []
      ∷ read_call (four_at xs (replicate 4 true)) points4_area (0 ∷ []) (replicate 3 0)
      ∷ []))
      (set points4 1 0x05 ∷ set points4 3 0x80 ∷ set points4 4 0xFF ∷ set points4 31 1 ∷ take 31 points4 ∷ [])
      ≡ replicate 5 (replicate 5 1)
  -- the record keeps the points of its set-up; a refused one hands back the record that it was given
  pub set-up-points : set_up_call unsound four_sizes points4 1 ≡ gives 0 0 (pointed_record points4) [] []
  pub set-up-unpointed : set_up_call (pointed_record points4) four_sizes (set points4 1 0x05) 1 ≡ gives 1 0 (pointed_record points4) [] []
  -- at these points: write, two losses, a repair of the two boards, whose bytes were spoiled, a read
  pub points-write : write_call (pointed_record points4) (replicate 12 0xEE) (0x01 ∷ 0x02 ∷ 0x03 ∷ []) ≡ gives 0 0 (four_at points4 (replicate 4 true)) points4_area []
  pub points-losses : (lose_call (lose_call (four_at points4 (replicate 4 true)) [] 0).handed [] 1).handed ≡ four_at points4 (false ∷ false ∷ true ∷ true ∷ [])
  pub points-repair : repair_call (four_at points4 (false ∷ false ∷ true ∷ true ∷ [])) (replicate 6 0x77 ++ drop 6 points4_area) (0 ∷ 1 ∷ []) (2 ∷ 3 ∷ []) []
      ≡ gives 0 6 (four_at points4 (replicate 4 true)) points4_area []
  pub points-packets : map
      (λ i. contents (sent_to i (repair_packets (four_at points4 (false ∷ false ∷ true ∷ true ∷ [])) (replicate 6 0x77 ++ drop 6 points4_area) (0 ∷ 1 ∷ []) (2 ∷ 3 ∷ []) [])))
      (0 ∷ 1 ∷ [])
      ≡ (0x38 ∷ 0x29 ∷ 0x01 ∷ []) ∷ (0x01 ∷ 0xEF ∷ 0x38 ∷ []) ∷ []
  pub points-read : read_call (four_at points4 (replicate 4 true)) points4_area (3 ∷ []) (replicate 4 0xEE)
      ≡ gives 0 0 (four_at points4 (replicate 4 true)) points4_area (0x01 ∷ 0x02 ∷ 0x03 ∷ 0xEE ∷ [])
  -- a set-up over any record is accepted, or hands that record back
  pub set-up-new : set_up_call unsound five (standard five) 3 ≡ gives 0 0 (new_record five (standard five) 3) [] []
  pub set-up-refused : set_up_call unsound five (standard five) 4097 ≡ gives 1 0 unsound [] []
  -- write: 1, 2, 3; then 1 before 2, 2 before 3. "L = C × B is written, one more is LONG."
  pub write-refusals :
      answers
      (write_call unsound (replicate 35 0) []
      ∷ write_call (new_record five (standard five) 1) (replicate 34 0) []
      ∷ write_call (new_record five (standard five) 1) (replicate 35 0) (replicate 13 0)
      ∷ write_call unsound [] []
      ∷ write_call (new_record five (standard five) 1) [] (replicate 13 0)
      ∷ write_call (new_record five (standard five) 1) (replicate 35 0) (replicate 12 0)
      ∷ [])
      ≡ 1 ∷ 2 ∷ 3 ∷ 1 ∷ 2 ∷ 0 ∷ []
  -- SIZE in all its cases, for each call
  pub size-cases :
      map
      (λ s.
      answers (write_call s (replicate 35 0) [] ∷ lose_call s [] 0 ∷ repair_call s spoiled (0 ∷ 1 ∷ []) helpers [] ∷ read_call s spoiled (2 ∷ 3 ∷ []) [] ∷ []))
      (unsound
      ∷ five_record true 12 (false ∷ false ∷ false ∷ false ∷ false ∷ true ∷ [])
      ∷ five_record false 1 []
      ∷ five_record false 0 (true ∷ [])
      ∷ new_record five (standard five) 0
      ∷ new_record five (standard five) 4097
      ∷ new_record (record { n = 4; k = 2; d = 3; r = 2 }) (standard (record { n = 4; k = 2; d = 3; r = 2 })) 1
      ∷ [])
      ≡ replicate 7 (1 ∷ 1 ∷ 1 ∷ 1 ∷ [])
  -- lose: 1, 5; 1 before 5; accepted over an area of any length, before a write, and where the board is out of service
  pub lose-refusals :
      answers (lose_call unsound [] 0 ∷ lose_call (new_record five (standard five) 1) [] 5 ∷ lose_call unsound [] 5
      ∷ lose_call lost [] 4 ∷ lose_call (new_record five (standard five) 1) [] 4 ∷ lose_call lost [] 0 ∷ [])
      ≡ 1 ∷ 5 ∷ 1 ∷ 0 ∷ 0 ∷ 0 ∷ []
  -- repair: 1, 2, 8; 4 with no fresh board, with three where r is 2, with too few helpers, with a stand-in where t is r, with none where t is below r,
  -- and with a list of each too long; 5 of a fresh board, of a helper, of a stand-in; 6 of the fresh, of one list of helpers, of a fresh board as
  -- another's helper, of a fresh stand-in, of a helper that stands in for the same board; 14 of the first and of the
  -- second; 9 of a helper, of a stand-in; then each before the next
  pub repair-refusals :
      answers
      (repair_call unsound spoiled (0 ∷ 1 ∷ []) helpers []
      ∷ repair_call lost [] (0 ∷ 1 ∷ []) helpers []
      ∷ repair_call (new_record five (standard five) 1) spoiled (0 ∷ 1 ∷ []) helpers []
      ∷ repair_call lost spoiled [] [] []
      ∷ repair_call lost_three spoiled (0 ∷ 1 ∷ 4 ∷ []) (2 ∷ 3 ∷ 2 ∷ 3 ∷ 2 ∷ 3 ∷ 2 ∷ 3 ∷ 2 ∷ []) []
      ∷ repair_call lost spoiled (0 ∷ 1 ∷ []) (2 ∷ 3 ∷ 4 ∷ []) []
      ∷ repair_call lost spoiled (0 ∷ 1 ∷ []) helpers (2 ∷ [])
      ∷ repair_call lost_one one_spoiled (1 ∷ []) (0 ∷ 2 ∷ 3 ∷ []) []
      ∷ repair_call lost spoiled (0 ∷ []) helpers (1 ∷ [])
      ∷ repair_call lost_one one_spoiled (1 ∷ []) (0 ∷ 2 ∷ 3 ∷ []) (4 ∷ 4 ∷ [])
      ∷ repair_call lost spoiled (0 ∷ 5 ∷ []) helpers []
      ∷ repair_call lost spoiled (0 ∷ 1 ∷ []) (2 ∷ 3 ∷ 4 ∷ 2 ∷ 3 ∷ 5 ∷ []) []
      ∷ repair_call lost_one one_spoiled (1 ∷ []) (0 ∷ 2 ∷ 3 ∷ []) (5 ∷ [])
      ∷ repair_call lost spoiled (0 ∷ 0 ∷ []) helpers []
      ∷ repair_call lost spoiled (0 ∷ 1 ∷ []) (2 ∷ 3 ∷ 4 ∷ 2 ∷ 3 ∷ 3 ∷ []) []
      ∷ repair_call lost spoiled (0 ∷ 1 ∷ []) (2 ∷ 3 ∷ 4 ∷ 2 ∷ 3 ∷ 0 ∷ []) []
      ∷ repair_call lost_one one_spoiled (1 ∷ []) (0 ∷ 2 ∷ 3 ∷ []) (1 ∷ [])
      ∷ repair_call lost_one one_spoiled (1 ∷ []) (0 ∷ 2 ∷ 3 ∷ []) (3 ∷ [])
      ∷ repair_call lost_one one_spoiled (0 ∷ 1 ∷ []) helpers []
      ∷ repair_call lost_one one_spoiled (1 ∷ 0 ∷ []) helpers []
      ∷ repair_call lost_three spoiled (0 ∷ 1 ∷ []) helpers []
      ∷ repair_call lost spoiled (1 ∷ []) (2 ∷ 3 ∷ 4 ∷ []) (0 ∷ [])
      ∷ repair_call unsound [] (0 ∷ 1 ∷ []) helpers []
      ∷ repair_call (new_record five (standard five) 1) [] (0 ∷ 1 ∷ []) helpers []
      ∷ repair_call (new_record five (standard five) 1) spoiled [] helpers []
      ∷ repair_call lost spoiled (9 ∷ []) helpers []
      ∷ repair_call lost spoiled (9 ∷ 9 ∷ []) helpers []
      ∷ repair_call written area (1 ∷ []) (0 ∷ 2 ∷ 3 ∷ []) (1 ∷ [])
      ∷ repair_call lost_three spoiled (2 ∷ []) (0 ∷ 1 ∷ 3 ∷ []) (4 ∷ [])
      ∷ [])
      ≡ 1 ∷ 2 ∷ 8 ∷ 4 ∷ 4 ∷ 4 ∷ 4 ∷ 4 ∷ 4 ∷ 4 ∷ 5 ∷ 5 ∷ 5 ∷ 6 ∷ 6 ∷ 6 ∷ 6 ∷ 6 ∷ 14 ∷ 14 ∷ 9 ∷ 9 ∷ 1 ∷ 2 ∷ 8 ∷ 4 ∷ 5 ∷ 6 ∷ 14 ∷ []
  -- read: 1, 2, 8, 4 ("a read of k − 1 boards is COUNT"), 5, 6, 9, 7, 10; then each before the next
  pub read-refusals :
      answers
      (read_call unsound spoiled (2 ∷ 3 ∷ []) (replicate 12 0)
      ∷ read_call lost [] (2 ∷ 3 ∷ []) (replicate 12 0)
      ∷ read_call (new_record five (standard five) 1) spoiled (2 ∷ 3 ∷ []) (replicate 12 0)
      ∷ read_call lost spoiled (2 ∷ []) (replicate 12 0)
      ∷ read_call lost spoiled (2 ∷ 5 ∷ []) (replicate 12 0)
      ∷ read_call lost spoiled (2 ∷ 2 ∷ []) (replicate 12 0)
      ∷ read_call lost spoiled (2 ∷ 1 ∷ []) (replicate 12 0)
      ∷ read_call lost spoiled (2 ∷ 3 ∷ []) (replicate 11 0)
      ∷ read_call (half_full 1) half_full_area (0 ∷ []) (0 ∷ [])
      ∷ read_call unsound [] (2 ∷ 3 ∷ []) (replicate 12 0)
      ∷ read_call (new_record five (standard five) 1) [] (2 ∷ 3 ∷ []) (replicate 12 0)
      ∷ read_call (new_record five (standard five) 1) spoiled (2 ∷ []) (replicate 12 0)
      ∷ read_call lost spoiled (9 ∷ []) (replicate 12 0)
      ∷ read_call lost spoiled (9 ∷ 9 ∷ []) (replicate 12 0)
      ∷ read_call lost spoiled (1 ∷ 1 ∷ []) (replicate 12 0)
      ∷ read_call lost spoiled (2 ∷ 1 ∷ []) []
      ∷ read_call written spoiled (1 ∷ 2 ∷ []) []
      ∷ [])
      ≡ 1 ∷ 2 ∷ 8 ∷ 4 ∷ 5 ∷ 6 ∷ 9 ∷ 7 ∷ 10 ∷ 1 ∷ 2 ∷ 8 ∷ 4 ∷ 5 ∷ 6 ∷ 9 ∷ 7 ∷ []
  -- the boards at whose points a repair interpolates: board 0 is fresh with helper 2 and partner 1, board 1 with helper 3 and partner 0
  pub repair-runs : repair_runs four_lost (0 ∷ 1 ∷ []) (2 ∷ 3 ∷ []) []
      ≡ (2 ∷ 3 ∷ 0 ∷ []) ∷ (2 ∷ []) ∷ (2 ∷ []) ∷ (2 ∷ 1 ∷ 0 ∷ [])
      ∷ (3 ∷ 0 ∷ 1 ∷ []) ∷ (3 ∷ []) ∷ (3 ∷ []) ∷ (3 ∷ 0 ∷ 1 ∷ []) ∷ []
  -- and with a stand-in: board 1 is fresh alone, with helpers 0, 2, 3 and stand-in 4
  pub stand-in-runs : repair_runs lost_one (1 ∷ []) (0 ∷ 2 ∷ 3 ∷ []) (4 ∷ [])
      ≡ (0 ∷ 1 ∷ 2 ∷ 3 ∷ 4 ∷ []) ∷ (0 ∷ 1 ∷ 2 ∷ [])
      ∷ (2 ∷ 3 ∷ 4 ∷ 0 ∷ 1 ∷ []) ∷ (2 ∷ 3 ∷ 4 ∷ [])
      ∷ (3 ∷ 4 ∷ 0 ∷ 1 ∷ 2 ∷ []) ∷ (3 ∷ 4 ∷ 0 ∷ [])
      ∷ (4 ∷ 0 ∷ 1 ∷ 2 ∷ 3 ∷ []) ∷ (4 ∷ 0 ∷ 1 ∷ [])
      ∷ (0 ∷ 2 ∷ 3 ∷ []) ∷ (0 ∷ 2 ∷ 3 ∷ 4 ∷ 1 ∷ []) ∷ []
  -- a refused write and a refused repair leave record and area
  pub refused-write : write_call (new_record five (standard five) 1) (replicate 35 0xAB) (replicate 13 0)
      ≡ gives 3 0 (new_record five (standard five) 1) (replicate 35 0xAB) []
  pub refused-repair : repair_call lost spoiled (0 ∷ []) helpers [] ≡ gives 4 0 lost spoiled []
  pub refused-serving : repair_call written area (1 ∷ []) (0 ∷ 2 ∷ 3 ∷ []) (4 ∷ []) ≡ gives 14 0 written area []
  -- two losses, then a repair: 6 bytes moved, and all boards hold their shares
  pub losses : (lose_call (lose_call (four (replicate 4 true)) [] 0).handed [] 1).handed ≡ four_lost
  pub repaired : repair_call four_lost four_spoiled (0 ∷ 1 ∷ []) (2 ∷ 3 ∷ []) []
      ≡ gives 0 6 (four (replicate 4 true)) ((0x01 ∷ 0x00 ∷ 0x09 ∷ 0x00 ∷ 0x09 ∷ 0x08 ∷ []) ++ boards23) []
  -- a read of the file 05 03 from board 1, past the end of which the output stays
  pub read_back : read_call (half_full 2) half_full_area (1 ∷ []) (replicate 3 0xEE)
      ≡ gives 0 0 (half_full 2) half_full_area (0x05 ∷ 0x03 ∷ 0xEE ∷ [])
  -- "for each, its own list of d helpers": boards 0 and 1 fresh, helpers 2 and 3; 01 goes from board 0 to board 1, 00 from board 1 to board 0
  pub own-helpers : map (λ i. senders_of (sent_to i (helper_packets four_lost four_spoiled (0 ∷ 1 ∷ []) (2 ∷ 3 ∷ [])))) (0 ∷ 1 ∷ []) ≡ (2 ∷ []) ∷ (3 ∷ []) ∷ []
  pub own-partners : map (λ i. senders_of (sent_to i (exchange_packets four_lost four_spoiled (0 ∷ 1 ∷ []) (2 ∷ 3 ∷ [])))) (0 ∷ 1 ∷ []) ≡ (1 ∷ []) ∷ (0 ∷ []) ∷ []
  pub own-packets : map (λ i. contents (sent_to i (repair_packets four_lost four_spoiled (0 ∷ 1 ∷ []) (2 ∷ 3 ∷ []) []))) (0 ∷ 1 ∷ [])
      ≡ (0x01 ∷ 0x09 ∷ 0x00 ∷ []) ∷ (0x00 ∷ 0x08 ∷ 0x01 ∷ []) ∷ []
  -- C = 2, S = 1: stripe s of board i starts at (i × C + s) × α, and the second stripes stay
  pub write-places : (write_call (new_record two (standard two) 2) (replicate 8 0xFF) two_file).area ≡ half_full_area
  pub repair-places : (repair_call (lose_call (half_full 2) [] 0).handed (0x77 ∷ 0x77 ∷ 0x77 ∷ 0x77 ∷ 0x06 ∷ 0x05 ∷ 0xFF ∷ 0xFF ∷ []) (0 ∷ []) (1 ∷ []) []).area
      ≡ 0x05 ∷ 0x06 ∷ 0x77 ∷ 0x77 ∷ 0x06 ∷ 0x05 ∷ 0xFF ∷ 0xFF ∷ []
