-- Figures with k = 2 over the definitions. They stand apart from the calls' other figures because antt computes seconds on them.
-- proofs/Figures.antt has `long-figures`.
-- Assumes nothing.
use Rattle.std.specs.Prelude.{◌≡◌, true, false, List, [], ◌∷◌, ◌++◌, map, ℕ, replicate}
use Rattle.sizes.specs.declared.Sizes.{Sizes}
use Rattle.mbcr.specs.Share.{standard, shares}
use Rattle.board_spec.specs.Calls.{file_call}
use Rattle.store_spec.specs.Record.{Record, with_marks}
use Rattle.store_spec.specs.Packets.{sent_to, senders_of, contents, helper_packets, exchange_packets, repair_packets}
use Rattle.store_spec.specs.Calls.{lose_call, repair_call, read_call}
use Rattle.store_spec.specs.FurtherFigures.{five, five_file, written, area, spoiled, helpers, gives}

-- n=6, k=2, d=2, r=2, the file 01 02 .. 08: two fresh boards with different lists of helpers
abbrev six_sizes : Sizes
six_sizes = record { n = 6; k = 2; d = 2; r = 2 }

abbrev six : Record
six = record { sizes = six_sizes; points = standard six_sizes; capacity = 1; written = true; length = 8; marks = replicate 6 true ++ replicate 26 false }

abbrev six_area : List ℕ
six_area =
    replicate 10 0xFF
    ++ (0x8F ∷ 0xEC ∷ 0x76 ∷ 0x44 ∷ 0xD8
    ∷ 0x80 ∷ 0x2F ∷ 0xB6 ∷ 0x04 ∷ 0x99
    ∷ 0xBD ∷ 0x52 ∷ 0x0D ∷ 0x20 ∷ 0xE4
    ∷ 0xA0 ∷ 0x0E ∷ 0x28 ∷ 0x37 ∷ 0xBD ∷ [])

abbrev own : List ℕ
own = 2 ∷ 3 ∷ 4 ∷ 5 ∷ []

-- the shares of boards 0 and 1, the last byte altered
abbrev altered : List ℕ
altered = replicate 7 0 ++ (0x01 ∷ 0x02 ∷ 0x03 ∷ 0x04 ∷ 0x00 ∷ 0x04 ∷ 0x06 ∷ [])

-- the file is written, and boards 0 and 1 are lost
abbrev lost : Record
lost = with_marks written (false ∷ false ∷ true ∷ true ∷ true ∷ replicate 27 false)

abbrev points5 : List ℕ
points5 = 0x05 ∷ 0x00 ∷ 0x80 ∷ 0x1D ∷ 0xFF ∷ replicate 27 0

pub record LongFigures : Type 0 where
  -- n=5, k=2, d=3, r=2: two boards give the file back, and one altered byte is DISAGREE, which leaves all as it came
  pub file-disagrees : file_call five (standard five) 12 (0 ∷ 1 ∷ []) altered (replicate 14 0xEE) ≡ record { answer = record { refusal = 10; reported = 0 }; output = replicate 14 0xEE }
  pub file-read : file_call five (standard five) 12 (1 ∷ 4 ∷ []) (shares five (standard five) five_file (1 ∷ 4 ∷ [])) (replicate 14 0xEE)
      ≡ record { answer = record { refusal = 0; reported = 12 }; output = five_file ++ (0xEE ∷ 0xEE ∷ []) }
  -- request A.9: the file 01 02 .. 0C from boards 3 and 0, at the points 05 00 80 1D FF
  pub points-read : file_call five points5 12 (3 ∷ 0 ∷ [])
      (0x8B ∷ 0x6E ∷ 0xF7 ∷ 0xA8 ∷ 0xCD ∷ 0x92 ∷ 0xF8 ∷ 0x33 ∷ 0xB5 ∷ 0x74 ∷ 0xF8 ∷ 0x41 ∷ 0xE9 ∷ 0xF4 ∷ []) (replicate 13 0xEE)
      ≡ record {
        answer = record { refusal = 0; reported = 12 };
        output = 1 ∷ 2 ∷ 3 ∷ 4 ∷ 5 ∷ 6 ∷ 7 ∷ 8 ∷ 9 ∷ 10 ∷ 11 ∷ 12 ∷ 0xEE ∷ [];
      }
  pub store-disagrees : read_call written spoiled (1 ∷ 2 ∷ []) (replicate 14 0xEE)
      ≡ gives 10 0 written spoiled (replicate 14 0xEE)
  pub store-read : read_call written area (1 ∷ 0 ∷ []) (replicate 14 0xEE)
      ≡ gives 0 0 written area (five_file ++ (0xEE ∷ 0xEE ∷ []))
  -- boards 0 and 1 are lost and their bytes spoiled; a repair: 14 bytes moved, record and area as after the write
  pub losses : (lose_call (lose_call written [] 0).handed [] 1).handed ≡ lost
  pub repaired : repair_call lost spoiled (0 ∷ 1 ∷ []) helpers [] ≡ gives 0 14 written area []
  -- "for each, its own list of d helpers": boards 0 and 1 fresh, helpers 2, 3 and 4, 5
  pub own-helpers : map (λ i. senders_of (sent_to i (helper_packets six six_area (0 ∷ 1 ∷ []) own))) (0 ∷ 1 ∷ []) ≡ (2 ∷ 3 ∷ []) ∷ (4 ∷ 5 ∷ []) ∷ []
  pub own-partners : map (λ i. senders_of (sent_to i (exchange_packets six six_area (0 ∷ 1 ∷ []) own))) (0 ∷ 1 ∷ []) ≡ (1 ∷ []) ∷ (0 ∷ []) ∷ []
  pub own-packets : map (λ i. contents (sent_to i (helper_packets six six_area (0 ∷ 1 ∷ []) own))) (0 ∷ 1 ∷ [])
      ≡ (0x07 ∷ 0x21 ∷ 0x04 ∷ 0x34 ∷ []) ∷ (0x20 ∷ 0x9D ∷ 0x28 ∷ 0x4F ∷ []) ∷ []
  -- the exchanged bytes: board 1 gets 02 from board 0, and board 0 gets 00 from board 1
  pub own-exchanged : map (λ i. contents (sent_to i (repair_packets six six_area (0 ∷ 1 ∷ []) own []))) (0 ∷ 1 ∷ [])
      ≡ (0x07 ∷ 0x21 ∷ 0x04 ∷ 0x34 ∷ 0x00 ∷ []) ∷ (0x20 ∷ 0x9D ∷ 0x28 ∷ 0x4F ∷ 0x02 ∷ []) ∷ []
