-- Figures of repairs with stand-ins (request A.3), which antt computes seconds on. proofs/LedgerFigures.antt has `repair-figures`.
-- Assumes nothing.
use Rattle.std.specs.Prelude.{◌≡◌, Bool, true, false, List, [], ◌∷◌, ◌++◌, map, ℕ, take, replicate}
use Rattle.sizes.specs.declared.Sizes.{Sizes}
use Rattle.mbcr.specs.Share.{standard}
use Rattle.store_spec.specs.Record.{Record}
use Rattle.store_spec.specs.Packets.{sent_to, senders_of, contents, repair_packets}
use Rattle.store_spec.specs.Runs.{repair_runs}
use Rattle.store_spec.specs.Calls.{repair_call}
use Rattle.store_spec.specs.FurtherFigures.{written, area, lost_one, one_spoiled, gives}

-- n=6, k=1, d=2, r=3, the file 01 .. 06: boards 0 and 1 are lost and spoiled
abbrev six_sizes : Sizes
six_sizes = record { n = 6; k = 1; d = 2; r = 3 }

abbrev six : List Bool → Record
six on = record { sizes = six_sizes; points = standard six_sizes; capacity = 1; written = true; length = 6; marks = take 32 (on ++ replicate 32 false) }

abbrev six_lost : Record
six_lost = six (false ∷ false ∷ true ∷ true ∷ true ∷ true ∷ [])

abbrev boards2345 : List ℕ
boards2345 =
    0x75 ∷ 0x6D ∷ 0x41 ∷ 0x11 ∷ 0x0D ∷ 0x73
    ∷ 0x6B ∷ 0x47 ∷ 0x17 ∷ 0x0B ∷ 0x0B ∷ 0x79
    ∷ 0x55 ∷ 0x05 ∷ 0x19 ∷ 0x19 ∷ 0x61 ∷ 0x53
    ∷ 0x03 ∷ 0x1F ∷ 0x1F ∷ 0x67 ∷ 0x7F ∷ 0x1D ∷ []

abbrev six_spoiled : List ℕ
six_spoiled = replicate 12 0x77 ++ boards2345

pub record RepairFigures : Type 0 where
  -- request A.3, n=5, k=2, d=3, r=2: board 1 is lost alone; helpers 0, 2 and 3 send 00 00, 04 02 and 05 03, stand-in 4 sends 04; 7 bytes moved, and
  -- board 1 holds 01 02 03 04 00 04 05 again
  pub stand-in-packets : map (λ p. p.bytes) (repair_packets lost_one one_spoiled (1 ∷ []) (0 ∷ 2 ∷ 3 ∷ []) (4 ∷ []))
      ≡ (0x00 ∷ 0x00 ∷ []) ∷ (0x04 ∷ 0x02 ∷ []) ∷ (0x05 ∷ 0x03 ∷ []) ∷ (0x04 ∷ []) ∷ []
  pub stand-in-senders : senders_of (repair_packets lost_one one_spoiled (1 ∷ []) (0 ∷ 2 ∷ 3 ∷ []) (4 ∷ [])) ≡ 0 ∷ 2 ∷ 3 ∷ 4 ∷ []
  pub stand-in-repair : repair_call lost_one one_spoiled (1 ∷ []) (0 ∷ 2 ∷ 3 ∷ []) (4 ∷ []) ≡ gives 0 7 written area []
  -- n=6, k=1, d=2, r=3, the file 01 .. 06: two boards are lost, and helpers of one stand in for the other. To board 0 go 0D 79, 0B 61 from 2 and 3,
  -- 4D from stand-in 4, 01 from board 1; to board 1 go 19 4B, 1F 1B from 4 and 5, 7F from stand-in 2, 07 from board 0
  pub mixed-packets : map (λ i. contents (sent_to i (repair_packets six_lost six_spoiled (0 ∷ 1 ∷ []) (2 ∷ 3 ∷ 4 ∷ 5 ∷ []) (4 ∷ 2 ∷ [])))) (0 ∷ 1 ∷ [])
      ≡ (0x0D ∷ 0x79 ∷ 0x0B ∷ 0x61 ∷ 0x4D ∷ 0x01 ∷ []) ∷ (0x19 ∷ 0x4B ∷ 0x1F ∷ 0x1B ∷ 0x7F ∷ 0x07 ∷ []) ∷ []
  pub mixed-senders : map (λ i. senders_of (sent_to i (repair_packets six_lost six_spoiled (0 ∷ 1 ∷ []) (2 ∷ 3 ∷ 4 ∷ 5 ∷ []) (4 ∷ 2 ∷ [])))) (0 ∷ 1 ∷ [])
      ≡ (2 ∷ 3 ∷ 4 ∷ 1 ∷ []) ∷ (4 ∷ 5 ∷ 2 ∷ 0 ∷ []) ∷ []
  pub mixed-repair : repair_call six_lost six_spoiled (0 ∷ 1 ∷ []) (2 ∷ 3 ∷ 4 ∷ 5 ∷ []) (4 ∷ 2 ∷ [])
      ≡ gives 0 12 (six (replicate 6 true))
      ((0x01 ∷ 0x01 ∷ 0x79 ∷ 0x61 ∷ 0x4D ∷ 0x07 ∷ 0x07 ∷ 0x7F ∷ 0x67 ∷ 0x4B ∷ 0x1B ∷ 0x0D ∷ []) ++ boards2345) []
  -- the boards at whose points it interpolates: of board 0, helpers 2 and 3, stand-in 4, partner 1; of board 1, helpers 4 and 5, stand-in 2, partner 0
  pub mixed-runs : repair_runs six_lost (0 ∷ 1 ∷ []) (2 ∷ 3 ∷ 4 ∷ 5 ∷ []) (4 ∷ 2 ∷ [])
      ≡ (2 ∷ 3 ∷ 4 ∷ 5 ∷ 0 ∷ []) ∷ (2 ∷ 3 ∷ []) ∷ (3 ∷ 4 ∷ 5 ∷ 0 ∷ 1 ∷ []) ∷ (3 ∷ 4 ∷ []) ∷ (4 ∷ 5 ∷ 0 ∷ 1 ∷ 2 ∷ []) ∷ (4 ∷ 5 ∷ [])
      ∷ (2 ∷ 3 ∷ []) ∷ (2 ∷ 3 ∷ 4 ∷ 1 ∷ 0 ∷ [])
      ∷ (4 ∷ 5 ∷ 0 ∷ 1 ∷ 2 ∷ []) ∷ (4 ∷ 5 ∷ []) ∷ (5 ∷ 0 ∷ 1 ∷ 2 ∷ 3 ∷ []) ∷ (5 ∷ 0 ∷ []) ∷ (2 ∷ 3 ∷ 4 ∷ 5 ∷ 0 ∷ []) ∷ (2 ∷ 3 ∷ [])
      ∷ (4 ∷ 5 ∷ []) ∷ (4 ∷ 5 ∷ 2 ∷ 0 ∷ 1 ∷ []) ∷ []
  -- one board stands in for both
  pub stands-in-twice : repair_call six_lost six_spoiled (0 ∷ 1 ∷ []) (2 ∷ 3 ∷ 2 ∷ 3 ∷ []) (4 ∷ 4 ∷ [])
      ≡ gives 0 12 (six (replicate 6 true))
      ((0x01 ∷ 0x01 ∷ 0x79 ∷ 0x61 ∷ 0x4D ∷ 0x07 ∷ 0x07 ∷ 0x7F ∷ 0x67 ∷ 0x4B ∷ 0x1B ∷ 0x0D ∷ []) ++ boards2345) []
  -- two of three fresh boards: the stand-in of the second is board 6 of six, one of its helpers, a fresh board, and one that is lost too; no stand-in of it
  pub second-refused : map (λ o. o.answer.refusal)
      (repair_call six_lost six_spoiled (0 ∷ 1 ∷ []) (2 ∷ 3 ∷ 4 ∷ 5 ∷ []) (4 ∷ 6 ∷ [])
      ∷ repair_call six_lost six_spoiled (0 ∷ 1 ∷ []) (2 ∷ 3 ∷ 4 ∷ 5 ∷ []) (4 ∷ 5 ∷ [])
      ∷ repair_call six_lost six_spoiled (0 ∷ 1 ∷ []) (2 ∷ 3 ∷ 4 ∷ 5 ∷ []) (4 ∷ 0 ∷ [])
      ∷ repair_call (six (false ∷ false ∷ true ∷ false ∷ true ∷ true ∷ [])) six_spoiled (0 ∷ 1 ∷ []) (2 ∷ 4 ∷ 4 ∷ 5 ∷ []) (5 ∷ 3 ∷ [])
      ∷ repair_call six_lost six_spoiled (0 ∷ 1 ∷ []) (2 ∷ 3 ∷ 4 ∷ 5 ∷ []) (4 ∷ [])
      ∷ [])
      ≡ 5 ∷ 6 ∷ 6 ∷ 9 ∷ 4 ∷ []
