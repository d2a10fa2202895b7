-- Figures of the code over the definitions, in their order. proofs/CodeFigures.antt has `figures`.
-- Assumes nothing.
use Rattle.std.specs.Prelude.{◌≡◌, true, false, List, [], ◌∷◌, ◌++◌, map, ℕ, take, replicate, set}
use Rattle.std.proofs.Math.Option.{some, none}
use Rattle.sizes.specs.declared.Sizes.{Sizes}
use Rattle.mbcr.specs.Share.{standard, pointed, DifferentPoints, neighbours, share}
use Rattle.mbcr.specs.Rebuild.{seconds, helper_packet, stand_in_packet, exchange_packet, finished_share}
use Rattle.mbcr.specs.Read.{read_file}
use Rattle.mbcr.specs.PointLaws.{first_series}

abbrev sizes : ℕ → ℕ → ℕ → ℕ → Sizes
sizes n k d r = record { n = n; k = k; d = d; r = r }

abbrev five : Sizes
five = sizes 5 2 3 2

-- one byte 01 in a stripe of 00, after so many bytes
abbrev single : ℕ → ℕ → List ℕ
single before after = replicate before 0 ++ (1 ∷ []) ++ replicate after 0

-- these points first, and 00 for all other numbers below 32
abbrev spread : List ℕ → List ℕ
spread xs = take 32 (xs ++ replicate 32 0)

pub record CodeFigures : Type 0 where
  -- 32 times one point
  pub one-point : DifferentPoints five (replicate 32 7) → ⊥
  -- "A repeated point, or one other than 00 kept for a number from n up": five points, those of document 01, of the first series, 00 last with 00
  -- from n up; then the first one again, the last two alike, one kept for board 5 and for board 31, one point too few, one too many, no byte
  pub points-taken : map (pointed five)
      (standard five ∷ first_series five ∷ spread (0x05 ∷ 0xFF ∷ 0x80 ∷ 0x1D ∷ 0x00 ∷ []) ∷ [])
      ≡ true ∷ true ∷ true ∷ []
  pub points-refused : map (pointed five)
      (spread (1 ∷ 1 ∷ 2 ∷ 3 ∷ 4 ∷ [])
      ∷ spread (1 ∷ 2 ∷ 3 ∷ 4 ∷ 1 ∷ [])
      ∷ spread (0 ∷ 1 ∷ 2 ∷ 4 ∷ 4 ∷ [])
      ∷ spread (0 ∷ 1 ∷ 2 ∷ 3 ∷ 4 ∷ 5 ∷ [])
      ∷ set (standard five) 31 5
      ∷ take 31 (standard five)
      ∷ (standard five ++ (0 ∷ []))
      ∷ spread (0x100 ∷ 1 ∷ 2 ∷ 3 ∷ 4 ∷ [])
      ∷ [])
      ≡ replicate 8 false
  -- the order inside groups a (Y, X), b (Y², Y³, XY²) and c (X²Y, X³): one byte 01 in a stripe of 00
  pub group-a : map (λ f. share (sizes 5 2 4 1) (standard (sizes 5 2 4 1)) f 2) (single 1 12 ∷ single 2 11 ∷ [])
      ≡ (0x02 ∷ 0x03 ∷ 0x04 ∷ 0x00 ∷ 0x01 ∷ 0x02 ∷ 0x02 ∷ 0x02 ∷ []) ∷ (0x02 ∷ 0x02 ∷ 0x02 ∷ 0x02 ∷ 0x02 ∷ 0x03 ∷ 0x04 ∷ 0x00 ∷ []) ∷ []
  pub group-b : map (λ f. share five (standard five) f 1) (single 4 7 ∷ single 5 6 ∷ single 7 4 ∷ [])
      ≡ (0x01 ∷ 0x04 ∷ 0x05 ∷ 0x10 ∷ 0x00 ∷ 0x01 ∷ 0x01 ∷ [])
      ∷ (0x01 ∷ 0x08 ∷ 0x0F ∷ 0x40 ∷ 0x00 ∷ 0x01 ∷ 0x01 ∷ [])
      ∷ (0x01 ∷ 0x04 ∷ 0x05 ∷ 0x10 ∷ 0x00 ∷ 0x02 ∷ 0x03 ∷ [])
      ∷ []
  pub group-c : map (λ f. share (sizes 5 2 4 1) (standard (sizes 5 2 4 1)) f 2) (single 11 2 ∷ single 12 1 ∷ [])
      ≡ (0x08 ∷ 0x0C ∷ 0x10 ∷ 0x00 ∷ 0x04 ∷ 0x0A ∷ 0x20 ∷ 0x00 ∷ []) ∷ (0x08 ∷ 0x08 ∷ 0x08 ∷ 0x08 ∷ 0x08 ∷ 0x0F ∷ 0x40 ∷ 0x00 ∷ []) ∷ []
  -- "subscripts modulo n"
  pub past-the-last : neighbours five 3 5 ≡ 3 ∷ 4 ∷ 0 ∷ 1 ∷ 2 ∷ []
  -- "the last is filled up with 00": two stripes, n=2, k=d=r=1
  pub filled-up : share (sizes 2 1 1 1) (standard (sizes 2 1 1 1)) (0x05 ∷ 0x03 ∷ 0x07 ∷ []) 0 ≡ 0x05 ∷ 0x06 ∷ 0x07 ∷ 0x07 ∷ []
  -- helper 2 to board 1, of M9's share; what board 0 sends board 1, n=6, k=d=r=2; M8's share by M12's packets
  pub pair : helper_packet five (standard five) 1 2 1 (0x08 ∷ 0x0C ∷ 0x10 ∷ 0x00 ∷ 0x04 ∷ 0x0A ∷ 0x20 ∷ []) ≡ 0x04 ∷ 0x02 ∷ []
  pub exchange : exchange_packet (sizes 6 2 2 2) (standard (sizes 6 2 2 2)) 1 (2 ∷ 3 ∷ []) (0x07 ∷ 0x21 ∷ 0x04 ∷ 0x34 ∷ []) 1 ≡ 0x02 ∷ []
  pub finished : finished_share five (standard five) 1 1 (2 ∷ 3 ∷ 4 ∷ []) (0x04 ∷ 0x02 ∷ 0x05 ∷ 0x03 ∷ 0x10 ∷ 0x04 ∷ []) (0 ∷ []) (0x00 ∷ [])
      ≡ 0x01 ∷ 0x02 ∷ 0x03 ∷ 0x04 ∷ 0x00 ∷ 0x04 ∷ 0x05 ∷ []
  -- request A.3: M11's share sends board 1 the pair 10 04, as a stand-in 04 alone; M8's share by helpers 0, 2, 3 and this byte; the second bytes of
  -- two stripes
  pub stand-in : helper_packet five (standard five) 1 4 1 (0x40 ∷ 0x00 ∷ 0x10 ∷ 0x20 ∷ 0x30 ∷ 0x00 ∷ 0x04 ∷ []) ≡ 0x10 ∷ 0x04 ∷ []
  pub stand-in-alone : stand_in_packet five (standard five) 1 4 1 (0x40 ∷ 0x00 ∷ 0x10 ∷ 0x20 ∷ 0x30 ∷ 0x00 ∷ 0x04 ∷ []) ≡ 0x04 ∷ []
  pub finished-by-stand-in : finished_share five (standard five) 1 1 (0 ∷ 2 ∷ 3 ∷ []) (0x00 ∷ 0x00 ∷ 0x04 ∷ 0x02 ∷ 0x05 ∷ 0x03 ∷ []) (4 ∷ []) (0x04 ∷ [])
      ≡ 0x01 ∷ 0x02 ∷ 0x03 ∷ 0x04 ∷ 0x00 ∷ 0x04 ∷ 0x05 ∷ []
  pub second-bytes : seconds 2 (0x0A ∷ 0x0B ∷ 0x0C ∷ 0x0D ∷ []) ≡ 0x0B ∷ 0x0D ∷ []
  -- the exchanged byte is 02, n=6, k=d=r=2, the file 01 02 .. 08
  pub finished-by-exchange : finished_share (sizes 6 2 2 2) (standard (sizes 6 2 2 2)) 1 1 (4 ∷ 5 ∷ []) (0x20 ∷ 0x9D ∷ 0x28 ∷ 0x4F ∷ []) (0 ∷ []) (0x02 ∷ [])
      ≡ 0x08 ∷ 0x76 ∷ 0x58 ∷ 0x9D ∷ 0x10 ∷ []
  -- F = 1 + 2Y + 3Y² + 4X, n=3, k=1, d=2, r=1: a file from board 0's share, and no file of three bytes, whose padding would be 04
  pub read : read_file (sizes 3 1 2 1) (standard (sizes 3 1 2 1)) 4 (0 ∷ []) (0x01 ∷ 0x00 ∷ 0x09 ∷ 0x05 ∷ []) ≡ some (0x01 ∷ 0x02 ∷ 0x03 ∷ 0x04 ∷ [])
  pub disagrees : read_file (sizes 3 1 2 1) (standard (sizes 3 1 2 1)) 3 (0 ∷ []) (0x01 ∷ 0x00 ∷ 0x09 ∷ 0x05 ∷ []) ≡ none
