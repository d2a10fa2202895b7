-- Document 01, 'Figures to meet': those marked M, in one table over the definitions. "Marked M are proved": proofs/Figures.antt has `figures`.
-- Assumes nothing.
use Rattle.std.specs.Prelude.{◌≡◌, [], ◌∷◌, ℕ, replicate}
use Rattle.gf256.specs.Field.{mul}
use Rattle.sizes.specs.Sizing.{α, B}
use Rattle.mbcr.specs.Share.{standard, share}
use Rattle.store_spec.specs.Record.{new_record}
use Rattle.store_spec.specs.Packets.{sent_to, contents, total, repair_packets}
use Rattle.store_spec.specs.Calls.{write_call}
use Rattle.store_spec.specs.FurtherFigures.{two, two_file, five, five_file, written, area, spoiled, helpers, gives}

pub record MarkedFigures : Type 0 where
  pub m1 : mul 0x80 0x02 ≡ 0x1D
  pub m2 : mul 0x03 0x03 ≡ 0x05
  pub m3 : mul 0x02 0x8E ≡ 0x01
  pub m4 : (a : ℕ) → mul 0x00 a ≡ 0x00
  pub m5 : share two (standard two) two_file 0 ≡ 0x05 ∷ 0x06 ∷ []
  pub m6 : share two (standard two) two_file 1 ≡ 0x06 ∷ 0x05 ∷ []
  pub sizes : (α five ≡ 7) × (B five ≡ 12)
  pub m7 : share five (standard five) five_file 0 ≡ 0x00 ∷ 0x00 ∷ 0x00 ∷ 0x00 ∷ 0x00 ∷ 0x00 ∷ 0x00 ∷ []
  pub m8 : share five (standard five) five_file 1 ≡ 0x01 ∷ 0x02 ∷ 0x03 ∷ 0x04 ∷ 0x00 ∷ 0x04 ∷ 0x05 ∷ []
  pub m9 : share five (standard five) five_file 2 ≡ 0x08 ∷ 0x0C ∷ 0x10 ∷ 0x00 ∷ 0x04 ∷ 0x0A ∷ 0x20 ∷ []
  pub m10 : share five (standard five) five_file 3 ≡ 0x0F ∷ 0x14 ∷ 0x00 ∷ 0x05 ∷ 0x0A ∷ 0x30 ∷ 0x00 ∷ []
  pub m11 : share five (standard five) five_file 4 ≡ 0x40 ∷ 0x00 ∷ 0x10 ∷ 0x20 ∷ 0x30 ∷ 0x00 ∷ 0x04 ∷ []
  pub m7-to-m11 : write_call (new_record five (standard five) 1) (replicate 35 0xFF) five_file ≡ gives 0 0 written area []
  -- "board 1 gets 04 02, 05 03, 10 04, then 00 from board 0. Moved: 14."
  pub m12-gets : contents (sent_to 1 (repair_packets written spoiled (0 ∷ 1 ∷ []) helpers []))
      ≡ 0x04 ∷ 0x02 ∷ 0x05 ∷ 0x03 ∷ 0x10 ∷ 0x04 ∷ 0x00 ∷ []
  pub m12-moved : total (repair_packets written spoiled (0 ∷ 1 ∷ []) helpers []) ≡ 14
