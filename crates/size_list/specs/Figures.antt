-- Request A.12, figures with numbers that all differ: a line; all combinations up to 3; what is taken and what is refused.
-- Assumes nothing.
use Rattle.std.specs.Prelude.{◌≡◌, [], ◌∷◌}
use Rattle.sizes.specs.declared.Sizes.{Sizes}
use Rattle.printer.specs.Printer.{refused_line}
use Rattle.size_list.specs.Combinations.{combinations, limit, listed, row, rows}

abbrev pub seven : Sizes
seven = record { n = 17; k = 3; d = 8; r = 5 }

pub record ListFigures : Type 0 where
  -- n=17 k=3 d=8 r=5 share=20 stripe=54
  pub one-row : row seven ≡
      0x6E ∷ 0x3D ∷ 0x31 ∷ 0x37 ∷ 0x20 ∷ 0x6B ∷ 0x3D ∷ 0x33 ∷ 0x20 ∷ 0x64 ∷ 0x3D ∷ 0x38 ∷ 0x20 ∷ 0x72 ∷ 0x3D ∷ 0x35 ∷ 0x20
      ∷ 0x73 ∷ 0x68 ∷ 0x61 ∷ 0x72 ∷ 0x65 ∷ 0x3D ∷ 0x32 ∷ 0x30 ∷ 0x20
      ∷ 0x73 ∷ 0x74 ∷ 0x72 ∷ 0x69 ∷ 0x70 ∷ 0x65 ∷ 0x3D ∷ 0x35 ∷ 0x34 ∷ 0x0A ∷ []
  pub up-to-three : combinations 3 ≡
      record { n = 2; k = 1; d = 1; r = 1 }
      ∷ record { n = 3; k = 1; d = 1; r = 1 }
      ∷ record { n = 3; k = 1; d = 1; r = 2 }
      ∷ record { n = 3; k = 1; d = 2; r = 1 }
      ∷ record { n = 3; k = 2; d = 2; r = 1 }
      ∷ []
  -- 2 and byte 0A give n=2 k=1 d=1 r=1 share=2 stripe=2
  pub whole : listed (0x32 ∷ 0x0A ∷ []) ≡
      0x6E ∷ 0x3D ∷ 0x32 ∷ 0x20 ∷ 0x6B ∷ 0x3D ∷ 0x31 ∷ 0x20 ∷ 0x64 ∷ 0x3D ∷ 0x31 ∷ 0x20 ∷ 0x72 ∷ 0x3D ∷ 0x31 ∷ 0x20
      ∷ 0x73 ∷ 0x68 ∷ 0x61 ∷ 0x72 ∷ 0x65 ∷ 0x3D ∷ 0x32 ∷ 0x20
      ∷ 0x73 ∷ 0x74 ∷ 0x72 ∷ 0x69 ∷ 0x70 ∷ 0x65 ∷ 0x3D ∷ 0x32 ∷ 0x0A ∷ []
  pub told : listed (0x33 ∷ 0x0A ∷ []) ≡ rows (combinations 3)
  pub limits : limit (0x33 ∷ 0x32 ∷ 0x0A ∷ []) ∷ limit (0x31 ∷ 0x37 ∷ 0x0A ∷ []) ∷ [] ≡ 32 ∷ 17 ∷ []
  -- 1, 33, 02, no byte 0A, a byte behind, a name, nothing
  pub refused :
      limit (0x31 ∷ 0x0A ∷ [])
      ∷ limit (0x33 ∷ 0x33 ∷ 0x0A ∷ [])
      ∷ limit (0x30 ∷ 0x32 ∷ 0x0A ∷ [])
      ∷ limit (0x32 ∷ [])
      ∷ limit (0x32 ∷ 0x0A ∷ 0x0A ∷ [])
      ∷ limit (0x6E ∷ 0x3D ∷ 0x32 ∷ 0x0A ∷ [])
      ∷ limit []
      ∷ [] ≡ 0 ∷ 0 ∷ 0 ∷ 0 ∷ 0 ∷ 0 ∷ 0 ∷ []
  pub refusal : listed [] ≡ refused_line 1
