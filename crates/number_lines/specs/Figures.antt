-- Figures of lines read byte by byte, with what follows: a line and what is behind it, the greatest number below a bound of 2 to the 32 and the
-- next, numbers that no machine holds, and what is malformed.
-- Assumes nothing.
use Rattle.std.specs.Prelude.{◌≡◌, List, [], ◌∷◌, ◌++◌, map, ℕ, replicate}
use Rattle.number_lines.specs.Steps.{begin, reads}

-- seed=
abbrev seed : List ℕ
seed = 0x73 ∷ 0x65 ∷ 0x65 ∷ 0x64 ∷ 0x3D ∷ []

-- the number and what is behind the line; nothing of a malformed line
abbrev got : List ℕ → List ℕ
got input = reads [] seed 4294967296 begin input (λ v rest. v ∷ rest)

-- the first digits of 2 to the 32
abbrev most : List ℕ
most = 0x34 ∷ 0x32 ∷ 0x39 ∷ 0x34 ∷ 0x39 ∷ 0x36 ∷ 0x37 ∷ 0x32 ∷ 0x39 ∷ []

pub record LineFigures : Type 0 where
  pub one_line : got (seed ++ (0x31 ∷ 0x30 ∷ 0x0A ∷ 7 ∷ 0x0A ∷ [])) ≡ 10 ∷ 7 ∷ 0x0A ∷ []
  pub zero : got (seed ++ (0x30 ∷ 0x0A ∷ [])) ≡ 0 ∷ []
  pub below : got (seed ++ most ++ (0x35 ∷ 0x0A ∷ [])) ≡ 4294967295 ∷ []
  pub bound : map (λ l. got (seed ++ l ++ (0x0A ∷ []))) ((most ++ (0x36 ∷ [])) ∷ (most ++ (0x37 ∷ [])) ∷ replicate 23 0x39 ∷ []) ≡ replicate 3 (4294967296 ∷ [])
  -- no number, leading zeros, no end, a byte 0D, another name
  pub malformed : map got
      ((seed ++ (0x0A ∷ []))
      ∷ (seed ++ (0x30 ∷ 0x31 ∷ 0x0A ∷ []))
      ∷ (seed ++ (0x30 ∷ 0x30 ∷ 0x0A ∷ []))
      ∷ (seed ++ (0x31 ∷ []))
      ∷ (seed ++ (0x31 ∷ 0x0D ∷ 0x0A ∷ []))
      ∷ (0x73 ∷ 0x3D ∷ 0x31 ∷ 0x0A ∷ [])
      ∷ []
      ∷ [])
      ≡ replicate 7 []
