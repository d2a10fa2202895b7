-- Figures of the trial: a load that meets each kind of call and the answers 0, 8, 9 and 14, with all that it prints; a call drawn of each kind; inputs that
-- are refused. proofs/Figures.antt has `figures`.
-- Assumes nothing.
use Rattle.std.specs.Prelude.{◌≡◌, true, false, List, [], ◌∷◌, ◌++◌, map, ℕ, take, replicate}
use Rattle.std.proofs.Math.Option.{some}
use Rattle.lists.specs.Tests.{given}
use Rattle.lists.specs.Lists.{concat}
use Rattle.sizes.specs.Refusals.{Said}
use Rattle.board_spec.specs.Text.{decimal, text_line}
use Rattle.printer.specs.Printer.{refused_line}
use Rattle.beside_spec.specs.Acting.{write, lose, repair, read}
use Rattle.trial_spec.specs.Trial.{Load, loaded, board_call, drawn_calls, call_line, trial_text}

-- the lines with these numbers
abbrev input : ℕ → ℕ → ℕ → ℕ → ℕ → ℕ → ℕ → ℕ → List ℕ
input n k d r C seed L calls =
    text_line (0x6E ∷ []) (decimal n)
    ++ text_line (0x6B ∷ []) (decimal k)
    ++ text_line (0x64 ∷ []) (decimal d)
    ++ text_line (0x72 ∷ []) (decimal r)
    ++ text_line (0x43 ∷ []) (decimal C)
    ++ text_line (0x73 ∷ 0x65 ∷ 0x65 ∷ 0x64 ∷ []) (decimal seed)
    ++ text_line (0x6C ∷ 0x65 ∷ 0x6E ∷ 0x67 ∷ 0x74 ∷ 0x68 ∷ []) (decimal L)
    ++ text_line (0x63 ∷ 0x61 ∷ 0x6C ∷ 0x6C ∷ 0x73 ∷ []) (decimal calls)

abbrev four : Load
four = record { sizes = record { n = 4; k = 2; d = 2; r = 1 }; capacity = 1; seed = 3081; length = 5; calls = 8 }

-- numbers that all differ
abbrev seven : Load
seven = record { sizes = record { n = 7; k = 4; d = 3; r = 2 }; capacity = 1; seed = 0; length = 6; calls = 0 }

abbrev says : ℕ → ℕ → Said
says x v = record { refusal = x; reported = v }

pub record TrialFigures : Type 0 where
  pub calls : drawn_calls four 8 3081
      ≡ repair (0 ∷ []) (1 ∷ 2 ∷ []) []
      ∷ read (3 ∷ 0 ∷ []) (replicate 5 0)
      ∷ write (0x51 ∷ 0x5E ∷ 0x4E ∷ 0xDB ∷ 0x94 ∷ [])
      ∷ lose 0
      ∷ repair (3 ∷ []) (0 ∷ 1 ∷ []) []
      ∷ read (1 ∷ 2 ∷ []) (replicate 5 0)
      ∷ read (0 ∷ 1 ∷ []) (replicate 5 0)
      ∷ repair (0 ∷ []) (1 ∷ 2 ∷ []) []
      ∷ []
  -- the lists of each call, modulo n, from board 5: the same three helpers for each of two fresh boards
  pub lists : map (board_call seven 1) (5 ∷ []) ++ map (board_call seven 2) (5 ∷ 0 ∷ []) ++ map (board_call seven 3) (5 ∷ [])
      ≡ lose 5 ∷ repair (5 ∷ 6 ∷ []) (0 ∷ 1 ∷ 2 ∷ 0 ∷ 1 ∷ 2 ∷ []) []
      ∷ repair (0 ∷ 1 ∷ []) (2 ∷ 3 ∷ 4 ∷ 2 ∷ 3 ∷ 4 ∷ []) [] ∷ read (5 ∷ 6 ∷ 0 ∷ 1 ∷ []) (replicate 6 0) ∷ []
  -- one line: op=repair answer=0 moved=4
  pub one_line : call_line (repair (2 ∷ []) (3 ∷ 0 ∷ []) []) (says 0 4)
      ≡ 0x6F ∷ 0x70 ∷ 0x3D ∷ 0x72 ∷ 0x65 ∷ 0x70 ∷ 0x61 ∷ 0x69 ∷ 0x72 ∷ 0x20 ∷ 0x61 ∷ 0x6E ∷ 0x73
      ∷ 0x77 ∷ 0x65 ∷ 0x72 ∷ 0x3D ∷ 0x30 ∷ 0x20 ∷ 0x6D ∷ 0x6F ∷ 0x76 ∷ 0x65 ∷ 0x64 ∷ 0x3D ∷ 0x34 ∷ 0x0A ∷ []
  pub text : trial_text (input 4 2 2 1 1 3081 5 8)
      ≡ 0x6F ∷ 0x70 ∷ 0x3D ∷ 0x72 ∷ 0x65 ∷ 0x70 ∷ 0x61 ∷ 0x69 ∷ 0x72 ∷ 0x20 ∷ 0x61 ∷ 0x6E ∷ 0x73 ∷ 0x77 ∷ 0x65 ∷ 0x72 ∷ 0x3D ∷ 0x38
      ∷ 0x20 ∷ 0x6D ∷ 0x6F ∷ 0x76 ∷ 0x65 ∷ 0x64 ∷ 0x3D ∷ 0x30 ∷ 0x0A
      ∷ 0x6F ∷ 0x70 ∷ 0x3D ∷ 0x72 ∷ 0x65 ∷ 0x61 ∷ 0x64 ∷ 0x20 ∷ 0x61 ∷ 0x6E ∷ 0x73 ∷ 0x77 ∷ 0x65 ∷ 0x72 ∷ 0x3D ∷ 0x38
      ∷ 0x20 ∷ 0x6D ∷ 0x6F ∷ 0x76 ∷ 0x65 ∷ 0x64 ∷ 0x3D ∷ 0x30 ∷ 0x0A
      ∷ 0x6F ∷ 0x70 ∷ 0x3D ∷ 0x77 ∷ 0x72 ∷ 0x69 ∷ 0x74 ∷ 0x65 ∷ 0x20 ∷ 0x61 ∷ 0x6E ∷ 0x73 ∷ 0x77 ∷ 0x65 ∷ 0x72 ∷ 0x3D ∷ 0x30
      ∷ 0x20 ∷ 0x6D ∷ 0x6F ∷ 0x76 ∷ 0x65 ∷ 0x64 ∷ 0x3D ∷ 0x30 ∷ 0x0A
      ∷ 0x6F ∷ 0x70 ∷ 0x3D ∷ 0x6C ∷ 0x6F ∷ 0x73 ∷ 0x65 ∷ 0x20 ∷ 0x61 ∷ 0x6E ∷ 0x73 ∷ 0x77 ∷ 0x65 ∷ 0x72 ∷ 0x3D ∷ 0x30
      ∷ 0x20 ∷ 0x6D ∷ 0x6F ∷ 0x76 ∷ 0x65 ∷ 0x64 ∷ 0x3D ∷ 0x30 ∷ 0x0A
      ∷ 0x6F ∷ 0x70 ∷ 0x3D ∷ 0x72 ∷ 0x65 ∷ 0x70 ∷ 0x61 ∷ 0x69 ∷ 0x72 ∷ 0x20 ∷ 0x61 ∷ 0x6E ∷ 0x73 ∷ 0x77
      ∷ 0x65 ∷ 0x72 ∷ 0x3D ∷ 0x31 ∷ 0x34 ∷ 0x20 ∷ 0x6D ∷ 0x6F ∷ 0x76 ∷ 0x65 ∷ 0x64 ∷ 0x3D ∷ 0x30 ∷ 0x0A
      ∷ 0x6F ∷ 0x70 ∷ 0x3D ∷ 0x72 ∷ 0x65 ∷ 0x61 ∷ 0x64 ∷ 0x20 ∷ 0x61 ∷ 0x6E ∷ 0x73 ∷ 0x77 ∷ 0x65 ∷ 0x72 ∷ 0x3D ∷ 0x30
      ∷ 0x20 ∷ 0x6D ∷ 0x6F ∷ 0x76 ∷ 0x65 ∷ 0x64 ∷ 0x3D ∷ 0x30 ∷ 0x0A
      ∷ 0x6F ∷ 0x70 ∷ 0x3D ∷ 0x72 ∷ 0x65 ∷ 0x61 ∷ 0x64 ∷ 0x20 ∷ 0x61 ∷ 0x6E ∷ 0x73 ∷ 0x77 ∷ 0x65 ∷ 0x72 ∷ 0x3D ∷ 0x39
      ∷ 0x20 ∷ 0x6D ∷ 0x6F ∷ 0x76 ∷ 0x65 ∷ 0x64 ∷ 0x3D ∷ 0x30 ∷ 0x0A
      ∷ 0x6F ∷ 0x70 ∷ 0x3D ∷ 0x72 ∷ 0x65 ∷ 0x70 ∷ 0x61 ∷ 0x69 ∷ 0x72 ∷ 0x20 ∷ 0x61 ∷ 0x6E ∷ 0x73 ∷ 0x77 ∷ 0x65 ∷ 0x72 ∷ 0x3D ∷ 0x30
      ∷ 0x20 ∷ 0x6D ∷ 0x6F ∷ 0x76 ∷ 0x65 ∷ 0x64 ∷ 0x3D ∷ 0x34 ∷ 0x0A
      ∷ []
  -- no calls print nothing; a length above C × B: every write is 3, all else 8 but losing
  pub no-calls : trial_text (input 4 2 2 1 1 3081 5 0) ≡ []
  pub too_long : trial_text (input 4 2 2 1 1 3081 7 4)
      ≡ concat (call_line (repair [] [] []) (says 8 0) ∷ call_line (read [] []) (says 8 0) ∷ call_line (write []) (says 3 0) ∷ call_line (repair [] [] []) (says 8 0) ∷ [])
  -- a seed, calls and a length at their limits, and above them; an area of 32,768 bytes, one stripe more, and an area of 32,769; no capacity, and 4,097; sizes that are not legal
  pub limits : map (λ l. given (loaded l)) (input 2 1 1 1 1 4294967295 5 1 ∷ input 2 1 1 1 1 0 5 4294967295 ∷ input 2 1 1 1 1 0 16384 1 ∷ input 8 1 1 1 2048 0 5 1 ∷ [])
      ≡ replicate 4 true
  pub above : map (λ l. given (loaded l))
      (input 2 1 1 1 1 4294967296 5 1
      ∷ input 2 1 1 1 1 0 5 4294967296
      ∷ input 2 1 1 1 1 0 16385 1
      ∷ input 8 1 1 1 2049 0 5 1
      ∷ input 11 1 4 2 331 0 5 1
      ∷ input 2 1 1 1 0 0 5 1
      ∷ input 2 1 1 1 4097 0 5 1
      ∷ input 2 1 1 2 1 0 5 1
      ∷ [])
      ≡ replicate 8 false
  -- numbers that all differ
  pub numbers : loaded (input 8 2 3 4 5 6 7 9) ≡ some (record { sizes = record { n = 8; k = 2; d = 3; r = 4 }; capacity = 5; seed = 6; length = 7; calls = 9 })
  -- no bytes, no end, a byte behind
  pub forms : map trial_text ([] ∷ take 46 (input 4 2 2 1 1 3081 5 8) ∷ (input 4 2 2 1 1 3081 5 0 ++ (0x0A ∷ [])) ∷ []) ≡ replicate 3 (refused_line 1)
