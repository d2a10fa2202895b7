-- What is read of a load, line by line, and what is made of it.
-- Assumes nothing.
use Rattle.std.proofs.Math.Option as math
use Rattle.std.proofs.Math.Option.{some, none}
use Rattle.std.specs.Prelude.{List, [], ◌∷◌, ℕ, Option, Some, None, option_and_then}
use Rattle.lists.specs.Tests.{pick}
use Rattle.text_in.specs.declared.Told.{Told}
use Rattle.line_places.specs.Steps.{line_at}
use Rattle.trial_spec.specs.Trial as trial
use Rattle.trial_input.specs.declared.Line.{Line}
use Rattle.trial_input.specs.declared.Four.{Four}
use Rattle.trial_input.specs.declared.Eight.{Eight}
use Rattle.trial_input.specs.declared.Load.{Load}

-- a load, as the definitions have it
abbrev pub load_in : Load → trial.Load
load_in l = record { sizes = l.sizes; capacity = l.capacity; seed = l.seed; length = l.length; calls = l.calls }

abbrev pub loaded_in : Option Load → math.Option trial.Load
loaded_in (Some l) = some (load_in l)
loaded_in None = none

-- the line of a number at a place, where it stands there
abbrev pub line_told : Told → Option Line
line_told t = pick t.ok (Some (record { value = t.value; next = t.next })) None

abbrev pub line_of : List ℕ → ℕ → List ℕ → Option Line
line_of text at name = line_told (line_at text at name)

-- the lines of the sizes, each from behind the last
module _ (text : List ℕ) where
  abbrev pub with_r : Line → Line → Line → Line → Option Four
  with_r n k d r = Some (record { sizes = record { n = n.value; k = k.value; d = d.value; r = r.value }; next = r.next })

  abbrev pub from_d : Line → Line → Line → Option Four
  from_d n k d = option_and_then (with_r n k d) (line_of text d.next (0x72 ∷ 0x3D ∷ []))

  abbrev pub from_k : Line → Line → Option Four
  from_k n k = option_and_then (from_d n k) (line_of text k.next (0x64 ∷ 0x3D ∷ []))

  abbrev pub from_n : Line → Option Four
  from_n n = option_and_then (from_k n) (line_of text n.next (0x6B ∷ 0x3D ∷ []))

  abbrev pub sizes_at : Option Four
  sizes_at = option_and_then from_n (line_of text 0 (0x6E ∷ 0x3D ∷ []))

  -- and four more
  abbrev pub with_calls : Four → Line → Line → Line → Line → Option Eight
  with_calls four C seed L calls =
      Some (record { numbers = record { sizes = four.sizes; capacity = C.value; seed = seed.value; length = L.value; calls = calls.value }; next = calls.next })

  abbrev pub from_length : Four → Line → Line → Line → Option Eight
  from_length four C seed L = option_and_then (with_calls four C seed L) (line_of text L.next (0x63 ∷ 0x61 ∷ 0x6C ∷ 0x6C ∷ 0x73 ∷ 0x3D ∷ []))

  abbrev pub from_seed : Four → Line → Line → Option Eight
  from_seed four C seed = option_and_then (from_length four C seed) (line_of text seed.next (0x6C ∷ 0x65 ∷ 0x6E ∷ 0x67 ∷ 0x74 ∷ 0x68 ∷ 0x3D ∷ []))

  abbrev pub from_C : Four → Line → Option Eight
  from_C four C = option_and_then (from_seed four C) (line_of text C.next (0x73 ∷ 0x65 ∷ 0x65 ∷ 0x64 ∷ 0x3D ∷ []))

  abbrev pub from_sizes : Four → Option Eight
  from_sizes four = option_and_then (from_C four) (line_of text four.next (0x43 ∷ 0x3D ∷ []))

  abbrev pub numbers_at : Option Eight
  numbers_at = option_and_then from_sizes sizes_at
