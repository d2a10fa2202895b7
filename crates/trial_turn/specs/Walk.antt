-- The trial load from anywhere in it: what so many calls print, from a state of the store and one of the generator.
-- Assumes nothing.
use Rattle.std.specs.Prelude.{List, ℕ}
use Rattle.beside_spec.specs.Acting.{State}
use Rattle.trial_spec.specs.Trial.{Load, drawn_calls, printed, store_replies}

abbrev pub text_from : Load → ℕ → State → ℕ → List ℕ
text_from l m w state = let calls = drawn_calls l m state in printed calls (store_replies w calls)
