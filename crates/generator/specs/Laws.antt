-- What holds of the generator, and its first bytes. proofs/Laws.antt has `generator-laws : GeneratorLaws`.
-- Assumes nothing.
use Rattle.std.specs.Prelude.{◌≡◌, ℕ, ◌+◌, ◌*◌, ◌/◌, ◌<◌, [], ◌∷◌, ◌++◌, length, slice_index}
use Rattle.lists.specs.Lists.{Bytes}
use Rattle.generator.specs.Generator.{step, after, emitted}

pub record GeneratorLaws : Type 0 where
  -- "state times 1664525 plus 1013904223, modulo 2 to the 32": less some number of times 2 to the 32, and "a 32-bit state"
  pub step_is : (state : ℕ) → (q : ℕ) × (state * 1664525 + 1013904223 ≡ q * 4294967296 + step state)
  pub word : (state : ℕ) → step state < 4294967296
  pub bytes : (m state : ℕ) → Bytes (emitted m state)
  pub long : (m state : ℕ) → length (emitted m state) ≡ m
  -- byte i, counted from 0, is the top eight bits of the state after i + 1 steps, one after another
  pub emits : (m i state : ℕ) → i < m → slice_index (emitted m state) i ≡ after (i + 1) state / 16777216
  pub none_first : (state : ℕ) → after 0 state ≡ state
  pub one_more : (m state : ℕ) → after (m + 1) state ≡ step (after m state)
  -- a file drawn in two parts: the second goes on where the first ended
  pub onward : (m p state : ℕ) → emitted (m + p) state ≡ emitted m state ++ emitted p (after m state)
  pub after-onward : (m p state : ℕ) → after (m + p) state ≡ after p (after m state)
  -- the seeds 0, 1 and 4,294,967,295
  pub seed-0 : emitted 6 0 ≡ 0x3C ∷ 0x47 ∷ 0xD1 ∷ 0xAA ∷ 0x62 ∷ 0x9F ∷ []
  pub seed-1 : emitted 6 1 ≡ 0x3C ∷ 0x5E ∷ 0x81 ∷ 0xB4 ∷ 0x0C ∷ 0x5E ∷ []
  pub last-seed : emitted 3 4294967295 ≡ 0x3C ∷ 0x30 ∷ 0x22 ∷ []
