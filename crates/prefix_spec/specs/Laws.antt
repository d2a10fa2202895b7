-- What holds of `longest`: it is the length of the longest beginning that also begins some accepted text. proofs/Longest.antt has `prefix-laws : PrefixLaws`.
-- Assumes nothing.
use Rattle.std.specs.Prelude.{◌≡◌, ◌↔◌, List, [], ◌++◌, ℕ, ◌≤◌, length, take}
use Rattle.std.proofs.Math.Option.{some, none}
use Rattle.text_spec.specs.Texts.{ShareTold, read_text}
use Rattle.prefix_spec.specs.Prefix.{longest}

-- these bytes begin some text that the reader accepts, "with points= or without"
abbrev pub Begins : List ℕ → Type 0
Begins l = (rest : List ℕ) × (t : ShareTold) × (read_text (l ++ rest) ≡ some t)

-- m is "the length of its longest beginning that also begins some accepted text"
pub record Longest (text : List ℕ) (m : ℕ) : Type 0 where
  pub within : m ≤ length text
  pub begins : Begins (take m text)
  pub no_longer : (j : ℕ) → j ≤ length text → Begins (take j text) → j ≤ m

pub record PrefixLaws : Type 0 where
  pub is-longest : (text : List ℕ) (m : ℕ) → (longest text ≡ m) ↔ Longest text m
  -- "An accepted text answers its whole length too."
  pub accepted : (text : List ℕ) (t : ShareTold) → read_text text ≡ some t → longest text ≡ length text
  -- "A text merely cut short answers its own length."
  pub cut_short : (text : List ℕ) (t : ShareTold) (j : ℕ) → read_text text ≡ some t → longest (take j text) ≡ length (take j text)
  -- what is behind an accepted text makes no sense: no accepted text begins another
  pub behind : (text behind : List ℕ) (t : ShareTold) → read_text text ≡ some t → longest (text ++ behind) ≡ length text
  -- and just what begins an accepted text answers its own length
  pub whole : (text : List ℕ) → (longest text ≡ length text) ↔ Begins text
  pub none : longest [] ≡ 0
