-- What holds of a line of a number, for any name and any kind of answer: it is taken in just its form, as the number that its digits spell;
-- and read byte by byte with any bound it is the same line, with its number up to the bound.
-- Assumes nothing.
use Rattle.std.specs.Prelude.{◌≡◌, ◌⊎◌, List, [], ◌∷◌, ◌++◌, ℕ, ◌+◌, ◌*◌, ◌-◌, ◌≤◌, get_or}
use Rattle.lists.specs.Lists.{All}
use Rattle.number_lines.specs.Lines.{line}
use Rattle.number_lines.specs.Steps.{begin, capped, reads}

-- 0, or a digit 1 to 9 and digits
abbrev pub Number : List ℕ → Type 0
Number l = (l ≡ 0x30 ∷ []) ⊎ (All (λ c. (0x30 ≤ c) × (c ≤ 0x39)) l × (0x31 ≤ get_or l 0 0))

-- the number that decimal digits spell, after the number v
abbrev pub spelled : List ℕ → ℕ → ℕ
spelled [] v = v
spelled (c ∷ l) v = spelled l (10 * v + (c - 0x30))

-- the input begins with these bytes, a number and byte 0A
pub record Starts (name input : List ℕ) : Type 0 where
  pub figures : List ℕ
  pub behind : List ℕ
  pub is_number : Number figures
  pub whole : input ≡ name ++ (figures ++ (0x0A ∷ behind))

pub record LineLaws : Type 1 where
  pub taken : {A : Type 0} (bad : A) (name l : List ℕ) → Number l → (input : List ℕ) (go : ℕ → List ℕ → A)
      → line bad name (name ++ (l ++ (0x0A ∷ input))) go ≡ go (spelled l 0) input
  pub else-malformed : {A : Type 0} (bad : A) (name input : List ℕ) → Starts name input ⊎ ((go : ℕ → List ℕ → A) → line bad name input go ≡ bad)
  pub byte-by-byte : {A : Type 0} (bad : A) (name : List ℕ) (most : ℕ) (input : List ℕ) (go : ℕ → List ℕ → A)
      → reads bad name most begin input go ≡ line bad name input (λ v rest. go (capped most v) rest)
  -- lines one after another: what goes on with the number as it is held, and says the same with the number itself
  pub goes-on : {A : Type 0} (bad : A) (name : List ℕ) (most : ℕ) (go then : ℕ → List ℕ → A)
      → ((v : ℕ) (rest : List ℕ) → go (capped most v) rest ≡ then v rest)
      → (input : List ℕ) → reads bad name most begin input go ≡ line bad name input then
