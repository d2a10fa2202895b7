-- What is written is read: decimals, pairs, lines of numbers.
-- Assumes nothing.
use mathlib.Core.Path.{◌≡◌, refl, sym, ap, ◌∙◌}
use mathlib.Core.Bool.{true}
use mathlib.Core.Logic.{◌⊎◌, inl, inr}
use mathlib.Core.List.{List, [], ◌∷◌, ◌++◌, append_assoc}
use Prim.Native.Nat.{ℕ, zero, suc, ◌+◌, ◌*◌, ◌-◌, ◌/◌, ◌%◌, ◌≤◌, ◌<◌}
use native.Mathlib.Omega.{arith}
use lib.ListN.{length}
use borrow.Author.Tests.{lt-ltb}
use Rattle.lists.specs.Lists.{Bytes, joined}
use Rattle.number_lines.specs.Lines.{line}
use Rattle.number_lines.specs.Laws.{Number, spelled}
use Rattle.number_lines.proofs.Laws.{line-laws}
use Rattle.number_lines.proofs.Picks.{yes, if-eq, if-lt, if-le}
use Rattle.point_lines.specs.Lines.{hexadecimal, read_digit, read_name, read_pairs}
use Rattle.sizes.specs.declared.Sizes.{Sizes}
use Rattle.board_spec.specs.Demand1.{value}
use Rattle.board_spec.specs.Text.{decimal, hex_digit, hex_pair, text_line}
use Rattle.board_spec.proofs.Text.{text-laws}
use Rattle.text_spec.specs.Texts.{six_lines}

-- a line and what is behind it
pub line-apart : (name l input : List ℕ) → text_line name l ++ input ≡ name ++ (0x3D ∷ []) ++ (l ++ (0x0A ∷ input))
line-apart name l input =
    append_assoc (name ++ (0x3D ∷ []) ++ l) (0x0A ∷ []) input ∙ append_assoc (name ++ (0x3D ∷ [])) l (0x0A ∷ input)

-- ---- decimals

spelled-value : (l : List ℕ) (v : ℕ) → spelled l v ≡ value l v
spelled-value [] v = refl
spelled-value (c ∷ l) v = spelled-value l (10 * v + (c - 0x30))

decimal-number : (x : ℕ) → Number (decimal x)
decimal-number zero = inl text-laws.decimal-zero
decimal-number (suc x) = inr (text-laws.decimal-digits (suc x), text-laws.decimal-first (suc x) (omega arith))

-- ---- pairs

pub digit-yes : (c : ℕ) → ((0x30 ≤ c) × (c ≤ 0x39)) ⊎ ((0x61 ≤ c) × (c ≤ 0x66)) → hexadecimal c ≡ true
digit-yes c (inl h) = if-le c 0x30 _ _ h.0 ∙ if-lt c 0x3A _ _ (omega (arith, h.1))
digit-yes c (inr h) =
    if-le c 0x30 _ _ (omega (arith, h.0)) ∙ if-le c 0x3A _ _ (omega (arith, h.0)) ∙ if-le c 0x61 _ _ h.0 ∙ lt-ltb c 0x67 (omega (arith, h.1))

module _ {A : Type 0} (bad : A) where
  pub decimal-taken : (name : List ℕ) (x : ℕ) (input : List ℕ) (go : ℕ → List ℕ → A)
      → line bad (name ++ (0x3D ∷ [])) (text_line name (decimal x) ++ input) go ≡ go x input
  decimal-taken name x input go =
      ap (λ (m : List ℕ). line bad (name ++ (0x3D ∷ [])) m go) (line-apart name (decimal x) input)
      ∙ line-laws.taken bad (name ++ (0x3D ∷ [])) (decimal x) (decimal-number x) input go
      ∙ ap (λ (v : ℕ). go v input) (spelled-value (decimal x) 0 ∙ text-laws.decimal-value x)

  -- one byte, in two digits
  abbrev read_pair : List ℕ → (ℕ → List ℕ → A) → A
  read_pair input go = read_digit bad input (λ high input. read_digit bad input (λ low input. go (16 * high + low) input))

  pair-taken : (b : ℕ) → b < 256 → (input : List ℕ) (go : ℕ → List ℕ → A) → read_pair (hex_pair b ++ input) go ≡ go b input
  pair-taken b h input go =
      let d = text-laws.hex-digits b h in
      yes (hexadecimal (hex_digit (b / 16))) _ _ (digit-yes _ d.0) ∙ yes (hexadecimal (hex_digit (b % 16))) _ _ (digit-yes _ d.1.0)
      ∙ ap (λ (x : ℕ). go x input) (text-laws.hex-value b)

  pub pairs-taken : (xs : List ℕ) → Bytes xs → (input : List ℕ) (go : List ℕ → List ℕ → A)
      → read_pairs bad (length xs) (joined hex_pair xs ++ (0x0A ∷ input)) go ≡ go xs input
  pairs-taken [] h input go = refl
  pairs-taken (x ∷ xs) h input go =
      pair-taken x h.0 (joined hex_pair xs ++ (0x0A ∷ input)) (λ y input. read_pairs bad (length xs) input (λ ys rest. go (y ∷ ys) rest))
      ∙ pairs-taken xs h.1 input (λ ys rest. go (x ∷ ys) rest)

  name-taken : (name input : List ℕ) (go : List ℕ → A) → read_name bad name (name ++ input) go ≡ go input
  name-taken [] input go = refl
  name-taken (c ∷ name) input go = if-eq c c _ _ refl ∙ name-taken name input go

  -- a line of pairs
  pub pairs-line-taken : (name xs : List ℕ) (n : ℕ) → Bytes xs → length xs ≡ n → (input : List ℕ) (go : List ℕ → List ℕ → A)
      → read_name bad (name ++ (0x3D ∷ [])) (text_line name (joined hex_pair xs) ++ input) (λ input. read_pairs bad n input go) ≡ go xs input
  pairs-line-taken name xs n h e input go =
      ap (λ (m : List ℕ). read_name bad (name ++ (0x3D ∷ [])) m (λ input. read_pairs bad n input go)) (line-apart name (joined hex_pair xs) input)
      ∙ name-taken (name ++ (0x3D ∷ [])) (joined hex_pair xs ++ (0x0A ∷ input)) (λ input. read_pairs bad n input go)
      ∙ ap (λ (n : ℕ). read_pairs bad n (joined hex_pair xs ++ (0x0A ∷ input)) go) (sym e)
      ∙ pairs-taken xs h input go

  -- the six lines
  pub six-taken : (z : Sizes) (node L : ℕ) (input : List ℕ) (go : Sizes → ℕ → ℕ → List ℕ → A)
      → six_lines bad (text_line (0x6E ∷ []) (decimal z.n)
      ++ (text_line (0x6B ∷ []) (decimal z.k)
      ++ (text_line (0x64 ∷ []) (decimal z.d)
      ++ (text_line (0x72 ∷ []) (decimal z.r)
      ++ (text_line (0x6E ∷ 0x6F ∷ 0x64 ∷ 0x65 ∷ []) (decimal node)
      ++ (text_line (0x6C ∷ 0x65 ∷ 0x6E ∷ 0x67 ∷ 0x74 ∷ 0x68 ∷ []) (decimal L) ++ input)))))) go
      ≡ go z node L input
  six-taken z node L input go =
      decimal-taken (0x6E ∷ []) z.n _ _
      ∙ decimal-taken (0x6B ∷ []) z.k _ _
      ∙ decimal-taken (0x64 ∷ []) z.d _ _
      ∙ decimal-taken (0x72 ∷ []) z.r _ _
      ∙ decimal-taken (0x6E ∷ 0x6F ∷ 0x64 ∷ 0x65 ∷ []) node _ _
      ∙ decimal-taken (0x6C ∷ 0x65 ∷ 0x6E ∷ 0x67 ∷ 0x74 ∷ 0x68 ∷ []) L _ _
