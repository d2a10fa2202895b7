-- The line of points as it is written: its pairs are taken as their bytes, and another number of them is malformed.
-- Assumes nothing.
use mathlib.Core.Path.{◌≡◌, refl, sym, ap, ◌∙◌}
use mathlib.Core.Bool.{true, false}
use mathlib.Core.Logic.{◌≢◌}
use mathlib.Core.List.{List, [], ◌∷◌, ◌++◌, append_assoc}
use Prim.Native.Nat.{ℕ, zero, suc, ◌+◌, ◌*◌, ◌/◌, ◌%◌, ◌<◌}
use native.Mathlib.Omega.{arith}
use lib.ListN.{length}
use Rattle.lists.specs.Lists.{Bytes, joined}
use Rattle.number_lines.proofs.Picks.{yes, if-ne}
use Rattle.board_spec.specs.Text.{hex_digit, hex_pair}
use Rattle.board_spec.proofs.Text.{text-laws}
use Rattle.point_lines.specs.Lines.{hexadecimal, read_digit, read_pairs, read_points}
use Rattle.text_spec.proofs.Forms.{digit-yes}
use Rattle.points_print.specs.Laws.{points_text}

-- ---- digits

record Spelled (b : ℕ) : Type 0 where
  high : hexadecimal (hex_digit (b / 16)) ≡ true
  low : hexadecimal (hex_digit (b % 16)) ≡ true

spelled : (b : ℕ) → b < 256 → Spelled b
spelled b h = let d = text-laws.hex-digits b h in record { high = digit-yes _ d.0; low = digit-yes _ d.1.0 }

-- no digit is byte 0A
not_end : (c : ℕ) → hexadecimal c ≡ true → (c ≡ 0x0A → ⊥)
not_end c h e = let z : ◌≡◌ {A = ℕ} 0 1 = absurd (ends (sym h ∙ ap hexadecimal e)) in omega arith
  where
    ends : true ≡ false → ⊥
    ends q = let z : ◌≡◌ {A = ℕ} 0 1 = cc in omega arith

-- ---- pairs

module _ {A : Type 0} (bad : A) where
  -- one byte, in two digits
  abbrev read_pair : List ℕ → (ℕ → List ℕ → A) → A
  read_pair input go = read_digit bad input (λ high input. read_digit bad input (λ low input. go (16 * high + low) input))

  pair-taken : (b : ℕ) → b < 256 → (input : List ℕ) (go : ℕ → List ℕ → A) → read_pair (hex_pair b ++ input) go ≡ go b input
  pair-taken b h input go =
      let s = spelled b h in
      yes (hexadecimal (hex_digit (b / 16))) _ _ s.high ∙ yes (hexadecimal (hex_digit (b % 16))) _ _ s.low
      ∙ ap (λ (x : ℕ). go x input) (text-laws.hex-value b)

  pairs-taken : (xs : List ℕ) → Bytes xs → (input : List ℕ) (go : List ℕ → List ℕ → A)
      → read_pairs bad (length xs) (joined hex_pair xs ++ (0x0A ∷ input)) go ≡ go xs input
  pairs-taken [] h input go = refl
  pairs-taken (x ∷ xs) h input go =
      pair-taken x h.0 (joined hex_pair xs ++ (0x0A ∷ input)) (λ y input. read_pairs bad (length xs) input (λ ys rest. go (y ∷ ys) rest))
      ∙ pairs-taken xs h.1 input (λ ys rest. go (x ∷ ys) rest)

  pairs-other : (xs : List ℕ) (n : ℕ) → Bytes xs → length xs ≢ n → (input : List ℕ) (go : List ℕ → List ℕ → A)
      → read_pairs bad n (joined hex_pair xs ++ (0x0A ∷ input)) go ≡ bad
  pairs-other [] zero h e input go = absurd (e refl)
  pairs-other [] (suc n) h e input go = refl
  pairs-other (x ∷ xs) zero h e input go = if-ne (hex_digit (x / 16)) 0x0A _ _ (not_end _ (spelled x h.0).high)
  pairs-other (x ∷ xs) (suc n) h e input go =
      pair-taken x h.0 (joined hex_pair xs ++ (0x0A ∷ input)) (λ y input. read_pairs bad n input (λ ys rest. go (y ∷ ys) rest))
      ∙ pairs-other xs n h.1 (λ q. e (ap suc q)) input (λ ys rest. go (x ∷ ys) rest)

  -- the line
  behind-name : (xs input : List ℕ) (n : ℕ) (go : List ℕ → List ℕ → A) → read_points bad n (points_text xs ++ input) go ≡ read_pairs bad n (joined hex_pair xs ++ (0x0A ∷ input)) go
  behind-name xs input n go = ap (λ (l : List ℕ). read_pairs bad n l go) (append_assoc (joined hex_pair xs) (0x0A ∷ []) input)

  pub line_taken : (xs : List ℕ) (n : ℕ) → Bytes xs → length xs ≡ n → (input : List ℕ) (go : List ℕ → List ℕ → A)
      → read_points bad n (points_text xs ++ input) go ≡ go xs input
  line_taken xs n h e input go = behind-name xs input n go ∙ ap (λ (n : ℕ). read_pairs bad n (joined hex_pair xs ++ (0x0A ∷ input)) go) (sym e) ∙ pairs-taken xs h input go

  pub line_other : (xs : List ℕ) (n : ℕ) → Bytes xs → length xs ≢ n → (input : List ℕ) (go : List ℕ → List ℕ → A)
      → read_points bad n (points_text xs ++ input) go ≡ bad
  line_other xs n h e input go = behind-name xs input n go ∙ pairs-other xs n h e input go
