-- Twelve words and the record that they tell; points in the last four of them.
-- Assumes nothing.
use Prim.Native.Nat.{ℕ, ◌≤◌, ◌<◌}
use mathlib.Core.Path.{◌≡◌, refl, sym, ap, ap₂, ◌∙◌}
use mathlib.Core.Bool.{Bool, true, false}
use mathlib.Core.List.{List, [], ◌∷◌, ◌++◌, append-nil}
use native.Mathlib.Omega.{arith}
use mir.Val.{bool_byte}
use lib.Dec.{eqb}
use lib.ListN.{length, get_or, set, take, drop, length-append, drop_of_length-le}
use lib.Seq.{sets-eq, drop-cons, take_all, drop_at, length-take-le}
use Rattle.lists.specs.Tests.{pick}
use Rattle.lists.specs.Lists.{tabulate, joined, piece}
use Rattle.row_sums.specs.declared.Row.{Row}
use Rattle.row_sums.specs.Steps.{row_bytes}
use Rattle.store_spec.specs.Record.{Record}
use Rattle.record_words.specs.Words.{bits, from_bits, bytes, from_bytes, record_from, words_of}
use Rattle.record_words.proofs.Points.{word_back}

-- the first eight words, each in its place
pub all_set : (ws : List ℕ) (a b c d e f g h : ℕ) → 8 ≤ length ws
    → set (set (set (set (set (set (set (set ws 0 a) 1 b) 2 c) 3 d) 4 e) 5 f) 6 g) 7 h ≡ a ∷ b ∷ c ∷ d ∷ e ∷ f ∷ g ∷ h ∷ drop 8 ws
all_set ws a b c d e f g h l = sets-eq (a ∷ b ∷ c ∷ d ∷ e ∷ f ∷ g ∷ h ∷ []) ws 0 l

-- ---- points

-- the last four words
four-words : (ws : List ℕ) → length ws ≡ 12 → drop 8 ws ≡ get_or ws 8 0 ∷ get_or ws 9 0 ∷ get_or ws 10 0 ∷ get_or ws 11 0 ∷ []
four-words ws e =
    drop-cons ws 8 0 (omega arith)
    ∙ ap (λ (l : List ℕ). get_or ws 8 0 ∷ l) (drop-cons ws 9 0 (omega arith)
    ∙ ap (λ (l : List ℕ). get_or ws 9 0 ∷ l) (drop-cons ws 10 0 (omega arith)
    ∙ ap (λ (l : List ℕ). get_or ws 10 0 ∷ l) (drop-cons ws 11 0 (omega arith)
    ∙ ap (λ (l : List ℕ). get_or ws 11 0 ∷ l) (drop_of_length-le ws {i = 12} (omega arith)))))

-- as a row
pub row-points : (ws : List ℕ) → length ws ≡ 12
    → row_bytes (record { a = get_or ws 8 0; b = get_or ws 9 0; c = get_or ws 10 0; d = get_or ws 11 0 }) ≡ joined (bytes 8) (drop 8 ws)
unfolding row_bytes
row-points ws e = sym (ap (joined (bytes 8)) (four-words ws e))

-- four words put behind the first eight
pub four-set : (ws : List ℕ) (a b c d : ℕ) → length ws ≡ 12 → set (set (set (set ws 8 a) 9 b) 10 c) 11 d ≡ take 8 ws ++ (a ∷ b ∷ c ∷ d ∷ [])
four-set ws a b c d e =
    sets-eq (a ∷ b ∷ c ∷ d ∷ []) ws 8 (omega arith)
    ∙ ap (λ (l : List ℕ). take 8 ws ++ (a ∷ b ∷ c ∷ d ∷ []) ++ l) (drop_of_length-le ws {i = 12} (omega arith))
    ∙ append-nil (take 8 ws ++ (a ∷ b ∷ c ∷ d ∷ []))

-- then eight words stand before them, and they behind
front : (ws vs ps : List ℕ) → length ws ≡ 12 → vs ≡ take 8 ws ++ ps → 8 ≤ length vs
front ws vs ps l e = omega (arith, ap {B = ℕ} length e, length-append (take 8 ws) ps, length-take-le 8 ws (omega arith))

behind : (ws vs ps : List ℕ) → length ws ≡ 12 → vs ≡ take 8 ws ++ ps → drop 8 vs ≡ ps
behind ws vs ps l e = ap (drop 8) e ∙ drop_at (take 8 ws) ps 8 (length-take-le 8 ws (omega arith))

abbrev Word : ℕ → Type 0
Word w = w < 18446744073709551616

-- the words of points that are a row's
pub row_words : (xs : List ℕ) (x : Row) → length xs ≡ 32 → row_bytes x ≡ take 32 (drop 0 xs) → Word x.a → Word x.b → Word x.c → Word x.d
    → x.a ∷ x.b ∷ x.c ∷ x.d ∷ [] ≡ tabulate 4 (λ q. from_bytes (piece 8 q xs))
unfolding row_bytes piece
row_words xs x l e ha hb hc hd =
    sym (ap (λ (m : List ℕ). tabulate 4 (λ q. from_bytes (piece 8 q m))) (sym (take_all 32 xs (omega arith)) ∙ sym e)
    ∙ ap₂ {C = List ℕ} (λ w r. w ∷ r) (word_back x.a ha)
    (ap₂ {C = List ℕ} (λ w r. w ∷ r) (word_back x.b hb)
    (ap₂ {C = List ℕ} (λ w r. w ∷ r) (word_back x.c hc) (ap {B = List ℕ} (λ w. w ∷ []) (word_back x.d hd)))))

-- ---- the record

pub flag_word : (b : Bool) → bool_byte b ≡ pick b 1 0
flag_word true = refl
flag_word false = refl

-- the words as they are put over the points'
pub words-put : (s : Record) (ws vs : List ℕ) (w m : ℕ) → length ws ≡ 12 → vs ≡ take 8 ws ++ tabulate 4 (λ q. from_bytes (piece 8 q s.points))
    → w ≡ pick s.written 1 0 → m ≡ from_bits s.marks
    → set (set (set (set (set (set (set (set vs 0 s.sizes.n) 1 s.sizes.k) 2 s.sizes.d) 3 s.sizes.r) 4 s.capacity) 5 w) 6 s.length) 7 m ≡ words_of s
words-put s ws vs w m l e ew em =
    all_set vs s.sizes.n s.sizes.k s.sizes.d s.sizes.r s.capacity w s.length m (front ws vs _ l e)
    ∙ ap₂ {C = List ℕ} (λ (x y : ℕ). s.sizes.n ∷ s.sizes.k ∷ s.sizes.d ∷ s.sizes.r ∷ s.capacity ∷ x ∷ s.length ∷ y ∷ drop 8 vs) ew em
    ∙ ap (λ (r : List ℕ). s.sizes.n ∷ s.sizes.k ∷ s.sizes.d ∷ s.sizes.r ∷ s.capacity ∷ pick s.written 1 0 ∷ s.length ∷ from_bits s.marks ∷ r)
    (behind ws vs _ l e)

-- the record as it is taken from them, but for marks and points
abbrev from-words : List ℕ → List Bool → List ℕ → Record
from-words ws marks points =
    record {
      sizes = record { n = get_or ws 0 0; k = get_or ws 1 0; d = get_or ws 2 0; r = get_or ws 3 0 };
      points = points;
      capacity = get_or ws 4 0;
      written = eqb (get_or ws 5 0) 1;
      length = get_or ws 6 0;
      marks = marks;
    }

pub told : (ws : List ℕ) (marks : List Bool) (points : List ℕ) → marks ≡ bits 32 (get_or ws 7 0) → points ≡ joined (bytes 8) (drop 8 ws)
    → from-words ws marks points ≡ record_from ws
told ws marks points e f = ap₂ (from-words ws) e f
