-- Turns of the loops over bytes and words, and what makes 71 words a repair's record.
-- Assumes nothing.
use Prim.Native.Nat.{ℕ, zero, suc, ◌+◌, ◌*◌, ◌-◌, ◌/◌, ◌%◌, ◌≤◌, ◌<◌}
use mathlib.Core.Path.{◌≡◌, refl, sym, ap, ap₂, subst, ◌∙◌}
use mathlib.Core.Bool.{Bool, true, false}
use mathlib.Core.List.{List, [], ◌∷◌, ◌++◌, append-nil}
use native.Mathlib.Numerals.{add-one}
use native.Mathlib.Omega.{arith}
use lib.Dec.{ltb}
use lib.ListN.{length, get_or, drop, set, drop_of_length-le}
use lib.Seq.{drop-cons, get_or-drop}
use borrow.Author.Tests.{eq-eqb, ne_eqb}
use Rattle.lists.specs.Tests.{pick, every}
use Rattle.lists.specs.Lists.{join, joined}
use Rattle.lists.proofs.Alls.{all_of}
use Rattle.lists.proofs.Pieces.{join-joined}
use Rattle.record_words.specs.Words.{bytes, from_bytes, word}
use Rattle.record_words.proofs.Bits.{all_words}
use Rattle.repair_words.specs.RepairWords.{is_repair}

-- ---- what makes 71 words a repair's record

pub not-71 : (ps : List ℕ) → (length ps ≡ 71 → ⊥) → false ≡ is_repair ps
unfolding is_repair
not-71 ps h = rw (ne_eqb (length ps) 71 h) refl

last-words : (ps : List ℕ) → ((i : ℕ) → get_or ps i 0 < 18446744073709551616) → every word (drop 3 ps) ≡ true
last-words ps h =
    all_words (drop 3 ps) (all_of (λ w. w < 18446744073709551616) 0 (drop 3 ps) (λ i k. subst (λ (w : ℕ). w < 18446744073709551616) (sym (get_or-drop 3 ps i 0)) (h (3 + i))))

pub by_flag : (ps : List ℕ) → length ps ≡ 71 → ((i : ℕ) → get_or ps i 0 < 18446744073709551616) → ltb (get_or ps 0 0) 2 ≡ is_repair ps
unfolding is_repair
by_flag ps e h = rw (eq-eqb (length ps) 71 e, last-words ps h) (last-test (ltb (get_or ps 0 0) 2))
  where
    last-test : (b : Bool) → b ≡ pick b true false
    last-test true = refl
    last-test false = refl

-- ---- bytes of a word

-- what is left of a number after i bytes
abbrev pub rest : ℕ → ℕ → ℕ
rest zero w = w
rest (suc i) w = rest i (w / 256)

rest-next : (i w : ℕ) → rest i w / 256 ≡ rest (suc i) w
rest-next zero w = refl
rest-next (suc i) w = rest-next i (w / 256)

set_next : (i w : ℕ) (l : List ℕ) → i < length l → set (bytes i w ++ drop i l) i (rest i w % 256) ≡ bytes (suc i) w ++ drop (suc i) l
set_next zero w [] h = absurd (omega arith)
set_next zero w (x ∷ l) h = refl
set_next (suc i) w [] h = absurd (omega arith)
set_next (suc i) w (x ∷ l) h = ap (λ (r : List ℕ). w % 256 ∷ r) (set_next i (w / 256) l (omega arith))

pub fill-next : (i w : ℕ) (l₀ l : List ℕ) (r : ℕ) → i < length l₀ → r ≡ rest i w → l ≡ bytes i w ++ drop i l₀
    → set l i (r % 256) ≡ bytes (i + 1) w ++ drop (i + 1) l₀
fill-next i w l₀ l r h er el =
    ap₂ {C = List ℕ} (λ (x : List ℕ) (b : ℕ). set x i (b % 256)) el er ∙ set_next i w l₀ h ∙ ap (λ (m : ℕ). bytes m w ++ drop m l₀) (sym (add-one i))

pub part-next : (i w r : ℕ) → r ≡ rest i w → r / 256 ≡ rest (i + 1) w
part-next i w r e = ap (λ (m : ℕ). m / 256) e ∙ rest-next i w ∙ ap (λ (m : ℕ). rest m w) (sym (add-one i))

pub fill_done : (i w : ℕ) (l₀ l : List ℕ) → i ≡ 8 → length l₀ ≡ 8 → l ≡ bytes i w ++ drop i l₀ → l ≡ bytes 8 w
fill_done i w l₀ l e h el =
    el ∙ ap (λ (m : ℕ). bytes m w ++ drop m l₀) e ∙ ap (λ (r : List ℕ). bytes 8 w ++ r) (drop_of_length-le l₀ {i = 8} (omega (arith, h))) ∙ append-nil (bytes 8 w)

-- ---- the word of bytes

abbrev pub power : ℕ → ℕ
power zero = 1
power (suc m) = 256 * power m

more : (m n : ℕ) → m ≤ n → power m ≤ power n
more zero zero h = omega arith
more zero (suc n) h = omega (arith, more zero n (omega arith))
more (suc m) zero h = absurd (omega arith)
more (suc m) (suc n) h = omega (arith, more m n (omega arith))

-- of 8 − i bytes, where i is not 0, a byte more makes a word
pub few : (i w : ℕ) → 0 < i → w < power (8 - i) → w < 72057594037927936
few i w h k = omega (arith, k, more (8 - i) 7 (omega (arith, h)))

pub few-next : (i w b : ℕ) → 0 < i → i ≤ 8 → w < power (8 - i) → b < 256 → w * 256 + b < power (8 - (i - 1))
few-next i w b h k f g =
    let e : 8 - (i - 1) ≡ suc (8 - i) = omega (arith, h, k) in
    let n : w * 256 + b < 256 * power (8 - i) = omega (arith, f, g) in
    subst (λ (m : ℕ). w * 256 + b < power m) (sym e) n

-- a turn: the next byte below
pub number-next : (l : List ℕ) (i w b : ℕ) → 0 < i → i ≤ length l → b ≡ get_or l (i - 1) 0 → w ≡ from_bytes (drop i l) → w * 256 + b ≡ from_bytes (drop (i - 1) l)
number-next l i w b h k q e =
    let p : suc (i - 1) ≡ i = omega (arith, h) in
    let n : from_bytes (drop (i - 1) l) ≡ get_or l (i - 1) 0 + 256 * from_bytes (drop i l) =
    ap from_bytes (drop-cons l (i - 1) 0 (omega (arith, h, k))) ∙ ap (λ (m : ℕ). get_or l (i - 1) 0 + 256 * from_bytes (drop m l)) p in
    omega (arith, n, e, q)

-- ---- bytes of words

pub words-done : (ws out₀ out : List ℕ) (q : ℕ) → q ≡ length ws → length out₀ ≡ length ws * 8
    → out ≡ join q (λ t. bytes 8 (get_or ws t 0)) ++ drop (q * 8) out₀ → out ≡ joined (bytes 8) ws
words-done ws out₀ out q e l h =
    h ∙ ap (λ (m : ℕ). join m (λ t. bytes 8 (get_or ws t 0)) ++ drop (m * 8) out₀) e
    ∙ ap (λ (r : List ℕ). join (length ws) (λ t. bytes 8 (get_or ws t 0)) ++ r) (drop_of_length-le out₀ {i = length ws * 8} (omega (arith, l)))
    ∙ append-nil (join (length ws) (λ t. bytes 8 (get_or ws t 0))) ∙ join-joined (bytes 8) ws
