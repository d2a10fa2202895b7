-- The laws of share text: a decimal has the digits of its number, two bytes have different hexadecimal pairs, and the line of points is there just
-- where some board has another point than its number.
-- Assumes nothing.
use mathlib.Core.Path.{◌≡◌, refl, sym, ap, ◌∙◌}
use mathlib.Core.Bool.{Bool, true, false}
use mathlib.Core.Logic.{◌≢◌, ◌⊎◌, inl, inr}
use mathlib.Core.List.{List, [], ◌∷◌, ◌++◌, append_assoc, append-nil}
use Prim.Native.Nat.{ℕ, zero, suc, ◌+◌, ◌*◌, ◌-◌, ◌/◌, ◌%◌, ◌≤◌, ◌<◌}
use native.Mathlib.Nat.{div-add-mod', mod-lt}
use native.Mathlib.Omega.{arith}
use lib.Dec.{ltb}
use lib.ListN.{length, get_or, take}
use lib.Seq.{length-take-le, get_or-take, ext_get_or}
use borrow.Author.Tests.{ltb-true, ltb-false, lt-ltb, le-ltb}
use Rattle.lists.specs.Tests.{pick, same}
use Rattle.lists.specs.Lists.{All, concat, tabulate, joined}
use Rattle.lists.proofs.Alls.{append-all}
use Rattle.lists.proofs.Pieces.{length-tabulate, tabulate-at}
use Rattle.lists.proofs.Tests.{same-eq, same_refl, is_false}
use Rattle.sizes.specs.declared.Sizes.{Sizes}
use Rattle.sizes.specs.Sizing.{legal}
use Rattle.sizes.proofs.Legal.{legal-facts}
use Rattle.mbcr.specs.Share.{point, standard}
use Rattle.mbcr.proofs.Points.{standard-point}
use Rattle.board_spec.specs.Demand1.{value, TextLaws, hex_value}
use Rattle.board_spec.specs.Text.{digits, decimal, hex_digit, hex_pair, text_line, points_line, share_text}

-- ---- decimals

abbrev Digit : ℕ → Type 0
Digit c = (0x30 ≤ c) × (c ≤ 0x39)

-- what holds of the digits of x
record Written (x : ℕ) (l : List ℕ) : Type 0 where
  whole : value l 0 ≡ x
  each : All Digit l
  leads : 1 ≤ x → 0x31 ≤ get_or l 0 0

value-append : (l : List ℕ) (c v : ℕ) → value (l ++ (c ∷ [])) v ≡ 10 * value l v + (c - 0x30)
value-append [] c v = refl
value-append (x ∷ l) c v = value-append l c (10 * v + (x - 0x30))

-- the first of the left list is the first of both
leads-append : (l m : List ℕ) → 0x31 ≤ get_or l 0 0 → 0x31 ≤ get_or (l ++ m) 0 0
leads-append [] m h = absurd (omega arith)
leads-append (x ∷ l) m h = h

one-digit : (x : ℕ) → x < 10 → Written x ((0x30 + x) ∷ [])
one-digit x h = record { whole = omega arith; each = ((omega arith, omega arith), tt); leads = λ p. omega arith }

last-digit : (x : ℕ) (l : List ℕ) → 10 ≤ x → Written (x / 10) l → Written x (l ++ ((0x30 + x % 10) ∷ []))
last-digit x l h w =
    let e = div-add-mod' x 10 in
    let b : x % 10 < 10 = mod-lt x (omega arith) in
    record {
      whole = omega (arith, value-append l (0x30 + x % 10) 0, w.whole);
      each = append-all Digit l _ w.each ((omega arith, omega arith), tt);
      leads = λ p. leads-append l _ (w.leads (omega arith));
    }

written : (m x : ℕ) → x ≤ m → Written x (digits m x)
written zero x h = one-digit x (omega arith)
written (suc m) x h = go (ltb x 10) refl (written m (x / 10))
  where
    go : (t : Bool) → ltb x 10 ≡ t → (x / 10 ≤ m → Written (x / 10) (digits m (x / 10))) → Written x (digits (suc m) x)
    go true e ih = rw (e, digits) (one-digit x (ltb-true x 10 e))
    go false e ih =
        let k = ltb-false x 10 e in
        rw (e, digits) (last-digit x (digits m (x / 10)) k (ih (omega (arith, div-add-mod' x 10))))

decimal-written : (x : ℕ) → Written x (decimal x)
unfolding decimal
decimal-written x = written x x (omega arith)

-- ---- hexadecimal pairs

abbrev HexDigit : ℕ → Type 0
HexDigit c = ((0x30 ≤ c) × (c ≤ 0x39)) ⊎ ((0x61 ≤ c) × (c ≤ 0x66))

hex-digit : (v : ℕ) → v < 16 → HexDigit (hex_digit v)
hex-digit v h = go (ltb v 10) refl
  where
    go : (t : Bool) → ltb v 10 ≡ t → HexDigit (hex_digit v)
    go true e = let k = ltb-true v 10 e in inl (rw e (omega arith), rw e (omega arith))
    go false e = let k = ltb-false v 10 e in inr (rw e (omega arith), rw e (omega arith))

hex-back : (v : ℕ) → hex_value (hex_digit v) ≡ v
hex-back v = go (ltb v 10) refl
  where
    go : (t : Bool) → ltb v 10 ≡ t → hex_value (hex_digit v) ≡ v
    go true e = let k = ltb-true v 10 e in rw (e, lt-ltb (0x30 + v) 0x3A (omega arith)) (omega arith)
    go false e = let k = ltb-false v 10 e in rw (e, le-ltb (0x57 + v) 0x3A (omega arith)) (omega arith)

decimal-none : decimal 0 ≡ 0x30 ∷ []
unfolding decimal
decimal-none = refl

-- ---- the line of points

abbrev numbers : ℕ → List ℕ
numbers n = tabulate n (λ i. i)

module _ (z : Sizes) (xs : List ℕ) where
  open z use {n}

  pub points-unsaid : n ≤ length xs → ((i : ℕ) → i < n → point xs i ≡ i) → points_line z xs ≡ []
  unfolding points_line
  points-unsaid h e =
      let taken : length (take n xs) ≡ n = length-take-le n xs h in
      let all : take n xs ≡ numbers n =
      ext_get_or 0 (take n xs) (numbers n) (taken ∙ sym (length-tabulate n (λ i. i)))
      (λ i l. let k : i < n = omega arith in get_or-take n xs i 0 k ∙ e i k ∙ sym (tabulate-at n (λ i. i) 0 i k)) in
      let t : same (take n xs) (numbers n) ≡ true = rw all (same_refl (numbers n)) in
      rw t refl

  pub points-said : (i : ℕ) → i < n → point xs i ≢ i
      → points_line z xs ≡ text_line (0x70 ∷ 0x6F ∷ 0x69 ∷ 0x6E ∷ 0x74 ∷ 0x73 ∷ []) (joined hex_pair (take n xs))
  unfolding points_line
  points-said i h e =
      let t : same (take n xs) (numbers n) ≡ false =
      is_false (same (take n xs) (numbers n)) (λ q. e
      (sym (get_or-take n xs i 0 h) ∙ ap (λ (l : List ℕ). get_or l i 0) (same-eq (take n xs) (numbers n) q) ∙ tabulate-at n (λ i. i) 0 i h)) in
      rw t refl

pub standard-unsaid : (z : Sizes) → legal z ≡ true → points_line z (standard z) ≡ []
standard-unsaid z ok =
    let few = (legal-facts z ok).few in
    points-unsaid z (standard z) (omega (arith, length-tabulate 32 (λ i. pick (ltb i z.n) i 0))) (standard-point z few)

eight : (a b c d e f p q : List ℕ) → a ++ b ++ c ++ d ++ e ++ f ++ p ++ q ≡ concat (a ∷ b ∷ c ∷ d ∷ e ∷ f ∷ p ∷ q ∷ [])
eight a b c d e f p q = simp (append_assoc, append-nil)

text-is : (z : Sizes) (xs : List ℕ) (L node : ℕ) (share : List ℕ) → share_text z xs L node share ≡ concat
    (text_line (0x6E ∷ []) (decimal z.n) ∷ text_line (0x6B ∷ []) (decimal z.k) ∷ text_line (0x64 ∷ []) (decimal z.d) ∷ text_line (0x72 ∷ []) (decimal z.r)
    ∷ text_line (0x6E ∷ 0x6F ∷ 0x64 ∷ 0x65 ∷ []) (decimal node) ∷ text_line (0x6C ∷ 0x65 ∷ 0x6E ∷ 0x67 ∷ 0x74 ∷ 0x68 ∷ []) (decimal L)
    ∷ points_line z xs ∷ text_line (0x64 ∷ 0x61 ∷ 0x74 ∷ 0x61 ∷ []) (joined hex_pair share) ∷ [])
unfolding share_text
text-is z xs L node share =
    eight (text_line (0x6E ∷ []) (decimal z.n)) (text_line (0x6B ∷ []) (decimal z.k)) (text_line (0x64 ∷ []) (decimal z.d)) (text_line (0x72 ∷ []) (decimal z.r))
    (text_line (0x6E ∷ 0x6F ∷ 0x64 ∷ 0x65 ∷ []) (decimal node)) (text_line (0x6C ∷ 0x65 ∷ 0x6E ∷ 0x67 ∷ 0x74 ∷ 0x68 ∷ []) (decimal L))
    (points_line z xs) (text_line (0x64 ∷ 0x61 ∷ 0x74 ∷ 0x61 ∷ []) (joined hex_pair share))

pub text-laws : TextLaws
text-laws = record {
  line-is = λ name value. simp (append_assoc, append-nil);
  hex-length = λ b. refl;
  text-is = text-is;
  decimal-value = λ x. (decimal-written x).whole;
  decimal-digits = λ x. (decimal-written x).each;
  decimal-first = λ x. (decimal-written x).leads;
  hex-digits = λ b h. (
    hex-digit (b / 16) (omega (arith, div-add-mod' b 16)),
    (hex-digit (b % 16) (mod-lt b (omega arith)), tt),
  );
  decimal-zero = decimal-none;
  points-unsaid = points-unsaid;
  points-said = points-said;
  standard-unsaid = standard-unsaid;
  hex-value = λ b. omega (arith, hex-back (b / 16), hex-back (b % 16), div-add-mod' b 16);
}
