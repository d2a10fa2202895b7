-- The line of points byte by byte, from each place in it: the name, the pairs that are left, the end.
-- Assumes nothing.
use mathlib.Core.Path.{◌≡◌, refl, sym, ap, ap₂, fun_ext, ◌∙◌}
use mathlib.Core.Bool.{Bool, true, false}
use mathlib.Core.List.{List, [], ◌∷◌, ◌++◌, append-nil, append_assoc}
use Prim.Native.Nat.{ℕ, zero, suc, ◌+◌, ◌*◌, ◌%◌, ◌≤◌, ◌<◌}
use native.Mathlib.Nat.{mod-eq_of_lt}
use native.Mathlib.Numerals.{add-one}
use native.Mathlib.Omega.{arith}
use lib.Dec.{ltb, eqb}
use lib.ListN.{length, get_or, drop, set, length-append}
use lib.Seq.{drop-cons}
use borrow.Author.Tests.{ltb-true, ltb-false}
use Rattle.lists.specs.Tests.{pick}
use Rattle.lists.specs.Lists.{fit}
use Rattle.number_lines.proofs.Picks.{if-eq, if-ne, if-lt, if-le}
use Rattle.point_lines.specs.declared.PointReader.{PointReader}
use Rattle.point_lines.specs.Lines.{hexadecimal, digit_value, read_digit, read_name, read_pairs, read_points}
use Rattle.point_lines.specs.Steps.{points_name, turned, begun, paired, fed_name, fed_high, fed_low, fed, reads}
use Rattle.point_lines.proofs.Digits.{digit_low}

-- ---- the reader after a byte, by its part

module _ (n : ℕ) (r : PointReader) (b : ℕ) where
  pub fed-low : r.part ≡ 1 → fed n r b ≡ fed_low r b
  unfolding fed
  fed-low e = if-eq r.part 1 _ _ e

  pub fed-name : r.part ≡ 0 → r.at < 7 → fed n r b ≡ fed_name points_name r b
  unfolding fed
  fed-name e h = if-ne r.part 1 _ _ (λ q. omega arith) ∙ if-eq r.part 0 _ _ e ∙ if-lt r.at 7 _ _ h

  pub fed-high : r.part ≡ 0 → 7 ≤ r.at → fed n r b ≡ fed_high n r b
  unfolding fed
  fed-high e h = if-ne r.part 1 _ _ (λ q. omega arith) ∙ if-eq r.part 0 _ _ e ∙ if-le r.at 7 _ _ h

  pub fed-else : (r.part ≡ 1 → ⊥) → (r.part ≡ 0 → ⊥) → fed n r b ≡ r
  unfolding fed
  fed-else e h = if-ne r.part 1 _ _ e ∙ if-ne r.part 0 _ _ h

-- a byte that goes to the end of the line's place fills it
pub fill : (m : ℕ) (done : List ℕ) (x : ℕ) → length done < m → set (fit m done) (length done) x ≡ fit m (done ++ (x ∷ []))
fill zero done x h = absurd (omega arith)
fill (suc m) [] x h = refl
fill (suc m) (y ∷ done) x h = ap {B = List ℕ} (λ l. y ∷ l) (fill m done x (omega arith))

pick_same : {A : Type 0} (t : Bool) (x : A) → pick t x x ≡ x
pick_same true x = refl
pick_same false x = refl

module _ {A : Type 0} (bad : A) (n : ℕ) (go : List ℕ → List ℕ → A) where
  abbrev from : PointReader → List ℕ → A
  from r input = reads bad n r input go

  -- what follows a byte
  abbrev after : PointReader → List ℕ → A
  after r input = pick (eqb r.part 2) (go r.points input) (from r input)

  -- a line that is malformed stays so
  malformed : (r : PointReader) → r.part ≡ 3 → (input : List ℕ) → from r input ≡ bad
  malformed r e [] = refl
  malformed r e (b ∷ input) =
      ap (λ (q : PointReader). after q input) (fed-else n r b (λ q. omega arith) (λ q. omega arith))
      ∙ if-ne r.part 2 _ _ (λ q. omega arith) ∙ malformed r e input

  after-malformed : (r : PointReader) → r.part ≡ 3 → (input : List ℕ) → after r input ≡ bad
  after-malformed r e input = if-ne r.part 2 _ _ (λ q. omega arith) ∙ malformed r e input

  after_on : (r : PointReader) → (r.part ≡ 2 → ⊥) → (input : List ℕ) → after r input ≡ from r input
  after_on r e input = if-ne r.part 2 _ _ e

  -- by a test of the byte
  after-pick : (t : Bool) (q r : PointReader) (input : List ℕ) → after (pick t q r) input ≡ pick t (after q input) (after r input)
  after-pick true q r input = refl
  after-pick false q r input = refl

  -- a test that else is malformed
  tested : (t : Bool) (q r : PointReader) (input : List ℕ) (x : A) → r.part ≡ 3 → (t ≡ true → after q input ≡ x) → after (pick t q r) input ≡ pick t x bad
  tested true q r input x e h = h refl
  tested false q r input x e h = after-malformed r e input

  -- before a pair or the end, with these points read
  abbrev waiting : List ℕ → ℕ → PointReader
  waiting done high = record { part = 0; at = 7; pairs = length done; high = high; points = fit 32 done }

  -- the points read, and those that the rest of the line gives
  abbrev behind : List ℕ → List ℕ → List ℕ → A
  behind done xs rest = go (fit 32 (done ++ xs)) rest

  -- a pair is read
  pair_read : (done : List ℕ) (high low before : ℕ) → length done < 32 → high < 16
      → paired (begun (waiting done before) high) low ≡ waiting (done ++ ((16 * high + low) ∷ [])) high
  pair_read done high low before h k =
      let v : high % 16 * 16 + low ≡ 16 * high + low = omega (arith, mod-eq_of_lt {n = high} {m = 16} k) in
      let c : length done + 1 ≡ length (done ++ ((16 * high + low) ∷ [])) = sym (length-append done ((16 * high + low) ∷ [])) in
      ap₂ {C = PointReader} (λ x l. record { part = 0; at = 7; pairs = x; high = high; points = l }) c
      (ap (set (fit 32 done) (length done)) v ∙ fill 32 done (16 * high + low) h)

  behind-pair : (done : List ℕ) (x m : ℕ) (input : List ℕ) → read_pairs bad m input (behind (done ++ (x ∷ []))) ≡ read_pairs bad m input (λ xs rest. behind done (x ∷ xs) rest)
  behind-pair done x m input =
      ap (read_pairs bad m input) (fun_ext (λ xs. fun_ext (λ rest. ap (λ (l : List ℕ). go (fit 32 l) rest) (append_assoc done (x ∷ []) xs))))

  pairs-read : (m : ℕ) (done : List ℕ) (before : ℕ) → length done + m ≡ n → n ≤ 32
      → (input : List ℕ) → from (waiting done before) input ≡ read_pairs bad m input (behind done)
  pairs-read zero done before e few [] = refl
  pairs-read zero done before e few (b ∷ input) =
      let r = waiting done before in
      ap (λ (q : PointReader). after q input) (fed-high n r b refl (omega arith) ∙ if-eq (length done) n _ _ (omega arith))
      ∙ tested (eqb b 0x0A) (turned r 2) (turned r 3) input _ refl (λ q. ap (λ (l : List ℕ). go (fit 32 l) input) (sym (append-nil done)))
  pairs-read (suc m) done before e few [] = refl
  pairs-read (suc m) done before e few (a ∷ input) =
      ap (λ (q : PointReader). after q input) (fed-high n r a refl (omega arith) ∙ if-ne (length done) n _ _ (λ q. omega arith))
      ∙ tested (hexadecimal a) (begun r (digit_value a)) (turned r 3) input _ refl (λ q. second (digit_low a q) input (λ x rest. pairs-read m (done ++ (x ∷ [])) high (more x) few rest))
    where
      r : PointReader
      r = waiting done before

      high : ℕ
      high = digit_value a

      more : (x : ℕ) → length (done ++ (x ∷ [])) + m ≡ n
      more x = omega (arith, length-append done (x ∷ []))

      second : high < 16 → (input : List ℕ) → ((x : ℕ) (rest : List ℕ) → from (waiting (done ++ (x ∷ [])) high) rest ≡ read_pairs bad m rest (behind (done ++ (x ∷ []))))
          → from (begun r high) input ≡ read_digit bad input (λ low input. read_pairs bad m input (λ xs rest. behind done ((16 * high + low) ∷ xs) rest))
      second k [] ih = refl
      second k (b ∷ input) ih =
          let few-yet : length done < 32 = omega arith in
          let low = digit_value b in
          ap (λ (q : PointReader). after q input) (fed-low n (begun r high) b refl ∙ if-lt (length done) 32 _ _ few-yet)
          ∙ tested (hexadecimal b) (paired (begun r high) low) (turned (begun r high) 3) input _ refl (λ q.
          ap (λ (q : PointReader). from q input) (pair_read done high low before few-yet k) ∙ ih (16 * high + low) input ∙ behind-pair done (16 * high + low) m input)

  -- in the name
  abbrev naming : ℕ → PointReader
  naming i = record { part = 0; at = i; pairs = 0; high = 0; points = fit 32 [] }

  name-none : (name : List ℕ) → read_name bad name [] (from (naming 7)) ≡ bad
  name-none [] = refl
  name-none (c ∷ name) = refl

  name-read : (input : List ℕ) (i : ℕ) → i ≤ 7 → from (naming i) input ≡ read_name bad (drop i points_name) input (from (naming 7))
  name-read [] i h = sym (name-none (drop i points_name))
  name-read (b ∷ input) i h = go_on (ltb i 7) refl (name-read input (i + 1))
    where
      go_on : (t : Bool) → ltb i 7 ≡ t → (i + 1 ≤ 7 → from (naming (i + 1)) input ≡ read_name bad (drop (i + 1) points_name) input (from (naming 7)))
          → from (naming i) (b ∷ input) ≡ read_name bad (drop i points_name) (b ∷ input) (from (naming 7))
      go_on true e ih =
          let l = ltb-true i 7 e in
          ap (λ (q : PointReader). after q input) (fed-name n (naming i) b refl l)
          ∙ tested (eqb b (get_or points_name i 0)) (naming (i + 1)) (turned (naming i) 3) input _ refl (λ q. ih (omega arith))
          ∙ ap (λ (m : ℕ). read_name bad (get_or points_name i 0 ∷ drop m points_name) (b ∷ input) (from (naming 7))) (add-one i)
          ∙ ap (λ (l : List ℕ). read_name bad l (b ∷ input) (from (naming 7))) (sym (drop-cons points_name i 0 l))
      go_on false e ih =
          let l : i ≡ 7 = omega (arith, ltb-false i 7 e) in
          ap (λ (m : ℕ). from (naming m) (b ∷ input)) l ∙ ap (λ (m : ℕ). read_name bad (drop m points_name) (b ∷ input) (from (naming 7))) (sym l)

  pub line_read : n ≤ 32 → (input : List ℕ) → from (naming 0) input ≡ read_points bad n input (λ xs rest. go (fit 32 xs) rest)
  line_read few input =
      name-read input 0 (omega arith) ∙ ap (read_name bad points_name input) (fun_ext (λ rest. pairs-read n [] 0 (omega arith) few rest))

  -- ---- where whatever follows is malformed

  module _ (none : (xs rest : List ℕ) → go xs rest ≡ bad) where
    pub reads_none : (input : List ℕ) (r : PointReader) → from r input ≡ bad
    reads_none [] r = refl
    reads_none (b ∷ input) r =
        ap₂ {C = A} (λ x y. pick (eqb (fed n r b).part 2) x y) (none _ input) (reads_none input (fed n r b)) ∙ pick_same (eqb (fed n r b).part 2) bad

module _ {A : Type 0} (bad : A) where
  name-bad : (name input : List ℕ) (go : List ℕ → A) → ((rest : List ℕ) → go rest ≡ bad) → read_name bad name input go ≡ bad
  name-bad [] input go h = h input
  name-bad (c ∷ name) [] go h = refl
  name-bad (c ∷ name) (b ∷ input) go h = ap (λ (x : A). pick (eqb b c) x bad) (name-bad name input go h) ∙ pick_same (eqb b c) bad

  digit-bad : (input : List ℕ) (go : ℕ → List ℕ → A) → ((v : ℕ) (rest : List ℕ) → go v rest ≡ bad) → read_digit bad input go ≡ bad
  digit-bad [] go h = refl
  digit-bad (b ∷ input) go h = ap (λ (x : A). pick (hexadecimal b) x bad) (h (digit_value b) input) ∙ pick_same (hexadecimal b) bad

  pairs-bad : (n : ℕ) (input : List ℕ) (go : List ℕ → List ℕ → A) → ((xs rest : List ℕ) → go xs rest ≡ bad) → read_pairs bad n input go ≡ bad
  pairs-bad zero input go h = name-bad (0x0A ∷ []) input (go []) (h [])
  pairs-bad (suc n) input go h =
      digit-bad input _ (λ high input. digit-bad input _ (λ low input. pairs-bad n input (λ xs rest. go ((16 * high + low) ∷ xs) rest) (λ xs rest. h _ rest)))

  pub line-bad : (n : ℕ) (input : List ℕ) (go : List ℕ → List ℕ → A) → ((xs rest : List ℕ) → go xs rest ≡ bad) → read_points bad n input go ≡ bad
  line-bad n input go h = name-bad points_name input _ (λ input. pairs-bad n input go h)
