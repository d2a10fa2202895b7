-- Lists of points of which one is moved.
-- Assumes nothing.
use mathlib.Core.Path.{◌≡◌, refl, sym, ap, subst, ◌∙◌}
use mathlib.Core.Bool.{Bool, true, false}
use mathlib.Core.Logic.{◌≢◌}
use mathlib.Core.List.{List}
use Prim.Native.Nat.{ℕ, suc, ◌+◌, ◌≤◌, ◌<◌}
use native.Mathlib.Decide.{dec_lt}
use native.Mathlib.Omega.{arith}
use lib.Dec.{ltb}
use lib.ListN.{length, get_or, take, set, length-set}
use lib.Seq.{length-take-le, get_or-take, get_or-set_same, get_or-set_other, ext_get_or}
use borrow.Author.Tests.{lt-ltb, le-ltb}
use Rattle.lists.specs.Tests.{pick, among}
use Rattle.lists.proofs.Alls.{all_of, byte_at}
use Rattle.lists.proofs.Boards.{among-not, get_d-among}
use Rattle.lists.proofs.Pieces.{length-tabulate, tabulate-at, tabulate-ext}
use Rattle.lists.proofs.Tests.{true-false}
use Rattle.sizes.specs.declared.Sizes.{Sizes}
use Rattle.sizes.specs.Sizing.{legal, max_boards}
use Rattle.sizes.proofs.Legal.{legal-facts}
use Rattle.mbcr.specs.Share.{point, standard, pointed}
use Rattle.mbcr.specs.PointLaws.{first_series}
use Rattle.mbcr.specs.TurnLaws.{turned, TurnLaws}
use Rattle.mbcr.proofs.PointLaws.{Pointed, pointed-facts, facts-pointed}

pub dec_same : (i j : ℕ) → Dec (i ≡ j)
dec_same i j = go (dec_lt i j) (dec_lt j i)
  where
    go : Dec (i < j) → Dec (j < i) → Dec (i ≡ j)
    go (yes l) k = no (λ e. omega arith)
    go (no l) (yes k) = no (λ e. omega arith)
    go (no l) (no k) = yes (omega arith)

moved-point : (xs : List ℕ) (m x : ℕ) → m < length xs → point (set xs m x) m ≡ x
moved-point xs m x h = get_or-set_same xs m x 0 h

other-point : (xs : List ℕ) (m x i : ℕ) → i ≢ m → point (set xs m x) i ≡ point xs i
other-point xs m x i e = get_or-set_other xs m i x 0 e

-- ---- a new byte that no board has

module _ (z : Sizes) (xs : List ℕ) (m x : ℕ) (ok : legal z ≡ true) (p : pointed z xs ≡ true) (h : m < z.n) (b : x < 256) (free : among (take z.n xs) x ≡ false) where
  few : z.n ≤ 32
  few = (legal-facts z ok).few

  f : Pointed z xs
  f = pointed-facts z xs few p

  in_list : m < length xs
  in_list = omega (arith, few, f.long)

  -- no board has the byte
  unused : (i : ℕ) → i < z.n → point xs i ≢ x
  unused i l e =
      let t : length (take z.n xs) ≡ z.n = length-take-le z.n xs (omega (arith, few, f.long)) in
      true-false (subst (λ (y : ℕ). among (take z.n xs) y ≡ true) (get_or-take z.n xs i 0 l ∙ e) (get_d-among (take z.n xs) i (omega arith))) free

  byte : (i : ℕ) → Dec (i ≡ m) → point (set xs m x) i < 256
  byte i (yes e) = subst (λ (j : ℕ). point (set xs m x) j < 256) (sym e) (rw (moved-point xs m x in_list) b)
  byte i (no e) = rw (other-point xs m x i e) (byte_at xs f.bytes i)

  differ : (i j : ℕ) → i < j → j < z.n → Dec (i ≡ m) → Dec (j ≡ m) → point (set xs m x) j ≢ point (set xs m x) i
  differ i j l k (yes a) (yes c) q = omega arith
  differ i j l k (yes a) (no c) q =
      unused j k (sym (other-point xs m x j c) ∙ q ∙ ap (point (set xs m x)) a ∙ moved-point xs m x in_list)
  differ i j l k (no a) (yes c) q =
      unused i (omega arith) (sym (other-point xs m x i a) ∙ sym q ∙ ap (point (set xs m x)) c ∙ moved-point xs m x in_list)
  differ i j l k (no a) (no c) q = f.differ i j l k (sym (other-point xs m x j c) ∙ q ∙ other-point xs m x i a)

  moved-pointed : pointed z (set xs m x) ≡ true
  moved-pointed = facts-pointed z (set xs m x) few (record {
    long = length-set xs m x ∙ f.long;
    bytes = all_of (λ a. a < 256) 0 (set xs m x) (λ i l. byte i (dec_same i m));
    differ = λ i j l k. differ i j l k (dec_same i m) (dec_same j m);
    rest = λ i l. other-point xs m x i (λ e. omega (arith, h)) ∙ f.rest i l;
  })

-- ---- the turn

module _ (z : Sizes) where
  abbrev at : ℕ → ℕ → ℕ
  at m i = pick (ltb i z.n) (pick (ltb i m) i (i + 1)) 0

  turn-first : turned z 0 ≡ first_series z
  turn-first = tabulate-ext max_boards (at 0) (λ i. pick (ltb i z.n) (i + 1) 0) (λ i l. rw (le-ltb i 0 (omega arith)) refl)

  turn_last : turned z z.n ≡ standard z
  turn_last = tabulate-ext max_boards (at z.n) _ (λ i l. same (ltb i z.n) i)
    where
      same : (t : Bool) (i : ℕ) → pick t (pick t i (i + 1)) 0 ≡ pick t i 0
      same true i = refl
      same false i = refl

  module _ (i : ℕ) (ok : legal z ≡ true) (h : i < z.n) where
    in-32 : i < 32
    in-32 = omega (arith, (legal-facts z ok).few)

    long : (m : ℕ) → length (turned z m) ≡ 32
    long m = length-tabulate max_boards (at m)

    -- board j's point
    apart : (j : ℕ) → j < z.n → Dec (j < i) → at i j ≢ i
    apart j l (yes e) q = let p : at i j ≡ j = rw (lt-ltb j z.n l, lt-ltb j i e) refl in omega arith
    apart j l (no e) q = let p : at i j ≡ j + 1 = rw (lt-ltb j z.n l, le-ltb j i (omega arith)) refl in omega arith

    turn-free : among (take z.n (turned z i)) i ≡ false
    turn-free =
        let n32 : z.n ≤ 32 = (legal-facts z ok).few in
        let t : length (take z.n (turned z i)) ≡ z.n = length-take-le z.n (turned z i) (omega (arith, long i)) in
        among-not (take z.n (turned z i)) i
        (all_of (λ y. y ≢ i) 0 (take z.n (turned z i)) (λ j l q.
        apart j (omega arith) (dec_lt j i)
        (sym (tabulate-at max_boards (at i) 0 j (omega arith)) ∙ sym (get_or-take z.n (turned z i) j 0 (omega arith)) ∙ q)))

    one : (j : ℕ) → j < 32 → Dec (j ≡ i) → Dec (j < i) → get_or (set (turned z i) i i) j 0 ≡ at (suc i) j
    one j l (yes e) c =
        ap (λ (x : ℕ). get_or (set (turned z i) i i) x 0) e ∙ get_or-set_same (turned z i) i i 0 (omega (arith, long i, in-32))
        ∙ sym (ap (at (suc i)) e ∙ rw (lt-ltb i z.n h, lt-ltb i (suc i) (omega arith)) refl)
    one j l (no e) (yes c) =
        get_or-set_other (turned z i) i j i 0 e ∙ tabulate-at max_boards (at i) 0 j l
        ∙ ap (λ (t : Bool). pick (ltb j z.n) (pick t j (j + 1)) 0) (lt-ltb j i c ∙ sym (lt-ltb j (suc i) (omega arith)))
    one j l (no e) (no c) =
        get_or-set_other (turned z i) i j i 0 e ∙ tabulate-at max_boards (at i) 0 j l
        ∙ ap (λ (t : Bool). pick (ltb j z.n) (pick t j (j + 1)) 0) (le-ltb j i (omega arith) ∙ sym (le-ltb j (suc i) (omega arith)))

    turn_step : set (turned z i) i i ≡ turned z (suc i)
    turn_step =
        ext_get_or 0 (set (turned z i) i i) (turned z (suc i)) (length-set (turned z i) i i ∙ long i ∙ sym (long (suc i)))
        (λ j l.
        let l32 : j < 32 = omega (arith, length-set (turned z i) i i, long i) in
        one j l32 (dec_same j i) (dec_lt j i) ∙ sym (tabulate-at max_boards (at (suc i)) 0 j l32))

pub turn-laws : TurnLaws
turn-laws = record {
  moved-point = moved-point;
  other-point = other-point;
  moved-pointed = moved-pointed;
  turn-first = turn-first;
  turn-free = turn-free;
  turn_step = turn_step;
  turn_last = turn_last;
}
