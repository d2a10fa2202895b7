-- What it says that points are taken; and that document 01's are, and those of the first series.
-- Assumes nothing.
use mathlib.Core.Path.{◌≡◌, refl, sym, ap, ◌∙◌}
use mathlib.Core.Bool.{Bool, true}
use mathlib.Core.Logic.{◌≢◌}
use mathlib.Core.List.{List, [], ◌∷◌}
use Prim.Native.Nat.{ℕ, ◌+◌, ◌-◌, ◌≤◌, ◌<◌}
use native.Mathlib.Decide.{dec_lt}
use native.Mathlib.Omega.{arith}
use lib.Dec.{ltb, eqb}
use lib.ListN.{length, get_or, take, drop, get_or-eq_default}
use lib.Seq.{length-take-le, get_or-take, get_or-drop}
use borrow.Author.Tests.{eqb-true, eq-eqb, lt-ltb, le-ltb}
use Rattle.lists.specs.Tests.{pick, every, below, different}
use Rattle.lists.specs.Lists.{All, Bytes}
use Rattle.lists.proofs.Alls.{all-at_d, all_of, byte_at, Distinct, distinct_of, distinct-at}
use Rattle.lists.proofs.Boards.{below_all, all-below, distinct, distinct-different}
use Rattle.lists.proofs.Pieces.{length-tabulate, tabulate-at, tabulate-all, map_at}
use Rattle.lists.proofs.Tests.{alls-hold, hold-alls, every-all, all-every}
use Rattle.sizes.specs.declared.Sizes.{Sizes}
use Rattle.sizes.specs.Sizing.{legal}
use Rattle.sizes.proofs.Legal.{legal-facts}
use Rattle.mbcr.specs.Share.{point, standard, pointed, DifferentPoints}
use Rattle.mbcr.specs.PointLaws.{first_series, PointLaws}
use Rattle.mbcr.proofs.Points.{listed, listed-point, length-points}

-- ---- the test in propositions

pub record Pointed (z : Sizes) (xs : List ℕ) : Type 0 where
  pub long : length xs ≡ 32
  pub bytes : Bytes xs
  pub differ : (i j : ℕ) → i < j → j < z.n → point xs j ≢ point xs i
  pub rest : (i : ℕ) → z.n ≤ i → point xs i ≡ 0

point_tests : Sizes → List ℕ → List Bool
point_tests z xs = eqb (length xs) 32 ∷ below 256 xs ∷ different (take z.n xs) ∷ every (λ x. eqb x 0) (drop z.n xs) ∷ []

module _ (z : Sizes) (xs : List ℕ) (few : z.n ≤ 32) where
  pub pointed-facts : pointed z xs ≡ true → Pointed z xs
  unfolding pointed point_tests
  pointed-facts h =
      let e = alls-hold (point_tests z xs) h in
      let long : length xs ≡ 32 = eqb-true _ _ e.0 in
      let taken : length (take z.n xs) ≡ z.n = length-take-le z.n xs (omega arith) in
      record {
        long = long;
        bytes = below_all 256 xs e.1.0;
        differ = λ i j a b q. distinct-at (take z.n xs) (distinct (take z.n xs) e.1.1.0) i j a (omega arith)
            (get_or-take z.n xs j 0 b ∙ q ∙ sym (get_or-take z.n xs i 0 (omega arith)));
        rest = λ i l.
            let at : z.n + (i - z.n) ≡ i = omega arith in
            ap (λ (m : ℕ). get_or xs m 0) (sym at) ∙ sym (get_or-drop z.n xs (i - z.n) 0)
            ∙ eqb-true _ _ (all-at_d (λ x. eqb x 0 ≡ true) 0 (drop z.n xs) (every-all (λ x. eqb x 0) (drop z.n xs) e.1.1.1.0) refl (i - z.n));
      }

  pub facts-pointed : Pointed z xs → pointed z xs ≡ true
  unfolding pointed point_tests
  facts-pointed f =
      let long = f.long in
      let taken : length (take z.n xs) ≡ z.n = length-take-le z.n xs (omega arith) in
      let apart : Distinct (take z.n xs) = distinct_of (take z.n xs) (λ i j a b q. f.differ i j a (omega arith)
      (sym (get_or-take z.n xs j 0 (omega arith)) ∙ q ∙ get_or-take z.n xs i 0 (omega arith))) in
      let zeros : All (λ x. eqb x 0 ≡ true) (drop z.n xs) = all_of _ 0 (drop z.n xs) (λ i l.
      eq-eqb _ _ (get_or-drop z.n xs i 0 ∙ f.rest (z.n + i) (omega arith))) in
      hold-alls (point_tests z xs)
      (eq-eqb _ _ long, (all-below 256 xs f.bytes, (distinct-different (take z.n xs) apart, (all-every (λ x. eqb x 0) (drop z.n xs) zeros, tt))))

-- ---- different points

-- numbers of which a smaller place has another are told apart
told-apart : (n : ℕ) (f : ℕ → ℕ) → ((i j : ℕ) → i < j → j < n → f j ≢ f i) → (i j : ℕ) → i < n → j < n → f i ≡ f j → i ≡ j
told-apart n f h i j a b e = go (dec_lt i j) (dec_lt j i)
  where
    go : Dec (i < j) → Dec (j < i) → i ≡ j
    go (yes l) q = absurd (h i j l b (sym e))
    go (no l) (yes q) = absurd (h j i q a e)
    go (no l) (no q) = omega arith

pub pointed-differ : (z : Sizes) (xs : List ℕ) → legal z ≡ true → pointed z xs ≡ true → DifferentPoints z xs
pointed-differ z xs ok h =
    let f = pointed-facts z xs (legal-facts z ok).few h in
    record { bytes = λ i l. byte_at xs f.bytes i; differ = told-apart z.n (point xs) f.differ }

-- ---- points that are taken

-- f i for each of n boards, where these are different bytes
module _ (z : Sizes) (few : z.n ≤ 32) (f : ℕ → ℕ) where
  open z use {n}

  byte : ((i : ℕ) → i < n → f i < 256) → (i : ℕ) → Dec (i < n) → pick (ltb i n) (f i) 0 < 256
  byte b i (yes l) = rw (lt-ltb i n l) (b i l)
  byte b i (no l) = rw (le-ltb i n (omega arith)) (omega arith)

  beyond : (i : ℕ) → n ≤ i → Dec (i < 32) → point (listed n f) i ≡ 0
  beyond i l (yes k) = tabulate-at 32 (λ i. pick (ltb i n) (f i) 0) 0 i k ∙ rw (le-ltb i n l) refl
  beyond i l (no k) = get_or-eq_default (listed n f) 0 {n = i} (omega (arith, length-tabulate 32 (λ i. pick (ltb i n) (f i) 0)))

  pub listed-pointed : ((i : ℕ) → i < n → f i < 256) → ((i j : ℕ) → i < j → j < n → f j ≢ f i) → pointed z (listed n f) ≡ true
  listed-pointed b d = facts-pointed z (listed n f) few (record {
    long = length-tabulate 32 (λ i. pick (ltb i n) (f i) 0);
    bytes = tabulate-all (λ x. x < 256) 32 (λ i. pick (ltb i n) (f i) 0) (λ i l. byte b i (dec_lt i n));
    differ = λ i j l k e. d i j l k (sym (listed-point n f j few k) ∙ e ∙ listed-point n f i few (omega arith));
    rest = λ i l. beyond i l (dec_lt i 32);
  })

pub standard-pointed : (z : Sizes) → legal z ≡ true → pointed z (standard z) ≡ true
standard-pointed z ok =
    let few = (legal-facts z ok).few in
    listed-pointed z few (λ i. i) (λ i l. omega arith) (λ i j l k e. omega arith)

first-series-pointed : (z : Sizes) → legal z ≡ true → pointed z (first_series z) ≡ true
first-series-pointed z ok =
    let few = (legal-facts z ok).few in
    listed-pointed z few (λ i. i + 1) (λ i l. omega arith) (λ i j l k e. omega arith)

pub point-laws : PointLaws
point-laws = record {
  point-is = λ xs i. refl;
  points-are = λ xs boards t h. map_at (point xs) boards t h;
  points-length = length-points;
  pointed-is = λ z xs ok. (
    λ h. let f = pointed-facts z xs (legal-facts z ok).few h in (f.long, f.bytes, f.differ, f.rest),
    λ h. facts-pointed z xs (legal-facts z ok).few (record { long = h.0; bytes = h.1; differ = h.2; rest = h.3 }),
  );
  pointed-differ = pointed-differ;
  standard-pointed = standard-pointed;
  first-series-pointed = first-series-pointed;
  first-series-point = λ z ok i l. listed-point z.n (λ i. i + 1) i (legal-facts z ok).few l;
}
