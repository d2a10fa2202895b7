-- Bytes added to those of boards in their places: one board more, and that nothing else counts of what is added.
-- Assumes nothing.
use mathlib.Core.Path.{◌≡◌, refl, sym, ap, ap₂, ◌∙◌}
use mathlib.Core.Bool.{true}
use mathlib.Core.Logic.{◌⊎◌, inl, inr, ⊎_elim}
use mathlib.Core.List.{List}
use Prim.Native.Nat.{ℕ, ◌+◌, ◌*◌, ◌-◌, ◌<◌, ◌≤◌}
use native.Mathlib.Decide.{dec_lt}
use native.Mathlib.Nat.{sub-zero, eq-or-lt_of_le}
use native.Mathlib.Omega.{arith}
use lib.ListN.{length, get_or, take, drop, length-drop}
use lib.Seq.{length-take-le}
use borrow.Rule.Slice.PartMut.{put_mid}
use Rattle.lists.specs.Tests.{below, different}
use Rattle.lists.proofs.Alls.{all-at, distinct-at}
use Rattle.lists.proofs.Boards.{below_all, distinct}
use Rattle.lists.proofs.Put.{part_end}
use Rattle.polynomial.specs.Polynomial.{plus}
use Rattle.polynomial.proofs.Linear.{length-plus}
use Rattle.row_dots.proofs.Rows.{part-back}
use Rattle.area_puts.specs.Steps.{puts}
use Rattle.area_puts.proofs.Puts.{puts-same, puts-other, puts-turn}
use Rattle.edit_put.specs.Steps.{added}

-- the beginning of a list is as long as it is cut
pub first-long : (w : ℕ) (l : List ℕ) → w ≤ length l → length (take (w - 0) (drop 0 l)) ≡ w
first-long w l h = length-take-le (w - 0) l (omega arith) ∙ sub-zero w

-- so is what was put there
pub back_long : (m : ℕ) (l a : List ℕ) → length a ≡ m → length (take (m - 0) (drop 0 (put_mid 0 (m - 0) l a))) ≡ m
back_long m l a e = ap length (part-back m l a e) ∙ e

-- boards with other numbers have parts apart
pub apart_parts : (i j w : ℕ) → (i ≡ j → ⊥) → (i * w + w ≤ j * w) ⊎ (j * w + w ≤ i * w)
apart_parts i j w ne = go (dec_lt i j)
  where
    go : Dec (i < j) → (i * w + w ≤ j * w) ⊎ (j * w + w ≤ i * w)
    go (yes h) = inl (part_end i w j h)
    go (no h) = let k : j ≤ i = omega arith in inr (⊎_elim (λ e. absurd (ne (sym e))) (λ l. part_end j w i l) (eq-or-lt_of_le k))

-- a board of the list
pub board-low : (n : ℕ) (boards : List ℕ) (a : ℕ) → below n boards ≡ true → a < length boards → get_or boards a 0 < n
board-low n boards a h l = all-at (λ x. x < n) 0 boards (below_all n boards h) a l

-- only what is added to these boards counts
pub added-same : (w part at n : ℕ) (f g : ℕ → List ℕ) (boards area : List ℕ) → below n boards ≡ true → ((i : ℕ) → i < n → f i ≡ g i)
    → added w part at f boards area ≡ added w part at g boards area
added-same w part at n f g boards area h e =
    puts-same (λ a. get_or boards a 0 * part + at) (λ a. get_or boards a 0 * part + at) _ _ (length boards) area (λ a l. refl)
    (λ a l. ap (plus (take w (drop (get_or boards a 0 * part + at) area))) (e (get_or boards a 0) (board-low n boards a h l)))

module _ (n w part at : ℕ) (f : ℕ → List ℕ) (long : (i : ℕ) → length (f i) ≡ w) (room : at + w ≤ part)
    (boards area₀ : List ℕ) (low : below n boards ≡ true) (diff : different boards ≡ true) (la : length area₀ ≡ n * part) where
  abbrev place : ℕ → ℕ
  place a = get_or boards a 0 * part + at

  abbrev sum : ℕ → List ℕ
  sum a = plus (take w (drop (place a) area₀)) (f (get_or boards a 0))

  -- the area with what the first a boards get
  abbrev pub up_to : ℕ → List ℕ
  up_to a = puts place sum a area₀

  pub ends : (a : ℕ) → a < length boards → place a + w ≤ length area₀
  ends a h = omega (arith, part_end (get_or boards a 0) part n (board-low n boards a low h), la, room)

  sum-long : (a : ℕ) → a < length boards → length (sum a) ≡ w
  sum-long a h =
      let e : length (take w (drop (place a) area₀)) ≡ w = length-take-le w (drop (place a) area₀) (rw length-drop (omega (arith, ends a h))) in
      length-plus (take w (drop (place a) area₀)) (f (get_or boards a 0)) (e ∙ sym (long (get_or boards a 0))) ∙ e

  -- what a board holds is not changed by those before it
  stays : (a : ℕ) → a < length boards → take w (drop (place a) (up_to a)) ≡ take w (drop (place a) area₀)
  stays a h =
      puts-other place sum a area₀ (place a) w (λ b k. let q : b < length boards = omega arith in omega (arith, ends b q, sum-long b q))
      (λ b k.
      let q : b < length boards = omega arith in
      ⊎_elim (λ x. inl (omega (arith, x, room))) (λ x. inr (omega (arith, x, room, sum-long b q)))
      (apart_parts (get_or boards a 0) (get_or boards b 0) part (distinct-at boards (distinct boards diff) b a k h)))

  pub turn : (a : ℕ) (area ys : List ℕ) → a < length boards → area ≡ up_to a
      → ys ≡ plus (take (place a + w - place a) (drop (place a) area)) (f (get_or boards a 0))
      → put_mid (place a) (place a + w - place a) area ys ≡ up_to (a + 1)
  turn a area ys h ea ey =
      let e : place a + w - place a ≡ w = omega arith in
      let k : ys ≡ sum a =
      ey ∙ ap₂ {C = List ℕ} (λ (v : ℕ) (l : List ℕ). plus (take v (drop (place a) l)) (f (get_or boards a 0))) e ea
      ∙ ap (λ (l : List ℕ). plus l (f (get_or boards a 0))) (stays a h) in
      puts-turn place sum w a (place a) area₀ area ys refl (ap length k ∙ sum-long a h) k ea
