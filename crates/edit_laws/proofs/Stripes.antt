-- Stripe after stripe: what is added to the stripes so far of all these boards, over the area as it was before the first of them.
-- Assumes nothing.
use mathlib.Core.Path.{◌≡◌, refl, sym, ap, ap₂, ◌∙◌}
use mathlib.Core.Bool.{true}
use mathlib.Core.Logic.{◌⊎◌, inl, inr}
use mathlib.Core.List.{List}
use Prim.Native.Nat.{ℕ, zero, suc, ◌+◌, ◌*◌, ◌<◌, ◌≤◌}
use native.Mathlib.Decide.{dec_lt}
use native.Mathlib.Nat.{min-le_left, mul-le-mul_right}
use native.Mathlib.Omega.{arith}
use lib.ListN.{length, get_or, take, drop, length-take}
use Rattle.lists.specs.Tests.{below, different}
use Rattle.lists.specs.Lists.{join, put}
use Rattle.lists.proofs.Alls.{distinct-at}
use Rattle.lists.proofs.Boards.{distinct}
use Rattle.lists.proofs.Pieces.{length-join}
use Rattle.lists.proofs.Put.{part_end}
use Rattle.polynomial.specs.Polynomial.{plus}
use Rattle.area_puts.specs.Steps.{puts}
use Rattle.area_puts.proofs.Puts.{puts-same, length-puts, puts-stripe, puts-other, puts_none}
use Rattle.store_spec.proofs.Sums.{length-plus-short, put-again}
use Rattle.edit_put.specs.Steps.{added}
use Rattle.edit_put.proofs.Added.{apart_parts, board-low}

-- what is there, put again
puts-again : (p : ℕ → ℕ) (f : ℕ → List ℕ) (w m : ℕ) (l : List ℕ) → ((a : ℕ) → a < m → f a ≡ take w (drop (p a) l)) → ((a : ℕ) → a < m → p a + w ≤ length l)
    → puts p f m l ≡ l
puts-again p f w zero l e h = refl
puts-again p f w (suc m) l e h =
    ap₂ {C = List ℕ} (λ (x b : List ℕ). put x (p m) b) (puts-again p f w m l (λ a k. e a (omega arith)) (λ a k. h a (omega arith))) (e m (omega arith))
    ∙ put-again l (p m) w (h m (omega arith))

-- a sum with a list of w numbers is as long
sum-long : (w : ℕ) (l k : List ℕ) → length k ≡ w → length (plus (take w l) k) ≡ w
sum-long w l k e = length-plus-short (take w l) k (omega (arith, length-take w l, min-le_left w (length l))) ∙ e

-- boards `on` with parts of W bytes, of which stripe t has w; k t i is what is added to stripe t of board i
module _ (n W w : ℕ) (on area₀ : List ℕ) (low : below n on ≡ true) (diff : different on ≡ true) (la : length area₀ ≡ n * W)
    (k : ℕ → ℕ → List ℕ) (long : (t i : ℕ) → length (k t i) ≡ w) where
  abbrev place : ℕ → ℕ
  place a = get_or on a 0 * W

  -- stripe t of board i, before and after
  abbrev pub cell : ℕ → ℕ → List ℕ
  cell i t = take w (drop (i * W + t * w) area₀)

  abbrev pub sum : ℕ → ℕ → List ℕ
  sum i t = plus (cell i t) (k t i)

  -- the area with the first t stripes
  abbrev pub up_to : ℕ → List ℕ
  up_to t = puts place (λ a. join t (sum (get_or on a 0))) (length on) area₀

  pub none : area₀ ≡ up_to 0
  none = puts_none place (length on) area₀

  long-sum : (i t : ℕ) → length (sum i t) ≡ w
  long-sum i t = sum-long w (drop (i * W + t * w) area₀) (k t i) (long t i)

  before-long : (t a : ℕ) → length (join t (sum (get_or on a 0))) ≡ t * w
  before-long t a = length-join t w (sum (get_or on a 0)) (λ u h. long-sum (get_or on a 0) u)

  ends : (a : ℕ) → a < length on → place a + W ≤ length area₀
  ends a h = omega (arith, part_end (get_or on a 0) W n (board-low n on a low h), la)

  -- stripe t of any board is as it was
  pub stays : (i t : ℕ) → t * w + w ≤ W → take w (drop (i * W + t * w) (up_to t)) ≡ cell i t
  stays i t room =
      puts-other place (λ a. join t (sum (get_or on a 0))) (length on) area₀ (i * W + t * w) w
      (λ a h. omega (arith, ends a h, before-long t a, room)) (λ a h. go a (dec_lt i (get_or on a 0)))
    where
      go : (a : ℕ) → Dec (i < get_or on a 0) → (i * W + t * w + w ≤ place a) ⊎ (place a + length (join t (sum (get_or on a 0))) ≤ i * W + t * w)
      go a (yes h) = inl (omega (arith, part_end i W (get_or on a 0) h, room))
      go a (no h) =
          let q : get_or on a 0 ≤ i = omega arith in
          let e : get_or on a 0 * W ≤ i * W = mul-le-mul_right W q in
          inr (omega (arith, e, before-long t a))

  as_long : (t : ℕ) → t * w + w ≤ W → (a : ℕ) → a < length on → place a + t * w + w ≤ length (up_to t)
  as_long t room a h =
      let e : length (up_to t) ≡ length area₀ = length-puts place (λ a. join t (sum (get_or on a 0))) (length on) area₀ (λ a h. omega (arith, ends a h, before-long t a, room)) in
      omega (arith, e, ends a h, room)

  one_more : (t : ℕ) → t * w + w ≤ W → puts (λ a. place a + t * w) (λ a. sum (get_or on a 0) t) (length on) (up_to t) ≡ up_to (t + 1)
  one_more t room =
      puts-stripe place W w t (length on) (λ a. sum (get_or on a 0)) (λ a u h. long-sum (get_or on a 0) u) room area₀ ends
      (λ a b h l. apart_parts (get_or on b 0) (get_or on a 0) W (distinct-at on (distinct on diff) a b h l))

  -- one stripe more
  pub next : (t : ℕ) → t * w + w ≤ W → added w W (t * w) (k t) on (up_to t) ≡ up_to (t + 1)
  next t room =
      puts-same (λ a. place a + t * w) (λ a. place a + t * w) _ (λ a. sum (get_or on a 0) t) (length on) (up_to t) (λ a h. refl)
      (λ a h. ap (λ (l : List ℕ). plus l (k t (get_or on a 0))) (stays (get_or on a 0) t room))
      ∙ one_more t room

  -- a stripe that stays
  pub still : (t : ℕ) → t * w + w ≤ W → ((i : ℕ) → i < n → sum i t ≡ cell i t) → up_to t ≡ up_to (t + 1)
  still t room same =
      sym (puts-again (λ a. place a + t * w) (λ a. sum (get_or on a 0) t) w (length on) (up_to t)
      (λ a h. same (get_or on a 0) (board-low n on a low h) ∙ sym (stays (get_or on a 0) t room)) (as_long t room))
      ∙ one_more t room
