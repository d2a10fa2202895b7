-- What holds of sizes and refusals, in propositions: proofs/Laws.antt has `laws`.
-- Assumes nothing.
use Rattle.std.specs.Prelude.{◌≡◌, Bool, true, false, ◌≢◌, ◌↔◌, List, [], ◌∷◌, ◌++◌, map, ℕ, ◌+◌, ◌*◌, ◌≤◌, Ok, Err}
use Rattle.lists.specs.Lists.{All}
use Rattle.sizes.specs.declared.Sizes.{Sizes}
use Rattle.sizes.specs.declared.Refusal.{Refusal}
use Rattle.sizes.specs.declared.Refusal.TheVariants.{Size, Area, Long, Count, Node, Repeat, Short, Empty, Down, Disagree, Text, Mixed, Serving, Range, Busy, Idle}
use Rattle.sizes.specs.Sizing.{max_boards, max_stripes, legal, α, B, stripes}
use Rattle.sizes.specs.Refusals.{number, said, Line, ◌when◌, applies_in, first, store_order, board_order, Answer}

-- x is the first of the order whose line holds
pub record First (order : List Refusal) (lines : List Line) (x : Refusal) : Type 0 where
  pub before : List Refusal
  pub after : List Refusal
  pub place : order ≡ before ++ (x ∷ after)
  pub none_before : All (λ y. applies_in lines y ≡ false) before
  pub applies : applies_in lines x ≡ true

pub record SizesAndRefusals : Type 0 where
  pub legal-is : (z : Sizes) → (legal z ≡ true) ↔ ((1 ≤ z.k) × (z.k ≤ z.d) × (1 ≤ z.r) × (z.d + z.r ≤ z.n) × (z.n ≤ 32))
  -- "up to 32 shelf boards", "4,096 stripes"
  pub limits : (max_boards ≡ 32) × (max_stripes ≡ 4096)
  -- "A share has α = 2d + r − 1 bytes per stripe": no difference is cut at 0
  pub share-bytes : (z : Sizes) → legal z ≡ true → α z + 1 ≡ 2 * z.d + z.r
  -- "a stripe carries B = k(2d + r − k) file bytes"
  pub stripe-bytes : (z : Sizes) → legal z ≡ true → B z + z.k * z.k ≡ z.k * (2 * z.d + z.r)
  -- "one stripe's coefficient grid, at most 31 × 32 values": d rows of d + r
  pub grid-most : (z : Sizes) → legal z ≡ true → (z.d ≤ 31) × (z.d + z.r ≤ 32) × (B z ≤ 31 * 32)
  -- "S stripes, the least number with S × B ≥ L". "L = 0 gives S = 0."
  pub stripes-enough : (z : Sizes) → legal z ≡ true → (L : ℕ) → L ≤ stripes z L * B z
  pub stripes-least : (z : Sizes) → legal z ≡ true → (L S : ℕ) → L ≤ S * B z → stripes z L ≤ S
  pub stripes-none : (z : Sizes) → legal z ≡ true → stripes z 0 ≡ 0
  pub numbers-are :
      map number (Size ∷ Area ∷ Long ∷ Count ∷ Node ∷ Repeat ∷ Short ∷ Empty ∷ Down ∷ Disagree ∷ Text ∷ Mixed ∷ Serving ∷ Range ∷ Busy ∷ Idle ∷ [])
      ≡ 1 ∷ 2 ∷ 3 ∷ 4 ∷ 5 ∷ 6 ∷ 7 ∷ 8 ∷ 9 ∷ 10 ∷ 12 ∷ 13 ∷ 14 ∷ 15 ∷ 16 ∷ 17 ∷ []
  -- accepted: no refusal, and the number reported; refused: its number, and nothing reported
  pub done-says : (v : ℕ) → said (Ok v) ≡ record { refusal = 0; reported = v }
  pub refused_says : (x : Refusal) → said (Err x) ≡ record { refusal = number x; reported = 0 }
  -- two refusals never share a number, nor two answers what they say
  pub numbers-differ : (x y : Refusal) → number x ≡ number y → x ≡ y
  -- request A.5: "the number is never given again"
  pub never-eleven : (x : Refusal) → number x ≢ 11
  pub answers-differ : (a b : Answer) → said a ≡ said b → a ≡ b
  pub line-is : (x : Refusal) (b : Bool) → ((x when b).refusal ≡ x) × ((x when b).applies ≡ b)
  -- among the lines of a call a refusal's own line says whether it applies, wherever it stands; one that has no line never does
  pub applies-at : (before after : List Line) (l : Line) → All (λ m. m.refusal ≢ l.refusal) before → applies_in (before ++ (l ∷ after)) l.refusal ≡ l.applies
  pub applies-none : (lines : List Line) (x : Refusal) → All (λ m. m.refusal ≢ x) lines → applies_in lines x ≡ false
  -- the two orders, by number
  pub store-order : map number store_order ≡ 1 ∷ 2 ∷ 3 ∷ 8 ∷ 16 ∷ 17 ∷ 15 ∷ 4 ∷ 5 ∷ 6 ∷ 14 ∷ 9 ∷ 7 ∷ 10 ∷ []
  pub board-order : map number board_order ≡ 12 ∷ 1 ∷ 3 ∷ 13 ∷ 4 ∷ 5 ∷ 6 ∷ 2 ∷ 7 ∷ 10 ∷ []
  -- "The first that applies is given." "A number is given only where its line holds; otherwise the call does its work."
  pub refuse-is : (order : List Refusal) (lines : List Line) (x : Refusal) → (first order lines ≡ Err x) ↔ First order lines x
  pub pass-is : (order : List Refusal) (lines : List Line) → (first order lines ≡ Ok tt) ↔ All (λ y. applies_in lines y ≡ false) order
