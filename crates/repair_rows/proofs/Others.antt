-- The fresh boards other than one, and the rows of each.
-- Assumes nothing.
use Prim.Native.Nat.{ℕ, suc, ◌+◌, ◌*◌, ◌-◌, ◌≤◌, ◌<◌}
use mathlib.Core.Path.{◌≡◌, refl, ap, ap₂, ◌∙◌}
use mathlib.Core.Bool.{Bool, true, false}
use mathlib.Core.List.{List, ◌++◌}
use native.Mathlib.Nat.{mul-le-mul_left, le_trans}
use native.Mathlib.Omega.{arith}
use lib.Dec.{leb, ltb}
use lib.ListN.{length, get_or, drop, length-append, length-take, length-drop}
use borrow.Author.Tests.{leb-true}
use Rattle.lists.specs.Tests.{pick, every, below}
use Rattle.lists.specs.Lists.{tabulate, piece}
use Rattle.lists.proofs.Alls.{all-at, append-all}
use Rattle.lists.proofs.Tests.{every-all}
use Rattle.lists.proofs.Pieces.{tabulate-all, tabulate-at, length-tabulate, length-piece}
use Rattle.lists.proofs.Put.{part_end}
use Rattle.lists.proofs.Boards.{below_all, all-below}
use Rattle.sizes.specs.declared.Sizes.{Sizes}
use Rattle.sizes.proofs.Legal.{Legal}
use Rattle.lagrange_factors.proofs.Values.{board-below}
use Rattle.stripe_finish.specs.Steps.{board_rows}
use Rattle.stripe_finish.proofs.Finished.{length-board-rows}
use Rattle.repair_hear.specs.Steps.{Naming}
use Rattle.repair_rows.specs.Steps.{past, others_at, helpers_at, partners_at, fresh_rows}

pub past-below : (a u r : ℕ) → u < r - 1 → past a u < r
past-below a u r h = go (ltb u a)
  where
    go : (t : Bool) → pick t u (suc u) < r
    go true = omega arith
    go false = omega arith

-- they are boards below n
pub others_below : (n a : ℕ) (fresh : List ℕ) → below n fresh ≡ true → below n (others_at fresh a) ≡ true
others_below n a fresh h =
    all-below n (others_at fresh a)
    (tabulate-all (λ x. x < n) (length fresh - 1) (λ u. get_or fresh (past a u) 0) (λ u k. board-below n fresh (past a u) h (past-below a u (length fresh) k)))

pub length-others : (fresh : List ℕ) (a : ℕ) → length (others_at fresh a) ≡ length fresh - 1
length-others fresh a = length-tabulate (length fresh - 1) (λ u. get_or fresh (past a u) 0)

-- those of two lists
pub both_below : (n : ℕ) (xs ys : List ℕ) → below n xs ≡ true → below n ys ≡ true → below n (xs ++ ys) ≡ true
both_below n xs ys h k = all-below n (xs ++ ys) (append-all (λ x. x < n) xs ys (below_all n xs h) (below_all n ys k))

-- the rows, from what the callees give
pub rows_are : (z : Sizes) (c : ℕ) (pts fresh named hs ss boards rows : List ℕ) (a : ℕ) → boards ≡ ss ++ others_at fresh a → ss ≡ drop z.d (piece c a named)
    → hs ≡ helpers_at z c named a → rows ≡ board_rows pts hs boards (get_or fresh a 0) → rows ≡ fresh_rows z c pts fresh named a
unfolding fresh_rows
rows_are z c pts fresh named hs ss boards rows a eb es eh er =
    er ∙ ap₂ (λ (x y : List ℕ). board_rows pts x y (get_or fresh a 0)) eh (eb ∙ ap (λ (l : List ℕ). l ++ others_at fresh a) es)

-- the boards that the a-th names
module _ (z : Sizes) (c : ℕ) (fresh named : List ℕ) (h : Naming z (length fresh) c) (l : length named ≡ length fresh * c) (a : ℕ) (k : a < length fresh) where
  pub run_long : length (piece c a named) ≡ c
  run_long = length-piece c a named (omega (arith, part_end a c (length fresh) k))

  pub helpers-long : length (helpers_at z c named a) ≡ z.d
  helpers-long = let e = run_long in let q = h.helps in simp length-take (omega arith)

  pub partners-long : length (partners_at z c fresh named a) ≡ z.r - 1
  partners-long =
      let e = run_long in
      let q = h.helps in
      let w = h.whole in
      length-append (drop z.d (piece c a named)) (others_at fresh a) ∙ ap₂ ◌+◌ (length-drop z.d (piece c a named)) (length-others fresh a) ∙ omega arith

pub length-fresh-rows : (z : Sizes) → Legal z → (c : ℕ) (pts fresh named : List ℕ) (a : ℕ) → Naming z (length fresh) c → length named ≡ length fresh * c → a < length fresh
    → length (fresh_rows z c pts fresh named a) ≡ (z.d + (z.d + z.r)) * 32
unfolding fresh_rows
length-fresh-rows z legal c pts fresh named a h l k =
    let n = helpers-long z c fresh named h l a k in
    let m = partners-long z c fresh named h l a k in
    length-board-rows pts (helpers_at z c named a) (partners_at z c fresh named a) (get_or fresh a 0) ∙ omega (arith, legal.some-fresh)

-- all rows are few bytes
most-test : every (λ r. leb (r * ((64 - r) * 32)) 32768) (tabulate 32 (λ r. r)) ≡ true
most-test = refl

most : (r : ℕ) → r < 32 → r * ((64 - r) * 32) ≤ 32768
most r h =
    let rs : List ℕ = tabulate 32 (λ r. r) in
    let e : get_or rs r 0 ≡ r = tabulate-at 32 (λ r. r) 0 r h in
    let t : leb (get_or rs r 0 * ((64 - get_or rs r 0) * 32)) 32768 ≡ true =
    all-at (λ r. leb (r * ((64 - r) * 32)) 32768 ≡ true) 0 rs (every-all (λ r. leb (r * ((64 - r) * 32)) 32768) rs most-test) r (rw length-tabulate h) in
    leb-true (r * ((64 - r) * 32)) 32768 (rw e at t)

pub few-rows : (z : Sizes) → Legal z → (t c : ℕ) → Naming z t c → t * ((z.d + (z.d + z.r)) * 32) ≤ 32768
few-rows z f t c h =
    le_trans (mul-le-mul_left t (omega (arith, h.whole, h.helps, f.enough, f.few)))
    (most t (omega (arith, h.whole, h.helps, f.some_read, f.read-helpers, f.enough, f.few)))
