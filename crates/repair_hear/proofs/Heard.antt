-- Stripes cut out of the area, and runs of helpers.
-- Assumes nothing.
use Prim.Native.Nat.{ℕ, ◌+◌, ◌*◌, ◌-◌, ◌≤◌, ◌<◌}
use mathlib.Core.Path.{◌≡◌, refl, sym, ap, ◌∙◌}
use mathlib.Core.Bool.{true}
use mathlib.Core.List.{List}
use native.Mathlib.Nat.{mul-le-mul_left, le_trans}
use native.Mathlib.Omega.{arith}
use lib.Dec.{leb}
use lib.ListN.{length, get_or, take, drop, length-drop}
use lib.Seq.{drop-drop, length-take-le}
use borrow.Author.Tests.{leb-true}
use Rattle.lists.specs.Tests.{every, below}
use Rattle.lists.specs.Lists.{tabulate, piece}
use Rattle.lists.proofs.Alls.{all-at, take-alls, drop-alls}
use Rattle.lists.proofs.Tests.{every-all}
use Rattle.lists.proofs.Boards.{below_all, all-below}
use Rattle.lists.proofs.Pieces.{length-tabulate, tabulate-at, part-piece, length-piece}
use Rattle.sizes.specs.declared.Sizes.{Sizes}
use Rattle.sizes.proofs.Legal.{Legal, row_fits}
use Rattle.repair_hear.specs.Steps.{Naming}

-- a stripe as it is cut out of the area
pub cut-piece : (w s at : ℕ) (area : List ℕ) → take (at + s * w + w - (at + s * w)) (drop (at + s * w) area) ≡ piece w s (drop at area)
unfolding piece
cut-piece w s at area =
    let k : at + s * w + w - (at + s * w) ≡ w = omega arith in
    ap (λ (m : ℕ). take m (drop (at + s * w) area)) k ∙ ap (take w) (sym (drop-drop (s * w) at area))

-- it is whole
pub piece-long : (w s at : ℕ) (area : List ℕ) → at + s * w + w ≤ length area → length (piece w s (drop at area)) ≡ w
unfolding piece
piece-long w s at area h = length-take-le w (drop (s * w) (drop at area)) (omega (arith, length-drop (s * w) (drop at area), length-drop at area))

-- boards of a part of a list that are below n
pub below-part : (n m at : ℕ) (l : List ℕ) → below n l ≡ true → below n (take m (drop at l)) ≡ true
below-part n m at l h =
    all-below n (take m (drop at l)) (take-alls (λ x. x < n) m (drop at l) (drop-alls (λ x. x < n) at l (below_all n l h)))

-- as long as it is cut
pub cut-long : (d a m : ℕ) (l : List ℕ) → a < m → length l ≡ m * d → length (take (a * d + d - a * d) (drop (a * d) l)) ≡ d
cut-long d a m l h e = ap length (part-piece d a l) ∙ length-piece d a l (omega (arith, row_fits a m d h))

-- the runs of all fresh boards are few
most-test : every (λ r. leb (r * (32 - r)) 256) (tabulate 32 (λ r. r)) ≡ true
most-test = refl

most : (r : ℕ) → r < 32 → r * (32 - r) ≤ 256
most r h =
    let rs : List ℕ = tabulate 32 (λ r. r) in
    let e : get_or rs r 0 ≡ r = tabulate-at 32 (λ r. r) 0 r h in
    let t : leb (get_or rs r 0 * (32 - get_or rs r 0)) 256 ≡ true =
    all-at (λ r. leb (r * (32 - r)) 256 ≡ true) 0 rs (every-all (λ r. leb (r * (32 - r)) 256) rs most-test) r (rw length-tabulate h) in
    leb-true (r * (32 - r)) 256 (rw e at t)

pub few-runs : (z : Sizes) → Legal z → (t c : ℕ) → Naming z t c → t * c ≤ 256
few-runs z f t c h =
    le_trans (mul-le-mul_left t (omega (arith, h.whole, f.enough, f.few)))
    (most t (omega (arith, h.whole, h.helps, f.some_read, f.read-helpers, f.enough, f.few)))
