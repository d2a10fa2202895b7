-- A stripe of a board's share compared; and one stripe more.
-- Assumes nothing.
use mathlib.Core.Path.{◌≡◌, refl, ap, ap₂, ◌∙◌}
use mathlib.Core.Bool.{Bool, true, false}
use mathlib.Core.List.{List, append-nil}
use Prim.Native.Nat.{ℕ, zero, suc, ◌+◌, ◌*◌, ◌-◌, ◌≤◌}
use native.Mathlib.Nat.{add-zero}
use native.Mathlib.Omega.{arith}
use lib.ListN.{length, take, drop, length-append}
use lib.Seq.{take_all}
use borrow.Rule.Slice.PartMut.{put_mid}
use Rattle.lists.specs.Tests.{pick, alls, same}
use Rattle.lists.specs.Lists.{tabulate, join}
use Rattle.sizes.specs.declared.Sizes.{Sizes}
use Rattle.sizes.specs.Sizing.{α}
use Rattle.mbcr.specs.Share.{kept}
use Rattle.stripes_cut.specs.Steps.{stripe_at}
use Rattle.row_dots.proofs.Rows.{part-back}
use Rattle.stripe_holds.specs.Steps.{holds_stripe}

-- ---- one stripe more

pub alls-more : (n : ℕ) (q : ℕ → Bool) → alls (tabulate (suc n) q) ≡ pick (alls (tabulate n q)) (q n) false
alls-more zero q = go (q 0)
  where
    go : (b : Bool) → pick b true false ≡ b
    go true = refl
    go false = refl
alls-more (suc n) q = ap (λ (t : Bool). pick (q 0) t false) (alls-more n (λ i. q (suc i))) ∙ go (q 0)
  where
    go : (b : Bool) → pick b (pick (alls (tabulate n (λ i. q (suc i)))) (q (suc n)) false) false ≡ pick (pick b (alls (tabulate n (λ i. q (suc i)))) false) (q (suc n)) false
    go true = refl
    go false = refl

-- what is compared with a stripe that is decoded
pub decoded-holds : (z : Sizes) (xs boards starts area u : List ℕ) (place i s : ℕ) (before r : Bool) → u ≡ stripe_at z xs boards starts area s
    → r ≡ pick before (same (take (α z) (drop (place + s * α z) area)) (kept z xs u i)) false → r ≡ pick before (holds_stripe z xs boards starts area place i s) false
decoded-holds z xs boards starts area u place i s before r eu er =
    er ∙ ap (λ (v : List ℕ). pick before (same (take (α z) (drop (place + s * α z) area)) (kept z xs v i)) false) eu

-- one stripe, in an array of its length
pub one-stripe : (b s m : ℕ) (f : ℕ → List ℕ) (u : List ℕ) → length (f s) ≡ b → m ≡ b → u ≡ take m (join 1 (λ i. f (s + i))) → u ≡ f s
one-stripe b s m f u lf em e =
    e ∙ ap₂ (λ (n : ℕ) (l : List ℕ). take n l) em (append-nil (f (s + 0)) ∙ ap f (add-zero s)) ∙ take_all b (f s) (omega arith)

-- ---- one stripe compared

-- one that failed before is asked no more
pub failed : (b x : Bool) → b ≡ false → false ≡ pick b x false
failed b x e = rw e refl

pub goes-on : (b x : Bool) → b ≡ true → x ≡ pick b x false
goes-on b x e = rw e refl

module _ (w : ℕ) (l own : List ℕ) (lo : length own ≡ w) where
  -- what is worked out, lent again
  pub own_back : take (w - 0) (drop 0 (put_mid 0 (w - 0) l own)) ≡ own
  own_back = part-back w l own lo

  pub own-most : w ≤ length (put_mid 0 (w - 0) l own)
  own-most = omega (arith, length-append own (drop (w - 0) l), lo)

  pub compared : (at : ℕ) (area : List ℕ) (r : Bool) → r ≡ same (take (at + w - at) (drop at area)) (take (w - 0) (drop 0 (put_mid 0 (w - 0) l own))) → r ≡ same (take w (drop at area)) own
  compared at area r e =
      let k : at + w - at ≡ w = omega arith in
      e ∙ ap₂ same (ap (λ (m : ℕ). take m (drop at area)) k) own_back
