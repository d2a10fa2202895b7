-- The fresh boards other than the a-th are the list without it.
-- Assumes nothing.
use Prim.Native.Nat.{ℕ, zero, suc, ◌<◌}
use mathlib.Core.Path.{◌≡◌, refl, sym, ap, ap₂, ◌∙◌}
use mathlib.Core.Bool.{Bool, true, false}
use mathlib.Core.List.{List, [], ◌∷◌, ◌++◌}
use native.Mathlib.Decide.{dec_lt}
use native.Mathlib.Omega.{arith}
use lib.Dec.{ltb, eqb}
use lib.ListN.{length, get_or}
use borrow.Author.Tests.{ne_eqb, eq-eqb, lt-ltb, le-ltb}
use Rattle.lists.specs.Tests.{pick, among, different}
use Rattle.lists.specs.Lists.{tabulate, without}
use Rattle.lists.proofs.Boards.{different-cons, get_d-among, without-none}
use Rattle.lists.proofs.Pieces.{tabulate-get_d, tabulate-ext}
use Rattle.lists.proofs.Tests.{true-false}
use Rattle.repair_rows.specs.Steps.{past}

past-zero : (u : ℕ) → suc u ≡ past 0 u
past-zero u = ap (λ (t : Bool). pick t u (suc u)) (sym (le-ltb u 0 (omega arith)))

same-order : (u a : ℕ) → ltb u a ≡ ltb (suc u) (suc a)
same-order u a = go (dec_lt u a)
  where
    go : Dec (u < a) → ltb u a ≡ ltb (suc u) (suc a)
    go (yes h) = lt-ltb u a h ∙ sym (lt-ltb (suc u) (suc a) (omega arith))
    go (no h) = le-ltb u a (omega arith) ∙ sym (le-ltb (suc u) (suc a) (omega arith))

past-suc : (a u : ℕ) → suc (past a u) ≡ past (suc a) (suc u)
past-suc a u = go (ltb u a) ∙ ap (λ (t : Bool). pick t (suc u) (suc (suc u))) (same-order u a)
  where
    go : (t : Bool) → suc (pick t u (suc u)) ≡ pick t (suc u) (suc (suc u))
    go true = refl
    go false = refl

past_first : (a : ℕ) → 0 ≡ past (suc a) 0
past_first a = ap (λ (t : Bool). pick t 0 1) (sym (lt-ltb 0 (suc a) (omega arith)))

pub without-place : (l : List ℕ) (a n : ℕ) → different l ≡ true → a < length l → length l ≡ suc n → without (get_or l a 0) l ≡ tabulate n (λ u. get_or l (past a u) 0)
without-place [] a n d h e = absurd (omega arith)
without-place (x ∷ l) zero n d h e =
    ap (λ (t : Bool). pick t [] (x ∷ []) ++ without x l) (eq-eqb x x refl)
    ∙ without-none x l (different-cons x l d).0
    ∙ sym (tabulate-get_d n l 0 (omega arith))
    ∙ tabulate-ext n _ _ (λ u k. ap (λ (m : ℕ). get_or (x ∷ l) m 0) (past-zero u))
without-place (x ∷ l) (suc a) zero d h e = absurd (omega arith)
without-place (x ∷ l) (suc a) (suc n) d h e =
    let i : ℕ = get_or l a 0 in
    let p : among l i ≡ true = get_d-among l a (omega arith) in
    let o : eqb x i ≡ false = ne_eqb x i (λ q. true-false p (ap (among l) (sym q) ∙ (different-cons x l d).0)) in
    ap (λ (t : Bool). pick t [] (x ∷ []) ++ without i l) o
    ∙ ap₂ {C = List ℕ} (λ y r. y ∷ r) (ap (λ (m : ℕ). get_or (x ∷ l) m 0) (past_first a))
    (without-place l a n (different-cons x l d).1 (omega arith) (omega arith)
    ∙ tabulate-ext n _ _ (λ u k. ap (λ (m : ℕ). get_or (x ∷ l) m 0) (past-suc a u)))
