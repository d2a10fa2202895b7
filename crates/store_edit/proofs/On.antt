-- The list of boards in service: one board more, taken or left.
-- Assumes nothing.
use mathlib.Core.Path.{◌≡◌, refl, sym, ap, ◌∙◌}
use mathlib.Core.Bool.{Bool, true, false}
use mathlib.Core.List.{List, [], ◌∷◌, ◌++◌, append-nil}
use Prim.Native.Nat.{ℕ, zero, suc, ◌+◌, ◌-◌, ◌<◌, ◌≤◌}
use native.Mathlib.Nat.{sub-zero}
use native.Mathlib.Numerals.{add-one}
use native.Mathlib.Omega.{arith}
use lib.ListN.{length, get_or, take, drop, set}
use Rattle.lists.specs.Tests.{pick, below, different}
use Rattle.lists.proofs.Pieces.{join-suc}
use Rattle.sizes.specs.declared.Sizes.{Sizes}
use Rattle.store_lines.specs.Steps.{record_of}
use Rattle.edit_laws.specs.Steps.{serving_of}
use Rattle.edit_laws.proofs.Serving.{serving-below, serving-different}

pub one_more : (m : ℕ) (t : Bool) → t ≡ true → m + 1 ≡ pick t (m + 1) m
one_more m t e = sym (ap (λ (b : Bool). pick b (m + 1) m) e)

pub no_more : (m : ℕ) (t : Bool) → t ≡ false → m ≡ pick t (m + 1) m
no_more m t e = sym (ap (λ (b : Bool). pick b (m + 1) m) e)

pub few : (m r i : ℕ) (t : Bool) → m ≤ i → r ≡ pick t (m + 1) m → r ≤ i + 1
few m r i true h e = omega arith
few m r i false h e = omega arith

take-set : (l : List ℕ) (m v : ℕ) → take m (set l m v) ≡ take m l
take-set [] m v = refl
take-set (x ∷ l) zero v = refl
take-set (x ∷ l) (suc m) v = ap {B = List ℕ} (λ t. x ∷ t) (take-set l m v)

take_last : (l : List ℕ) (m v : ℕ) → m < length l → take (suc m) (set l m v) ≡ take m l ++ (v ∷ [])
take_last [] m v h = absurd (omega arith)
take_last (x ∷ l) zero v h = refl
take_last (x ∷ l) (suc m) v h = ap {B = List ℕ} (λ t. x ∷ t) (take_last l m v (omega arith))

pub turn : (out : List ℕ) (marks : List Bool) (m i r : ℕ) → m < length out → take m out ≡ serving_of i marks → r ≡ pick (get_or marks i false) (m + 1) m
    → take r (set out m i) ≡ serving_of (i + 1) marks
turn out marks m i r h e er = go (get_or marks i false) er ∙ sym (ap (λ (n : ℕ). serving_of n marks) (add-one i) ∙ join-suc i (λ j. pick (get_or marks j false) (j ∷ []) []))
  where
    go : (t : Bool) → r ≡ pick t (m + 1) m → take r (set out m i) ≡ serving_of i marks ++ pick t (i ∷ []) []
    go true k = ap (λ (n : ℕ). take n (set out m i)) (k ∙ add-one m) ∙ take_last out m i h ∙ ap (λ (l : List ℕ). l ++ (i ∷ [])) e
    go false k = ap (λ (n : ℕ). take n (set out m i)) k ∙ take-set out m i ∙ e ∙ sym (append-nil (serving_of i marks))

-- the list as it is lent
module _ (z : Sizes) (marks : List Bool) (m : ℕ) (out : List ℕ) (e : take m out ≡ serving_of z.n marks) where
  pub lent_is : take (m - 0) (drop 0 out) ≡ serving_of z.n marks
  lent_is = ap (λ (n : ℕ). take n out) (sub-zero m) ∙ e

  pub lent_below : below z.n (take (m - 0) (drop 0 out)) ≡ true
  lent_below = ap (below z.n) lent_is ∙ serving-below (record_of z [] 0 true 0 marks)

  pub lent-different : different (take (m - 0) (drop 0 out)) ≡ true
  lent-different = ap different lent_is ∙ serving-different (record_of z [] 0 true 0 marks)
