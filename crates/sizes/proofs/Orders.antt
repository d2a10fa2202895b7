-- Lines by their refusals' names: nothing here counts places in an order, so a refusal more leaves what cites it as it stands.
-- Assumes nothing.
use mathlib.Core.Path.{◌≡◌, refl, sym, ◌∙◌, ap, subst}
use mathlib.Core.Bool.{Bool, true, false}
use mathlib.Core.Logic.{◌⊎◌, inl, inr}
use mathlib.Core.List.{List, [], ◌∷◌}
use lib.Dec.{eqb}
use borrow.Author.Tests.{eqb-true, eqb-false, eq-eqb}
use Rattle.lists.specs.Lists.{All}
use Rattle.lists.specs.Tests.{pick}
use Rattle.lists.proofs.Alls.{all-imp}
use Rattle.lists.proofs.Tests.{true-false}
use Rattle.sizes.specs.Refusals.{Line, applies_in, first, number}
use Rattle.std.specs.Prelude.{Ok, Err}
use Rattle.sizes.specs.declared.Refusal.{Refusal}
use Rattle.sizes.proofs.Laws.{numbers-differ}
use Rattle.sizes.proofs.Lines.{Clear, first-clear, clear_first}

-- a fact, and those after it: `a also b also tt` is `(a, (b, tt))`
infixr 20 ◌also◌
abbrev pub ◌also◌ : {A B : Type 0} → A → B → A × B
◌also◌ a b = (a, b)

-- whether a refusal stands in an order
abbrev pub stands : List Refusal → Refusal → Bool
stands [] x = false
stands (y ∷ order) x = pick (eqb (number y) (number x)) true (stands order x)

-- whether y stands in it before x
abbrev pub ahead : List Refusal → Refusal → Refusal → Bool
ahead [] y x = false
ahead (z ∷ order) y x = pick (eqb (number z) (number x)) false (pick (eqb (number z) (number y)) true (ahead order y x))

-- what holds all along an order, of one refusal
pub all-at : (P : Refusal → Type 0) (order : List Refusal) (x : Refusal) → stands order x ≡ true → All P order → P x
all-at P [] x s h = absurd (true-false refl (sym s))
all-at P (y ∷ order) x s h = go (eqb (number y) (number x)) refl s (λ k. all-at P order x k h.1)
  where
    go : (t : Bool) → eqb (number y) (number x) ≡ t → pick t true (stands order x) ≡ true → (stands order x ≡ true → P x) → P x
    go true e k ih = subst P (numbers-differ y x (eqb-true _ _ e)) h.0
    go false e k ih = ih k

-- ---- a call that passes

-- no line of it holds: `let off = clear-off lines store_order h in .. off Down refl ..`
pub none-off : (lines : List Line) (order : List Refusal) → Clear lines order → (x : Refusal) → stands order x ≡ true → applies_in lines x ≡ false
none-off lines order h x s = all-at (λ y. applies_in lines y ≡ false) order x s h

pub clear-off : (lines : List Line) (order : List Refusal) → first order lines ≡ Ok tt → (x : Refusal) → stands order x ≡ true → applies_in lines x ≡ false
clear-off lines order h = none-off lines order (first-clear lines order h)

-- another passes with it where each line that is off in the one is off in the other
pub pass-too : (l m : List Line) (order : List Refusal) → ((x : Refusal) → applies_in l x ≡ false → applies_in m x ≡ false)
    → first order l ≡ Ok tt → first order m ≡ Ok tt
pass-too l m order h p =
    clear_first m order (all-imp (λ x. applies_in l x ≡ false) (λ x. applies_in m x ≡ false) h order (first-clear l order p))

-- it passes where no test of its lines holds
abbrev pub Off : List Line → Type 0
Off lines = All (λ l. l.applies ≡ false) lines

off-in : (lines : List Line) (x : Refusal) → Off lines → applies_in lines x ≡ false
off-in [] x h = refl
off-in (l ∷ lines) x h = go (eqb (number l.refusal) (number x)) (off-in lines x h.1)
  where
    go : (t : Bool) → applies_in lines x ≡ false → pick t l.applies (applies_in lines x) ≡ false
    go true k = h.0
    go false k = k

pub off-pass : (lines : List Line) (order : List Refusal) → Off lines → first order lines ≡ Ok tt
off-pass lines [] h = refl
off-pass lines (x ∷ order) h = rw (off-in lines x h) (off-pass lines order h)

-- ---- a call of which at most one line holds

module _ (lines : List Line) (x : Refusal) where
  abbrev pub Only : List Refusal → Type 0
  Only order = All (λ y. (y ≡ x) ⊎ (applies_in lines y ≡ false)) order

  -- of any other none holds: `let off = only-off lines Disagree store_order h in .. off Down refl refl ..`
  pub only-off : (order : List Refusal) → Only order → (y : Refusal) → stands order y ≡ true → eqb (number y) (number x) ≡ false → applies_in lines y ≡ false
  only-off order h y s n = go (all-at (λ z. (z ≡ x) ⊎ (applies_in lines z ≡ false)) order y s h)
    where
      go : (y ≡ x) ⊎ (applies_in lines y ≡ false) → applies_in lines y ≡ false
      go (inl e) = absurd (eqb-false (number y) (number x) n (ap number e))
      go (inr f) = f

  none_pass : (order : List Refusal) → applies_in lines x ≡ false → Only order → first order lines ≡ Ok tt
  none_pass [] f h = refl
  none_pass (y ∷ order) f h = go h.0 (none_pass order f h.1)
    where
      go : (y ≡ x) ⊎ (applies_in lines y ≡ false) → first order lines ≡ Ok tt → first (y ∷ order) lines ≡ Ok tt
      go (inl e) ih = let g : applies_in lines y ≡ false = ap (applies_in lines) e ∙ f in rw g ih
      go (inr g) ih = rw g ih

  pub only-first : (order : List Refusal) → stands order x ≡ true → Only order → first order lines ≡ pick (applies_in lines x) (Err x) (Ok tt)
  only-first [] s h = absurd (true-false refl (sym s))
  only-first (y ∷ order) s h = go (applies_in lines x) refl h.0 (λ k. only-first order k h.1)
    where
      here : (t : Bool) → eqb (number y) (number x) ≡ t → pick t true (stands order x) ≡ true → applies_in lines y ≡ false → applies_in lines x ≡ true → stands order x ≡ true
      here true q k g p = absurd (true-false p (ap (applies_in lines) (sym (numbers-differ y x (eqb-true _ _ q))) ∙ g))
      here false q k g p = k

      go : (t : Bool) → applies_in lines x ≡ t → (y ≡ x) ⊎ (applies_in lines y ≡ false)
          → (stands order x ≡ true → first order lines ≡ pick (applies_in lines x) (Err x) (Ok tt)) → first (y ∷ order) lines ≡ pick t (Err x) (Ok tt)
      go false p o ih = none_pass (y ∷ order) p h
      go true p (inl e) ih = let g : applies_in lines y ≡ true = ap (applies_in lines) e ∙ p in rw g (ap Err e)
      go true p (inr g) ih = rw g (ih (here (eqb (number y) (number x)) refl s g p) ∙ ap (λ (t : Bool). pick t (Err x) (Ok tt)) p)

-- ---- two lists of lines

-- they give the same where each refusal of the order is alike in both once those ahead of it are off
module _ (l m : List Line) where
  pub first-same : (order : List Refusal)
      → ((x : Refusal) → stands order x ≡ true → ((y : Refusal) → ahead order y x ≡ true → applies_in m y ≡ false) → applies_in l x ≡ applies_in m x)
      → first order l ≡ first order m
  first-same [] h = refl
  first-same (z ∷ order) h = go (applies_in l z) (applies_in m z) (h z (stands-first (eq-eqb (number z) (number z) refl)) none) refl (λ f. first-same order (later f))
    where
      stands-first : {t : Bool} → t ≡ true → pick t true (stands order z) ≡ true
      stands-first e = rw e refl

      stands-later : (t : Bool) (x : Refusal) → stands order x ≡ true → pick t true (stands order x) ≡ true
      stands-later true x s = refl
      stands-later false x s = s

      none : (y : Refusal) → ahead (z ∷ order) y z ≡ true → applies_in m y ≡ false
      none y e =
          let r : eqb (number z) (number z) ≡ true = eq-eqb (number z) (number z) refl in
          let k : false ≡ true = rw r at e in
          absurd (true-false refl (sym k))

      later : applies_in m z ≡ false → (x : Refusal) → stands order x ≡ true → ((y : Refusal) → ahead order y x ≡ true → applies_in m y ≡ false) → applies_in l x ≡ applies_in m x
      later f x s k = h x (stands-later (eqb (number z) (number x)) x s) (λ y e. by y (eqb (number z) (number x)) (eqb (number z) (number y)) refl e)
        where
          by : (y : Refusal) (t u : Bool) → eqb (number z) (number y) ≡ u → pick t false (pick u true (ahead order y x)) ≡ true → applies_in m y ≡ false
          by y true u q e = absurd (true-false refl (sym e))
          by y false true q e = ap (applies_in m) (sym (numbers-differ z y (eqb-true _ _ q))) ∙ f
          by y false false q e = k y e

      go : (t u : Bool) → t ≡ u → applies_in m z ≡ u → (applies_in m z ≡ false → first order l ≡ first order m)
          → pick t (Err z) (first order l) ≡ pick u (Err z) (first order m)
      go true true e q ih = refl
      go false false e q ih = ih q
      go true false e q ih = absurd (true-false refl e)
      go false true e q ih = absurd (true-false refl (sym e))
