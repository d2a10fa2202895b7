-- Two lists of lines, the store's and the ledger's: alike line by line, but for those of SIZE and of DISAGREE, which "never hold" in the ledger.
-- Assumes nothing.
use mathlib.Core.Path.{◌≡◌, refl, sym, ◌∙◌, ap, subst}
use mathlib.Core.Bool.{Bool, true, false}
use mathlib.Core.Logic.{◌≢◌}
use mathlib.Core.List.{List, [], ◌∷◌}
use lib.Dec.{eqb}
use borrow.Author.Tests.{eqb-true, eqb-false}
use Rattle.lists.specs.Tests.{pick}
use Rattle.sizes.specs.Refusals.{Line, ◌when◌, applies_in, first, number}
use Rattle.sizes.specs.declared.Refusal.{Refusal}
use Rattle.sizes.specs.declared.Refusal.TheVariants.{Size, Disagree}
use Rattle.sizes.proofs.Laws.{numbers-differ}
use Rattle.sizes.proofs.Orders.{ahead, first-same}

-- a line is put into a list, behind lines of other refusals: `past refl here`
pub data Put (l : Line) : List Line → List Line → Type 0 where
  here : {m : List Line} → Put l m (l ∷ m)
  past : {y : Line} {m n : List Line} → eqb (number y.refusal) (number l.refusal) ≡ false → Put l m n → Put l (y ∷ m) (y ∷ n)

pub put-at : {l : Line} {m n : List Line} → Put l m n → (x : Refusal) → applies_in n x ≡ applies_in (l ∷ m) x
put-at here x = refl
put-at {l} (past {y} {m} {n} d p) x = go (eqb (number y.refusal) (number x)) (eqb (number l.refusal) (number x)) refl refl (put-at p x)
  where
    go : (t u : Bool) → eqb (number y.refusal) (number x) ≡ t → eqb (number l.refusal) (number x) ≡ u
        → applies_in n x ≡ pick u l.applies (applies_in m x)
        → pick t y.applies (applies_in n x) ≡ pick u l.applies (pick t y.applies (applies_in m x))
    go true true a b ih =
        absurd (eqb-false (number y.refusal) (number l.refusal) d
        (eqb-true (number y.refusal) (number x) a ∙ sym (eqb-true (number l.refusal) (number x) b)))
    go true false a b ih = refl
    go false u a b ih = ih

-- `size (e and f and disagree end)`: e and f say that the tests of two lines are the same; `further e (past refl here) (..)` where the second
-- list has its line further on
infixr 20 ◌and◌
pub data Alike : List Line → List Line → Type 0 where
  end : Alike [] []
  ◌and◌ : {y : Refusal} {t u : Bool} {l m : List Line} → t ≡ u → Alike l m → Alike ((y when t) ∷ l) ((y when u) ∷ m)
  further : {y : Refusal} {t u : Bool} {l m n : List Line} → t ≡ u → Put (y when u) m n → Alike l m → Alike ((y when t) ∷ l) n
  size : {t : Bool} {l m : List Line} → Alike l m → Alike ((Size when t) ∷ l) m
  disagree : {t : Bool} {l m : List Line} → Alike l m → Alike ((Disagree when t) ∷ l) m

-- a line of another refusal is passed over
besides : (y : Refusal) (t : Bool) (l : List Line) (x : Refusal) → x ≢ y → applies_in ((y when t) ∷ l) x ≡ applies_in l x
besides y t l x n = go (eqb (number y) (number x)) refl
  where
    go : (b : Bool) → eqb (number y) (number x) ≡ b → pick b t (applies_in l x) ≡ applies_in l x
    go true e = absurd (n (sym (numbers-differ y x (eqb-true _ _ e))))
    go false e = refl

pub alike_at : {l m : List Line} → Alike l m → (x : Refusal) → x ≢ Size → x ≢ Disagree → applies_in l x ≡ applies_in m x
alike_at end x s d = refl
alike_at (◌and◌ {y} {t} {u} {l} {m} e r) x s d = go (eqb (number y) (number x)) (alike_at r x s d)
  where
    go : (b : Bool) → applies_in l x ≡ applies_in m x → pick b t (applies_in l x) ≡ pick b u (applies_in m x)
    go true ih = e
    go false ih = ih
alike_at (further {y} {t} {u} {l} {m} {n} e p r) x s d = go (eqb (number y) (number x)) (alike_at r x s d) ∙ sym (put-at p x)
  where
    go : (b : Bool) → applies_in l x ≡ applies_in m x → pick b t (applies_in l x) ≡ pick b u (applies_in m x)
    go true ih = e
    go false ih = ih
alike_at (size {t} {l} r) x s d = besides Size t l x s ∙ alike_at r x s d
alike_at (disagree {t} {l} r) x s d = besides Disagree t l x d ∙ alike_at r x s d

-- any refusal is SIZE, DISAGREE or another
pub by_three : (P : Refusal → Type 0) → P Size → P Disagree → ((x : Refusal) → x ≢ Size → x ≢ Disagree → P x) → (x : Refusal) → P x
by_three P s d o x = go (eqb (number x) (number Size)) (eqb (number x) (number Disagree)) refl refl
  where
    go : (t u : Bool) → eqb (number x) (number Size) ≡ t → eqb (number x) (number Disagree) ≡ u → P x
    go true u p q = subst P (sym (numbers-differ x Size (eqb-true _ _ p))) s
    go false true p q = subst P (sym (numbers-differ x Disagree (eqb-true _ _ q))) d
    go false false p q = o x (λ e. eqb-false _ _ p (ap number e)) (λ e. eqb-false _ _ q (ap number e))

-- they give the same where SIZE is off in both, and DISAGREE too once those ahead of it are
pub alike-first : (order : List Refusal) {l m : List Line} → Alike l m → applies_in l Size ≡ applies_in m Size
    → (((y : Refusal) → ahead order y Disagree ≡ true → applies_in m y ≡ false) → applies_in l Disagree ≡ applies_in m Disagree)
    → first order l ≡ first order m
alike-first order {l} {m} a s d =
    first-same l m order (λ z _. by_three (λ x. ((y : Refusal) → ahead order y x ≡ true → applies_in m y ≡ false) → applies_in l x ≡ applies_in m x)
    (λ _. s) d (λ x p q _. alike_at a x p q) z)
