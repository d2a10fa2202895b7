-- Sizes and refusals have the laws of specs/Laws.antt.
-- Assumes nothing.
use mathlib.Core.Path.{◌≡◌, refl, sym, ◌∙◌, ap}
use mathlib.Core.Bool.{Bool, true, false, not}
use mathlib.Core.Logic.{◌≢◌}
use mathlib.Core.List.{List, [], ◌∷◌, ◌++◌}
use Prim.Native.Nat.{ℕ, ◌≤◌, ◌<◌}
use native.Mathlib.Omega.{arith}
use lib.Dec.{leb, ltb, eqb}
use borrow.Author.Tests.{eq-eqb, ne_eqb, leb-true, ltb-true, eqb-false, not-true}
use Rattle.lists.specs.Lists.{All}
use Rattle.lists.specs.Tests.{pick, every}
use Rattle.lists.proofs.Tests.{both}
use Rattle.sizes.specs.declared.Refusal.{Refusal}
use Rattle.sizes.specs.declared.Refusal.TheVariants.{Size, Area, Long, Count, Node, Repeat, Short, Empty, Down, Disagree, Text, Mixed, Serving, Range, Busy, Idle}
use Rattle.std.specs.Prelude.{Ok, Err}
use Rattle.sizes.specs.Refusals.{number, Said, said, Line, applies_in, Answer}
use Rattle.sizes.specs.Laws.{SizesAndRefusals}
use Rattle.sizes.proofs.Legal.{legal-facts, legal-yes, stripes-enough, stripes-least, stripes-none, share-bytes, stripe-bytes, B-most}
use Rattle.sizes.proofs.Lines.{first-clear, clear_first, first-refuse, refuse-first}

-- all refusals: what is asked of each is asked once, over this list
abbrev pub all : List Refusal
all = Size ∷ Area ∷ Long ∷ Count ∷ Node ∷ Repeat ∷ Short ∷ Empty ∷ Down ∷ Disagree ∷ Text ∷ Mixed ∷ Serving ∷ Range ∷ Busy ∷ Idle ∷ []

-- the refusal of this number
named : List Refusal → ℕ → Refusal
named [] n = Size
named (x ∷ xs) n = pick (eqb (number x) n) x (named xs n)

named-number : (x : Refusal) → named all (number x) ≡ x
unfolding named
named-number Size = refl
named-number Area = refl
named-number Long = refl
named-number Count = refl
named-number Node = refl
named-number Repeat = refl
named-number Short = refl
named-number Empty = refl
named-number Down = refl
named-number Disagree = refl
named-number Text = refl
named-number Mixed = refl
named-number Serving = refl
named-number Range = refl
named-number Busy = refl
named-number Idle = refl

pub numbers-differ : (x y : Refusal) → number x ≡ number y → x ≡ y
numbers-differ x y e = sym (named-number x) ∙ ap (named all) e ∙ named-number y

-- a test that all of them pass, each passes
pub each-passes : (p : Refusal → Bool) → every p all ≡ true → (x : Refusal) → p x ≡ true
unfolding named
each-passes p h x = ap p (sym (named-number x)) ∙ passes all (both _ _ h).0 h (number x)
  where
    passes : (xs : List Refusal) → p Size ≡ true → every p xs ≡ true → (n : ℕ) → p (named xs n) ≡ true
    passes [] s h n = s
    passes (x ∷ xs) s h n = go (eqb (number x) n) (both (p x) (every p xs) h).0 (passes xs s (both (p x) (every p xs) h).1 n)
      where
        go : (t : Bool) → p x ≡ true → p (named xs n) ≡ true → p (pick t x (named xs n)) ≡ true
        go true e ih = e
        go false e ih = ih

pub number-low : (x : Refusal) → 1 ≤ number x
number-low x = leb-true 1 (number x) (each-passes (λ y. leb 1 (number y)) refl x)

pub number-high : (x : Refusal) → number x < 256
number-high x = ltb-true (number x) 256 (each-passes (λ y. ltb (number y) 256) refl x)

pub never-eleven : (x : Refusal) → number x ≢ 11
never-eleven x = eqb-false (number x) 11 (not-true (eqb (number x) 11) (each-passes (λ y. not (eqb (number y) 11)) refl x))

answers-differ : (a b : Answer) → said a ≡ said b → a ≡ b
answers-differ (Ok v) (Ok w) e = ap Ok (ap (λ (s : Said). s.reported) e)
answers-differ (Ok v) (Err y) e = absurd (omega (arith, number-low y, ap (λ (s : Said). s.refusal) e))
answers-differ (Err x) (Ok w) e = absurd (omega (arith, number-low x, ap (λ (s : Said). s.refusal) e))
answers-differ (Err x) (Err y) e = ap Err (numbers-differ x y (ap (λ (s : Said). s.refusal) e))

applies-at : (before after : List Line) (l : Line) → All (λ m. m.refusal ≢ l.refusal) before → applies_in (before ++ (l ∷ after)) l.refusal ≡ l.applies
applies-at [] after l h = rw (eq-eqb (number l.refusal) (number l.refusal) refl) refl
applies-at (m ∷ before) after l h =
    rw (ne_eqb (number m.refusal) (number l.refusal) (λ e. h.0 (numbers-differ m.refusal l.refusal e))) (applies-at before after l h.1)

applies-none : (lines : List Line) (x : Refusal) → All (λ m. m.refusal ≢ x) lines → applies_in lines x ≡ false
applies-none [] x h = refl
applies-none (m ∷ lines) x h =
    rw (ne_eqb (number m.refusal) (number x) (λ e. h.0 (numbers-differ m.refusal x e))) (applies-none lines x h.1)

pub laws : SizesAndRefusals
laws = record {
  legal-is = λ z. (
    (λ h. let f = legal-facts z h in (f.some_read, f.read-helpers, f.some-fresh, f.enough, f.few)),
    (λ p. legal-yes z (record { some_read = p.0; read-helpers = p.1; some-fresh = p.2; enough = p.3; few = p.4 })),
  );
  limits = (refl, refl);
  share-bytes = λ z h. share-bytes z (legal-facts z h);
  stripe-bytes = λ z h. stripe-bytes z (legal-facts z h);
  grid-most = λ z h. let f = legal-facts z h in (omega (arith, f.some-fresh, f.enough, f.few), omega (arith, f.enough, f.few), B-most z f);
  stripes-enough = λ z h. stripes-enough z (legal-facts z h);
  stripes-least = λ z h. stripes-least z (legal-facts z h);
  stripes-none = λ z h. stripes-none z (legal-facts z h);
  numbers-are = refl;
  done-says = λ v. refl;
  refused_says = λ x. refl;
  numbers-differ = numbers-differ;
  never-eleven = never-eleven;
  answers-differ = answers-differ;
  line-is = λ x b. (refl, refl);
  applies-at = applies-at;
  applies-none = applies-none;
  store-order = refl;
  board-order = refl;
  refuse-is = λ order lines x. (first-refuse lines order x, refuse-first lines order x);
  pass-is = λ order lines. (first-clear lines order, clear_first lines order);
}
