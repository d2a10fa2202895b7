-- Laws of the line that is given first.
-- Assumes nothing.
use Prim.Native.Nat.{ℕ, ◌<◌}
use mathlib.Core.Path.{◌≡◌, refl, sym, ◌∙◌, ap}
use mathlib.Core.Bool.{Bool, true, false, not}
use mathlib.Core.List.{List, [], ◌∷◌, ◌++◌}
use mathlib.Core.Logic.{◌≢◌, ◌↔◌, ◌⊎◌, inl, inr}
use mathlib.Core.Option.{Option, some, none}
use lib.Dec.{ltb, eqb}
use borrow.Author.Tests.{ltb-true, lt-ltb, eqb-true, eqb-false, eq-eqb, ne_eqb}
use native.Mathlib.Omega.{arith}
use Rattle.lists.specs.Lists.{All}
use Rattle.lists.specs.Tests.{pick, alls, given}
use Rattle.lists.proofs.Tests.{true-false, hold-alls, alls-hold, is_false}
use Rattle.sizes.specs.Laws.{First}
use Rattle.sizes.specs.Refusals.{Line, applies_in, first, Check}
use Rattle.std.specs.Prelude.{Ok, Err}
use Rattle.sizes.specs.declared.Refusal.{Refusal}

pub refuse-pass : {x : Refusal} {c : Check} → c ≡ Err x → c ≡ Ok tt → ⊥
refuse-pass p q = let z : ◌≡◌ {A = ℕ} 0 1 = cc in omega arith

pick-pass : (b : Bool) (x : Refusal) (c : Check) → pick b (Err x) c ≡ Ok tt → (b ≡ false) × (c ≡ Ok tt)
pick-pass true x c h = absurd (refuse-pass refl h)
pick-pass false x c h = (refl, h)

module _ (lines : List Line) where
  -- no line holds
  abbrev pub Clear : List Refusal → Type 0
  Clear order = All (λ y. applies_in lines y ≡ false) order

  pub first-clear : (order : List Refusal) → first order lines ≡ Ok tt → Clear order
  first-clear [] h = tt
  first-clear (x ∷ order) h = let p = pick-pass (applies_in lines x) x (first order lines) h in (p.0, first-clear order p.1)

  pub clear_first : (order : List Refusal) → Clear order → first order lines ≡ Ok tt
  clear_first [] h = refl
  clear_first (x ∷ order) h = rw h.0 (clear_first order h.1)

  pub first-refuse : (order : List Refusal) (x : Refusal) → first order lines ≡ Err x → First order lines x
  first-refuse [] x h = absurd (refuse-pass h refl)
  first-refuse (y ∷ order) x h = go (applies_in lines y) refl h (first-refuse order x)
    where
      go : (t : Bool) → applies_in lines y ≡ t → pick t (Err y) (first order lines) ≡ Err x → (first order lines ≡ Err x → First order lines x)
          → First (y ∷ order) lines x
      go true e k ih =
          let q : y ≡ x = cc in
          record { before = []; after = order; place = ap (λ (a : Refusal). a ∷ order) q; none_before = tt; applies = ap (applies_in lines) (sym q) ∙ e }
      go false e k ih =
          let r = ih k in
          record {
            before = y ∷ r.before;
            after = r.after;
            place = ap (λ (l : List Refusal). y ∷ l) r.place;
            none_before = (e, r.none_before);
            applies = r.applies;
          }

  pub refuse-first : (order : List Refusal) (x : Refusal) → First order lines x → first order lines ≡ Err x
  refuse-first order x f = ap (λ (o : List Refusal). first o lines) f.place ∙ go f.before f.none_before
    where
      go : (before : List Refusal) → Clear before → first (before ++ (x ∷ f.after)) lines ≡ Err x
      go [] h = rw f.applies refl
      go (y ∷ before) h = rw h.0 (go before h.1)

  -- the first that holds, or none
  pub one-or-none : (order : List Refusal) → ((x : Refusal) × First order lines x) ⊎ Clear order
  one-or-none order = go (first order lines) refl
    where
      go : (c : Check) → first order lines ≡ c → ((x : Refusal) × First order lines x) ⊎ Clear order
      go (Ok tt) e = inr (first-clear order e)
      go (Err x) e = inl (x, first-refuse order x e)

-- ---- what a line's test says

pub says-not : (b : Bool) → (not b ≡ true) ↔ (b ≡ false)
says-not true = ((λ e. absurd (true-false e refl)), (λ e. absurd (true-false refl e)))
says-not false = ((λ e. refl), (λ e. refl))

pub says-itself : (b : Bool) → (b ≡ true) ↔ (b ≡ true)
says-itself b = ((λ e. e), (λ e. e))

pub says_less : (a b : ℕ) → (ltb a b ≡ true) ↔ (a < b)
says_less a b = (ltb-true a b, lt-ltb a b)

pub says-differ : (a b : ℕ) → (not (eqb a b) ≡ true) ↔ (a ≢ b)
says-differ a b = ((λ e. eqb-false a b ((says-not (eqb a b)).0 e)), (λ h. (says-not (eqb a b)).1 (ne_eqb a b h)))

pub says-one : (a b : ℕ) → (not (alls (eqb a b ∷ [])) ≡ true) ↔ (a ≢ b)
says-one a b = (
  (λ e q. true-false (hold-alls (eqb a b ∷ []) (eq-eqb a b q, tt)) ((says-not (alls (eqb a b ∷ []))).0 e)),
  (λ h. (says-not (alls (eqb a b ∷ []))).1 (is_false (alls (eqb a b ∷ [])) (λ t. h (eqb-true a b (alls-hold (eqb a b ∷ []) t).0)))),
)

pub says_two : (a b c d : ℕ) → (not (alls (eqb a b ∷ eqb c d ∷ [])) ≡ true) ↔ ((a ≡ b) × (c ≡ d) → ⊥)
says_two a b c d = (
  (λ e q. true-false (hold-alls (eqb a b ∷ eqb c d ∷ []) (eq-eqb a b q.0, (eq-eqb c d q.1, tt))) ((says-not (alls (eqb a b ∷ eqb c d ∷ []))).0 e)),
  (λ h. (says-not (alls (eqb a b ∷ eqb c d ∷ []))).1 (is_false (alls (eqb a b ∷ eqb c d ∷ [])) (λ t.
      let p = alls-hold (eqb a b ∷ eqb c d ∷ []) t in h (eqb-true a b p.0, eqb-true c d p.1.0)))),
)

pub says-no-file : (o : Option (List ℕ)) → (not (given o) ≡ true) ↔ (o ≡ none)
says-no-file none = ((λ e. refl), (λ e. refl))
says-no-file (some f) = ((λ e. absurd (true-false e refl)), (λ e. let z : ◌≡◌ {A = ℕ} 0 1 = cc in absurd (omega arith)))
