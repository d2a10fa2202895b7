-- How far the digits of a number go from a place of a text: what each turn of a loop gives, and the first digit.
-- Assumes nothing.
use mathlib.Core.Path.{◌≡◌, refl, sym, ap, ◌∙◌}
use mathlib.Core.Bool.{Bool, true, false}
use mathlib.Core.Logic.{◌≢◌}
use mathlib.Core.List.{List, [], ◌∷◌}
use Prim.Native.Nat.{ℕ, suc, ◌+◌, ◌*◌, ◌-◌, ◌≤◌, ◌<◌}
use native.Mathlib.Omega.{arith}
use lib.Dec.{leb, eqb}
use lib.ListN.{length, get_or, drop}
use borrow.Author.Tests.{eq-eqb, ne_eqb, leb-true}
use Rattle.lists.specs.Tests.{pick, alls}
use Rattle.lists.proofs.Tests.{alls-hold}
use Rattle.number_lines.specs.Lines.{digit}
use Rattle.number_lines.proofs.Picks.{no}
use Rattle.prefix_spec.specs.Prefix.{on, name_on, opens, digits_on, lone_on, number_on}
use Rattle.prefix_spec.proofs.Numbers.{opens-yes, open-low}
use Rattle.prefix_lines.specs.declared.Digit.{Digit}
use Rattle.prefix_lines.specs.declared.Digit.TheVariants.{More, End, Stop}
use Rattle.prefix_lines.specs.Steps.{digit_next}
use Rattle.prefix_steps.proofs.Steps.{at_byte, past}

-- ---- digits

more-not-end : {A : Type 0} {x : ℕ} → ◌≡◌ {A = Digit} End (More x) → A
more-not-end e = let z : ◌≡◌ {A = ℕ} 0 1 = cc in absurd (omega arith)

more-not-stop : {A : Type 0} {x : ℕ} → ◌≡◌ {A = Digit} Stop (More x) → A
more-not-stop e = let z : ◌≡◌ {A = ℕ} 0 1 = cc in absurd (omega arith)

end-not-stop : {A : Type 0} → ◌≡◌ {A = Digit} Stop End → A
end-not-stop e = let z : ◌≡◌ {A = ℕ} 0 1 = cc in absurd (omega arith)

more-is : {x y : ℕ} → ◌≡◌ {A = Digit} (More x) (More y) → x ≡ y
more-is e = cc

module _ (lo hi v b : ℕ) where
  abbrev next : ℕ
  next = 10 * v + (b - 0x30)

  abbrev goes_on : Bool
  goes_on = alls (digit b ∷ opens lo hi next ∷ [])

  -- what the next byte is told to be
  pub told_more : (x : ℕ) → digit_next lo hi v b ≡ More x → (eqb b 0x0A ≡ false) × (goes_on ≡ true) × (x ≡ next)
  told_more x e = by (eqb b 0x0A) refl (leb lo v) goes_on refl e
    where
      by : (t : Bool) → eqb b 0x0A ≡ t → (l u : Bool) → goes_on ≡ u → pick t (pick l End Stop) (pick u (More next) Stop) ≡ More x
          → (eqb b 0x0A ≡ false) × (goes_on ≡ true) × (x ≡ next)
      by true h true u g e = more-not-end e
      by true h false u g e = more-not-stop e
      by false h l true g e = (h, g, sym (more-is e))
      by false h l false g e = more-not-stop e

  pub told-end : digit_next lo hi v b ≡ End → (eqb b 0x0A ≡ true) × (leb lo v ≡ true)
  told-end e = by (eqb b 0x0A) refl (leb lo v) refl goes_on e
    where
      by : (t : Bool) → eqb b 0x0A ≡ t → (l : Bool) → leb lo v ≡ l → (u : Bool) → pick t (pick l End Stop) (pick u (More next) Stop) ≡ End
          → (eqb b 0x0A ≡ true) × (leb lo v ≡ true)
      by true h true g u e = (h, g)
      by true h false g u e = end-not-stop e
      by false h l g true e = more-not-end (sym e)
      by false h l g false e = end-not-stop e

  pub told-stop : digit_next lo hi v b ≡ Stop → (input : List ℕ) (go : ℕ → List ℕ → ℕ) → digits_on lo hi v (b ∷ input) go ≡ 0
  told-stop e input go = by (eqb b 0x0A) (leb lo v) goes_on e
    where
      by : (t l u : Bool) → pick t (pick l End Stop) (pick u (More next) Stop) ≡ Stop
          → pick t (on l (go v input)) (on u (digits_on lo hi next input go)) ≡ 0
      by true true u e = end-not-stop (sym e)
      by true false u e = refl
      by false l true e = more-not-stop (sym e)
      by false l false e = refl

module _ (text : List ℕ) (lo hi v i : ℕ) (inside : i < length text) where
  here : (go : ℕ → List ℕ → ℕ) → digits_on lo hi v (drop i text) go ≡ digits_on lo hi v (get_or text i 0 ∷ drop (i + 1) text) go
  here go = ap (λ (l : List ℕ). digits_on lo hi v l go) (at_byte text i inside)

  pub digits_more : (x : ℕ) → digit_next lo hi v (get_or text i 0) ≡ More x
      → ((go : ℕ → List ℕ → ℕ) → i + 1 + digits_on lo hi x (drop (i + 1) text) go ≡ i + digits_on lo hi v (drop i text) go) × (x ≤ hi)
  digits_more x e =
      let t = told_more lo hi v (get_or text i 0) x e in (
        λ go.
            let q : digits_on lo hi v (drop i text) go ≡ suc (digits_on lo hi x (drop (i + 1) text) go) =
            here go ∙ (rw (t.0, t.1)) ∙ ap (λ (y : ℕ). suc (digits_on lo hi y (drop (i + 1) text) go)) (sym t.2) in
            omega (arith, q),
        rw t.2 (open-low lo hi _ (opens-yes lo hi _ (alls-hold (digit (get_or text i 0) ∷ opens lo hi (10 * v + (get_or text i 0 - 0x30)) ∷ []) t.1).1.0)),
      )

  pub digits-end : digit_next lo hi v (get_or text i 0) ≡ End
      → ((go : ℕ → List ℕ → ℕ) → i + digits_on lo hi v (drop i text) go ≡ i + 1 + go v (drop (i + 1) text)) × (lo ≤ v)
  digits-end e =
      let t = told-end lo hi v (get_or text i 0) e in (
        λ go.
            let q : digits_on lo hi v (drop i text) go ≡ suc (go v (drop (i + 1) text)) = here go ∙ (rw (t.0, t.1)) in
            omega (arith, q),
        leb-true lo v t.1,
      )

  pub digits-stop : digit_next lo hi v (get_or text i 0) ≡ Stop → (go : ℕ → List ℕ → ℕ) → i + digits_on lo hi v (drop i text) go ≡ i
  digits-stop e go = let q = here go ∙ told-stop lo hi v (get_or text i 0) e (drop (i + 1) text) go in omega (arith, q)

pub digits-past : (text : List ℕ) (lo hi v i : ℕ) → length text ≤ i → (go : ℕ → List ℕ → ℕ) → i + digits_on lo hi v (drop i text) go ≡ i
digits-past text lo hi v i h go = let q : digits_on lo hi v (drop i text) go ≡ 0 = ap (λ (l : List ℕ). digits_on lo hi v l go) (past text i h) in omega (arith, q)

-- ---- the first digit

lone-name : (input : List ℕ) (go : ℕ → List ℕ → ℕ) → lone_on input go ≡ name_on (0x0A ∷ []) input (go 0)
lone-name [] go = refl
lone-name (b ∷ input) go = refl

module _ (text : List ℕ) (lo hi i : ℕ) (go : ℕ → List ℕ → ℕ) where
  pub number_past : length text ≤ i → i + number_on lo hi (drop i text) go ≡ i
  number_past h = let q : number_on lo hi (drop i text) go ≡ 0 = ap (λ (l : List ℕ). number_on lo hi l go) (past text i h) in omega (arith, q)

  module _ (inside : i < length text) where
    first : number_on lo hi (drop i text) go ≡ number_on lo hi (get_or text i 0 ∷ drop (i + 1) text) go
    first = ap (λ (l : List ℕ). number_on lo hi l go) (at_byte text i inside)

    pub number-no-zero : get_or text i 0 ≡ 0x30 → lo ≢ 0 → i + number_on lo hi (drop i text) go ≡ i
    number-no-zero e n =
        let q : number_on lo hi (drop i text) go ≡ 0 = first ∙ (rw (eq-eqb (get_or text i 0) 0x30 e, ne_eqb lo 0 n)) in
        omega (arith, q)

    pub number-zero : get_or text i 0 ≡ 0x30 → lo ≡ 0 → i + number_on lo hi (drop i text) go ≡ i + 1 + name_on (0x0A ∷ []) (drop (i + 1) text) (go 0)
    number-zero e n =
        let q : number_on lo hi (drop i text) go ≡ suc (lone_on (drop (i + 1) text) go) = first ∙ (rw (eq-eqb (get_or text i 0) 0x30 e, eq-eqb lo 0 n)) in
        let r = lone-name (drop (i + 1) text) go in
        omega (arith, q, r)

    module _ (other : get_or text i 0 ≢ 0x30) where
      pub number-other : digit (get_or text i 0) ≡ false → i + number_on lo hi (drop i text) go ≡ i
      number-other d =
          let q : number_on lo hi (drop i text) go ≡ 0 = first ∙ (rw (ne_eqb (get_or text i 0) 0x30 other, d)) in
          omega (arith, q)

      pub number-shut : opens lo hi (get_or text i 0 - 0x30) ≡ false → i + number_on lo hi (drop i text) go ≡ i
      number-shut o =
          let q : number_on lo hi (drop i text) go ≡ 0 = first ∙ no (eqb (get_or text i 0) 0x30) _ _ (ne_eqb (get_or text i 0) 0x30 other) ∙ shut (digit (get_or text i 0)) in
          omega (arith, q)
        where
          shut : (t : Bool) → on (alls (t ∷ opens lo hi (get_or text i 0 - 0x30) ∷ [])) (digits_on lo hi (get_or text i 0 - 0x30) (drop (i + 1) text) go) ≡ 0
          shut true = rw o
          shut false = refl

      pub number-digit : digit (get_or text i 0) ≡ true → opens lo hi (get_or text i 0 - 0x30) ≡ true
          → i + number_on lo hi (drop i text) go ≡ i + 1 + digits_on lo hi (get_or text i 0 - 0x30) (drop (i + 1) text) go
      number-digit d o =
          let q : number_on lo hi (drop i text) go ≡ suc (digits_on lo hi (get_or text i 0 - 0x30) (drop (i + 1) text) go) =
          first ∙ (rw (ne_eqb (get_or text i 0) 0x30 other, d, o)) in
          omega (arith, q)
