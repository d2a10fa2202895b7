-- How far lines go from a place of a text: what each turn of a loop gives, and lines one after another.
-- Assumes nothing.
use mathlib.Core.Path.{◌≡◌, sym, ap, ap₂, ◌∙◌}
use mathlib.Core.Bool.{Bool, true, false}
use mathlib.Core.Logic.{◌≢◌}
use mathlib.Core.List.{List, [], ◌∷◌}
use Prim.Native.Nat.{ℕ, suc, ◌+◌, ◌≤◌, ◌<◌}
use native.Mathlib.Numerals.{add-one}
use native.Mathlib.Omega.{arith}
use lib.ListN.{length, get_or, drop, drop_of_length-le}
use lib.Seq.{drop-cons}
use borrow.Author.Tests.{eq-eqb, ne_eqb}
use Rattle.lists.specs.Tests.{pick}
use Rattle.lists.proofs.Tests.{true-false}
use Rattle.number_lines.proofs.Picks.{yes, no}
use Rattle.prefix_spec.specs.Prefix.{name_on}
use Rattle.prefix_steps.specs.declared.Went.{Went}
use Rattle.prefix_steps.specs.Steps.{stopped, Goes}

-- ---- lines one after another

module _ (text : List ℕ) (at : ℕ) (count : (ℕ → List ℕ → ℕ) → ℕ) where
  pub goes-stop : (w : Went) (p : ℕ) → w ≡ stopped p → ((go : ℕ → List ℕ → ℕ) → at + count go ≡ p) → Goes text at count w
  goes-stop w p e h go = h go ∙ sym (ap (λ (w : Went). pick w.ok (w.at + go w.value (drop w.at text)) w.at) e)

  -- what stops here stops, whatever was to follow
  pub goes-no : (w : Went) → Goes text at count w → w.ok ≡ false → (f : (ℕ → List ℕ → ℕ) → ℕ → List ℕ → ℕ) → Goes text at (λ go. count (f go)) w
  goes-no w h e f go = h (f go) ∙ no w.ok _ w.at e ∙ sym (no w.ok _ w.at e)

  -- what goes through here goes on from there
  pub goes-yes : (w v : Went) → Goes text at count w → w.ok ≡ true → (f : (ℕ → List ℕ → ℕ) → ℕ → List ℕ → ℕ)
      → Goes text w.at (λ go. f go w.value (drop w.at text)) v → Goes text at (λ go. count (f go)) v
  goes-yes w v h e f k go = h (f go) ∙ yes w.ok _ w.at e ∙ k go

-- where nothing counts behind it, the place is the end
pub place : (text : List ℕ) (at : ℕ) (count : (ℕ → List ℕ → ℕ) → ℕ) (w : Went) → Goes text at count w → w.at ≡ at + count (λ v rest. 0)
place text at count w h = by w.ok (h (λ v rest. 0))
  where
    by : (t : Bool) → at + count (λ v rest. 0) ≡ pick t (w.at + 0) w.at → w.at ≡ at + count (λ v rest. 0)
    by true e = omega (arith, e)
    by false e = omega (arith, e)

-- what follows, where the line went through, and where it did not
pub goes-from : (text : List ℕ) (at : ℕ) (count : (ℕ → List ℕ → ℕ) → ℕ) (w : Went) → Goes text at count w → w.ok ≡ true → (go : ℕ → List ℕ → ℕ)
    → w.at + go w.value (drop w.at text) ≡ at + count go
goes-from text at count w h e go = sym (h go ∙ yes w.ok _ w.at e)

pub goes_end : (text : List ℕ) (at : ℕ) (count : (ℕ → List ℕ → ℕ) → ℕ) (w : Went)
    → Goes text at count w → w.ok ≡ false → (go : ℕ → List ℕ → ℕ) → w.at ≡ at + count go
goes_end text at count w h e go = sym (h go ∙ no w.ok _ w.at e)

stopped-not : (w : Went) (p : ℕ) → w ≡ stopped p → w.ok ≡ true → ⊥
stopped-not w p e h = true-false h (ap (λ (w : Went). w.ok) e)

pub stopped-range : (w : Went) (p lo hi : ℕ) → w ≡ stopped p → w.ok ≡ true → (lo ≤ w.value) × (w.value ≤ hi)
stopped-range w p lo hi e h = absurd (stopped-not w p e h)

-- a name tells no number
pub name-value : (text name input : List ℕ) (at : ℕ) (w : Went) → Goes text at (λ go. name_on name input (go 0)) w → w.ok ≡ true → w.value ≡ 0
name-value text name input at w h e =
    let a = h (λ v rest. v) ∙ yes w.ok (w.at + w.value) w.at e in
    let b = h (λ v rest. 0) ∙ yes w.ok (w.at + 0) w.at e in
    omega (arith, a, b)

-- ---- a byte at a place

pub at_byte : (l : List ℕ) (i : ℕ) → i < length l → drop i l ≡ get_or l i 0 ∷ drop (i + 1) l
at_byte l i h = drop-cons l i 0 h ∙ ap (λ (m : ℕ). get_or l i 0 ∷ drop m l) (sym (add-one i))

pub past : (l : List ℕ) (i : ℕ) → length l ≤ i → drop i l ≡ []
past l i h = drop_of_length-le l h

-- ---- names

module _ (text name : List ℕ) (i j : ℕ) (go : List ℕ → ℕ) where
  pub name-more : i < length text → j < length name → get_or text i 0 ≡ get_or name j 0
      → i + 1 + name_on (drop (j + 1) name) (drop (i + 1) text) go ≡ i + name_on (drop j name) (drop i text) go
  name-more h k e =
      let q : name_on (drop j name) (drop i text) go ≡ suc (name_on (drop (j + 1) name) (drop (i + 1) text) go) =
      ap₂ (λ (n t : List ℕ). name_on n t go) (at_byte name j k) (at_byte text i h) ∙ (rw (eq-eqb (get_or text i 0) (get_or name j 0) e)) in
      omega (arith, q)

  pub name-other : i < length text → j < length name → get_or text i 0 ≢ get_or name j 0 → i + name_on (drop j name) (drop i text) go ≡ i
  name-other h k e =
      let q : name_on (drop j name) (drop i text) go ≡ 0 =
      ap₂ (λ (n t : List ℕ). name_on n t go) (at_byte name j k) (at_byte text i h) ∙ (rw (ne_eqb (get_or text i 0) (get_or name j 0) e)) in
      omega (arith, q)

  pub name-past : length text ≤ i → j < length name → i + name_on (drop j name) (drop i text) go ≡ i
  name-past h k =
      let q : name_on (drop j name) (drop i text) go ≡ 0 = ap₂ (λ (n t : List ℕ). name_on n t go) (at_byte name j k) (past text i h) in
      omega (arith, q)

  pub name-ends : length name ≤ j → i + name_on (drop j name) (drop i text) go ≡ i + go (drop i text)
  name-ends h = ap (λ (n : List ℕ). i + name_on n (drop i text) go) (past name j h)
