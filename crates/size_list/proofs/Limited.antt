-- Which inputs have a limit: a number from 2 to 32 as its decimal, and a line's end.
-- Assumes nothing.
use mathlib.Core.Path.{◌≡◌, refl, sym, ap, ap₂, subst, ◌∙◌}
use mathlib.Core.Bool.{Bool, true, false}
use mathlib.Core.Logic.{◌⊎◌, inl, inr, ⊎_elim}
use mathlib.Core.List.{List, [], ◌∷◌, ◌++◌}
use Prim.Native.Nat.{ℕ, zero, suc, ◌+◌, ◌*◌, ◌-◌, ◌/◌, ◌%◌, ◌<◌, ◌≤◌}
use native.Mathlib.Nat.{div-add-mod', mod-lt}
use native.Mathlib.Omega.{arith}
use lib.Dec.{eqb, leb}
use borrow.Author.Tests.{leb-true, lt-ltb, le-ltb}
use Rattle.lists.specs.Tests.{pick, alls}
use Rattle.number_lines.specs.Lines.{line}
use Rattle.number_lines.specs.Laws.{Number, Starts, spelled}
use Rattle.number_lines.proofs.Forms.{line_taken, line-else}
use Rattle.board_spec.specs.Text.{digits, decimal}
use Rattle.size_list.specs.Combinations.{none, limit}
use Rattle.size_list.proofs.Limits.{three-digits}

-- ---- a decimal of one digit, and of two

one-digit : (m x : ℕ) → x < 10 → digits m x ≡ (0x30 + x) ∷ []
one-digit zero x h = refl
one-digit (suc m) x h = rw (lt-ltb x 10 h, digits)

two_digits : (m x : ℕ) → 10 ≤ x → x < 100 → digits (suc m) x ≡ (0x30 + x / 10) ∷ (0x30 + x % 10) ∷ []
two_digits m x h k = rw (le-ltb x 10 h, digits, one-digit m (x / 10) (omega (arith, div-add-mod' x 10)))

decimal-two : (a b : ℕ) → 1 ≤ a → a < 10 → b < 10 → decimal (10 * a + b) ≡ (0x30 + a) ∷ (0x30 + b) ∷ []
unfolding decimal
decimal-two a b h k l =
    let q = div-add-mod' (10 * a + b) 10 in
    let r : (10 * a + b) % 10 < 10 = mod-lt (10 * a + b) (omega arith) in
    let high : (10 * a + b) / 10 ≡ a = omega (arith, q, r, l) in
    let low : (10 * a + b) % 10 ≡ b = omega (arith, q, r, l) in
    let e : 10 * a + b ≡ suc (10 * a + b - 1) = omega (arith, h) in
    ap (λ (p : ℕ). digits p (10 * a + b)) e
    ∙ two_digits (10 * a + b - 1) (10 * a + b) (omega (arith, h)) (omega (arith, k, l))
    ∙ ap₂ {C = List ℕ} (λ (c d : ℕ). (0x30 + c) ∷ (0x30 + d) ∷ []) high low

decimal-one : (a : ℕ) → a < 10 → decimal a ≡ (0x30 + a) ∷ []
unfolding decimal
decimal-one a h = one-digit a a h

-- a number up to 32 is its decimal
form : (l : List ℕ) → Number l → 2 ≤ spelled l 0 → spelled l 0 ≤ 32 → l ≡ decimal (spelled l 0)
form l (inl e) h k = absurd (omega (arith, h, ap (λ (m : List ℕ). spelled m 0) e))
form [] (inr n) h k = absurd (omega (arith, n.1))
form (a ∷ []) (inr n) h k =
    let d = n.0.0 in
    let e : 0x30 + (10 * 0 + (a - 0x30)) ≡ a = omega (arith, d.0) in
    sym (decimal-one (10 * 0 + (a - 0x30)) (omega (arith, d.1)) ∙ ap (λ (x : ℕ). x ∷ []) e)
form (a ∷ b ∷ []) (inr n) h k =
    let d = n.0.0 in
    let f = n.0.1.0 in
    let e : 0x30 + (10 * 0 + (a - 0x30)) ≡ a = omega (arith, d.0) in
    let g : 0x30 + (b - 0x30) ≡ b = omega (arith, f.0) in
    sym (decimal-two (10 * 0 + (a - 0x30)) (b - 0x30) (omega (arith, n.1)) (omega (arith, d.1)) (omega (arith, f.1))
    ∙ ap₂ {C = List ℕ} (λ (x y : ℕ). x ∷ y ∷ []) e g)
form (a ∷ b ∷ c ∷ l) (inr n) h k = absurd (omega (arith, k, three-digits (a ∷ b ∷ c ∷ l) (inr n) (omega arith)))

-- ---- the limit

-- x is the limit of an input
abbrev Limit : ℕ → List ℕ → Type 0
Limit x input = (x ≡ 0) ⊎ ((2 ≤ x) × (x ≤ 32) × (input ≡ decimal x ++ (0x0A ∷ [])))

-- a number and what stands behind it, by the three tests
tested : (a b : Bool) (l behind : List ℕ) → Number l → leb 2 (spelled l 0) ≡ a → leb (spelled l 0) 32 ≡ b
    → Limit (pick (alls (a ∷ b ∷ none behind ∷ [])) (spelled l 0) 0) (l ++ (0x0A ∷ behind))
tested true true l [] n p q =
    let h = leb-true 2 (spelled l 0) p in
    let k = leb-true (spelled l 0) 32 q in
    inr (h, k, ap (λ (m : List ℕ). m ++ (0x0A ∷ [])) (form l n h k))
tested true true l (c ∷ behind) n p q = inl refl
tested true false l behind n p q = inl refl
tested false b l behind n p q = inl refl

pub limit_is : (input : List ℕ) → Limit (limit input) input
unfolding limit
limit_is input = ⊎_elim whole (λ f. inl (f _)) (line-else 0 [] input)
  where
    go : ℕ → List ℕ → ℕ
    go v behind = pick (alls (leb 2 v ∷ leb v 32 ∷ none behind ∷ [])) v 0

    whole : Starts [] input → Limit (line 0 [] input go) input
    whole s =
        let x = go (spelled s.figures 0) s.behind in
        subst (λ (y : ℕ). Limit y input) (sym (ap (λ (l : List ℕ). line 0 [] l go) s.whole ∙ line_taken 0 [] s.figures s.is_number s.behind go))
        (subst (λ (i : List ℕ). Limit x i) (sym s.whole)
        (tested (leb 2 (spelled s.figures 0)) (leb (spelled s.figures 0) 32) s.figures s.behind s.is_number refl refl))

pub limit-range : (input : List ℕ) → (limit input ≡ 0) ⊎ ((2 ≤ limit input) × (limit input ≤ 32))
limit-range input = ⊎_elim inl (λ h. inr (h.0, h.1)) (limit_is input)
