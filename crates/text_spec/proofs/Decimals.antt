-- A decimal in its form is the decimal of the number that it spells.
-- Assumes nothing.
use mathlib.Core.Path.{◌≡◌, refl, sym, ap, ap₂, ◌∙◌}
use mathlib.Core.Bool.{Bool, true, false}
use mathlib.Core.Logic.{inl, inr}
use mathlib.Core.List.{List, [], ◌∷◌, ◌++◌, append_assoc}
use Prim.Native.Nat.{ℕ, zero, suc, ◌+◌, ◌*◌, ◌-◌, ◌/◌, ◌%◌, ◌≤◌, ◌<◌}
use native.Mathlib.Nat.{div-add-mod', mod-lt}
use native.Mathlib.Omega.{arith}
use lib.Dec.{ltb}
use borrow.Author.Tests.{lt-ltb, le-ltb, ltb-false}
use Rattle.lists.specs.Lists.{All}
use Rattle.number_lines.specs.Laws.{Number, spelled}
use Rattle.board_spec.specs.Text.{digits, decimal}
use Rattle.board_spec.proofs.Text.{text-laws}

abbrev Digit : ℕ → Type 0
Digit c = (0x30 ≤ c) × (c ≤ 0x39)

-- any room for digits that is enough does
digits-room : (m p x : ℕ) → x ≤ m → x ≤ p → digits m x ≡ digits p x
digits-room zero zero x h k = refl
digits-room zero (suc p) x h k = rw (lt-ltb x 10 (omega (arith, h)), digits)
digits-room (suc m) zero x h k = rw (lt-ltb x 10 (omega (arith, k)), digits)
digits-room (suc m) (suc p) x h k = go (ltb x 10) refl (digits-room m p (x / 10))
  where
    go : (t : Bool) → ltb x 10 ≡ t → (x / 10 ≤ m → x / 10 ≤ p → digits m (x / 10) ≡ digits p (x / 10)) → digits (suc m) x ≡ digits (suc p) x
    go true e ih = rw (e, digits)
    go false e ih =
        let l = ltb-false x 10 e in
        let q = div-add-mod' x 10 in
        rw (e, digits, ih (omega (arith, h)) (omega (arith, k)))

-- one digit
one-digit : (x : ℕ) → x < 10 → decimal x ≡ (0x30 + x) ∷ []
unfolding decimal
one-digit zero h = refl
one-digit (suc x) h = rw (lt-ltb (suc x) 10 h, digits)

-- the digits of x, where x is more than one digit and m + 1 is x
longer : (m x : ℕ) → x ≡ suc m → 10 ≤ x → decimal x ≡ decimal (x / 10) ++ ((0x30 + x % 10) ∷ [])
unfolding decimal
longer m x e h =
    ap (λ (p : ℕ). digits p x) e ∙ step
  where
    step : digits (suc m) x ≡ digits (x / 10) (x / 10) ++ ((0x30 + x % 10) ∷ [])
    step = rw (le-ltb x 10 h, digits, digits-room m (x / 10) (x / 10) (omega (arith, div-add-mod' x 10, e)) (omega arith))

next-digit : (v c : ℕ) → 1 ≤ v → c < 10 → decimal (10 * v + c) ≡ decimal v ++ ((0x30 + c) ∷ [])
next-digit v c h k =
    let x : ℕ = 10 * v + c in
    let q = div-add-mod' (10 * v + c) 10 in
    let r : (10 * v + c) % 10 < 10 = mod-lt (10 * v + c) (omega arith) in
    let dv : (10 * v + c) / 10 ≡ v = omega (arith, q, r, k) in
    let md : (10 * v + c) % 10 ≡ c = omega (arith, q, r, k) in
    longer (10 * v + c - 1) (10 * v + c) (omega (arith, h)) (omega (arith, h))
    ∙ ap₂ {C = List ℕ} (λ (a b : ℕ). decimal a ++ ((0x30 + b) ∷ [])) dv md

more : (l : List ℕ) (v : ℕ) → 1 ≤ v → All Digit l → decimal (spelled l v) ≡ decimal v ++ l
more [] v h a = sym (append-none (decimal v))
  where
    append-none : (l : List ℕ) → l ++ [] ≡ l
    append-none [] = refl
    append-none (x ∷ l) = ap {B = List ℕ} (λ m. x ∷ m) (append-none l)
more (c ∷ l) v h a =
    let d = a.0 in
    let e : 0x30 + (c - 0x30) ≡ c = omega (arith, d.0) in
    more l (10 * v + (c - 0x30)) (omega (arith, h)) a.1
    ∙ ap (λ (m : List ℕ). m ++ l) (next-digit v (c - 0x30) h (omega (arith, d.0, d.1)) ∙ ap (λ (b : ℕ). decimal v ++ (b ∷ [])) e)
    ∙ append_assoc (decimal v) (c ∷ []) l

pub decimal-spelled : (l : List ℕ) → Number l → decimal (spelled l 0) ≡ l
decimal-spelled l (inl e) = ap (λ (m : List ℕ). decimal (spelled m 0)) e ∙ text-laws.decimal-zero ∙ sym e
decimal-spelled [] (inr h) = absurd (omega (arith, h.1))
decimal-spelled (c ∷ l) (inr h) =
    let d = h.0.0 in
    let v : 10 * 0 + (c - 0x30) ≡ c - 0x30 = omega arith in
    let e : 0x30 + (c - 0x30) ≡ c = omega (arith, d.0) in
    more l (10 * 0 + (c - 0x30)) (omega (arith, h.1)) h.0.1
    ∙ ap (λ (m : List ℕ). m ++ l) (ap decimal v ∙ one-digit (c - 0x30) (omega (arith, d.1)) ∙ ap (λ (b : ℕ). b ∷ []) e)
