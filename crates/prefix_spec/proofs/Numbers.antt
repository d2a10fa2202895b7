-- Lines of numbers: how far an input goes along with a line whose number is from lo to hi.
-- Assumes nothing.
use mathlib.Core.Path.{◌≡◌, refl, sym, ap, ◌∙◌}
use mathlib.Core.Bool.{Bool, true, false}
use mathlib.Core.Logic.{◌⊎◌, inl, inr}
use mathlib.Core.List.{List, [], ◌∷◌}
use Prim.Native.Nat.{ℕ, zero, suc, ◌+◌, ◌*◌, ◌-◌, ◌/◌, ◌%◌, ◌≤◌, ◌<◌}
use native.Mathlib.Nat.{div-add-mod', mod-lt}
use native.Mathlib.Omega.{arith}
use lib.Dec.{leb, eqb}
use borrow.Author.Tests.{eqb-true, eqb-false, ne_eqb, leb-true, leb-false, le-leb}
use Rattle.lists.specs.Tests.{pick, alls}
use Rattle.lists.proofs.Tests.{true-false, is_false, alls-hold, hold-alls}
use Rattle.number_lines.specs.Lines.{digit, read_digits, read_lone, read_number, line}
use Rattle.number_lines.proofs.Fed.{digit-yes, digit-range}
use Rattle.number_lines.proofs.Picks.{yes, no, if-eq}
use Rattle.prefix_spec.specs.Prefix.{on, opens, digits_on, lone_on, number_on, line_on}
use Rattle.prefix_spec.proofs.Best.{Best, Some, None, best-some, best-end, best-byte, best-stop, best-same}

-- ---- the range, on plain numbers

-- v, or v with one digit more, is from lo to hi
abbrev Open : ℕ → ℕ → ℕ → Type 0
Open lo hi v = ((lo ≤ v) × (v ≤ hi)) ⊎ ((10 * v ≤ hi) × (lo ≤ 10 * v + 9))

pub opens-yes : (lo hi v : ℕ) → opens lo hi v ≡ true → Open lo hi v
unfolding opens
opens-yes lo hi v e = go (alls (leb lo v ∷ leb v hi ∷ [])) refl e
  where
    go : (t : Bool) → alls (leb lo v ∷ leb v hi ∷ []) ≡ t → pick t true (alls (leb (10 * v) hi ∷ leb lo (10 * v + 9) ∷ [])) ≡ true → Open lo hi v
    go true h q = let a = alls-hold (leb lo v ∷ leb v hi ∷ []) h in inl (leb-true lo v a.0, leb-true v hi a.1.0)
    go false h q =
        let a = alls-hold (leb (10 * v) hi ∷ leb lo (10 * v + 9) ∷ []) q in
        inr (leb-true (10 * v) hi a.0, leb-true lo (10 * v + 9) a.1.0)

pub yes-opens : (lo hi v : ℕ) → Open lo hi v → opens lo hi v ≡ true
unfolding opens
yes-opens lo hi v (inl h) = yes (alls (leb lo v ∷ leb v hi ∷ [])) true _ (hold-alls (leb lo v ∷ leb v hi ∷ []) (le-leb lo v h.0, (le-leb v hi h.1, tt)))
yes-opens lo hi v (inr h) = go (alls (leb lo v ∷ leb v hi ∷ []))
  where
    more : alls (leb (10 * v) hi ∷ leb lo (10 * v + 9) ∷ []) ≡ true
    more = hold-alls (leb (10 * v) hi ∷ leb lo (10 * v + 9) ∷ []) (le-leb (10 * v) hi h.0, (le-leb lo (10 * v + 9) h.1, tt))

    go : (t : Bool) → pick t true (alls (leb (10 * v) hi ∷ leb lo (10 * v + 9) ∷ [])) ≡ true
    go true = refl
    go false = more

-- one digit more is enough where there are at most two digits, or where the least number is small
abbrev pub Narrow : ℕ → ℕ → Type 0
Narrow lo hi = (hi < 100) ⊎ (lo ≤ 19)

open-digit : (lo hi v c : ℕ) → Narrow lo hi → 1 ≤ v → c < 10 → Open lo hi (10 * v + c) → Open lo hi v
open-digit lo hi v c n h k (inl p) = inr (omega (arith, p.1), omega (arith, p.0))
open-digit lo hi v c (inl n) h k (inr p) = absurd (omega (arith, p.0))
open-digit lo hi v c (inr n) h k (inr p) = inr (omega (arith, p.0), omega (arith, n))

pub open-low : (lo hi v : ℕ) → Open lo hi v → v ≤ hi
open-low lo hi v (inl p) = p.1
open-low lo hi v (inr p) = omega (arith, p.0)

-- what is not open is not in the range, nor open with a digit more
shut_out : (lo hi v : ℕ) → opens lo hi v ≡ false → lo ≤ v → v ≤ hi → ⊥
shut_out lo hi v e a b = true-false (yes-opens lo hi v (inl (a, b))) e

shut-digit : (lo hi v c : ℕ) → Narrow lo hi → 1 ≤ v → c < 10 → opens lo hi v ≡ false → opens lo hi (10 * v + c) ≡ false
shut-digit lo hi v c n h k e = is_false (opens lo hi (10 * v + c)) (λ q. true-false (yes-opens lo hi v (open-digit lo hi v c n h k (opens-yes lo hi (10 * v + c) q))) e)

pos : (x : ℕ) → (x ≡ 0 → ⊥) → 1 ≤ x
pos zero q = absurd (q refl)
pos (suc x) q = omega arith

first : (b : ℕ) → eqb b 0x30 ≡ false → digit b ≡ true → 1 ≤ b - 0x30
first b q f = let d = digit-range b f in let k = eqb-false b 0x30 q in omega (arith, d.0, k)

module _ {A : Type 0} (bad : A) (P : A → Bool) (bad-not : P bad ≡ false) where
  -- ---- no line at all

  module _ (go : ℕ → List ℕ → A) (never : (v : ℕ) → None (λ w. P (go v w))) where
    digits-none : (w : List ℕ) (v : ℕ) → P (read_digits bad v w go) ≡ false
    digits-none [] v = bad-not
    digits-none (b ∷ w) v = by (eqb b 0x0A) (digit b) (digits-none w (10 * v + (b - 0x30)))
      where
        by : (t u : Bool) → P (read_digits bad (10 * v + (b - 0x30)) w go) ≡ false
            → P (pick t (go v w) (pick u (read_digits bad (10 * v + (b - 0x30)) w go) bad)) ≡ false
        by true u h = never v w
        by false true h = h
        by false false h = bad-not

    lone-none : (w : List ℕ) → P (read_lone bad w go) ≡ false
    lone-none [] = bad-not
    lone-none (b ∷ w) = by (eqb b 0x0A)
      where
        by : (t : Bool) → P (pick t (go 0 w) bad) ≡ false
        by true = never 0 w
        by false = bad-not

    number-none : (w : List ℕ) → P (read_number bad w go) ≡ false
    number-none [] = bad-not
    number-none (b ∷ w) = by (eqb b 0x30) (digit b)
      where
        by : (t u : Bool) → P (pick t (read_lone bad w go) (pick u (read_digits bad (b - 0x30) w go) bad)) ≡ false
        by true u = lone-none w
        by false true = digits-none w (b - 0x30)
        by false false = bad-not

    pub line-none : (name w : List ℕ) → P (line bad name w go) ≡ false
    line-none [] w = number-none w
    line-none (c ∷ name) [] = bad-not
    line-none (c ∷ name) (b ∷ w) = by (eqb b c) (line-none name w)
      where
        by : (t : Bool) → P (line bad name w go) ≡ false → P (pick t (line bad name w go) bad) ≡ false
        by true h = h
        by false h = bad-not

  -- ---- a number from lo to hi

  module _ (lo hi : ℕ) (narrow : Narrow lo hi) (some : lo ≤ hi) (go : ℕ → List ℕ → A) (count : ℕ → List ℕ → ℕ)
      (inside : (v : ℕ) → lo ≤ v → v ≤ hi → (input : List ℕ) → Best (λ w. P (go v w)) input (count v input))
      (outside : (v : ℕ) → (lo ≤ v → v ≤ hi → ⊥) → None (λ w. P (go v w))) where
    abbrev digits_taken : ℕ → List ℕ → Bool
    digits_taken v w = P (read_digits bad v w go)

    -- the byte 0A behind digits, a digit, and any other byte
    at-end : (v b : ℕ) → eqb b 0x0A ≡ true → (w : List ℕ) → P (go v w) ≡ digits_taken v (b ∷ w)
    at-end v b e w = sym (ap P (yes (eqb b 0x0A) _ _ e))

    at-digit : (v b : ℕ) → eqb b 0x0A ≡ false → digit b ≡ true → (w : List ℕ) → digits_taken (10 * v + (b - 0x30)) w ≡ digits_taken v (b ∷ w)
    at-digit v b e f w = sym (ap P (no (eqb b 0x0A) _ _ e ∙ yes (digit b) _ _ f))

    at_other : (v b : ℕ) → eqb b 0x0A ≡ false → digit b ≡ false → (w : List ℕ) → digits_taken v (b ∷ w) ≡ false
    at_other v b e f w = ap P (no (eqb b 0x0A) _ _ e ∙ no (digit b) _ _ f) ∙ bad-not

    -- no number of the range begins so
    digits-shut : (w : List ℕ) (v : ℕ) → 1 ≤ v → opens lo hi v ≡ false → digits_taken v w ≡ false
    digits-shut [] v h e = bad-not
    digits-shut (b ∷ w) v h e = by (eqb b 0x0A) refl (digit b) refl (digits-shut w (10 * v + (b - 0x30)))
      where
        by : (t : Bool) → eqb b 0x0A ≡ t → (u : Bool) → digit b ≡ u
            → (1 ≤ 10 * v + (b - 0x30) → opens lo hi (10 * v + (b - 0x30)) ≡ false → digits_taken (10 * v + (b - 0x30)) w ≡ false)
            → digits_taken v (b ∷ w) ≡ false
        by true q u f ih = sym (at-end v b q w) ∙ outside v (shut_out lo hi v e) w
        by false q true f ih =
            let d = digit-range b f in
            sym (at-digit v b q f w) ∙ ih (omega (arith, h)) (shut-digit lo hi v (b - 0x30) narrow h (omega (arith, d.0, d.1)) e)
        by false q false f ih = at_other v b q f w

    -- some number of the range begins so
    here : (v : ℕ) → lo ≤ v → v ≤ hi → Some (digits_taken v)
    here v a b = let s = best-some _ _ _ (inside v a b []) in (0x0A ∷ s.0, s.1)

    with-digit : (v c : ℕ) → c < 10 → Some (digits_taken (10 * v + c)) → Some (digits_taken v)
    with-digit v c k s =
        let e : 0x30 + c - 0x30 ≡ c = omega arith in (
          (0x30 + c) ∷ s.0,
          sym (at-digit v (0x30 + c) (ne_eqb (0x30 + c) 0x0A (λ q. omega (arith, q))) (digit-yes (0x30 + c) (omega arith, omega (arith, k))) s.0)
              ∙ ap (λ (x : ℕ). digits_taken (10 * v + x) s.0) e ∙ s.1,
        )

    digits-some : (v : ℕ) → Open lo hi v → Some (digits_taken v)
    digits-some v (inl h) = here v h.0 h.1
    digits-some v (inr h) = by (leb lo (10 * v)) refl
      where
        by : (t : Bool) → leb lo (10 * v) ≡ t → Some (digits_taken v)
        by true e = with-digit v 0 (omega arith) (here (10 * v + 0) (omega (arith, leb-true lo (10 * v) e)) (omega (arith, h.0)))
        by false e =
            let l = leb-false lo (10 * v) e in
            let q : 10 * v + (lo - 10 * v) ≡ lo = omega (arith, l) in
            with-digit v (lo - 10 * v) (omega (arith, h.1, l)) (here (10 * v + (lo - 10 * v)) (omega (arith, q)) (omega (arith, q, some)))

    digits-best : (input : List ℕ) (v : ℕ) → 1 ≤ v → opens lo hi v ≡ true → Best (digits_taken v) input (digits_on lo hi v input count)
    digits-best [] v h o = best-end (digits_taken v) (digits-some v (opens-yes lo hi v o))
    digits-best (b ∷ input) v h o =
        by (eqb b 0x0A) refl (leb lo v) refl (digit b) refl (opens lo hi (10 * v + (b - 0x30))) refl (digits-best input (10 * v + (b - 0x30)))
      where
        next : ℕ
        next = 10 * v + (b - 0x30)

        by : (t : Bool) → eqb b 0x0A ≡ t → (l : Bool) → leb lo v ≡ l → (u : Bool) → digit b ≡ u → (p : Bool) → opens lo hi next ≡ p
            → (1 ≤ next → opens lo hi next ≡ true → Best (digits_taken next) input (digits_on lo hi next input count))
            → Best (digits_taken v) (b ∷ input) (pick t (on l (count v input)) (on (alls (u ∷ p ∷ [])) (digits_on lo hi next input count)))
        by true q true l u f p g ih =
            best-byte (digits_taken v) b input (count v input)
            (best-same (λ w. P (go v w)) (λ w. digits_taken v (b ∷ w)) input (count v input) (at-end v b q)
            (inside v (leb-true lo v l) (open-low lo hi v (opens-yes lo hi v o)) input))
        by true q false l u f p g ih =
            best-stop (digits_taken v) b input (digits-some v (opens-yes lo hi v o))
            (λ w. sym (at-end v b q w) ∙ outside v (λ x y. omega (arith, x, leb-false lo v l)) w)
        by false q l m true f true g ih =
            best-byte (digits_taken v) b input _
            (best-same (digits_taken next) (λ w. digits_taken v (b ∷ w)) input _ (at-digit v b q f) (ih (omega (arith, h)) g))
        by false q l m true f false g ih =
            best-stop (digits_taken v) b input (digits-some v (opens-yes lo hi v o))
            (λ w. sym (at-digit v b q f w) ∙ digits-shut w next (omega (arith, h)) g)
        by false q l m false f p g ih =
            best-stop (digits_taken v) b input (digits-some v (opens-yes lo hi v o)) (at_other v b q f)

    -- ---- the first digit

    abbrev number_taken : List ℕ → Bool
    number_taken w = P (read_number bad w go)

    abbrev lone_taken : List ℕ → Bool
    lone_taken w = P (read_lone bad w go)

    lone-some : lo ≡ 0 → Some lone_taken
    lone-some e = let s = best-some _ _ _ (inside 0 (omega (arith, e)) (omega arith) []) in (0x0A ∷ s.0, s.1)

    lone-best : (input : List ℕ) → lo ≡ 0 → Best lone_taken input (lone_on input count)
    lone-best [] e = best-end lone_taken (lone-some e)
    lone-best (b ∷ input) e = by (eqb b 0x0A) refl
      where
        by : (t : Bool) → eqb b 0x0A ≡ t → Best lone_taken (b ∷ input) (on t (count 0 input))
        by true q =
            best-byte lone_taken b input (count 0 input)
            (best-same (λ w. P (go 0 w)) (λ w. lone_taken (b ∷ w)) input (count 0 input) (λ w. sym (ap P (yes (eqb b 0x0A) _ _ q)))
            (inside 0 (omega (arith, e)) (omega arith) input))
        by false q = best-stop lone_taken b input (lone-some e) (λ w. ap P (no (eqb b 0x0A) _ _ q) ∙ bad-not)

    lone-shut : (w : List ℕ) → 1 ≤ lo → lone_taken w ≡ false
    lone-shut [] h = bad-not
    lone-shut (b ∷ w) h = by (eqb b 0x0A)
      where
        by : (t : Bool) → P (pick t (go 0 w) bad) ≡ false
        by true = outside 0 (λ x y. omega (arith, x, h)) w
        by false = bad-not

    at_zero : (b : ℕ) → eqb b 0x30 ≡ true → (w : List ℕ) → lone_taken w ≡ number_taken (b ∷ w)
    at_zero b e w = sym (ap P (yes (eqb b 0x30) _ _ e))

    at_first : (b : ℕ) → eqb b 0x30 ≡ false → digit b ≡ true → (w : List ℕ) → digits_taken (b - 0x30) w ≡ number_taken (b ∷ w)
    at_first b e f w = sym (ap P (no (eqb b 0x30) _ _ e ∙ yes (digit b) _ _ f))

    at-no : (b : ℕ) → eqb b 0x30 ≡ false → digit b ≡ false → (w : List ℕ) → number_taken (b ∷ w) ≡ false
    at-no b e f w = ap P (no (eqb b 0x30) _ _ e ∙ no (digit b) _ _ f) ∙ bad-not

    first_some : (c : ℕ) → 1 ≤ c → c < 10 → Open lo hi c → Some number_taken
    first_some c h k o =
        let s = digits-some c o in
        let e : 0x30 + c - 0x30 ≡ c = omega arith in (
          (0x30 + c) ∷ s.0,
          sym (at_first (0x30 + c) (ne_eqb (0x30 + c) 0x30 (λ q. omega (arith, q))) (digit-yes (0x30 + c) (omega arith, omega (arith, k))) s.0)
              ∙ ap (λ (x : ℕ). digits_taken x s.0) e ∙ s.1,
        )

    least : Narrow lo hi → lo < 100
    least (inl n) = omega (arith, n, some)
    least (inr n) = omega (arith, n)

    number-some : Some number_taken
    number-some = by (eqb lo 0) refl (leb lo 9) refl
      where
        by : (t : Bool) → eqb lo 0 ≡ t → (u : Bool) → leb lo 9 ≡ u → Some number_taken
        by true e u f = let s = lone-some (eqb-true lo 0 e) in (0x30 ∷ s.0, s.1)
        by false e true f =
            let one : 1 ≤ lo = pos lo (eqb-false lo 0 e) in
            first_some lo one (omega (arith, leb-true lo 9 f)) (inl (omega arith, some))
        by false e false f =
            let l = leb-false lo 9 f in
            let q = div-add-mod' lo 10 in
            let r : lo % 10 < 10 = mod-lt lo (omega arith) in
            let k = least narrow in
            first_some (lo / 10) (omega (arith, q, r, l)) (omega (arith, q, k)) (inr (omega (arith, q, some), omega (arith, q, r)))

    number-best : (input : List ℕ) → Best number_taken input (number_on lo hi input count)
    number-best [] = best-end number_taken number-some
    number-best (b ∷ input) = by (eqb b 0x30) refl (eqb lo 0) refl (digit b) refl (opens lo hi (b - 0x30)) refl
      where
        by : (t : Bool) → eqb b 0x30 ≡ t → (l : Bool) → eqb lo 0 ≡ l → (u : Bool) → digit b ≡ u → (p : Bool) → opens lo hi (b - 0x30) ≡ p
            → Best number_taken (b ∷ input) (pick t (on l (lone_on input count)) (on (alls (u ∷ p ∷ [])) (digits_on lo hi (b - 0x30) input count)))
        by true q true l u f p g =
            best-byte number_taken b input _ (best-same lone_taken (λ w. number_taken (b ∷ w)) input _ (at_zero b q) (lone-best input (eqb-true lo 0 l)))
        by true q false l u f p g = best-stop number_taken b input number-some (λ w. sym (at_zero b q w) ∙ lone-shut w (pos lo (eqb-false lo 0 l)))
        by false q l m true f true g =
            best-byte number_taken b input _
            (best-same (digits_taken (b - 0x30)) (λ w. number_taken (b ∷ w)) input _ (at_first b q f) (digits-best input (b - 0x30) (first b q f) g))
        by false q l m true f false g =
            best-stop number_taken b input number-some (λ w. sym (at_first b q f w) ∙ digits-shut w (b - 0x30) (first b q f) g)
        by false q l m false f p g = best-stop number_taken b input number-some (at-no b q f)

    pub line-best : (name input : List ℕ) → Best (λ w. P (line bad name w go)) input (line_on lo hi name input count)
    line-best [] input = number-best input
    line-best (c ∷ name) [] =
        let s = best-some _ _ _ (line-best name []) in
        best-end (λ w. P (line bad (c ∷ name) w go)) (c ∷ s.0, ap P (if-eq c c (line bad name s.0 go) bad refl) ∙ s.1)
    line-best (c ∷ name) (b ∷ input) = by (eqb b c) refl (line-best name input)
      where
        taken : List ℕ → Bool
        taken w = P (line bad (c ∷ name) w go)

        by : (t : Bool) → eqb b c ≡ t → Best (λ w. P (line bad name w go)) input (line_on lo hi name input count)
            → Best taken (b ∷ input) (on t (line_on lo hi name input count))
        by true e ih =
            best-byte taken b input _ (best-same (λ w. P (line bad name w go)) (λ w. taken (b ∷ w)) input _ (λ w. sym (ap P (yes (eqb b c) _ _ e))) ih)
        by false e ih =
            let s = best-some _ _ _ ih in
            best-stop taken b input (c ∷ s.0, ap P (if-eq c c (line bad name s.0 go) bad refl) ∙ s.1) (λ w. ap P (no (eqb b c) _ _ e) ∙ bad-not)
