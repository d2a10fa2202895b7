-- The laws of specs/Laws.antt.
-- Assumes nothing.
use mathlib.Core.Path.{◌≡◌, refl, sym, ap, subst, ◌∙◌}
use mathlib.Core.Bool.{Bool, true, false}
use mathlib.Core.Logic.{◌↔◌}
use mathlib.Core.Option.{Option, some, none}
use mathlib.Core.List.{List, [], ◌∷◌, ◌++◌, append_assoc}
use Prim.Native.Nat.{ℕ, zero, suc, ◌+◌, ◌-◌, ◌≤◌}
use native.Mathlib.Omega.{arith}
use lib.Dec.{eqb}
use lib.ListN.{length, take, drop, length-append, take-append-drop}
use lib.Seq.{take-length, length-take-le, take-append_seam, take-append-add}
use borrow.Author.Tests.{eqb-true, eq-eqb}
use Rattle.lists.specs.Tests.{pick, given}
use Rattle.lists.proofs.Tests.{true-false}
use Rattle.text_spec.specs.Texts.{ShareTold, text_at, whole, read_text}
use Rattle.text_spec.proofs.Back.{picked}
use Rattle.text_spec.proofs.Written.{text-laws}
use Rattle.prefix_spec.specs.Prefix.{on, longest}
use Rattle.prefix_spec.specs.Laws.{Begins, Longest, PrefixLaws}
use Rattle.prefix_spec.proofs.Best.{common}
use Rattle.prefix_spec.proofs.Text.{accepts, text-best}

append-none : (l : List ℕ) → l ++ [] ≡ l
append-none [] = refl
append-none (x ∷ l) = ap {B = List ℕ} (λ m. x ∷ m) (append-none l)

-- ---- what two texts have in common

common-within : (l w : List ℕ) → common l w ≤ length l
common-within [] w = omega arith
common-within (a ∷ l) [] = omega arith
common-within (a ∷ l) (b ∷ w) = by (eqb a b) (common-within l w)
  where
    by : (t : Bool) → common l w ≤ length l → on t (common l w) ≤ length (a ∷ l)
    by true h = omega (arith, h)
    by false h = omega arith

-- the other text is that, and more
common-begins : (l w : List ℕ) → take (common l w) l ++ drop (common l w) w ≡ w
common-begins [] w = refl
common-begins (a ∷ l) [] = refl
common-begins (a ∷ l) (b ∷ w) = by (eqb a b) refl (common-begins l w)
  where
    by : (t : Bool) → eqb a b ≡ t → take (common l w) l ++ drop (common l w) w ≡ w → take (on t (common l w)) (a ∷ l) ++ drop (on t (common l w)) (b ∷ w) ≡ b ∷ w
    by true e h = ap (λ (x : ℕ). x ∷ (take (common l w) l ++ drop (common l w) w)) (eqb-true a b e) ∙ ap {B = List ℕ} (λ m. b ∷ m) h
    by false e h = refl

-- a beginning is in common with what it begins
begins-common : (l rest : List ℕ) (j : ℕ) → j ≤ length l → j ≤ common l (take j l ++ rest)
begins-common l rest zero h = omega arith
begins-common [] rest (suc j) h = absurd (omega (arith, h))
begins-common (a ∷ l) rest (suc j) h =
    let ih = begins-common l rest j (omega (arith, h)) in
    rw (eq-eqb a a refl) (omega (arith, ih))

-- ---- a text that is accepted

is-accepted : (w : List ℕ) → accepts w ≡ true → (t : ShareTold) × (read_text w ≡ some t)
is-accepted w e = by (read_text w) refl e
  where
    by : (o : Option ShareTold) → read_text w ≡ o → given o ≡ true → (t : ShareTold) × (read_text w ≡ some t)
    by none q e = absurd (true-false e refl)
    by (some t) q e = (t, q)

accepted-is : (w : List ℕ) (t : ShareTold) → read_text w ≡ some t → accepts w ≡ true
accepted-is w t e = ap given e

-- nothing is behind an accepted text
nothing-behind : (text more : List ℕ) (t u : ShareTold) → read_text text ≡ some t → read_text (text ++ more) ≡ some u → length more ≡ 0
unfolding read_text
nothing-behind text more t u e f =
    let a = (text-laws.text-told text t).0 e in
    let r : text_at (text ++ more) ≡ some (record { told = t; behind = more }) = ap (λ (l : List ℕ). text_at (l ++ more)) a.0 ∙ text-laws.writes_reads t a.1 more in
    let g : pick (eqb (length more) 0) (some t) none ≡ some u = sym (ap whole r) ∙ f in
    eqb-true (length more) 0 (picked (eqb (length more) 0) (some t) g).0

-- ---- the longest beginning

longest-is : (text : List ℕ) → Longest text (longest text)
longest-is text =
    let b = text-best text in
    let c = longest text in
    let e : common text b.text ≡ c = b.as-far in
    let t = is-accepted b.text b.is-accepted in
    let w : take c text ++ drop c b.text ≡ b.text = subst (λ (c : ℕ). take c text ++ drop c b.text ≡ b.text) e (common-begins text b.text) in
    record {
      within = omega (arith, e, common-within text b.text);
      begins = (drop c b.text, t.0, ap read_text w ∙ t.1);
      no_longer = λ j h p. omega (arith, begins-common text p.0 j h, b.no-further (take j text ++ p.0) (accepted-is _ p.1 p.2));
    }

-- there is but one
one : (text : List ℕ) (a b : ℕ) → Longest text a → Longest text b → a ≡ b
one text a b p q = omega (arith, p.no_longer b q.within q.begins, q.no_longer a p.within p.begins)

is-longest : (text : List ℕ) (m : ℕ) → (longest text ≡ m) ↔ Longest text m
is-longest text m = (λ e. subst (λ (m : ℕ). Longest text m) e (longest-is text), λ h. one text (longest text) m (longest-is text) h)

whole-begins : (text : List ℕ) → (longest text ≡ length text) ↔ Begins text
whole-begins text = (
  λ e. subst Begins (ap (λ (m : ℕ). take m text) e ∙ take-length text) (longest-is text).begins,
  λ h.
      let l = longest-is text in
      let full : Begins (take (length text) text) = subst Begins (sym (take-length text)) h in
      omega (arith, l.within, l.no_longer (length text) (omega arith) full),
)

accepted-begins : (text : List ℕ) (t : ShareTold) → read_text text ≡ some t → Begins text
accepted-begins text t e = ([], t, ap read_text (append-none text) ∙ e)

behind-accepted : (text behind : List ℕ) (t : ShareTold) → read_text text ≡ some t → longest (text ++ behind) ≡ length text
behind-accepted text behind t e =
    let l = longest-is (text ++ behind) in
    let here : Begins (take (length text) (text ++ behind)) = subst Begins (sym (take-append_seam text behind)) (accepted-begins text t e) in
    let least = l.no_longer (length text) (omega (arith, length-append text behind)) here in
    let j : ℕ = longest (text ++ behind) - length text in
    let at : longest (text ++ behind) ≡ length text + (longest (text ++ behind) - length text) = omega (arith, least) in
    let p = l.begins in
    let apart : take (longest (text ++ behind)) (text ++ behind) ++ p.0 ≡ text ++ (take (longest (text ++ behind) - length text) behind ++ p.0) =
    ap (λ (l : List ℕ). l ++ p.0) (ap (λ (m : ℕ). take m (text ++ behind)) at ∙ take-append-add text behind (longest (text ++ behind) - length text))
    ∙ append_assoc text (take (longest (text ++ behind) - length text) behind) p.0 in
    let none = nothing-behind text (take (longest (text ++ behind) - length text) behind ++ p.0) t p.1 e (sym (ap read_text apart) ∙ p.2) in
    let long = length-take-le (longest (text ++ behind) - length text) behind (omega (arith, l.within, length-append text behind)) in
    omega (arith, least, none, long, length-append (take (longest (text ++ behind) - length text) behind) p.0)

pub prefix-laws : PrefixLaws
prefix-laws = record {
  is-longest = is-longest;
  accepted = λ text t e. (whole-begins text).1 (accepted-begins text t e);
  cut_short = λ text t j e. (whole-begins (take j text)).1 (drop j text, t, ap read_text (take-append-drop j text) ∙ e);
  behind = behind-accepted;
  whole = whole-begins;
  none = let l = longest-is [] in omega (arith, l.within);
}
