-- An input of more than three bytes gives no limit: a number of three digits and more is above 32; and every limit from 2 to 32 is taken.
-- Assumes nothing.
use mathlib.Core.Path.{◌≡◌, refl, ap, ◌∙◌}
use mathlib.Core.Bool.{Bool, true, false}
use mathlib.Core.Logic.{inl, inr, ⊎_elim}
use mathlib.Core.List.{List, [], ◌∷◌, ◌++◌}
use Prim.Native.Nat.{ℕ, suc, ◌+◌, ◌*◌, ◌-◌, ◌≤◌}
use native.Mathlib.Omega.{arith}
use lib.Dec.{leb}
use lib.ListN.{length, length-append}
use borrow.Author.Tests.{lt-leb, le-leb}
use Rattle.lists.specs.Tests.{pick, alls}
use Rattle.number_lines.specs.Lines.{line}
use Rattle.number_lines.specs.Laws.{Number, Starts, spelled}
use Rattle.number_lines.proofs.Forms.{line_taken, line-else}
use Rattle.board_spec.specs.Text.{decimal}
use Rattle.board_spec.proofs.Text.{text-laws}
use Rattle.printer.proofs.Forms.{spelled-value}
use Rattle.size_list.specs.Combinations.{none, limit}

-- digits make no number smaller
spelled-most : (l : List ℕ) (v : ℕ) → v ≤ spelled l v
spelled-most [] v = omega arith
spelled-most (c ∷ l) v = let h : 10 * v + (c - 0x30) ≤ spelled l (10 * v + (c - 0x30)) = spelled-most l (10 * v + (c - 0x30)) in omega arith

pub three-digits : (l : List ℕ) → Number l → 3 ≤ length l → 33 ≤ spelled l 0
three-digits l (inl e) h = absurd (omega (arith, ap length e))
three-digits [] (inr n) h = absurd (omega arith)
three-digits (a ∷ []) (inr n) h = absurd (omega arith)
three-digits (a ∷ b ∷ []) (inr n) h = absurd (omega arith)
three-digits (a ∷ b ∷ c ∷ l) (inr n) h =
    let m : ℕ = 10 * (10 * (10 * 0 + (a - 0x30)) + (b - 0x30)) + (c - 0x30) in
    let g : m ≤ spelled l m = spelled-most l m in
    let f : 1 ≤ a - 0x30 = omega (arith, n.1) in
    omega arith

too_much : (a b : Bool) (v : ℕ) → pick (alls (a ∷ false ∷ b ∷ [])) v 0 ≡ 0
too_much true b v = refl
too_much false b v = refl

behind-some : (a b : Bool) (v : ℕ) → pick (alls (a ∷ b ∷ false ∷ [])) v 0 ≡ 0
behind-some true true v = refl
behind-some true false v = refl
behind-some false b v = refl

-- a number and what stands behind it, of more than three bytes
taken_none : (l behind : List ℕ) (v : ℕ) → Number l → 4 ≤ length l + suc (length behind) → pick (alls (leb 2 (spelled l 0) ∷ leb (spelled l 0) 32 ∷ none behind ∷ [])) v 0 ≡ 0
taken_none l [] v n h =
    let e : leb (spelled l 0) 32 ≡ false = lt-leb (spelled l 0) 32 (three-digits l n (omega arith)) in
    rw e (too_much (leb 2 (spelled l 0)) true v)
taken_none l (b ∷ behind) v n h = behind-some (leb 2 (spelled l 0)) (leb (spelled l 0) 32) v

pub short : (input : List ℕ) → 4 ≤ length input → limit input ≡ 0
unfolding limit
short input h = ⊎_elim whole (λ f. f _) (line-else 0 [] input)
  where
    go : ℕ → List ℕ → ℕ
    go v behind = pick (alls (leb 2 v ∷ leb v 32 ∷ none behind ∷ [])) v 0

    whole : Starts [] input → line 0 [] input go ≡ 0
    whole s =
        ap (λ (l : List ℕ). line 0 [] l go) s.whole
        ∙ line_taken 0 [] s.figures s.is_number s.behind go
        ∙ taken_none s.figures s.behind _ s.is_number (omega (arith, ap length s.whole, length-append s.figures (0x0A ∷ s.behind)))

-- every limit from 2 to 32 is taken
pub taken : (v : ℕ) → 2 ≤ v → v ≤ 32 → limit (decimal v ++ (0x0A ∷ [])) ≡ v
unfolding limit
taken v h g =
    line_taken 0 [] (decimal v) (inr (text-laws.decimal-digits v, text-laws.decimal-first v (omega arith))) [] _
    ∙ ap (λ (x : ℕ). pick (alls (leb 2 x ∷ leb x 32 ∷ true ∷ [])) x 0) (spelled-value (decimal v) 0 ∙ text-laws.decimal-value v)
    ∙ (rw (le-leb 2 v h, le-leb v 32 g) refl)
