-- Checks one after another: the first refusal, or (Ok tt). And that the lines of a call are such a chain.
-- Assumes nothing.
use mathlib.Core.Path.{◌≡◌, refl, sym, ap, ◌∙◌}
use mathlib.Core.Bool.{Bool, true, false, not}
use mathlib.Core.List.{List, [], ◌∷◌, ◌++◌}
use Rattle.lists.specs.Lists.{concat}
use Rattle.lists.specs.Tests.{pick}
use Rattle.sizes.specs.declared.Refusal.{Refusal}
use Rattle.sizes.specs.declared.Refusal.TheVariants.{Area, Count}
use Rattle.std.specs.Prelude.{Ok, Err}
use Rattle.sizes.specs.Refusals.{Line, ◌when◌, Check}
use Rattle.board_spec.specs.Calls.{area_line, count_line}
use Rattle.line_checks.specs.Steps.{asked}
use Rattle.board_lines.proofs.Given.{chain}

-- a check, and where it passes what comes after it
abbrev pub then : Check → Check → Check
then (Ok tt) rest = rest
then (Err x) rest = Err x

pub last : (a : Check) → then a (Ok tt) ≡ a
last (Ok tt) = refl
last (Err x) = refl

-- a call answers w, and its next check r: where r passes, w is what comes after it; where r refuses, that refusal
pub goes-on : {a b w r : Check} → then a b ≡ w → r ≡ a → r ≡ Ok tt → b ≡ w
goes-on {a} {b} p e h = sym (ap (λ (c : Check). then c b) (sym e ∙ h)) ∙ p

pub refuses : {a w r : Check} (b : Check) {x : Refusal} → then a b ≡ w → r ≡ a → r ≡ Err x → Err x ≡ w
refuses b p e h = sym (ap (λ (c : Check). then c b) (sym e ∙ h)) ∙ p

-- the last check's answer is the call's
pub ends : {a w r : Check} → then a (Ok tt) ≡ w → r ≡ a → r ≡ w
ends {a} p e = e ∙ sym (last a) ∙ p

-- lines in two parts
pub split : (ls ms : List Line) → chain (ls ++ ms) ≡ then (chain ls) (chain ms)
split [] ms = refl
split (l ∷ ls) ms = go l.applies (split ls ms)
  where
    go : (t : Bool) → chain (ls ++ ms) ≡ then (chain ls) (chain ms)
        → pick t (Err l.refusal) (chain (ls ++ ms)) ≡ then (pick t (Err l.refusal) (chain ls)) (chain ms)
    go true e = refl
    go false e = e

-- lines in groups, one for each check of a call
abbrev pub thens : List (List Line) → Check
thens [] = Ok tt
thens (ls ∷ groups) = then (chain ls) (thens groups)

pub grouped : (groups : List (List Line)) → thens groups ≡ chain (concat groups)
grouped [] = refl
grouped (ls ∷ groups) = ap (then (chain ls)) (grouped groups) ∙ sym (split ls (concat groups))

-- a line with one test
pub one-count : (b : Bool) → asked (count_line (b ∷ [])) ≡ asked (Count when not b)
one-count true = refl
one-count false = refl

pub one-area : (b : Bool) → asked (area_line (b ∷ [])) ≡ asked (Area when not b)
one-area true = refl
one-area false = refl
