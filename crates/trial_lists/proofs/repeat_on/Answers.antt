-- `trial_lists::repeat_on` meets its contract: a run more, and at the end r of them.
-- Assumes nothing.
use Rattle.std.proofs.Common.{rules, ◌≡◌, refl, sym, ap, ◌∙◌, ℕ, List, ◌++◌, ◌+◌, ◌*◌, ◌-◌, ◌<◌, ◌≤◌, length, take, drop, length-take, length-drop, drop_of_length-le, arith}
use mathlib.Core.List.{append-nil}
use native.Mathlib.Nat.{zero-mul, mul-le-mul}
use Rattle.lists.specs.Lists.{join}
use Rattle.lists.proofs.Pieces.{length-tabulate}
use Rattle.sizes.proofs.Legal.{row_fits}
use Rattle.grid.proofs.Kept.{join-loop}
use Rattle.trial_spec.specs.Trial.{counted}
use Rattle.trial_lists.proofs.repeat_on.Invariants.{run}
use Rattle.trial_lists.proofs.repeat_on.Goals as goal

-- where the run of a turn ends
record Ends (t d r : ℕ) : Type 0 where
  inside : t * d + d ≤ r * d
  few : r * d ≤ 1024

ends : (t d r : ℕ) → t < r → d ≤ 32 → r ≤ 32 → Ends t d r
ends t d r h g f = record { inside = row_fits _ _ _ h; few = mul-le-mul f g }

-- the run's part of the list
part : (t d m : ℕ) (l : List ℕ) → t * d + d ≤ m → length l ≡ m → length (take (t * d + d - t * d) (drop (t * d) l)) ≡ d
part t d m l h e = simp (length-take, length-drop) (omega arith)

pub loop-t-init : goal.loop-t-init
loop-t-init c = let a = c.args in record { counted = ap (λ (m : ℕ). drop m a.out.now) (sym (zero-mul a.d)); same = refl }

pub loop-t-preserved : goal.loop-t-preserved
loop-t-preserved c =
    let l = c.loop-t in
    let a = c.args in
    let w = ends l.t a.d a.r c.loop-t-test.true c.requires.2 c.requires.3 in
    let p = part l.t a.d (a.r * a.d) l.out w.inside (l.invariant.same ∙ c.requires.4) in
    record {
      counted = join-loop (run a.n a.first a.d) a.d l.t a.out.now l.out _ (λ j h. length-tabulate a.d _)
          (c.count_on.ensures ∙ ap (counted a.n a.first) p) l.invariant.counted;
      same = search rules;
    }

pub returns : goal.returns
returns c =
    let l = c.loop-t in
    let a = c.args in
    let e : l.t ≡ a.r = omega arith in
    l.invariant.counted ∙ ap (λ (m : ℕ). join m (run a.n a.first a.d) ++ drop (m * a.d) a.out.now) e
    ∙ ap (λ (m : List ℕ). join a.r (run a.n a.first a.d) ++ m) (drop_of_length-le a.out.now {i = a.r * a.d} (omega arith))
    ∙ append-nil (join a.r (run a.n a.first a.d))
