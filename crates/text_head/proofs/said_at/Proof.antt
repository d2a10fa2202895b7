-- `text_head::said_at` meets its contract: the line stands there, and its points may be told.
-- Assumes nothing.
use mathlib.Core.Path.{◌≡◌, sym, ap, ◌∙◌}
use mathlib.Core.Bool.{true, false, not}
use mathlib.Core.List.{List, [], ◌∷◌}
use Prim.Native.Nat.{ℕ, ◌+◌, ◌*◌, ◌≤◌}
use native.Mathlib.Omega.{arith}
use lib.ListN.{take}
use borrow.Author.Tests.{not-true, not-false}
use Rattle.lists.specs.Tests.{alls}
use Rattle.lists.specs.Lists.{fit}
use Rattle.lists.proofs.Pieces.{length-tabulate}
use Rattle.number_lines.proofs.Picks.{yes, no}
use Rattle.sizes.specs.declared.Sizes.{Sizes}
use Rattle.sizes.proofs.Legal.{legal-facts}
use Rattle.mbcr.specs.Share.{pointed}
use Rattle.text_lines.specs.Steps.{in_order}
use Rattle.text_spec.specs.Texts.{tellable}
use Rattle.text_in.specs.declared.Told.{Told}
use Rattle.text_in.specs.Steps.{pairs_line_at, pair_at, bytes_at}
use Rattle.text_places.proofs.Pairs.{line-told}
use Rattle.text_head.specs.Steps.{unpointed, said_at}
use Rattle.text_head.proofs.Text.{told_is}
use borrow.Author.Rules.{rules}
use Rattle.text_head.proofs.said_at.Statement.{statement}
use Rattle.text_head.proofs.said_at.Tie as tie

-- where the call began, and what its line tells
abbrev st : tie.After-pairs_from-line → tie.Start
st c = c.before.before

abbrev line : tie.After-pairs_from-line → Told
line c = let a = (st c).args in pairs_line_at a.text.now a.at 0 a.sizes.n

abbrev xs : tie.After-pairs_from-line → List ℕ
xs c = let a = (st c).args in bytes_at a.text.now (line c).value a.sizes.n

few : (g : tie.Start) → g.args.sizes.n ≤ 32
few g = (legal-facts g.args.sizes g.requires).few

-- the answers, by the tests
module _ (z : Sizes) (xs : List ℕ) (l : Told) where
  no_line : l.ok ≡ false → unpointed ≡ said_at z xs l
  no_line e = sym (no l.ok _ _ e)

  no-points : l.ok ≡ true → tellable z xs ≡ false → unpointed ≡ said_at z xs l
  no-points e f = sym (yes l.ok _ _ e ∙ no (tellable z xs) _ _ f)

  some-points : l.ok ≡ true → tellable z xs ≡ true → record { ok = true; points = fit 32 xs; next = l.next } ≡ said_at z xs l
  some-points e f = sym (yes l.ok _ _ e ∙ yes (tellable z xs) _ _ f)

returns : tie.Need-returns-then-not-line
returns c =
    let k = c.before.before.before in
    let e = ap (λ (t : Told). t.ok) (sym k.pairs_from-line.ensures) ∙ not-true _ c.before.if-not-line.true in
    c.unpointed.ensures ∙ no_line (st k).args.sizes (xs k) (line k) e

abbrev pairs-from-at-else1 : tie.Else-not-line → tie.After-pairs_from-line
pairs-from-at-else1 c = c.before.before

there : (c : tie.Else-not-line) → (line (pairs-from-at-else1 c)).ok ≡ true
there c = let k = pairs-from-at-else1 c in ap (λ (t : Told). t.ok) (sym k.pairs_from-line.ensures) ∙ not-false _ c.if-not-line.false

filled-requires : tie.Need-filled-points-requires
filled-requires c κs =
    let k = pairs-from-at-else1 c in
    let a = (st k).args in
    let t = line-told a.text.now a.at 0 a.sizes.n in
    let v = ap (λ (t : Told). t.value) k.pairs_from-line.ensures in
    (few (st k), omega (arith, t.within (there c), t.ends (there c), v))

-- the 32 points
points-are : (c : tie.After-filled-points) → c.filled-points.result ≡ fit 32 (xs (pairs-from-at-else1 c.before))
points-are c =
    let k = pairs-from-at-else1 c.before in
    let a = (st k).args in
    c.filled-points.ensures ∙ ap (λ (t : Told). fit 32 (bytes_at a.text.now t.value a.sizes.n)) k.pairs_from-line.ensures

abbrev filled-at-tellable : tie.After-tellable → tie.After-filled-points
filled-at-tellable c = c.before.before

tested : (c : tie.After-tellable) → let k = pairs-from-at-else1 (filled-at-tellable c).before in c.tellable.result ≡ tellable (st k).args.sizes (xs k)
tested c =
    let f = filled-at-tellable c in
    let k = pairs-from-at-else1 f.before in
    let a = (st k).args in
    c.tellable.ensures
    ∙ ap (λ (l : List ℕ). alls (pointed a.sizes l ∷ not (in_order (take a.sizes.n l)) ∷ [])) (points-are f)
    ∙ told_is a.sizes (xs k) (length-tabulate a.sizes.n (λ j. pair_at a.text.now ((line k).value + 2 * j))) (few (st k))

returns-2 : tie.Need-returns-then-not-tellable
returns-2 c =
    let t = c.before.before in
    let e = (filled-at-tellable t).before in
    let k = pairs-from-at-else1 e in
    c.unpointed-then-not-tellable.ensures ∙ no-points (st k).args.sizes (xs k) (line k) (there e) (sym (tested t) ∙ not-true _ (ap not c.before.if-not-tellable.true))

returns-3 : tie.Need-returns
returns-3 c =
    let t = c.before in
    let f = filled-at-tellable t in
    let e = f.before in
    let k = pairs-from-at-else1 e in
    ap (λ (l : List ℕ). record { ok = true; points = l; next = k.pairs_from-line.result.next }) (points-are f)
    ∙ ap (λ (l : Told). record { ok = true; points = fit 32 (xs k); next = l.next }) k.pairs_from-line.ensures
    ∙ some-points (st k).args.sizes (xs k) (line k) (there e) (sym (tested t) ∙ not-false _ (ap not c.if-not-tellable.false))

pub said_at_spec : {M : Type 1} → statement M
said_at_spec =
    tie.close
    (tie.spec
    (λ c κs. search rules)
    (λ c κs. search rules)
    returns
    filled-requires
    (λ c. search rules)
    (λ c κs. search rules)
    (λ c κs. search rules)
    returns-2
    returns-3)
