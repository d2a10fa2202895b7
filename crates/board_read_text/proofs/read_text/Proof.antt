-- `board_read_text::read_text` meets its contract: each test is taken apart, and a refusal returned early.
-- Assumes nothing.
use mathlib.Core.Path.{◌≡◌, ap, ◌∙◌}
use mathlib.Core.Bool.{true}
use mathlib.Core.List.{List, ◌++◌}
use Prim.Native.Nat.{ℕ, ◌-◌}
use native.Mathlib.Omega.{arith}
use lib.ListN.{length, drop}
use lib.Seq.{length-take-le}
use borrow.Author.Tests.{not-true, not-false}
use Rattle.sizes.specs.Refusals.{said}
use Rattle.text_spec.specs.Calls.{ReadOutcome}
use Rattle.text_head.specs.declared.Head.{Head}
use Rattle.text_head.specs.Steps.{Stands}
use Rattle.board_read_text.specs.declared.TextRead.{TextRead}
use Rattle.board_read_text.proofs.ReadCall.{refuses-lines, refuses-behind, refuses-short, works}
use borrow.Author.Rules.{rules}
use Rattle.board_read_text.proofs.read_text.Statement.{statement}
use Rattle.board_read_text.proofs.read_text.Tie as tie

-- what was answered, and the output
abbrev outcome : TextRead → List ℕ → ReadOutcome
outcome r output = record { answer = said r.answer; sizes = r.sizes; points = r.points; node = r.node; length = r.length; output = output }

abbrev st : tie.After-head_at-head → tie.Start
st c = c.before.before.before

abbrev h : tie.After-head_at-head → Head
h c = c.head_at-head.result

abbrev text : tie.After-head_at-head → List ℕ
text c = (st c).args.text.now

abbrev out : tie.After-head_at-head → List ℕ
out c = (st c).args.out.now

stands : (c : tie.After-head_at-head) → Stands (text c) 0 (h c)
stands c = c.head_at-head.ensures

returns : tie.Need-returns-then-not-head
returns c =
    let k = c.before.before.before in
    ap (λ (r : TextRead). outcome r (out k)) c.refused.ensures ∙ refuses-lines (text k) (out k) (h k) (stands k) (not-true _ c.before.if-not-head.true)

abbrev head-at-at-else1 : tie.Else-not-head → tie.After-head_at-head
head-at-at-else1 c = c.before.before

there : (c : tie.Else-not-head) → (h (head-at-at-else1 c)).ok ≡ true
there c = not-false _ c.if-not-head.false

returns-2 : tie.Need-returns-then-head-text
returns-2 c =
    let e = c.before.before.before in
    let k = head-at-at-else1 e in
    ap (λ (r : TextRead). outcome r (out k)) c.refused-then-head-text.ensures ∙ refuses-behind (text k) (out k) (h k) (stands k) (there e) c.before.if-head-text.true

abbrev else1-at-else2 : tie.Else-head-text → tie.Else-not-head
else1-at-else2 c = c.before.before

whole : (c : tie.Else-head-text) → let k = head-at-at-else1 (else1-at-else2 c) in (h k).next ≡ length (text k)
whole c = c.if-head-text.false

returns-3 : tie.Need-returns-then-out-count
returns-3 c =
    let w = c.before.before in
    let e = else1-at-else2 w in
    let k = head-at-at-else1 e in
    ap (λ (r : TextRead). outcome r (out k)) c.refused-then-out-count.ensures ∙ refuses-short (text k) (out k) (h k) (stands k) (there e) (whole w) c.before.if-out-count.true

fill-pairs-requires : tie.Need-fill_pairs-requires
fill-pairs-requires c κs =
    let x = c.before in
    let e = else1-at-else2 x.before in
    let k = head-at-at-else1 e in
    let s = stands k in
    let l = length-take-le (h k).count (out k) x.if-out-count.false in
    omega (arith, s.within (there e), s.ends (there e), l)

returns-4 : tie.Need-returns
returns-4 c =
    let f = c.before.before.before.before in
    let x = f.before.before in
    let w = x.before in
    let e = else1-at-else2 w in
    let k = head-at-at-else1 e in
    works (text k) (out k) (h k) (stands k) (there e) (whole w) x.if-out-count.false _ (ap (λ (y : List ℕ). y ++ drop ((h k).count - 0) (out k)) f.fill_pairs.ensures)

pub read_text_spec : {M : Type 1} → statement M
read_text_spec =
    tie.close
    (tie.spec
    (λ c κs. search rules)
    (λ c κs. search rules)
    returns
    (λ c κs. search rules)
    returns-2
    (λ c κs. search rules)
    returns-3
    (λ c. search rules)
    (λ c. search rules)
    (λ c. search rules)
    fill-pairs-requires
    (λ c. search rules)
    returns-4)
