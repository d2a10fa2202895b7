-- `board_gather::gather` meets its contract: each test is taken apart, and a refusal returned early.
-- Assumes nothing.
use mathlib.Core.Path.{◌≡◌, refl, sym, ◌∙◌}
use mathlib.Core.Bool.{true}
use mathlib.Core.List.{List}
use Prim.Native.Nat.{ℕ, ◌<◌}
use native.Mathlib.Omega.{arith}
use lib.ListN.{length}
use borrow.Author.Tests.{not-true, not-false}
use borrow.Author.Rules.{rules}
use Rattle.text_head.specs.declared.Head.{Head}
use Rattle.text_head.specs.Steps.{Stands}
use Rattle.text_scan.specs.declared.Scan.{Scan}
use Rattle.text_scan.specs.Steps.{Heads}
use Rattle.board_gather.proofs.GatherCall as law
use Rattle.board_gather.proofs.gather.Statement.{statement}
use Rattle.board_gather.proofs.gather.Tie as tie

-- places in the code
abbrev scan_texts-found-of-then-not-found-2 : tie.Then-not-found-2 → tie.After-scan_texts-found
scan_texts-found-of-then-not-found-2 c = c.before.before.before.before.before.before

abbrev start-of-then-not-first : tie.Then-not-first → tie.Start
start-of-then-not-first c = c.before.before.before.before.before.before

abbrev else-found-k-of-slice_known-2-1 : tie.After-slice_known-2-1 → tie.Else-found-k
else-found-k-of-slice_known-2-1 c = c.before.before.before.before.before.before.before

abbrev head_at-first-of-scan_texts-found : tie.After-scan_texts-found → tie.After-head_at-first
head_at-first-of-scan_texts-found c = c.before.before.before.before.before.before.before.before

abbrev scan_texts-found-of-else-found-k : tie.Else-found-k → tie.After-scan_texts-found
scan_texts-found-of-else-found-k c = c.before.before.before.before.before.before.before.before

abbrev scan_texts-found-of-then-found-k : tie.Then-found-k → tie.After-scan_texts-found
scan_texts-found-of-then-found-k c = c.before.before.before.before.before.before.before.before

abbrev head_at-first-of-else-not-found : tie.Else-not-found → tie.After-head_at-first
head_at-first-of-else-not-found c = head_at-first-of-scan_texts-found c.before.before.before.before

abbrev points-2-1-of-points-3-1 : tie.After-points-3-1 → tie.After-points-2-1
points-2-1-of-points-3-1 c = c.before.before.before.before.before.before.before.before.before.before.before.before

abbrev head_at-first-of-then-not-found-2 : tie.Then-not-found-2 → tie.After-head_at-first
head_at-first-of-then-not-found-2 c = head_at-first-of-else-not-found c.before.before

abbrev head_at-first-of-else-found-k : tie.Else-found-k → tie.After-head_at-first
head_at-first-of-else-found-k c = head_at-first-of-else-not-found c.before.before.before.before

abbrev head_at-first-of-then-found-k : tie.Then-found-k → tie.After-head_at-first
head_at-first-of-then-found-k c = head_at-first-of-else-not-found c.before.before.before.before

abbrev start-of-else-not-found : tie.Else-not-found → tie.Start
start-of-else-not-found c = c.before.before.before.before.before.before.before.before.before.before.before.before.before.before.before.before

abbrev start-of-then-not-found : tie.Then-not-found → tie.Start
start-of-then-not-found c = c.before.before.before.before.before.before.before.before.before.before.before.before.before.before.before.before

abbrev start-of-then-not-found-2 : tie.Then-not-found-2 → tie.Start
start-of-then-not-found-2 c = start-of-else-not-found c.before.before

abbrev start-of-else-found-k : tie.Else-found-k → tie.Start
start-of-else-found-k c = start-of-else-not-found c.before.before.before.before

abbrev start-of-then-found-k : tie.Then-found-k → tie.Start
start-of-then-found-k c = start-of-else-not-found c.before.before.before.before

abbrev text : tie.Start → List ℕ
text g = g.args.text.now

abbrev out : tie.Start → List ℕ
out g = g.args.out.now

-- the first text's head
abbrev first : tie.After-head_at-first → Head
first c = c.head_at-first.result

stands : (c : tie.After-head_at-first) → Stands (text c.before.before.before.before) 0 (first c)
stands c = c.head_at-first.ensures

some_bytes : (c : tie.After-head_at-first) → 0 < length (text c.before.before.before.before)
some_bytes c = omega (arith, c.if-text-eq0.false)

first-stands : (c : tie.After-scan_texts-found) → (first (head_at-first-of-scan_texts-found c)).ok ≡ true
first-stands c = not-false _ c.if-not-first.false

-- what the walk found
abbrev found : tie.After-scan_texts-found → Scan
found c = c.scan_texts-found.result

abbrev nodes : tie.After-scan_texts-found → List ℕ
nodes c = c.scan_texts-found.new.nodes

abbrev places : tie.After-scan_texts-found → List ℕ
places c = c.scan_texts-found.new.places

walked : (c : tie.Else-not-found) → let f = first (head_at-first-of-else-not-found c) in
    (hs : List Head) × Heads (text (start-of-else-not-found c)) f.sizes f.points f.length (found c.before.before.before.before) (nodes c.before.before.before.before) (places c.before.before.before.before) hs
walked c = c.scan_texts-found.ensures.heads (not-false _ c.if-not-found.false)

no_text : tie.Need-returns-then-text-eq0
no_text c = law.refuses-none (text c.before.before.before) (out c.before.before.before) c.if-text-eq0.true

no-first : tie.Need-returns-then-not-first
no-first c = law.refuses-first (text (start-of-then-not-first c)) (out (start-of-then-not-first c)) (first c.before.before) (stands c.before.before) (some_bytes c.before.before) (not-true _ c.if-not-first.true)

no-texts : tie.Need-returns-then-not-found
no-texts c =
    law.refuses-text (text (start-of-then-not-found c)) (out (start-of-then-not-found c)) (c.scan_texts-found.ensures.no-texts (not-true _ c.if-not-found.true))

mixed : tie.Need-returns-then-not-found-2
mixed c =
    let w = walked c.before.before in
    law.refuses-mixed (text (start-of-then-not-found-2 c)) (out (start-of-then-not-found-2 c)) (first (head_at-first-of-then-not-found-2 c)) (stands (head_at-first-of-then-not-found-2 c)) (some_bytes (head_at-first-of-then-not-found-2 c)) (first-stands (scan_texts-found-of-then-not-found-2 c)) (found (scan_texts-found-of-then-not-found-2 c)) (nodes (scan_texts-found-of-then-not-found-2 c)) (places (scan_texts-found-of-then-not-found-2 c)) w.0 w.1 (not-true _ c.if-not-found-2.true)

miscounted : tie.Need-returns-then-found-k
miscounted c =
    let w = walked c.before.before.before.before in
    law.refuses-count (text (start-of-then-found-k c)) (out (start-of-then-found-k c)) (first (head_at-first-of-then-found-k c)) (stands (head_at-first-of-then-found-k c)) (some_bytes (head_at-first-of-then-found-k c)) (first-stands (scan_texts-found-of-then-found-k c)) (found (scan_texts-found-of-then-found-k c)) (nodes (scan_texts-found-of-then-found-k c)) (places (scan_texts-found-of-then-found-k c)) w.0 w.1
    (not-false _ c.if-not-found-2.false) c.if-found-k.true

-- the points are 32 bytes, each time that they are lent
points-long : tie.Need-slice_bounds-scan_texts-end
points-long c = search rules

-- k texts that are alike
told : (q : tie.Else-found-k) → law.Told (text (start-of-else-found-k q)) (out (start-of-else-found-k q)) (first (head_at-first-of-else-found-k q)) (nodes (scan_texts-found-of-else-found-k q)) (places (scan_texts-found-of-else-found-k q))
told q =
    let w = walked q.before.before.before.before in
    law.told (text (start-of-else-found-k q)) (out (start-of-else-found-k q)) (first (head_at-first-of-else-found-k q)) (stands (head_at-first-of-else-found-k q)) (some_bytes (head_at-first-of-else-found-k q)) (first-stands (scan_texts-found-of-else-found-k q)) (found (scan_texts-found-of-else-found-k q)) (nodes (scan_texts-found-of-else-found-k q)) (places (scan_texts-found-of-else-found-k q)) w.0 w.1 (not-false _ q.if-not-found-2.false) q.if-found-k.false

pub gather_spec : {M : Type 1} → statement M
gather_spec =
    tie.close
    (tie.spec
    no_text
    (λ c κs. search rules)
    no-first
    points-long
    (λ c. search rules)
    (λ c. search rules)
    (λ c κs. (refl, refl))
    no-texts
    mixed
    miscounted
    (λ c. points-long (points-2-1-of-points-3-1 c))
    (λ c. search rules)
    (λ c. search rules)
    (λ c. (told c.before).boards-enough)
    (λ c. search rules)
    (λ c. search rules)
    (λ c. (told c.before.before).places-enough)
    (λ c κs. (told c.before.before.before.before).ready)
    (λ c. search rules)
    (λ c. c.gather_told.ensures ∙ sym (told (else-found-k-of-slice_known-2-1 c)).gathers))
