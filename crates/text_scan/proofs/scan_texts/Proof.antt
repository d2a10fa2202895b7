-- `text_scan::scan_texts` meets its contract. The loop's invariant: the texts before the place reached have heads, and all that is noted is by these.
-- Assumes nothing.
use mathlib.Core.Path.{◌≡◌, refl, ap}
use mathlib.Core.Bool.{true, false, not}
use Prim.Native.Nat.{◌-◌, ◌≤◌, ◌<◌}
use native.Mathlib.Omega.{arith}
use borrow.Author.Rules.{rules}
use borrow.Author.Tests.{not-true, not-false}
use Rattle.lists.specs.Tests.{pick}
use Rattle.text_head.specs.declared.Head.{Head}
use Rattle.text_head.specs.Steps.{Stands}
use Rattle.text_scan.specs.Steps.{like_head}
use Rattle.text_scan.proofs.Walk.{Some-walked, same-room, not_alike, still_alike, walk_begins, walk-on, walk-stops, walk_ends}
use Rattle.text_scan.proofs.scan_texts.Statement.{statement}
use Rattle.text_scan.proofs.scan_texts.Tie as tie
use Rattle.text_scan.proofs.scan_texts.Lts.{then-not-like, else-not-like}

abbrev invariant-loop : tie.invariant-loop-at
invariant-loop text sizes points length nodes₀ places₀ at₀ count₀ alike₀ nodes places at count alike = Some-walked text sizes points length nodes places at count alike

abbrev decreases-loop : tie.decreases-loop-at
decreases-loop text sizes points length nodes₀ places₀ at₀ count₀ alike₀ nodes places at count alike = lib.ListN.length text - at

-- places in the code
abbrev else-not-head-of-slice_known-in-loop-at-2-1 : tie.After-slice_known-in-loop-at-2-1 invariant-loop decreases-loop → tie.Else-not-head invariant-loop decreases-loop
else-not-head-of-slice_known-in-loop-at-2-1 c = c.before.before.before.before.before.before.before.before.before.before.before.before.before

abbrev head_at-head-of-slice_known-in-loop-at-2-1 : tie.After-slice_known-in-loop-at-2-1 invariant-loop decreases-loop → tie.After-head_at-head invariant-loop decreases-loop
head_at-head-of-slice_known-in-loop-at-2-1 c = c.before.before.before.before.before.before.before.before.before.before.before.before.before.before.before

-- the places
abbrev start : tie.At-loop-at invariant-loop decreases-loop → tie.Start invariant-loop decreases-loop
start l = l.before.before.before.before.before

abbrev at-loop : tie.After-head_at-head invariant-loop decreases-loop → tie.At-loop-at invariant-loop decreases-loop
at-loop d = d.before.before

abbrev at-else : tie.After-like invariant-loop decreases-loop → tie.Else-not-head invariant-loop decreases-loop
at-else k = k.before.before.before.before

abbrev at_head : tie.Else-not-head invariant-loop decreases-loop → tie.After-head_at-head invariant-loop decreases-loop
at_head e = e.before.before

-- the head found
abbrev h : tie.After-head_at-head invariant-loop decreases-loop → Head
h d = d.head_at-head.result

stands : (d : tie.After-head_at-head invariant-loop decreases-loop) → Stands d.args.text.now d.loop-at.at (h d)
stands d = d.head_at-head.ensures

there : (e : tie.Else-not-head invariant-loop decreases-loop) → (h e.before.before).ok ≡ true
there e = not-false _ e.if-not-head.false

abbrev joined : tie.After-slice_known-in-loop-at-2-1 invariant-loop decreases-loop → tie.Joined-not-like invariant-loop decreases-loop
joined c = c.before.before.before.before.before.before.before.before

-- whether all are alike, with this one
still : (j : tie.Joined-not-like invariant-loop decreases-loop) → let d = at_head (at-else j.before) in let l = at-loop d in let a = (start l).args in
    j.if-not-like.alike ≡ pick (like_head a.sizes a.points.now a.length (h d)) l.loop-at.alike false
still j =
    let k = j.before in
    let d = at_head (at-else k) in
    let l = at-loop d in
    let a = (start l).args in
    let p = like_head a.sizes a.points.now a.length (h d) in
    elim j.if-not-like.branch [
      | then-not-like w ↦ not_alike p k.like.result l.loop-at.alike j.if-not-like.alike k.like.ensures (ap not w.if-not-like.true) w.alike-is
      | else-not-like w ↦ still_alike p k.like.result l.loop-at.alike j.if-not-like.alike k.like.ensures (ap not w.if-not-like.false) w.alike-is
    ]

-- both lists are as long as they came
nodes-long : (l : tie.At-loop-at invariant-loop decreases-loop) → lib.ListN.length l.loop-at.nodes ≡ lib.ListN.length l.args.nodes.now
nodes-long l = let k = l.loop-at.invariant in same-room (λ (h : Head). h.node) k.0 _ _ k.1.boards l.requires.0

places-long : (l : tie.At-loop-at invariant-loop decreases-loop) → lib.ListN.length l.loop-at.places ≡ lib.ListN.length l.args.places.now
places-long l = let k = l.loop-at.invariant in same-room (λ (h : Head). h.place) k.0 _ _ k.1.begin l.requires.1

loop-holds : tie.Need-loop-at-init invariant-loop decreases-loop
loop-holds c =
    let a = c.args in
    walk_begins a.text.now a.sizes a.points.now a.length a.nodes.now a.places.now c.requires.0 c.requires.1

returns : tie.Need-returns-then-not-head invariant-loop decreases-loop
returns c =
    let a = c.args in
    let v = c.loop-at in
    walk-stops a.text.now a.sizes a.points.now a.length v.nodes v.places v.at v.count v.alike v.invariant (h c.before.before) (stands c.before.before)
    c.loop-at-test.true (not-true _ c.if-not-head.true) (record { ok = false; alike = false; count = 0 }) refl v.nodes v.places

-- the head is behind the place reached, and within the text
further : (c : tie.After-slice_known-in-loop-at-2-1 invariant-loop decreases-loop) →
    (c.loop-at.count ≤ c.loop-at.at) × (c.loop-at.at < (h (head_at-head-of-slice_known-in-loop-at-2-1 c)).next) × ((h (head_at-head-of-slice_known-in-loop-at-2-1 c)).next ≤ lib.ListN.length c.args.text.now)
further c =
    (c.loop-at.invariant.1.few, (stands (head_at-head-of-slice_known-in-loop-at-2-1 c)).grows (there (else-not-head-of-slice_known-in-loop-at-2-1 c)), (stands (head_at-head-of-slice_known-in-loop-at-2-1 c)).ends (there (else-not-head-of-slice_known-in-loop-at-2-1 c)))

add-count : tie.Need-overflow_add-count invariant-loop decreases-loop
add-count c =
    let f = further c in
    record { fits = omega (arith, f.0, f.1, f.2, c.well_formed) }

loop-less : tie.Need-loop-at-smaller invariant-loop decreases-loop
loop-less c = let f = further c in omega (arith, f.1, f.2)

loop-again : tie.Need-loop-at-preserved invariant-loop decreases-loop
loop-again c =
    let a = c.args in
    let v = c.loop-at in
    walk-on a.text.now a.sizes a.points.now a.length v.nodes v.places v.at v.count v.alike v.invariant (h (head_at-head-of-slice_known-in-loop-at-2-1 c)) (stands (head_at-head-of-slice_known-in-loop-at-2-1 c))
    (there (else-not-head-of-slice_known-in-loop-at-2-1 c)) _ _ _ c.note.ensures c.note-in-loop-at.ensures (still (joined c))

returns-2 : tie.Need-returns invariant-loop decreases-loop
returns-2 c =
    let a = c.args in
    let v = c.loop-at in
    walk_ends a.text.now a.sizes a.points.now a.length v.nodes v.places v.at v.count v.alike v.invariant c.loop-at-test.false

pub scan_texts_spec : {M : Type 1} → statement M
scan_texts_spec =
    tie.close
    (tie.spec
    invariant-loop
    decreases-loop
    loop-holds
    (λ c κs. search rules)
    (λ c. nodes-long c.before.before.before.before)
    (λ c. places-long c.before.before.before.before)
    returns
    (λ c. search rules)
    (λ c κs. search rules)
    (λ c κs. search rules)
    (λ c κs. search rules)
    add-count
    loop-less
    loop-again
    (λ c. nodes-long c.before)
    (λ c. places-long c.before)
    returns-2)
