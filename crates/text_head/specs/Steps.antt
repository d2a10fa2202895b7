-- A text at a place: its lines one after another, and what stands there.
-- Assumes nothing.
use Rattle.std.specs.Prelude.{◌≡◌, true, false, List, [], ℕ, ◌+◌, ◌*◌, ◌≤◌, ◌<◌, eqb, length, get_or, drop}
use Rattle.std.proofs.Math.Option.{Option, some, none}
use Rattle.lists.specs.Tests.{pick}
use Rattle.lists.specs.Lists.{fit}
use Rattle.sizes.specs.Sizing.{max_boards, α, stripes}
use Rattle.sizes.specs.declared.Sizes.{Sizes}
use Rattle.mbcr.specs.Share.{standard}
use Rattle.text_spec.specs.Texts.{ShareTold, tellable, Found, text_at}
use Rattle.text_in.specs.declared.Told.{Told}
use Rattle.text_in.specs.Steps.{number_at, pairs_line_at, bytes_at}
use Rattle.text_head.specs.declared.Six.{Six}
use Rattle.text_head.specs.declared.Pointed.{Pointed}
use Rattle.text_head.specs.declared.Head.{Head}

-- the six lines of numbers, each from behind the last: where one does not stand, none behind it does
abbrev pub six_at : List ℕ → ℕ → Six
six_at text at =
    let n = number_at text at 0 in
    let k = number_at text n.next 1 in
    let d = number_at text k.next 2 in
    let r = number_at text d.next 3 in
    let node = number_at text r.next 4 in
    let L = number_at text node.next 5 in
    record { ok = L.ok; sizes = record { n = n.value; k = k.value; d = d.value; r = r.value }; node = node.value; length = L.value; next = L.next }

-- no points
abbrev pub unpointed : Pointed
unpointed = record { ok = false; points = fit max_boards []; next = 0 }

-- the points that a line of pairs gives
abbrev pub said_at : Sizes → List ℕ → Told → Pointed
said_at z xs line = pick line.ok (pick (tellable z xs) (record { ok = true; points = fit max_boards xs; next = line.next }) unpointed) unpointed

-- the line of points, where a p stands, and else the points in order
unfoldable pub pointed_at : List ℕ → ℕ → Sizes → Pointed
pointed_at text at z =
    let line = pairs_line_at text at 0 z.n in
    pick (eqb (get_or text at 0) 0x70) (said_at z (bytes_at text line.value z.n) line) (record { ok = true; points = standard z; next = at })

-- what a head tells, with the share's bytes, which the pairs from its place on spell
abbrev pub told_by : List ℕ → Head → ShareTold
told_by text h = record {
  sizes = h.sizes;
  points = h.points;
  length = h.length;
  node = h.node;
  share = bytes_at text h.place h.count;
}

abbrev pub found_by : List ℕ → Head → Option Found
found_by text h = pick h.ok (some (record { told = told_by text h; behind = drop h.next text })) none

-- the head of the text that stands at a place
pub record Stands (text : List ℕ) (at : ℕ) (h : Head) : Type 0 where
  pub is-text : text_at (drop at text) ≡ found_by text h
  -- its share's bytes are within the text, and the place behind it too
  pub counts : h.ok ≡ true → h.count ≡ stripes h.sizes h.length * α h.sizes
  pub within : h.ok ≡ true → h.place + 2 * h.count < h.next
  pub ends : h.ok ≡ true → h.next ≤ length text
  pub grows : h.ok ≡ true → at < h.next
