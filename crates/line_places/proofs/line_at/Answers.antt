-- `line_places::line_at` meets its contract: a step of the reader, and the whole line at the end.
-- Assumes nothing.
use Rattle.std.proofs.Common.{◌≡◌, true, ℕ, ◌+◌, ◌-◌, ◌<◌, List, length, drop, sym, ap, ◌∙◌, arith, length-drop}
use Rattle.number_lines.specs.declared.Reader.{Reader}
use Rattle.number_lines.specs.Steps.{begin}
use Rattle.number_lines.proofs.Laws.{line-laws}
use Rattle.text_in.specs.Steps.{lost, number_told}
use Rattle.text_in.proofs.At.{more, whole, malformed, ended}
use Rattle.line_places.specs.Steps.{most, line_at}
use Rattle.line_places.proofs.line_at.Invariants.{reading}
use Rattle.line_places.proofs.line_at.Goals as goal

-- the whole line is the definition's
is-line : (text : List ℕ) (at : ℕ) (name : List ℕ) → reading text name begin at ≡ line_at text at name
unfolding line_at
is-line text at name = line-laws.byte-by-byte (lost text) name most (drop at text) (number_told text)

pub loop-i-init : goal.loop-i-init
loop-i-init c = let a = c.args in ap (λ (r : Reader). reading a.text.now a.name.now r a.at) c.start-line.ensures

pub loop-i-preserved : goal.loop-i-preserved
loop-i-preserved c =
    let a = c.args in
    more (lost a.text.now) a.name.now most a.text.now c.loop-i.i c.loop-i.line (number_told a.text.now) c.loop-i-test.true
    (sym c.feed.ensures ∙ c.in-More.is)
    ∙ c.loop-i.invariant

pub returns-in-Whole : goal.returns-in-Whole
returns-in-Whole c =
    let a = c.args in
    let t = a.text.now in
    let inside : c.loop-i.i < length t = c.loop-i-test.true in
    let left = length-drop (c.loop-i.i + 1) t in
    let place : c.loop-i.i + 1 ≡ length t - length (drop (c.loop-i.i + 1) t) = omega (arith, inside, left) in
    ap (λ (n : ℕ). record { ok = true; value = c.in-Whole.v; next = n }) place
    ∙ sym (whole (lost t) a.name.now most t c.loop-i.i c.loop-i.line (number_told t) inside (sym c.feed.ensures ∙ c.in-Whole.is))
    ∙ c.loop-i.invariant
    ∙ is-line t a.at a.name.now

pub returns-in-Malformed : goal.returns-in-Malformed
returns-in-Malformed c =
    let a = c.args in
    let t = a.text.now in
    c.lost.ensures
    ∙ sym (malformed (lost t) a.name.now most t c.loop-i.i c.loop-i.line (number_told t) c.loop-i-test.true (sym c.feed.ensures ∙ c.in-Malformed.is))
    ∙ c.loop-i.invariant
    ∙ is-line t a.at a.name.now

pub returns : goal.returns
returns c =
    let a = c.args in
    let t = a.text.now in
    c.lost-2.ensures
    ∙ sym (ended (lost t) a.name.now most t c.loop-i.i c.loop-i.line (number_told t) c.loop-i-test.false)
    ∙ c.loop-i.invariant
    ∙ is-line t a.at a.name.now
