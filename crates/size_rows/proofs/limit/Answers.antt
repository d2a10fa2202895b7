-- `size_rows::limit` meets its contract, by what was read of a byte.
-- Assumes nothing.
use Rattle.std.proofs.Common.{◌≡◌, sym, ap, ◌∙◌, [], ◌+◌, ◌-◌, ℕ, List, drop, length, ◌<◌, arith, length-drop, slice_index_or, drop_of_length-le}
use native.Mathlib.Numerals.{add-one}
use lib.Seq.{drop-cons}
use Rattle.number_lines.specs.declared.Read.{Read}
use Rattle.number_lines.specs.declared.Reader.{Reader}
use Rattle.number_lines.specs.Steps.{reads, told, fed}
use Rattle.size_list.specs.Combinations.{limit}
use Rattle.size_steps.specs.Steps.{whole_limit}
use Rattle.size_steps.proofs.Taken.{go, limit-reads}
use Rattle.size_rows.proofs.limit.Goals as goal

-- what is made of what was read of byte t, and of the bytes behind it
abbrev heard : List ℕ → ℕ → Read → ℕ
heard l t x = told 0 (λ r. reads 0 [] 33 r (drop (t + 1) l) go) (λ v. go v (drop (t + 1) l)) x

fed-on : (l : List ℕ) (t : ℕ) (r : Reader) (x : Read) → t < length l → x ≡ fed [] 33 r (slice_index_or l t 0) → reads 0 [] 33 r (drop t l) go ≡ limit l
    → heard l t x ≡ limit l
fed-on l t r x h e i = ap (heard l t) e ∙ (rw (add-one t) (sym (ap (λ m. reads 0 [] 33 r m go) (drop-cons l t 0 h)))) ∙ i

pub loop-t-init : goal.loop-t-init
loop-t-init c = ap (λ r. reads 0 [] 33 r c.args.input.now go) c.start-reader.ensures ∙ limit-reads _

pub loop-t-preserved : goal.loop-t-preserved
loop-t-preserved c =
    sym (ap (heard c.args.input.now c.loop-t.t) c.in-More.is) ∙ fed-on _ c.loop-t.t c.loop-t.reader _ c.loop-t-test.true c.feed.ensures c.loop-t.invariant

pub returns-in-Whole : goal.returns-in-Whole
returns-in-Whole c =
    let l = c.args.input.now in
    let t = c.loop-t.t in
    let e : length l - t - 1 ≡ length (drop (t + 1) l) = omega (arith, length-drop (t + 1) l) in
    c.whole.ensures ∙ ap (whole_limit c.in-Whole.v) e
    ∙ sym (ap (heard l t) c.in-Whole.is) ∙ fed-on l t c.loop-t.reader _ c.loop-t-test.true c.feed.ensures c.loop-t.invariant

pub returns-in-Malformed : goal.returns-in-Malformed
returns-in-Malformed c =
    sym (ap (heard c.args.input.now c.loop-t.t) c.in-Malformed.is)
    ∙ fed-on _ c.loop-t.t c.loop-t.reader _ c.loop-t-test.true c.feed.ensures c.loop-t.invariant

pub returns : goal.returns
returns c =
    let l = c.args.input.now in
    sym (ap (λ m. reads 0 [] 33 c.loop-t.reader m go) (drop_of_length-le l {i = c.loop-t.t} c.loop-t-test.false)) ∙ c.loop-t.invariant
