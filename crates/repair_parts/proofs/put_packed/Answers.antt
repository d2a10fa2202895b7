-- `repair_parts::put_packed` meets its contract: a word more.
-- Assumes nothing.
use Rattle.std.proofs.Common.{◌≡◌, ℕ, ◌≤◌, length, ap, ◌∙◌, arith}
use Rattle.lists.specs.Lists.{tabulate, piece}
use Rattle.lists.proofs.Pieces.{part-piece, fill-loop, fill-all}
use Rattle.record_words.specs.Words.{from_bytes}
use Rattle.repair_parts.proofs.put_packed.Goals as goal

pub loop-q-preserved : goal.loop-q-preserved
loop-q-preserved c =
    let a = c.args in
    let l = c.loop-q in
    fill-loop (λ t. from_bytes (piece 8 t a.packed.now)) a.words.now l.words l.q c.word_of.result c.loop-q-test.true
    (c.word_of.ensures ∙ ap from_bytes (part-piece 8 l.q a.packed.now)) l.invariant

pub returns : goal.returns
returns c =
    let a = c.args in
    let l = c.loop-q in
    let done : length a.words.now ≤ l.q = omega arith in
    let e : l.q ≡ length a.words.now = omega arith in
    l.invariant ∙ fill-all (λ t. from_bytes (piece 8 t a.packed.now)) a.words.now l.q done
    ∙ ap (λ (m : ℕ). tabulate m (λ t. from_bytes (piece 8 t a.packed.now))) e
