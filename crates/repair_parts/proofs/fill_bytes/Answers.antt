-- `repair_parts::fill_bytes` meets its contract: eight bytes more.
-- Assumes nothing.
use Rattle.std.proofs.Common.{get_or, arith}
use Rattle.grid.proofs.Kept.{join-loop}
use Rattle.record_words.specs.Words.{bytes}
use Rattle.record_words.proofs.Points.{length-bytes}
use Rattle.repair_parts.proofs.Parts.{words-done}
use Rattle.repair_parts.proofs.fill_bytes.Goals as goal

pub loop-q-preserved : goal.loop-q-preserved
loop-q-preserved c =
    let a = c.args in
    let l = c.loop-q in
    join-loop (λ t. bytes 8 (get_or a.words.now t 0)) 8 l.q a.out.now l.out _ (λ i h. length-bytes 8 (get_or a.words.now i 0)) c.put_word.ensures l.invariant

pub returns : goal.returns
returns c = words-done c.args.words.now c.args.out.now c.loop-q.out c.loop-q.q (omega arith) c.requires c.loop-q.invariant
