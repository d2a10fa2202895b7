-- `print_feed::feed_all` meets its contract: a byte more is fed, and at the end none is left.
-- Assumes nothing.
use Rattle.std.proofs.Common.{◌≡◌, sym, ap, ◌∙◌, ℕ, List, ◌∷◌, ◌+◌, ◌<◌, length, get_or, drop, drop_of_length-le}
use mathlib.Core.Path.{ap₂}
use native.Mathlib.Numerals.{add-one}
use lib.Seq.{drop-cons}
use Rattle.printer.specs.declared.Parser.{Parser}
use Rattle.printer.specs.Steps.{fed}
use Rattle.print_feed.specs.Steps.{Feed, kept_in, feed_all}
use Rattle.print_feed.proofs.Kept.{in-length}
use Rattle.print_feed.proofs.feed_all.Goals as goal

-- a turn
turn : (q q1 : Parser) (input file file1 : List ℕ) (t : ℕ) → t < length input → q1 ≡ fed q (get_or input t 0) → file1 ≡ kept_in q (get_or input t 0) file
    → feed_all (record { parser = q1; file = file1 }) (drop (t + 1) input) ≡ feed_all (record { parser = q; file = file }) (drop t input)
turn q q1 input file file1 t h e k =
    ap₂ {C = Feed} (λ x l. feed_all (record { parser = x; file = l }) (drop (t + 1) input)) e k
    ∙ ap (λ (m : ℕ). feed_all (record { parser = q; file = file }) (get_or input t 0 ∷ drop m input)) (add-one t)
    ∙ ap (feed_all (record { parser = q; file = file })) (sym (drop-cons input t 0 h))

pub loop-b-preserved : goal.loop-b-preserved
loop-b-preserved c = record {
  same = ap length c.keep.ensures ∙ in-length c.loop-b.q _ c.loop-b.file ∙ c.loop-b.invariant.same;
  left = turn c.loop-b.q c.feed-q.result c.args.input.now c.loop-b.file _ c.loop-b.b-index c.loop-b-test.true c.feed-q.ensures c.keep.ensures
      ∙ c.loop-b.invariant.left;
}

pub returns : goal.returns
returns c =
    ap (feed_all (record { parser = c.loop-b.q; file = c.loop-b.file })) (sym (drop_of_length-le c.args.input.now c.loop-b-test.false)) ∙ c.loop-b.invariant.left
