-- `decode_texts::stripes_agree` meets its contract: the tests that are left are the tests of the whole.
-- Assumes nothing.
use Rattle.std.proofs.Common.{ℕ, Bool, not, sym, ap, ◌∙◌, arith}
use Rattle.std.proofs.lemmas.Bool.{not-true, not-false}
use Rattle.lists.specs.Tests.{pick}
use Rattle.sizes.specs.Sizing.{α, B}
use Rattle.sizes.proofs.Legal.{legal-facts}
use Rattle.decode_laws.proofs.Loops.{alls-no, alls-next, alls-end}
use Rattle.decode_shares.proofs.Places.{share-few}
use Rattle.decode_texts.proofs.ByStripes.{reads, reads-told, starts-inside, turn-some, turn-most, turn-there, turn-reads}
use Rattle.decode_texts.proofs.stripes_agree.Goals as goal

pub overflow_mul-s : goal.overflow_mul-s
overflow_mul-s c =
    let a = c.args in
    let whole = c.stripe_len-b.ensures ∙ ap (λ b. pick b (B a.sizes) 0) c.requires.0.sized in
    let row = c.share_len-share.ensures ∙ ap (λ b. pick b (α a.sizes) 0) c.requires.0.sized in
    omega (arith, starts-inside a.sizes (legal-facts _ c.requires.0.sized) a.len a.stripes c.loop-s.s _ c.requires.3 whole c.loop-s-test.true, c.ranges.len)

pub part_from-part-requires : goal.part_from-part-requires
part_from-part-requires c =
    let a = c.args in
    let whole = c.stripe_len-b.ensures ∙ ap (λ b. pick b (B a.sizes) 0) c.requires.0.sized in
    let row = c.share_len-share.ensures ∙ ap (λ b. pick b (α a.sizes) 0) c.requires.0.sized in
    omega (arith, starts-inside a.sizes (legal-facts _ c.requires.0.sized) a.len a.stripes c.loop-s.s _ c.requires.3 whole c.loop-s-test.true)

pub overflow_mul-from : goal.overflow_mul-from
overflow_mul-from c =
    let a = c.args in
    let whole = c.stripe_len-b.ensures ∙ ap (λ b. pick b (B a.sizes) 0) c.requires.0.sized in
    let row = c.share_len-share.ensures ∙ ap (λ b. pick b (α a.sizes) 0) c.requires.0.sized in
    let few = share-few a.sizes c.loop-s.s c.share_len-share.result (legal-facts _ c.requires.0.sized) (omega (arith, c.requires.2, c.loop-s-test.true)) row in
    omega (arith, few)

pub overflow_mul-from-in-loop-s : goal.overflow_mul-from-in-loop-s
overflow_mul-from-in-loop-s c =
    let a = c.args in
    let whole = c.stripe_len-b.ensures ∙ ap (λ b. pick b (B a.sizes) 0) c.requires.0.sized in
    let row = c.share_len-share.ensures ∙ ap (λ b. pick b (α a.sizes) 0) c.requires.0.sized in
    let few = share-few a.sizes c.loop-s.s c.share_len-share.result (legal-facts _ c.requires.0.sized) (omega (arith, c.requires.2, c.loop-s-test.true)) row in
    omega (arith, few)

pub stripe_agrees-requires : goal.stripe_agrees-requires
stripe_agrees-requires c =
    let a = c.args in
    let s = c.loop-s.s in
    let h = c.loop-s-test.true in
    let f = legal-facts _ c.requires.0.sized in
    let part = c.part_from-part in
    let whole = c.stripe_len-b.ensures ∙ ap (λ b. pick b (B a.sizes) 0) c.requires.0.sized in
    let row = c.share_len-share.ensures ∙ ap (λ b. pick b (α a.sizes) 0) c.requires.0.sized in (
      c.requires.0,
      c.requires.1,
      turn-some a.sizes f a.len a.stripes c.requires.3 s _ part.result h whole part.ensures,
      turn-most a.sizes f a.len a.stripes c.requires.3 s _ part.result h whole part.ensures,
      c.requires.4,
      turn-there a.sizes a.text.now a.places.now a.stripes s _ h row c.requires.5,
      c.requires.6,
      c.loop-s.invariant.1 ∙ c.requires.7,
    )

pub returns-then-not-stripe_agrees : goal.returns-then-not-stripe_agrees
returns-then-not-stripe_agrees c =
    let a = c.args in
    let l = c.loop-s in
    let tests : ℕ → Bool = reads a.sizes a.points.now a.len a.boards.now a.text.now a.places.now in
    let whole = c.stripe_len-b.ensures ∙ ap (λ b. pick b (B a.sizes) 0) c.requires.0.sized in
    let row = c.share_len-share.ensures ∙ ap (λ b. pick b (α a.sizes) 0) c.requires.0.sized in
    let told = reads-told a.sizes a.points.now (legal-facts _ c.requires.0.sized) a.boards.now c.requires.0.counted a.text.now a.places.now c.requires.4 a.len a.stripes c.requires.3 in
    let test = turn-reads a.sizes a.points.now a.len a.boards.now a.text.now a.places.now l.s _ _ c.part_from-part.result whole row c.part_from-part.ensures c.stripe_agrees.result c.stripe_agrees.ensures in
    sym (sym told ∙ sym l.invariant.0 ∙ alls-no tests a.stripes l.s c.loop-s-test.true (test ∙ not-true c.stripe_agrees.result (ap not c.if-not-stripe_agrees.true)))

pub loop-s-preserved : goal.loop-s-preserved
loop-s-preserved c =
    let a = c.args in
    let l = c.loop-s in
    let tests : ℕ → Bool = reads a.sizes a.points.now a.len a.boards.now a.text.now a.places.now in
    let whole = c.stripe_len-b.ensures ∙ ap (λ b. pick b (B a.sizes) 0) c.requires.0.sized in
    let row = c.share_len-share.ensures ∙ ap (λ b. pick b (α a.sizes) 0) c.requires.0.sized in
    let test = turn-reads a.sizes a.points.now a.len a.boards.now a.text.now a.places.now l.s _ _ c.part_from-part.result whole row c.part_from-part.ensures c.stripe_agrees.result c.stripe_agrees.ensures in (
      alls-next tests a.stripes l.s c.loop-s-test.true (test ∙ not-false c.stripe_agrees.result (ap not c.if-not-stripe_agrees.false)) ∙ l.invariant.0,
      c.stripe_agrees.auto.held ∙ l.invariant.1,
    )

pub returns : goal.returns
returns c =
    let a = c.args in
    let l = c.loop-s in
    let tests : ℕ → Bool = reads a.sizes a.points.now a.len a.boards.now a.text.now a.places.now in
    let told = reads-told a.sizes a.points.now (legal-facts _ c.requires.0.sized) a.boards.now c.requires.0.counted a.text.now a.places.now c.requires.4 a.len a.stripes c.requires.3 in
    sym (sym told ∙ sym l.invariant.0 ∙ alls-end tests a.stripes l.s c.loop-s-test.false)
