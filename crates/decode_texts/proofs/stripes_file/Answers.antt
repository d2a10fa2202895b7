-- `decode_texts::stripes_file` meets its contract: the stripes so far, the last of them cut to the length, over what was there.
-- Assumes nothing.
use Rattle.std.proofs.Common.{◌+◌, ◌-◌, ◌*◌, ℕ, List, length, refl, sym, ap, ◌∙◌, arith}
use borrow.Rule.Slice.PartMut.{same_len_mid}
use lib.Seq.{take-nil}
use Rattle.lists.specs.Tests.{pick}
use Rattle.lists.specs.Lists.{over}
use Rattle.sizes.specs.Sizing.{α, B}
use Rattle.sizes.proofs.Legal.{legal-facts}
use Rattle.decode_shares.proofs.Places.{share-few}
use Rattle.decode_texts.proofs.ByStripes.{starts-inside, turn-some, turn-most, turn-ends, turn-there, turn-file, end-file, lent-long}
use Rattle.decode_texts.proofs.stripes_file.Goals as goal

pub loop-s-init : goal.loop-s-init
loop-s-init c =
    let out = c.args.out.now in
    (ap (λ (l : List ℕ). over l out) (sym (take-nil (length out))), refl, refl)

pub overflow_mul-at : goal.overflow_mul-at
overflow_mul-at c =
    let a = c.args in
    let whole = c.stripe_len-b.ensures ∙ ap (λ b. pick b (B a.sizes) 0) c.requires.0.sized in
    let f = legal-facts _ c.requires.0.sized in
    omega (arith, starts-inside a.sizes f _ a.stripes c.loop-s.s _ c.requires.3 whole c.loop-s-test.true, c.well_formed.1.1.1.1.1.1.1.1.1.0.0)

pub part_from-requires : goal.part_from-requires
part_from-requires c =
    let a = c.args in
    let whole = c.stripe_len-b.ensures ∙ ap (λ b. pick b (B a.sizes) 0) c.requires.0.sized in
    let f = legal-facts _ c.requires.0.sized in
    omega (arith, starts-inside a.sizes f _ a.stripes c.loop-s.s _ c.requires.3 whole c.loop-s-test.true)

pub overflow_add-end : goal.overflow_add-end
overflow_add-end c =
    let a = c.args in
    let whole = c.stripe_len-b.ensures ∙ ap (λ b. pick b (B a.sizes) 0) c.requires.0.sized in
    let f = legal-facts _ c.requires.0.sized in
    omega (arith, turn-ends a.sizes f _ a.stripes c.requires.3 c.loop-s.s _ c.part_from.result c.loop-s-test.true whole c.part_from.ensures, c.well_formed.1.1.1.1.1.1.1.1.1.0.0)

pub overflow_mul-from : goal.overflow_mul-from
overflow_mul-from c =
    let a = c.args in
    let row = c.share_len-share.ensures ∙ ap (λ b. pick b (α a.sizes) 0) c.requires.0.sized in
    let f = legal-facts _ c.requires.0.sized in
    let few = share-few a.sizes c.loop-s.s c.share_len-share.result f (omega (arith, c.requires.2, c.loop-s-test.true)) row in
    omega (arith, few)

pub overflow_mul-from-in-loop-s : goal.overflow_mul-from-in-loop-s
overflow_mul-from-in-loop-s c =
    let a = c.args in
    let row = c.share_len-share.ensures ∙ ap (λ b. pick b (α a.sizes) 0) c.requires.0.sized in
    let f = legal-facts _ c.requires.0.sized in
    let few = share-few a.sizes c.loop-s.s c.share_len-share.result f (omega (arith, c.requires.2, c.loop-s-test.true)) row in
    omega (arith, few)

pub slice_bounds-stripe_file-end : goal.slice_bounds-stripe_file-end
slice_bounds-stripe_file-end c =
    let a = c.args in
    let whole = c.stripe_len-b.ensures ∙ ap (λ b. pick b (B a.sizes) 0) c.requires.0.sized in
    let f = legal-facts _ c.requires.0.sized in
    omega (arith, turn-ends a.sizes f _ a.stripes c.requires.3 c.loop-s.s _ c.part_from.result c.loop-s-test.true whole c.part_from.ensures, c.loop-s.invariant.2)

pub stripe_file-requires : goal.stripe_file-requires
stripe_file-requires c =
    let a = c.args in
    let l = c.loop-s in
    let h = c.loop-s-test.true in
    let whole = c.stripe_len-b.ensures ∙ ap (λ b. pick b (B a.sizes) 0) c.requires.0.sized in
    let row = c.share_len-share.ensures ∙ ap (λ b. pick b (α a.sizes) 0) c.requires.0.sized in
    let f = legal-facts _ c.requires.0.sized in
    let e = lent-long a.sizes f _ a.stripes c.requires.3 l.s _ c.part_from.result h whole c.part_from.ensures l.out l.invariant.2 in (
      c.requires.0,
      c.requires.1,
      rw e (turn-some a.sizes f _ a.stripes c.requires.3 l.s _ c.part_from.result h whole c.part_from.ensures),
      rw e (turn-most a.sizes f _ a.stripes c.requires.3 l.s _ c.part_from.result h whole c.part_from.ensures),
      c.requires.4,
      turn-there a.sizes a.text.now a.places.now a.stripes l.s _ h row c.requires.5,
      c.requires.6,
      l.invariant.1 ∙ c.requires.7,
    )

pub loop-s-preserved : goal.loop-s-preserved
loop-s-preserved c =
    let a = c.args in
    let l = c.loop-s in
    let w = c.stripe_file in
    let at : ℕ = l.s * c.stripe_len-b.result in
    let whole = c.stripe_len-b.ensures ∙ ap (λ b. pick b (B a.sizes) 0) c.requires.0.sized in
    let row = c.share_len-share.ensures ∙ ap (λ b. pick b (α a.sizes) 0) c.requires.0.sized in
    let f = legal-facts _ c.requires.0.sized in (
      turn-file a.sizes a.points.now f a.boards.now c.requires.0.counted a.text.now a.places.now c.requires.4 _ a.stripes c.requires.3
          l.s _ _ c.part_from.result c.loop-s-test.true whole row c.part_from.ensures a.out.now l.out
          w.new.out refl l.invariant.2 l.invariant.0 w.ensures,
      w.auto.held ∙ l.invariant.1,
      same_len_mid {X = ℕ} at (at + c.part_from.result - at) l.out w.new.out w.auto.out ∙ l.invariant.2,
    )

pub returns : goal.returns
returns c =
    let a = c.args in
    let l = c.loop-s in
    end-file a.sizes a.points.now (legal-facts _ c.requires.0.sized) a.boards.now c.requires.0.counted a.text.now a.places.now c.requires.4 _ a.stripes c.requires.3
    l.s a.out.now l.out refl (omega (arith, c.loop-s-test.false, l.auto.s-end)) l.invariant.0
