-- `running::check_arrays` meets its contract: the boards are the bytes' numbers, and the lists fit their arrays.
-- Assumes nothing.
use Rattle.std.proofs.Common.{◌≡◌, ◌≤◌, ◌*◌, ◌-◌, ℕ, List, length, sym, ap, arith}
use lib.Seq.{length-take-le}
use Rattle.sizes.specs.declared.Sizes.{Sizes}
use Rattle.running_lists.specs.Steps.{Arrays}
use Rattle.running_lists.proofs.Lists.{fit-fresh, fit-helpers, fit-stand-ins}
use Rattle.running.proofs.check_arrays.Goals as goal

module _ (z : Sizes) (t : ℕ) {fresh helpers stand_ins : List ℕ} (f : Arrays z t fresh helpers stand_ins) where
  helpers-few : t * z.d ≤ 256
  helpers-few = fit-helpers z t f.is-legal f.few

  stand-ins-few : t * (z.r - t) ≤ 256
  stand-ins-few = fit-stand-ins z t f.is-legal f.few

  fits-a : {boards : List ℕ} → boards ≡ fresh → t ≤ length boards
  fits-a e = omega (arith, ap length e, f.fresh-long, fit-fresh z t f.is-legal f.few)

  fits-b : {boards : List ℕ} → boards ≡ helpers → t * z.d ≤ length boards
  fits-b e = omega (arith, ap length e, f.helpers-long, helpers-few)

  fits-c : {boards : List ℕ} → boards ≡ stand_ins → t * (z.r - t) ≤ length boards
  fits-c e = omega (arith, ap length e, f.stand-ins-long, stand-ins-few)

pub overflow_mul-h : goal.overflow_mul-h
overflow_mul-h c = omega (arith, helpers-few c.args.sizes c.args.t c.requires)

pub overflow_mul-e : goal.overflow_mul-e
overflow_mul-e c = omega (arith, stand-ins-few c.args.sizes c.args.t c.requires)

pub slice_bounds-a-end : goal.slice_bounds-a-end
slice_bounds-a-end c = fits-a c.args.sizes c.args.t c.requires c.boards_of.ensures

pub slice_bounds-check_lists-end : goal.slice_bounds-check_lists-end
slice_bounds-check_lists-end c = sym (length-take-le _ _ (fits-a c.args.sizes c.args.t c.requires c.boards_of.ensures))

pub slice_bounds-b-end : goal.slice_bounds-b-end
slice_bounds-b-end c = fits-b c.args.sizes c.args.t c.requires c.boards_of-2.ensures

pub slice_bounds-check_lists-end-2 : goal.slice_bounds-check_lists-end-2
slice_bounds-check_lists-end-2 c = sym (length-take-le _ _ (fits-b c.args.sizes c.args.t c.requires c.boards_of-2.ensures))

pub slice_bounds-c-end : goal.slice_bounds-c-end
slice_bounds-c-end c = fits-c c.args.sizes c.args.t c.requires c.boards_of-3.ensures

pub slice_bounds-check_lists-end-3 : goal.slice_bounds-check_lists-end-3
slice_bounds-check_lists-end-3 c = sym (length-take-le _ _ (fits-c c.args.sizes c.args.t c.requires c.boards_of-3.ensures))
