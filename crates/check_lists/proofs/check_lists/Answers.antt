-- `check_lists::check_lists` meets its contract: each early return is the first line that holds.
-- Assumes nothing.
use Rattle.std.proofs.Common.{◌-◌, length, sym, ◌∙◌, arith}
use Rattle.list_tests.proofs.Lists.{counted, few-named}
use Rattle.check_lists.proofs.check_lists.Goals as goal

pub check_named-requires : goal.check_named-requires
check_named-requires c =
    let z = c.args.sizes in
    let t = length c.args.fresh.now in
    let e = counted z t _ _ (sym c.check_named_counts.ensures ∙ c.in_ok-check_named_counts.was) in
    record {
      whole = e.helper-count;
      few = omega (arith, e.helper-count, few-named z t z.d c.requires e.most (omega arith));
      stood = e.stand-in-count;
      few-stood = omega (arith, e.stand-in-count, few-named z t (z.r - t) c.requires e.most (omega arith));
    }
