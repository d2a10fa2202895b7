-- The laws of specs/Laws.antt.
-- Assumes nothing.
use Rattle.size_list.specs.Laws.{ListLaws}
use Rattle.size_list.proofs.Places.{all-stand, once, no_other, rising}
use Rattle.size_list.proofs.Count.{count, two, three, most}
use Rattle.size_list.proofs.Limits.{short, taken}
use Rattle.size_list.proofs.Limited.{limit_is}
use Rattle.size_list.proofs.Inputs.{row_is, listed-is, listed-else}

pub list-laws : ListLaws
list-laws = record {
  all = all-stand;
  once = once;
  no_other = no_other;
  rising = rising;
  count = count;
  two = two;
  three = three;
  most = most;
  taken = taken;
  no-other-input = limit_is;
  row_is = row_is;
  listed-is = listed-is;
  listed-else = listed-else;
  short = short;
}
