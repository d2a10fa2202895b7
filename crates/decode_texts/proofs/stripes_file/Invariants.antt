-- `decode_texts::stripes_file` meets its contract: the stripes so far, the last of them cut to the length, over what was there.
-- Assumes nothing.
use Rattle.std.proofs.Common.{◌≡◌, length, take}
use Rattle.lists.specs.Lists.{join, over}
use Rattle.decode_texts.proofs.ByStripes.{decoded, spelled_all}
use Rattle.decode_texts.proofs.stripes_file.Given as goal

abbrev pub invariant-loop-s : goal.invariant-loop-s
invariant-loop-s l =
    (l.out ≡ over (take l.len (join l.s (decoded l.sizes l.points l.boards l.stripes (spelled_all l.sizes l.text l.places l.stripes)))) l.initial.out)
    × (length l.held ≡ length l.initial.held) × (length l.out ≡ length l.initial.out)
