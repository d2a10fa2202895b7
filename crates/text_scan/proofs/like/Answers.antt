-- `text_scan::like` meets its contract: where the sizes and the points are the same, the lengths decide.
-- Assumes nothing.
use Rattle.std.proofs.Common.{sym, ◌∙◌}
use Rattle.text_scan.proofs.Compared.{last-decides, never}
use Rattle.text_scan.proofs.like.Goals as goal
use Rattle.text_scan.proofs.like.Goals.{then-same_sizes, else-same_sizes}

pub returns-then-same_bytes : goal.returns-then-same_bytes
returns-then-same_bytes c = elim c.if-same_sizes.branch [
  | then-same_sizes w ↦ last-decides _ _ _ (sym c.same_sizes.ensures ∙ w.if-same_sizes.true) (sym w.same_bytes.ensures ∙ sym w.value-is ∙ c.if-same_bytes.true)
  | else-same_sizes w ↦ never _ _ (sym w.if-same_sizes.false ∙ sym w.value-is ∙ c.if-same_bytes.true)
]
