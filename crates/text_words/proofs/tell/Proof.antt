-- `text_words::tell` meets its contract: where the answer is no refusal, six words and the points are put.
-- Assumes nothing.
use mathlib.Core.Path.{sym, ◌∙◌}
use native.Mathlib.Omega.{arith}
use lib.ListN.{length-set}
use borrow.Author.Rules.{rules}
use Rattle.text_words.proofs.Told.{done-picks, refused-picks, six-set, all-points}
use Rattle.text_words.proofs.tell.Statement.{statement}
use Rattle.text_words.proofs.tell.Tie as tie

-- places in the code
abbrev xs-in-done-1-of-slice_known-in-done-1 : tie.After-slice_known-in-Ok-1 → tie.After-xs-in-Ok-1
xs-in-done-1-of-slice_known-in-done-1 c = c.before.before.before.before.before

-- the points are 32
all_are : tie.Need-slice_bounds-row_at-end
all_are c = search rules

done : tie.Need-returns-in-Ok
done c =
    let a = c.args in
    let e = c.in-Ok.is in (
      c.word_of-word.ensures,
      six-set a.head.now _ _ _ _ _ _ c.requires.0 ∙ done-picks a.read.answer _ _ a.head.now e,
      c.put_row.ensures ∙ all-points a.read.points _ (sym (all_are (xs-in-done-1-of-slice_known-in-done-1 c))) c.row_at-row.ensures
          ∙ done-picks a.read.answer _ _ a.points.now e,
    )

refused : tie.Need-returns-in_default
refused c =
    let a = c.args in
    let e = c.in_default.is in (
      c.word_of-word.ensures,
      refused-picks a.read.answer _ _ a.head.now e,
      refused-picks a.read.answer _ _ a.points.now e,
    )

pub tell_spec : {M : Type 1} → statement M
tell_spec =
    tie.close
    (tie.spec
    (λ c κs. search rules)
    (λ c. search rules)
    all_are
    (λ c κs. omega (arith, all_are c))
    (λ c κs. search rules)
    (λ c. search rules)
    (λ c. simp length-set (omega arith))
    (λ c. simp length-set (omega arith))
    (λ c. simp length-set (omega arith))
    (λ c. simp length-set (omega arith))
    (λ c. simp length-set (omega arith))
    (λ c. search rules)
    (λ c. simp length-set)
    (λ c. search rules)
    done
    refused)
