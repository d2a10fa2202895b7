-- `words::put_kept` meets its contract: the points, and then eight words, each in its place.
-- Assumes nothing.
use native.Mathlib.Omega.{arith}
use borrow.Author.Rules.{rules}
use lib.ListN.{length-set}
use Rattle.record.specs.Records.{record_of}
use Rattle.word_parts.proofs.Twelve.{flag_word, words-put}
use Rattle.words.proofs.put_kept.Statement.{statement}
use Rattle.words.proofs.put_kept.Tie as tie

-- the places
abbrev at-points : tie.After-marks_word → tie.After-put_points
at-points c = c.before.before.before.before.before

abbrev st : tie.After-put_points → tie.Start
st c = c.before.before.before.before.before.before

all-marks : tie.Need-slice_bounds-marks_word-end
all-marks c = search rules

pub put_kept_spec : {M : Type 1} → statement M
put_kept_spec =
    tie.close
    (tie.spec
    (λ c. search rules)
    (λ c κs. search rules)
    (λ c. search rules)
    (λ c. simp length-set (omega arith))
    (λ c. simp length-set (omega arith))
    (λ c. simp length-set (omega arith))
    (λ c. simp length-set (omega arith))
    (λ c. search rules)
    (λ c. simp length-set (omega arith))
    (λ c. simp length-set (omega arith))
    all-marks
    (λ c κs. omega (arith, all-marks c))
    (λ c. simp length-set (omega arith))
    (λ c. simp length-set (omega arith))
    (λ c. let p = at-points c in let g = st p in
    words-put (record_of g.args.kept) g.args.words.now _ _ _ g.requires p.put_points.ensures (flag_word g.args.kept.written) c.marks_word.ensures))
