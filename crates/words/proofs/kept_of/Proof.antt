-- `words::kept-of` meets its contract: each field from its word.
-- Assumes nothing.
use mathlib.Core.Path.{◌≡◌}
use native.Mathlib.Omega.{arith}
use borrow.Author.Rules.{rules}
use lib.ListN.{length}
use Rattle.record_words.proofs.Bits.{words-facts}
use Rattle.word_parts.proofs.Twelve.{told}
use Rattle.words.proofs.kept_of.Statement.{statement}
use Rattle.words.proofs.kept_of.Tie as tie

-- the places: after the marks, after the points, and where r is read
abbrev st : tie.After-marks-2-1 → tie.Start
st c = c.before.before.before.before.before

abbrev at-r : tie.After-shared_slice_known-6-1 → tie.After-points_of-points
at-r c = c.before.before.before.before

twelve : (g : tie.Start) → length g.args.words.now ≡ 12
twelve g = (words-facts g.args.words.now g.requires).twelve

abbrev marks2-at-shared-slice-known3 : tie.After-shared_slice_known-3-1 → tie.After-marks-2-1
marks2-at-shared-slice-known3 c = c.before.before

abbrev shared-slice-known6-at-shared-slice-known8 : tie.After-shared_slice_known-8-1 → tie.After-shared_slice_known-6-1
shared-slice-known6-at-shared-slice-known8 c = c.before.before

abbrev at-r-unread : tie.After-shared_slice_known-6-1-unread → tie.After-points_of-points
at-r-unread c = c.before.before.before.before

abbrev marks2-at-shared-slice-known3-unread : tie.After-shared_slice_known-3-1-unread → tie.After-marks-2-1
marks2-at-shared-slice-known3-unread c = c.before.before

abbrev shared-slice-known6-at-shared-slice-known8-unread : tie.After-shared_slice_known-8-1-unread → tie.After-shared_slice_known-6-1
shared-slice-known6-at-shared-slice-known8-unread c = c.before.before

pub kept_of_spec : {M : Type 1} → statement M
kept_of_spec =
    tie.close
    (tie.spec
    (λ c. omega (arith, twelve c.before.before))
    (λ c. search rules)
    (λ c κs. search rules)
    (λ c κs. twelve (st c))
    (λ c. omega (arith, twelve (st (marks2-at-shared-slice-known3-unread c))))
    (λ c. omega (arith, twelve (st (marks2-at-shared-slice-known3 c.before))))
    (λ c. omega (arith, twelve (st (marks2-at-shared-slice-known3 c.before.before))))
    (λ c. omega (arith, twelve (st (at-r-unread c).before)))
    (λ c. omega (arith, twelve (st (at-r c.before).before)))
    (λ c. omega (arith, twelve (st (at-r (shared-slice-known6-at-shared-slice-known8-unread c)).before)))
    (λ c. omega (arith, twelve (st (at-r (shared-slice-known6-at-shared-slice-known8 c.before)).before)))
    (λ c. let p = at-r (shared-slice-known6-at-shared-slice-known8 c.before) in let m = p.before in
    told (st m).args.words.now _ _ m.before.fill_marks.ensures p.points_of-points.ensures))
