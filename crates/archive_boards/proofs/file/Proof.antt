-- `archive_boards::file` meets its contract: the call at the array of the points is the call at the points.
-- Assumes nothing.
use mathlib.Core.Path.{◌≡◌, ap, ◌∙◌}
use mathlib.Core.List.{List}
use Prim.Native.Nat.{ℕ}
use borrow.Author.Rules.{rules}
use Rattle.sizes.specs.declared.Sizes.{Sizes}
use Rattle.board_spec.specs.Calls.{BoardOutcome, file_call}
use Rattle.archive_spec.specs.Archive.{sizes_of}
use Rattle.archive_spec.proofs.Bounds.{file-fits}
use Rattle.archive_spec.proofs.Given.{file-given}
use Rattle.archive_spec.proofs.Words.{fits, tells}
use Rattle.archive_boards.proofs.file.Statement.{statement}
use Rattle.archive_boards.proofs.file.Tie as tie

-- the places
abbrev at_call : tie.After-slice_known-2-1 → tie.After-file
at_call c = c.before.before

abbrev at-array : tie.After-file → tie.After-points_array-xs
at-array c = c.before.before

abbrev st : tie.After-points_array-xs → tie.Start
st c = c.before.before.before.before.before

abbrev z : tie.Start → Sizes
z g = sizes_of g.args.n g.args.k g.args.d g.args.r

-- the definition's outcome at points
abbrev due : tie.Start → List ℕ → BoardOutcome
due g xs = let a = g.args in file_call (z g) xs a.len a.boards.now a.shares.now a.out.now

-- at the array of the points it is that at the points
is-due : (c : tie.After-file) → let p = at-array c in let g = st p in due g p.points_array-xs.result ≡ due g g.args.points.now
is-due c = let p = at-array c in let g = st p in let a = g.args in ap (due g) p.points_array-xs.ensures ∙ file-given (z g) a.points.now a.len a.boards.now a.shares.now a.out.now

pub file_spec : {M : Type 1} → statement M
file_spec =
    tie.close
    (tie.spec
    (λ c κs. search rules)
    (λ c κs. search rules)
    (λ c κs. let k = at_call c in fits k.file.result _ _ (k.file.ensures ∙ is-due k) (file-fits _ _ _ _ _ _))
    (λ c. search rules)
    (λ c. let k = at_call c.before in tells k.file.result _ _ (k.file.ensures ∙ is-due k) _ c.word_of.ensures))
