-- `archive_boards::share_text` meets its contract: the call at the array of the points is the call at the points.
-- Assumes nothing.
use mathlib.Core.Path.{◌≡◌, ap, ◌∙◌}
use mathlib.Core.List.{List}
use Prim.Native.Nat.{ℕ}
use borrow.Author.Rules.{rules}
use Rattle.sizes.specs.declared.Sizes.{Sizes}
use Rattle.board_spec.specs.Calls.{BoardOutcome, text_call}
use Rattle.archive_spec.specs.Archive.{sizes_of}
use Rattle.archive_spec.proofs.Bounds.{text-fits}
use Rattle.archive_spec.proofs.Given.{text-given}
use Rattle.archive_spec.proofs.Words.{fits, tells}
use Rattle.archive_boards.proofs.share_text.Statement.{statement}
use Rattle.archive_boards.proofs.share_text.Tie as tie

-- the places
abbrev at_call : tie.After-slice_known-2-1 → tie.After-text
at_call c = c.before.before

abbrev at-array : tie.After-text → tie.After-points_array-xs
at-array c = c.before.before

abbrev st : tie.After-points_array-xs → tie.Start
st c = c.before.before.before.before

abbrev z : tie.Start → Sizes
z g = sizes_of g.args.n g.args.k g.args.d g.args.r

-- the definition's outcome at points
abbrev due : tie.Start → List ℕ → BoardOutcome
due g xs = let a = g.args in text_call (z g) xs a.len a.node a.share.now a.out.now

-- at the array of the points it is that at the points
is-due : (c : tie.After-text) → let p = at-array c in let g = st p in due g p.points_array-xs.result ≡ due g g.args.points.now
is-due c = let p = at-array c in let g = st p in let a = g.args in ap (due g) p.points_array-xs.ensures ∙ text-given (z g) a.points.now a.len a.node a.share.now a.out.now

pub share_text_spec : {M : Type 1} → statement M
share_text_spec =
    tie.close
    (tie.spec
    (λ c κs. search rules)
    (λ c κs. search rules)
    (λ c κs. let k = at_call c in fits k.text.result _ _ (k.text.ensures ∙ is-due k) (text-fits _ _ _ _ _ _))
    (λ c. search rules)
    (λ c. let k = at_call c.before in tells k.text.result _ _ (k.text.ensures ∙ is-due k) _ c.word_of.ensures))
