-- `print_share::told` meets its contract: what the call says is told.
-- Assumes nothing.
use mathlib.Core.Path.{◌≡◌, sym, ap, ◌∙◌}
use mathlib.Core.List.{List}
use Prim.Native.Nat.{ℕ, ◌≤◌}
use lib.ListN.{length, take}
use lib.Seq.{length-take-le}
use Rattle.sizes.specs.Refusals.{Answer}
use Rattle.std.specs.Prelude.{Ok, Err}
use Rattle.board_spec.specs.Calls.{BoardOutcome, share_call, text_call}
use Rattle.board_lines.specs.Outcomes.{outcome}
use Rattle.printer.specs.Printer.{refused_line, told}
use Rattle.print_share.specs.Steps.{placed, wrote_in}
use Rattle.print_share.proofs.Telling.{share-done, share-refused}
use borrow.Author.Rules.{rules}
use Rattle.print_share.proofs.told.Statement.{statement}
use Rattle.print_share.proofs.told.Tie as tie

-- places in the code
abbrev in-refused-of-slice_known-in-refused-1 : tie.After-slice_known-in-Err-1 → tie.In-Err
in-refused-of-slice_known-in-refused-1 c = c.before.before.before.before.before

-- what the call said
said-done : (c : tie.In-Ok) → let a = c.args in
    outcome (Ok c.in-Ok.count) c.share-answer.new.out ≡ share_call a.z a.points a.node a.file.now a.share.now
said-done c = let s = c.share-answer in ap (λ (x : Answer). outcome x s.new.out) (sym c.in-Ok.is) ∙ s.ensures

said-refused : (c : tie.In-Err) → let a = c.args in
    outcome (Err c.in-Err.x) c.share-answer.new.out ≡ share_call a.z a.points a.node a.file.now a.share.now
said-refused c = let s = c.share-answer in ap (λ (x : Answer). outcome x s.new.out) (sym c.in-Err.is) ∙ s.ensures

-- the share's bytes are there, and what is written of their text
done : (c : tie.In-Ok) → let a = c.args in
    let v = c.in-Ok.count in
    let after = c.share-answer.new.out in
    (v ≤ length after)
    × ((l : List ℕ) → wrote_in (text_call a.z a.points (length a.file.now) a.node (take v after) l)
    ≡ placed (told a.z a.points (length a.file.now) a.node (share_call a.z a.points a.node a.file.now a.share.now)) l)
done c = let a = c.args in share-done a.z a.points a.node a.file.now a.share.now _ _ (said-done c)

slice-reshare-prefix-text : tie.Need-slice_bounds-text-end
slice-reshare-prefix-text c = (done c).0

slice-aggregate-text : tie.Need-slice_bounds-text-end-in-Ok
slice-aggregate-text c = sym (length-take-le _ _ (done c).0)

returns : tie.Need-returns-in-Ok
returns c =
    (ap (λ (o : BoardOutcome). o.output) c.share-answer.ensures, c.text.ensures ∙ (done c.before.before.before.before).1 c.args.out.now)

returns-2 : tie.Need-returns-in-Err
returns-2 c =
    let a = c.args in (
      ap (λ (o : BoardOutcome). o.output) c.share-answer.ensures,
      c.refused.ensures ∙ ap (λ (x : ℕ). placed (refused_line x) a.out.now) c.number.ensures
          ∙ ap (λ (l : List ℕ). placed l a.out.now) (share-refused a.z a.points a.node a.file.now a.share.now c.in-Err.x _ (said-refused (in-refused-of-slice_known-in-refused-1 c))),
    )

pub told_spec : {M : Type 1} → statement M
told_spec =
    tie.close
    (tie.spec
    (λ c κs. search rules)
    (λ c. search rules)
    slice-reshare-prefix-text
    slice-aggregate-text
    (λ c κs. search rules)
    (λ c. search rules)
    (λ c κs. search rules)
    (λ c κs. search rules)
    (λ c. search rules)
    (λ c. search rules)
    returns
    (λ c. search rules)
    (λ c. search rules)
    returns-2)
