-- `print_feed::keep` meets its contract, case by case.
-- Assumes nothing.
use mathlib.Core.Path.{◌≡◌, sym, ◌∙◌, ap}
use mathlib.Core.Bool.{true, not}
use lib.Seq.{set_out}
use borrow.Author.Tests.{not-true, not-false}
use borrow.Author.Rules.{rules}
use Rattle.printer.specs.Steps.{in_file}
use Rattle.print_feed.proofs.Kept.{in-bad, in-line, in-file}
use Rattle.print_feed.proofs.keep.Statement.{statement}
use Rattle.print_feed.proofs.keep.Tie as tie

-- where the call began
abbrev st : tie.After-in_file → tie.Start
st c = c.before.before.before

returns : tie.Need-returns-then-p
returns c = let a = c.before.before.args in sym (in-bad a.p a.b a.file.now c.if-p.true)

returns-2 : tie.Need-returns-then-not-in_file
returns-2 c =
    let k = c.before in
    let a = (st k).args in
    sym (in-line a.p a.b a.file.now k.before.if-p.false (sym k.in_file.ensures ∙ not-true _ (ap not c.if-not-in_file.true)))

-- the byte is the file's
here : (c : tie.Else-not-in_file) → in_file (st c.before).args.p ≡ true
here c = sym c.before.in_file.ensures ∙ not-false _ (ap not c.if-not-in_file.false)

returns-3 : tie.Need-returns-then-at-file
returns-3 c =
    let at = c.before in
    let a = (st at.before).args in
    sym (in-file a.p a.b a.file.now at.before.before.if-p.false (here at))

returns-4 : tie.Need-returns-else-at-file
returns-4 c =
    let at = c.before in
    let a = (st at.before).args in
    sym (in-file a.p a.b a.file.now at.before.before.if-p.false (here at) ∙ set_out a.file.now a.p.count a.b c.if-at-file.false)

pub keep_spec : {M : Type 1} → statement M
keep_spec = tie.close (tie.spec returns (λ c κs. search rules) returns-2 (λ c. search rules) (λ c. search rules) returns-3 returns-4)
