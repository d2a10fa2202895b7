-- `print_share::answer` meets its contract: the refusal that the parser has, nothing of a file that is not whole, else what its share gives.
-- Assumes nothing.
use mathlib.Core.Path.{sym, ap, ap₂, ◌∙◌}
use mathlib.Core.List.{List}
use Prim.Native.Nat.{ℕ}
use lib.ListN.{length, take, replicate, length-replicate}
use lib.Seq.{length-take-le}
use Rattle.board_spec.specs.Calls.{share_call}
use Rattle.printer.specs.Printer.{refused_line, told}
use Rattle.print_share.specs.Steps.{Written, placed}
use Rattle.print_share.proofs.Telling.{nothing, output-refused, output-lacks, output-told}
use borrow.Author.Rules.{rules}
use Rattle.print_share.proofs.answer.Statement.{statement}
use Rattle.print_share.proofs.answer.Tie as tie

returns : tie.Need-returns-then-x-ne0
returns c =
    let a = c.args in
    let x = c.refusal-x.ensures in
    c.refused.ensures ∙ ap (λ (x : ℕ). placed (refused_line x) a.out.now) x
    ∙ ap (λ (l : List ℕ). placed l a.out.now) (sym (output-refused a.p a.file.now (λ q. c.if-x-ne0.true (x ∙ q))))

returns-2 : tie.Need-returns-then-file-count
returns-2 c =
    let a = c.args in
    let e = sym c.refusal-x.ensures ∙ c.if-x-ne0.false in
    nothing a.out.now ∙ ap (λ (l : List ℕ). placed l a.out.now) (sym (output-lacks a.p a.file.now e c.if-file-count.true))

slice-aggregate-told : tie.Need-slice_bounds-told-end
slice-aggregate-told c = sym (length-take-le _ _ c.if-file-count.false)

returns-3 : tie.Need-returns
returns-3 c =
    let a = c.args in
    let e = sym c.refusal-x.ensures ∙ c.if-x-ne0.false in
    let kept = take a.p.count a.file.now in
    let area = replicate {A = ℕ} 17376 0 in
    c.told.ensures.1
    ∙ ap₂ {C = Written} (λ z xs. placed (told z xs (length kept) a.p.node (share_call z xs a.p.node kept area)) a.out.now) c.sizes-z.ensures c.points-points.ensures
    ∙ ap (λ (l : List ℕ). placed l a.out.now) (sym (output-told a.p a.file.now e c.if-file-count.false area (length-replicate {A = ℕ} 17376 0)))

pub answer_spec : {M : Type 1} → statement M
answer_spec =
    tie.close
    (tie.spec
    (λ c κs. search rules)
    (λ c κs. search rules)
    (λ c. search rules)
    returns
    returns-2
    (λ c κs. search rules)
    (λ c κs. search rules)
    slice-aggregate-told
    (λ c. search rules)
    (λ c κs. search rules)
    (λ c. search rules)
    returns-3)
