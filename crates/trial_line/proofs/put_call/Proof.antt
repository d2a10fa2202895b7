-- `trial_line::put_call` meets its contract: the pieces, one behind the other.
-- Assumes nothing.
use mathlib.Core.Path.{ap₂, subst, ◌∙◌}
use mathlib.Core.List.{List, ◌++◌}
use Prim.Native.Nat.{ℕ, ◌+◌, ◌≤◌}
use native.Mathlib.Omega.{arith}
use lib.ListN.{length, length-append}
use Rattle.board_spec.specs.Text.{decimal}
use Rattle.text_lines.specs.Steps.{Wrote}
use Rattle.text_lines.proofs.Writes.{same-room, room, then}
use Rattle.trial_line.specs.Line.{opening, moved_end}
use Rattle.trial_line.proofs.Line.{opening-most, byte-digits, moved-most}
use borrow.Author.Rules.{rules}
use Rattle.trial_line.proofs.put_call.Statement.{statement}
use Rattle.trial_line.proofs.put_call.Tie as tie

-- places in the code
abbrev refusal-of-put_moved-arg-1 : tie.After-put_moved-arg-1 → tie.After-refusal
refusal-of-put_moved-arg-1 c = c.before.before.before.before.before.before

abbrev put_decimal-end-of-slice_known-4-1 : tie.After-slice_known-4-1 → tie.After-put_decimal-end
put_decimal-end-of-slice_known-4-1 c = c.before.before.before.before.before.before.before

abbrev refusal-of-slice_known-4-1 : tie.After-slice_known-4-1 → tie.After-refusal
refusal-of-slice_known-4-1 c = refusal-of-put_moved-arg-1 c.before.before.before

-- the beginning and the refusal
abbrev to_refusal : ℕ → ℕ → List ℕ
to_refusal op x = opening op ++ decimal x

few : (c : tie.After-refusal) → 0 + length (to_refusal c.args.op c.refusal.result) ≤ 20
few c =
    omega (arith, length-append (opening c.args.op) (decimal c.refusal.result), opening-most c.args.op, byte-digits c.refusal.result c.refusal.type_inv)

by-refusal : (c : tie.After-put_decimal-end) → let a = c.args in
    Wrote a.line.now 0 (to_refusal a.op c.refusal.result) c.put_decimal-end.new.out c.put_decimal-end.result
by-refusal c =
    then c.put_opening-place.ensures c.put_decimal-end.ensures (omega (arith, few c.before.before, c.requires))

put-decimal-requires : tie.Need-put_decimal-end-requires
put-decimal-requires c κs =
    room c.put_opening-place.ensures (decimal c.refusal.result) (omega (arith, few c.before, c.requires))

put-moved-requires : tie.Need-put_moved-requires
put-moved-requires c κs =
    let w = by-refusal c.before.before.before.before in
    (omega (arith, w.ends, few (refusal-of-put_moved-arg-1 c)), same-room w (omega (arith, few (refusal-of-put_moved-arg-1 c), c.requires)) ∙ c.requires)

returns : tie.Need-returns
returns c =
    let a = c.args in
    let fits : 0 + length (to_refusal a.op c.refusal.result ++ moved_end c.reported.result) ≤ length a.line.now =
    omega (arith, length-append (to_refusal a.op c.refusal.result) (moved_end c.reported.result), few (refusal-of-slice_known-4-1 c), moved-most c.reported.result c.reported.type_inv, c.requires) in
    subst (λ (l : List ℕ). Wrote a.line.now 0 l c.put_moved.new.line c.put_moved.result)
    (ap₂ {C = List ℕ} (λ (p q : ℕ). to_refusal a.op p ++ moved_end q) c.refusal.ensures c.reported.ensures)
    (then (by-refusal (put_decimal-end-of-slice_known-4-1 c)) c.put_moved.ensures fits)

pub put_call_spec : {M : Type 1} → statement M
put_call_spec =
    tie.close
    (tie.spec
    (λ c κs. search rules)
    (λ c κs. search rules)
    (λ c. search rules)
    put-decimal-requires
    (λ c κs. search rules)
    put-moved-requires
    (λ c. search rules)
    returns)
