-- `size_rows::put_named` meets its contract: two pieces, one behind the other.
-- Assumes nothing.
use Rattle.board_spec.specs.Text.{decimal}
use Rattle.text_lines.proofs.Writes.{room, then, less}
use borrow.Author.Rules.{rules}
use Rattle.size_rows.proofs.put_named.Statement.{statement}
use Rattle.size_rows.proofs.put_named.Tie as tie

-- where the call began, and past the name
abbrev put-bytes-at-put-decimal-arg : tie.After-put_decimal-arg-1 → tie.After-put_bytes-end
put-bytes-at-put-decimal-arg c = c.before.before.before

abbrev put-decimal-at-slice-known3 : tie.After-slice_known-3-1 → tie.After-put_decimal
put-decimal-at-slice-known3 c = c.before.before

abbrev named : tie.After-slice_known-3-1 → tie.After-put_bytes-end
named c = put-bytes-at-put-decimal-arg (put-decimal-at-slice-known3 c).before

abbrev st-at-put-bytes-arg : tie.After-put_bytes-arg-1 → tie.Start
st-at-put-bytes-arg c = c.before.before.before

abbrev st : tie.After-put_bytes-end → tie.Start
st c = st-at-put-bytes-arg c.before

pub put_named_spec : {M : Type 1} → statement M
put_named_spec =
    tie.close
    (tie.spec
    (λ c κs. let s = st-at-put-bytes-arg c in less s.args.name.now (decimal s.args.x) _ _ s.requires)
    (λ c κs. let p = put-bytes-at-put-decimal-arg c in room p.put_bytes-end.ensures _ (st p).requires)
    (λ c. search rules)
    (λ c. let p = named c in then p.put_bytes-end.ensures (put-decimal-at-slice-known3 c).put_decimal.ensures (st p).requires))
