-- `board_exchange::check_exchange` meets its contract: each check's refusal is the first line that holds.
-- Assumes nothing.
use Rattle.std.proofs.Common.{◌≡◌, ◌*◌, ℕ, List, [], ◌∷◌, length, Ok, eqb, sym, ap, ◌∙◌, arith}
use Rattle.std.proofs.lemmas.Result.{err_from_is_err_and}
use Rattle.sizes.specs.declared.Sizes.{Sizes}
use Rattle.sizes.specs.Sizing.{stripes}
use Rattle.sizes.specs.Refusals.{Line, first, board_order, Check}
use Rattle.sizes.proofs.Legal.{legal-facts}
use Rattle.line_checks.specs.Steps.{asked, stated_lines}
use Rattle.board_lines.proofs.Given.{few-packets}
use Rattle.board_lines.proofs.Chain.{thens, grouped, goes-on, refuses, ends}
use Rattle.board_lines.proofs.Facts.{stated-facts}
use Rattle.board_spec.specs.Calls.{count_line, node_line, repeat_line, area_line, short_line, exchange_lines}
use Rattle.board_exchange.proofs.check_exchange.Goals as goal

-- the lines that each check asks, and those after it
module _ (z : Sizes) (xs : List ℕ) (L board : ℕ) (helpers packets : List ℕ) (receiver : ℕ) (out : List ℕ) where
  abbrev shorts : List (List Line)
  shorts = (short_line out (stripes z L) ∷ []) ∷ []

  abbrev lents : List (List Line)
  lents = (area_line (eqb (length packets) (z.d * (2 * stripes z L)) ∷ []) ∷ []) ∷ shorts

  abbrev repeats : List (List Line)
  repeats = (repeat_line (board ∷ receiver ∷ helpers) ∷ []) ∷ lents

  abbrev nodes : List (List Line)
  nodes = (node_line z (board ∷ receiver ∷ helpers) ∷ []) ∷ repeats

  abbrev counts : List (List Line)
  counts = (count_line (eqb (length helpers) z.d ∷ []) ∷ []) ∷ nodes

  abbrev stateds : List (List Line)
  stateds = stated_lines z xs L ∷ counts

  abbrev answer : Check
  answer = first board_order (exchange_lines z xs L board helpers packets receiver out)

  whole : thens stateds ≡ answer
  unfolding exchange_lines
  whole = grouped stateds

  on-counts : {r : Check} → thens stateds ≡ answer → r ≡ first board_order (stated_lines z xs L) → r ≡ Ok tt → thens counts ≡ answer
  on-counts w e p = goes-on w e p

  on-nodes : {r : Check} → thens counts ≡ answer → r ≡ asked (count_line (eqb (length helpers) z.d ∷ [])) → r ≡ Ok tt → thens nodes ≡ answer
  on-nodes w e p = goes-on w e p

  on-repeats : {r : Check} → thens nodes ≡ answer → r ≡ asked (node_line z (board ∷ receiver ∷ helpers)) → r ≡ Ok tt → thens repeats ≡ answer
  on-repeats w e p = goes-on w e p

  on-lents : {r : Check} → thens repeats ≡ answer → r ≡ asked (repeat_line (board ∷ receiver ∷ helpers)) → r ≡ Ok tt → thens lents ≡ answer
  on-lents w e p = goes-on w e p

  on-shorts : {r : Check} → thens lents ≡ answer → r ≡ asked (area_line (eqb (length packets) (z.d * (2 * stripes z L)) ∷ [])) → r ≡ Ok tt → thens shorts ≡ answer
  on-shorts w e p = goes-on w e p

pub returns-in_err-check_stated : goal.returns-in_err-check_stated
returns-in_err-check_stated c =
    let a = c.args in
    let x = err_from_is_err_and c.from_residual.result c.from_residual.ensures.1 in
    rw (x.1, x.2) (refuses _ (whole a.sizes a.points.now a.len a.board a.helpers.now a.packets.now a.receiver a.out.now) c.check_stated.ensures c.in_err-check_stated.was)

pub returns-in_err-check_count : goal.returns-in_err-check_count
returns-in_err-check_count c =
    let a = c.args in
    let x = err_from_is_err_and c.from_residual-in_err-check_count.result c.from_residual-in_err-check_count.ensures.1 in
    let count = on-counts a.sizes a.points.now a.len a.board a.helpers.now a.packets.now a.receiver a.out.now (whole a.sizes a.points.now a.len a.board a.helpers.now a.packets.now a.receiver a.out.now) c.check_stated.ensures c.in_ok-check_stated.was in
    rw (x.1, x.2) (refuses _ count c.check_count.ensures c.in_err-check_count.was)

pub returns-in_err-check_nodes_with : goal.returns-in_err-check_nodes_with
returns-in_err-check_nodes_with c =
    let a = c.args in
    let x = err_from_is_err_and c.from_residual-in_err-check_nodes_with.result c.from_residual-in_err-check_nodes_with.ensures.1 in
    let count = on-counts a.sizes a.points.now a.len a.board a.helpers.now a.packets.now a.receiver a.out.now (whole a.sizes a.points.now a.len a.board a.helpers.now a.packets.now a.receiver a.out.now) c.check_stated.ensures c.in_ok-check_stated.was in
    let node = on-nodes a.sizes a.points.now a.len a.board a.helpers.now a.packets.now a.receiver a.out.now count c.check_count.ensures c.in_ok-check_count.was in
    rw (x.1, x.2) (refuses _ node c.check_nodes_with.ensures c.in_err-check_nodes_with.was)

pub returns-in_err-check_repeat_with : goal.returns-in_err-check_repeat_with
returns-in_err-check_repeat_with c =
    let a = c.args in
    let x = err_from_is_err_and c.from_residual-in_err-check_repeat_with.result c.from_residual-in_err-check_repeat_with.ensures.1 in
    let count = on-counts a.sizes a.points.now a.len a.board a.helpers.now a.packets.now a.receiver a.out.now (whole a.sizes a.points.now a.len a.board a.helpers.now a.packets.now a.receiver a.out.now) c.check_stated.ensures c.in_ok-check_stated.was in
    let node = on-nodes a.sizes a.points.now a.len a.board a.helpers.now a.packets.now a.receiver a.out.now count c.check_count.ensures c.in_ok-check_count.was in
    rw (x.1, x.2) (refuses _ (on-repeats a.sizes a.points.now a.len a.board a.helpers.now a.packets.now a.receiver a.out.now node c.check_nodes_with.ensures c.in_ok-check_nodes_with.was) c.check_repeat_with.ensures c.in_err-check_repeat_with.was)

pub overflow_mul-sizes : goal.overflow_mul-sizes
overflow_mul-sizes c =
    let ok = (stated-facts _ _ _ (sym c.check_stated.ensures ∙ c.in_ok-check_stated.was)).is-legal in
    let f = legal-facts _ ok in
    omega (arith, few-packets c.args.sizes.d c.stripe_count-stripes.result 2 (omega (arith, f.enough, f.few)) c.stripe_count-stripes.ensures.1 (omega arith))

pub returns-in_err-check_lent : goal.returns-in_err-check_lent
returns-in_err-check_lent c =
    let a = c.args in
    let x = err_from_is_err_and c.from_residual-in_err-check_lent.result c.from_residual-in_err-check_lent.ensures.1 in
    let count = on-counts a.sizes a.points.now a.len a.board a.helpers.now a.packets.now a.receiver a.out.now (whole a.sizes a.points.now a.len a.board a.helpers.now a.packets.now a.receiver a.out.now) c.check_stated.ensures c.in_ok-check_stated.was in
    let node = on-nodes a.sizes a.points.now a.len a.board a.helpers.now a.packets.now a.receiver a.out.now count c.check_count.ensures c.in_ok-check_count.was in
    let repeat = on-repeats a.sizes a.points.now a.len a.board a.helpers.now a.packets.now a.receiver a.out.now node c.check_nodes_with.ensures c.in_ok-check_nodes_with.was in
    let lent = on-lents a.sizes a.points.now a.len a.board a.helpers.now a.packets.now a.receiver a.out.now repeat c.check_repeat_with.ensures c.in_ok-check_repeat_with.was in
    rw (x.1, x.2) (refuses _ lent (c.check_lent.ensures ∙ ap (λ (m : ℕ). asked (area_line (eqb (length a.packets.now) (a.sizes.d * (2 * m)) ∷ []))) c.stripe_count-stripes.ensures.0) c.in_err-check_lent.was)

pub returns : goal.returns
returns c =
    let a = c.args in
    let count = on-counts a.sizes a.points.now a.len a.board a.helpers.now a.packets.now a.receiver a.out.now (whole a.sizes a.points.now a.len a.board a.helpers.now a.packets.now a.receiver a.out.now) c.check_stated.ensures c.in_ok-check_stated.was in
    let node = on-nodes a.sizes a.points.now a.len a.board a.helpers.now a.packets.now a.receiver a.out.now count c.check_count.ensures c.in_ok-check_count.was in
    let repeat = on-repeats a.sizes a.points.now a.len a.board a.helpers.now a.packets.now a.receiver a.out.now node c.check_nodes_with.ensures c.in_ok-check_nodes_with.was in
    let lent = on-lents a.sizes a.points.now a.len a.board a.helpers.now a.packets.now a.receiver a.out.now repeat c.check_repeat_with.ensures c.in_ok-check_repeat_with.was in
    let short = on-shorts a.sizes a.points.now a.len a.board a.helpers.now a.packets.now a.receiver a.out.now lent (c.check_lent.ensures ∙ ap (λ (m : ℕ). asked (area_line (eqb (length a.packets.now) (a.sizes.d * (2 * m)) ∷ []))) c.stripe_count-stripes.ensures.0) c.in_ok-check_lent.was in
    ends short (c.check_room.ensures ∙ ap (λ (m : ℕ). asked (short_line a.out.now m)) c.stripe_count-stripes.ensures.0)
