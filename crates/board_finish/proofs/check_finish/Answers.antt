-- `board_finish::check_finish` meets its contract: each check's refusal is the first line that holds.
-- Assumes nothing.
use Rattle.std.proofs.Common.{◌≡◌, ◌*◌, ◌-◌, ℕ, List, [], ◌∷◌, ◌++◌, true, length, mul_comm, Ok, eqb, refl, sym, ap, ◌∙◌, arith}
use Rattle.std.proofs.lemmas.Result.{err_from_is_err_and}
use Rattle.sizes.specs.declared.Sizes.{Sizes}
use Rattle.sizes.specs.Sizing.{α, stripes}
use Rattle.sizes.specs.Refusals.{Line, first, board_order, Check}
use Rattle.sizes.proofs.Legal.{legal-facts, α-most}
use Rattle.line_checks.specs.Steps.{asked, stated_lines}
use Rattle.board_lines.proofs.Given.{as_many, few_bytes, few-packets}
use Rattle.board_lines.proofs.Chain.{thens, grouped, goes-on, refuses, ends}
use Rattle.board_lines.proofs.Facts.{stated-facts}
use Rattle.board_spec.specs.Calls.{count_line, node_line, repeat_line, area_line, short_line, finished_lines}
use Rattle.board_finish.proofs.check_finish.Goals as goal

-- the lines that each check asks, and those after it
module _ (z : Sizes) (xs : List ℕ) (L board : ℕ) (helpers packets partners exchanges out : List ℕ) where
  -- of packets from so many stripes
  abbrev sent_line : ℕ → Line
  sent_line s = area_line (eqb (length packets) (z.d * (2 * s)) ∷ eqb (length exchanges) ((z.r - 1) * s) ∷ [])

  abbrev shorts : List (List Line)
  shorts = (short_line out (stripes z L * α z) ∷ []) ∷ []

  abbrev lents : List (List Line)
  lents = (sent_line (stripes z L) ∷ []) ∷ shorts

  abbrev repeats : List (List Line)
  repeats = (repeat_line (helpers ++ partners ++ (board ∷ [])) ∷ []) ∷ lents

  abbrev nodes : List (List Line)
  nodes = (node_line z (helpers ++ partners ++ (board ∷ [])) ∷ []) ∷ repeats

  abbrev counts : List (List Line)
  counts = (count_line (eqb (length helpers) z.d ∷ eqb (length partners) (z.r - 1) ∷ []) ∷ []) ∷ nodes

  abbrev stateds : List (List Line)
  stateds = stated_lines z xs L ∷ counts

  abbrev answer : Check
  answer = first board_order (finished_lines z xs L board helpers packets partners exchanges out)

  whole : thens stateds ≡ answer
  unfolding finished_lines
  whole = grouped stateds

  on-counts : {r : Check} → thens stateds ≡ answer → r ≡ first board_order (stated_lines z xs L) → r ≡ Ok tt → thens counts ≡ answer
  on-counts w e p = goes-on w e p

  on-nodes : {r : Check} → thens counts ≡ answer → r ≡ asked (count_line (eqb (length helpers) z.d ∷ eqb (length partners) (z.r - 1) ∷ [])) → r ≡ Ok tt → thens nodes ≡ answer
  on-nodes w e p = goes-on w e p

  on-repeats : {r : Check} → thens nodes ≡ answer → r ≡ asked (node_line z (helpers ++ partners ++ (board ∷ []))) → r ≡ Ok tt → thens repeats ≡ answer
  on-repeats w e p = goes-on w e p

  on-lents : {r : Check} → thens repeats ≡ answer → r ≡ asked (repeat_line (helpers ++ partners ++ (board ∷ []))) → r ≡ Ok tt → thens lents ≡ answer
  on-lents w e p = goes-on w e p

  on-shorts : {r : Check} → thens lents ≡ answer → r ≡ asked (sent_line (stripes z L)) → r ≡ Ok tt → thens shorts ≡ answer
  on-shorts w e p = goes-on w e p

pub returns-in_err-check_stated : goal.returns-in_err-check_stated
returns-in_err-check_stated c =
    let a = c.args in
    let x = err_from_is_err_and c.from_residual.result c.from_residual.ensures.1 in
    rw (x.1, x.2) (refuses _ (whole a.sizes a.points.now a.len a.board a.helpers.now a.packets.now a.partners.now a.exchanges.now a.out.now) c.check_stated.ensures c.in_err-check_stated.was)

pub overflow_sub-others : goal.overflow_sub-others
overflow_sub-others c =
    let ok = (stated-facts _ _ _ (sym c.check_stated.ensures ∙ c.in_ok-check_stated.was)).is-legal in
    omega (arith, (legal-facts _ ok).some-fresh)

pub returns-in_err-check_counts : goal.returns-in_err-check_counts
returns-in_err-check_counts c =
    let a = c.args in
    let x = err_from_is_err_and c.from_residual-in_err-check_counts.result c.from_residual-in_err-check_counts.ensures.1 in
    let count = on-counts a.sizes a.points.now a.len a.board a.helpers.now a.packets.now a.partners.now a.exchanges.now a.out.now (whole a.sizes a.points.now a.len a.board a.helpers.now a.packets.now a.partners.now a.exchanges.now a.out.now) c.check_stated.ensures c.in_ok-check_stated.was in
    rw (x.1, x.2) (refuses _ count c.check_counts.ensures c.in_err-check_counts.was)

pub returns-in_err-check_nodes_joined : goal.returns-in_err-check_nodes_joined
returns-in_err-check_nodes_joined c =
    let a = c.args in
    let x = err_from_is_err_and c.from_residual-in_err-check_nodes_joined.result c.from_residual-in_err-check_nodes_joined.ensures.1 in
    let count = on-counts a.sizes a.points.now a.len a.board a.helpers.now a.packets.now a.partners.now a.exchanges.now a.out.now (whole a.sizes a.points.now a.len a.board a.helpers.now a.packets.now a.partners.now a.exchanges.now a.out.now) c.check_stated.ensures c.in_ok-check_stated.was in
    let node = on-nodes a.sizes a.points.now a.len a.board a.helpers.now a.packets.now a.partners.now a.exchanges.now a.out.now count c.check_counts.ensures c.in_ok-check_counts.was in
    rw (x.1, x.2) (refuses _ node c.check_nodes_joined.ensures c.in_err-check_nodes_joined.was)

pub returns-in_err-check_repeat_joined : goal.returns-in_err-check_repeat_joined
returns-in_err-check_repeat_joined c =
    let a = c.args in
    let x = err_from_is_err_and c.from_residual-in_err-check_repeat_joined.result c.from_residual-in_err-check_repeat_joined.ensures.1 in
    let count = on-counts a.sizes a.points.now a.len a.board a.helpers.now a.packets.now a.partners.now a.exchanges.now a.out.now (whole a.sizes a.points.now a.len a.board a.helpers.now a.packets.now a.partners.now a.exchanges.now a.out.now) c.check_stated.ensures c.in_ok-check_stated.was in
    let node = on-nodes a.sizes a.points.now a.len a.board a.helpers.now a.packets.now a.partners.now a.exchanges.now a.out.now count c.check_counts.ensures c.in_ok-check_counts.was in
    let repeat = on-repeats a.sizes a.points.now a.len a.board a.helpers.now a.packets.now a.partners.now a.exchanges.now a.out.now node c.check_nodes_joined.ensures c.in_ok-check_nodes_joined.was in
    rw (x.1, x.2) (refuses _ repeat c.check_repeat_joined.ensures c.in_err-check_repeat_joined.was)

pub overflow_mul-packets_len-2 : goal.overflow_mul-packets_len-2
overflow_mul-packets_len-2 c =
    let ok = (stated-facts _ _ _ (sym c.check_stated.ensures ∙ c.in_ok-check_stated.was)).is-legal in
    let f = legal-facts _ ok in
    omega (arith, few-packets c.args.sizes.d c.stripe_count-stripes.result 2 (omega (arith, f.enough, f.few)) c.stripe_count-stripes.ensures.1 (omega arith))

pub overflow_mul-exchanges_len : goal.overflow_mul-exchanges_len
overflow_mul-exchanges_len c =
    let ok = (stated-facts _ _ _ (sym c.check_stated.ensures ∙ c.in_ok-check_stated.was)).is-legal in
    let f = legal-facts _ ok in
    let m = c.args.sizes.r - 1 in
    let s = c.stripe_count-stripes.result in
    omega (arith, mul_comm m s, few_bytes s m m true c.stripe_count-stripes.ensures.1 refl refl (omega (arith, f.enough, f.few)))

pub returns-in_err-check_two_lent : goal.returns-in_err-check_two_lent
returns-in_err-check_two_lent c =
    let a = c.args in
    let x = err_from_is_err_and c.from_residual-in_err-check_two_lent.result c.from_residual-in_err-check_two_lent.ensures.1 in
    let count = on-counts a.sizes a.points.now a.len a.board a.helpers.now a.packets.now a.partners.now a.exchanges.now a.out.now (whole a.sizes a.points.now a.len a.board a.helpers.now a.packets.now a.partners.now a.exchanges.now a.out.now) c.check_stated.ensures c.in_ok-check_stated.was in
    let node = on-nodes a.sizes a.points.now a.len a.board a.helpers.now a.packets.now a.partners.now a.exchanges.now a.out.now count c.check_counts.ensures c.in_ok-check_counts.was in
    let repeat = on-repeats a.sizes a.points.now a.len a.board a.helpers.now a.packets.now a.partners.now a.exchanges.now a.out.now node c.check_nodes_joined.ensures c.in_ok-check_nodes_joined.was in
    let lent = on-lents a.sizes a.points.now a.len a.board a.helpers.now a.packets.now a.partners.now a.exchanges.now a.out.now repeat c.check_repeat_joined.ensures c.in_ok-check_repeat_joined.was in
    rw (x.1, x.2) (refuses _ lent (c.check_two_lent.ensures ∙ ap (λ (s : ℕ). asked (sent_line a.sizes a.points.now a.len a.board a.helpers.now a.packets.now a.partners.now a.exchanges.now a.out.now s)) c.stripe_count-stripes.ensures.0) c.in_err-check_two_lent.was)

pub overflow_mul-stripes : goal.overflow_mul-stripes
overflow_mul-stripes c =
    let ok = (stated-facts _ _ _ (sym c.check_stated.ensures ∙ c.in_ok-check_stated.was)).is-legal in
    omega (arith, few_bytes _ c.share_len.result _ _ c.stripe_count-stripes.ensures.1 c.share_len.ensures ok (α-most _ (legal-facts _ ok)))

pub returns : goal.returns
returns c =
    let a = c.args in
    let ok = (stated-facts _ _ _ (sym c.check_stated.ensures ∙ c.in_ok-check_stated.was)).is-legal in
    let many = as_many _ c.share_len.result _ _ _ c.stripe_count-stripes.ensures.0 c.share_len.ensures ok in
    let count = on-counts a.sizes a.points.now a.len a.board a.helpers.now a.packets.now a.partners.now a.exchanges.now a.out.now (whole a.sizes a.points.now a.len a.board a.helpers.now a.packets.now a.partners.now a.exchanges.now a.out.now) c.check_stated.ensures c.in_ok-check_stated.was in
    let node = on-nodes a.sizes a.points.now a.len a.board a.helpers.now a.packets.now a.partners.now a.exchanges.now a.out.now count c.check_counts.ensures c.in_ok-check_counts.was in
    let repeat = on-repeats a.sizes a.points.now a.len a.board a.helpers.now a.packets.now a.partners.now a.exchanges.now a.out.now node c.check_nodes_joined.ensures c.in_ok-check_nodes_joined.was in
    let lent = on-lents a.sizes a.points.now a.len a.board a.helpers.now a.packets.now a.partners.now a.exchanges.now a.out.now repeat c.check_repeat_joined.ensures c.in_ok-check_repeat_joined.was in
    let short = on-shorts a.sizes a.points.now a.len a.board a.helpers.now a.packets.now a.partners.now a.exchanges.now a.out.now lent (c.check_two_lent.ensures ∙ ap (λ (s : ℕ). asked (sent_line a.sizes a.points.now a.len a.board a.helpers.now a.packets.now a.partners.now a.exchanges.now a.out.now s)) c.stripe_count-stripes.ensures.0) c.in_ok-check_two_lent.was in
    ends short (c.check_room.ensures ∙ ap (λ (m : ℕ). asked (short_line a.out.now m)) many)
