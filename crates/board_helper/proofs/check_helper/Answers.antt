-- `board_helper::check_helper` meets its contract: each check's refusal is the first line that holds.
-- Assumes nothing.
use Rattle.std.proofs.Common.{◌≡◌, ◌*◌, ℕ, List, [], ◌∷◌, length, Ok, eqb, sym, ap, ◌∙◌, arith}
use Rattle.std.proofs.lemmas.Result.{err_from_is_err_and}
use Rattle.sizes.specs.declared.Sizes.{Sizes}
use Rattle.sizes.specs.Sizing.{α, stripes}
use Rattle.sizes.specs.Refusals.{Line, first, board_order, Check}
use Rattle.sizes.proofs.Legal.{legal-facts, α-most}
use Rattle.board_spec.specs.Calls.{node_line, repeat_line, area_line, short_line, helper_lines}
use Rattle.line_checks.specs.Steps.{asked, stated_lines}
use Rattle.board_lines.proofs.Given.{as_many, few_bytes}
use Rattle.board_lines.proofs.Chain.{thens, grouped, goes-on, refuses, ends}
use Rattle.board_lines.proofs.Facts.{stated-facts}
use Rattle.board_helper.proofs.check_helper.Goals as goal

-- the lines that each check asks, and those after it
module _ (z : Sizes) (xs : List ℕ) (L helper receiver : ℕ) (held out : List ℕ) where
  abbrev named : List ℕ
  named = helper ∷ receiver ∷ []

  abbrev shorts : List (List Line)
  shorts = (short_line out (2 * stripes z L) ∷ []) ∷ []

  abbrev lents : List (List Line)
  lents = (area_line (eqb (length held) (stripes z L * α z) ∷ []) ∷ []) ∷ shorts

  abbrev repeats : List (List Line)
  repeats = (repeat_line named ∷ []) ∷ lents

  abbrev nodes : List (List Line)
  nodes = (node_line z named ∷ []) ∷ repeats

  abbrev all : List (List Line)
  all = stated_lines z xs L ∷ nodes

  abbrev answer : Check
  answer = first board_order (helper_lines z xs L helper receiver held out)

  whole : thens all ≡ answer
  unfolding helper_lines
  whole = grouped all

  on-node : {r : Check} → r ≡ first board_order (stated_lines z xs L) → r ≡ Ok tt → thens nodes ≡ answer
  on-node e p = goes-on whole e p

  on-repeat : {r : Check} → thens nodes ≡ answer → r ≡ asked (node_line z named) → r ≡ Ok tt → thens repeats ≡ answer
  on-repeat w e p = goes-on w e p

  on-lent : {r : Check} → thens repeats ≡ answer → r ≡ asked (repeat_line named) → r ≡ Ok tt → thens lents ≡ answer
  on-lent w e p = goes-on w e p

  on-short : {r : Check} → thens lents ≡ answer → r ≡ asked (area_line (eqb (length held) (stripes z L * α z) ∷ [])) → r ≡ Ok tt → thens shorts ≡ answer
  on-short w e p = goes-on w e p

pub returns-in_err-check_stated : goal.returns-in_err-check_stated
returns-in_err-check_stated c =
    let a = c.args in
    let x = err_from_is_err_and c.from_residual.result c.from_residual.ensures.1 in
    rw (x.1, x.2) (refuses _ (whole a.sizes a.points.now a.len a.helper a.receiver a.held.now a.out.now) c.check_stated.ensures c.in_err-check_stated.was)

pub returns-in_err-check_nodes : goal.returns-in_err-check_nodes
returns-in_err-check_nodes c =
    let a = c.args in
    let x = err_from_is_err_and c.from_residual-in_err-check_nodes.result c.from_residual-in_err-check_nodes.ensures.1 in
    let node = on-node a.sizes a.points.now a.len a.helper a.receiver a.held.now a.out.now c.check_stated.ensures c.in_ok-check_stated.was in
    rw (x.1, x.2) (refuses _ node c.check_nodes.ensures c.in_err-check_nodes.was)

pub returns-in_err-check_repeat : goal.returns-in_err-check_repeat
returns-in_err-check_repeat c =
    let a = c.args in
    let x = err_from_is_err_and c.from_residual-in_err-check_repeat.result c.from_residual-in_err-check_repeat.ensures.1 in
    let node = on-node a.sizes a.points.now a.len a.helper a.receiver a.held.now a.out.now c.check_stated.ensures c.in_ok-check_stated.was in
    let repeat = on-repeat a.sizes a.points.now a.len a.helper a.receiver a.held.now a.out.now node c.check_nodes.ensures c.in_ok-check_nodes.was in
    rw (x.1, x.2) (refuses _ repeat c.check_repeat.ensures c.in_err-check_repeat.was)

pub overflow_mul-stripes : goal.overflow_mul-stripes
overflow_mul-stripes c =
    let ok = (stated-facts _ _ _ (sym c.check_stated.ensures ∙ c.in_ok-check_stated.was)).is-legal in
    omega (arith, few_bytes _ c.share_len.result _ _ c.stripe_count-stripes.ensures.1 c.share_len.ensures ok (α-most _ (legal-facts _ ok)))

pub returns-in_err-check_lent : goal.returns-in_err-check_lent
returns-in_err-check_lent c =
    let a = c.args in
    let ok = (stated-facts _ _ _ (sym c.check_stated.ensures ∙ c.in_ok-check_stated.was)).is-legal in
    let many = as_many _ c.share_len.result _ _ _ c.stripe_count-stripes.ensures.0 c.share_len.ensures ok in
    let x = err_from_is_err_and c.from_residual-in_err-check_lent.result c.from_residual-in_err-check_lent.ensures.1 in
    let node = on-node a.sizes a.points.now a.len a.helper a.receiver a.held.now a.out.now c.check_stated.ensures c.in_ok-check_stated.was in
    let repeat = on-repeat a.sizes a.points.now a.len a.helper a.receiver a.held.now a.out.now node c.check_nodes.ensures c.in_ok-check_nodes.was in
    let lent = on-lent a.sizes a.points.now a.len a.helper a.receiver a.held.now a.out.now repeat c.check_repeat.ensures c.in_ok-check_repeat.was in
    rw (x.1, x.2) (refuses _ lent (c.check_lent.ensures ∙ ap (λ (m : ℕ). asked (area_line (eqb (length a.held.now) m ∷ []))) many) c.in_err-check_lent.was)

pub returns : goal.returns
returns c =
    let a = c.args in
    let ok = (stated-facts _ _ _ (sym c.check_stated.ensures ∙ c.in_ok-check_stated.was)).is-legal in
    let many = as_many _ c.share_len.result _ _ _ c.stripe_count-stripes.ensures.0 c.share_len.ensures ok in
    let node = on-node a.sizes a.points.now a.len a.helper a.receiver a.held.now a.out.now c.check_stated.ensures c.in_ok-check_stated.was in
    let repeat = on-repeat a.sizes a.points.now a.len a.helper a.receiver a.held.now a.out.now node c.check_nodes.ensures c.in_ok-check_nodes.was in
    let lent = on-lent a.sizes a.points.now a.len a.helper a.receiver a.held.now a.out.now repeat c.check_repeat.ensures c.in_ok-check_repeat.was in
    let short = on-short a.sizes a.points.now a.len a.helper a.receiver a.held.now a.out.now lent (c.check_lent.ensures ∙ ap (λ (m : ℕ). asked (area_line (eqb (length a.held.now) m ∷ []))) many) c.in_ok-check_lent.was in
    ends short (c.check_room.ensures ∙ ap (λ (m : ℕ). asked (short_line a.out.now (2 * m))) c.stripe_count-stripes.ensures.0)
