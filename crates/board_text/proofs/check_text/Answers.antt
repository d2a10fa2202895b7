-- `board_text::check_text` meets its contract: each check's refusal is the first line that holds.
-- Assumes nothing.
use Rattle.std.proofs.Common.{◌≡◌, ◌*◌, ℕ, List, [], ◌∷◌, length, Ok, eqb, refl, sym, ap, ◌∙◌, arith}
use Rattle.std.proofs.lemmas.Result.{err_from_is_err_and}
use Rattle.sizes.specs.declared.Sizes.{Sizes}
use Rattle.sizes.specs.Sizing.{α, stripes}
use Rattle.sizes.specs.Refusals.{Line, first, board_order, Check}
use Rattle.sizes.proofs.Legal.{legal-facts, α-most}
use Rattle.line_checks.specs.Steps.{asked, stated_lines}
use Rattle.board_lines.proofs.Given.{as_many, few_bytes}
use Rattle.board_lines.proofs.Chain.{thens, grouped, goes-on, refuses, ends}
use Rattle.board_lines.proofs.Facts.{stated-facts}
use Rattle.board_lines.proofs.Facts.{taken-facts}
use Rattle.board_spec.specs.Text.{share_text}
use Rattle.board_spec.specs.Calls.{node_line, area_line, short_line, text_lines}
use Rattle.board_text.proofs.TextCall.{writes}
use Rattle.board_text.proofs.check_text.Goals as goal

-- the lines that each check asks, and those after it
module _ (z : Sizes) (xs : List ℕ) (L node : ℕ) (held out : List ℕ) where
  abbrev shorts : List (List Line)
  shorts = (short_line out (length (share_text z xs L node held)) ∷ []) ∷ []

  abbrev areas : List (List Line)
  areas = (area_line (eqb (length held) (stripes z L * α z) ∷ []) ∷ []) ∷ shorts

  abbrev nodes : List (List Line)
  nodes = (node_line z (node ∷ []) ∷ []) ∷ areas

  abbrev stateds : List (List Line)
  stateds = stated_lines z xs L ∷ nodes

  abbrev answer : Check
  answer = first board_order (text_lines z xs L node held out)

  whole : thens stateds ≡ answer
  unfolding text_lines
  whole = grouped stateds

  on-nodes : {r : Check} → thens stateds ≡ answer → r ≡ first board_order (stated_lines z xs L) → r ≡ Ok tt → thens nodes ≡ answer
  on-nodes w e p = goes-on w e p

  on-areas : {r : Check} → thens nodes ≡ answer → r ≡ asked (node_line z (node ∷ [])) → r ≡ Ok tt → thens areas ≡ answer
  on-areas w e p = goes-on w e p

  on-shorts : {r : Check} → thens areas ≡ answer → r ≡ asked (area_line (eqb (length held) (stripes z L * α z) ∷ [])) → r ≡ Ok tt → thens shorts ≡ answer
  on-shorts w e p = goes-on w e p

pub returns-in_err-check_stated : goal.returns-in_err-check_stated
returns-in_err-check_stated c =
    let a = c.args in
    let x = err_from_is_err_and c.from_residual.result c.from_residual.ensures.1 in
    rw (x.1, x.2) (refuses _ (whole a.sizes a.points.now a.len a.node a.held.now a.out.now) c.check_stated.ensures c.in_err-check_stated.was)

pub returns-in_err-check_node : goal.returns-in_err-check_node
returns-in_err-check_node c =
    let a = c.args in
    let x = err_from_is_err_and c.from_residual-in_err-check_node.result c.from_residual-in_err-check_node.ensures.1 in
    let node = on-nodes a.sizes a.points.now a.len a.node a.held.now a.out.now (whole a.sizes a.points.now a.len a.node a.held.now a.out.now) c.check_stated.ensures c.in_ok-check_stated.was in
    rw (x.1, x.2) (refuses _ node c.check_node.ensures c.in_err-check_node.was)

pub overflow_mul-share_len : goal.overflow_mul-share_len
overflow_mul-share_len c =
    let ok = (stated-facts _ _ _ (sym c.check_stated.ensures ∙ c.in_ok-check_stated.was)).is-legal in
    omega (arith, few_bytes _ c.share_len.result _ _ c.stripe_count-stripes.ensures.1 c.share_len.ensures ok (α-most _ (legal-facts _ ok)))

pub returns-in_err-check_lent : goal.returns-in_err-check_lent
returns-in_err-check_lent c =
    let a = c.args in
    let ok = (stated-facts _ _ _ (sym c.check_stated.ensures ∙ c.in_ok-check_stated.was)).is-legal in
    let many = as_many _ c.share_len.result _ _ _ c.stripe_count-stripes.ensures.0 c.share_len.ensures ok in
    let x = err_from_is_err_and c.from_residual-in_err-check_lent.result c.from_residual-in_err-check_lent.ensures.1 in
    let node = on-nodes a.sizes a.points.now a.len a.node a.held.now a.out.now (whole a.sizes a.points.now a.len a.node a.held.now a.out.now) c.check_stated.ensures c.in_ok-check_stated.was in
    let area = on-areas a.sizes a.points.now a.len a.node a.held.now a.out.now node c.check_node.ensures c.in_ok-check_node.was in
    rw (x.1, x.2) (refuses _ area (c.check_lent.ensures ∙ ap (λ (m : ℕ). asked (area_line (eqb (length a.held.now) m ∷ []))) many) c.in_err-check_lent.was)

pub text_len-requires : goal.text_len-requires
text_len-requires c =
    let a = c.args in
    let stated = sym c.check_stated.ensures ∙ c.in_ok-check_stated.was in
    let s = stated-facts _ _ _ stated in
    let many = as_many _ c.share_len.result _ _ _ c.stripe_count-stripes.ensures.0 c.share_len.ensures s.is-legal in
    writes _ _ _ _ _ s (taken-facts a.sizes a.points.now a.len stated).long (sym c.check_node.ensures ∙ c.in_ok-check_node.was) (sym (c.check_lent.ensures ∙ ap (λ (m : ℕ). asked (area_line (eqb (length a.held.now) m ∷ []))) many) ∙ c.in_ok-check_lent.was)

pub returns : goal.returns
returns c =
    let a = c.args in
    let ok = (stated-facts _ _ _ (sym c.check_stated.ensures ∙ c.in_ok-check_stated.was)).is-legal in
    let many = as_many _ c.share_len.result _ _ _ c.stripe_count-stripes.ensures.0 c.share_len.ensures ok in
    let node = on-nodes a.sizes a.points.now a.len a.node a.held.now a.out.now (whole a.sizes a.points.now a.len a.node a.held.now a.out.now) c.check_stated.ensures c.in_ok-check_stated.was in
    let area = on-areas a.sizes a.points.now a.len a.node a.held.now a.out.now node c.check_node.ensures c.in_ok-check_node.was in
    let short = on-shorts a.sizes a.points.now a.len a.node a.held.now a.out.now area (c.check_lent.ensures ∙ ap (λ (m : ℕ). asked (area_line (eqb (length a.held.now) m ∷ []))) many) c.in_ok-check_lent.was in
    ends short (c.check_room.ensures ∙ ap (λ (m : ℕ). asked (short_line a.out.now m)) (c.text_len.ensures a.held.now refl))
