-- `board_share::check_share` meets its contract: each check's refusal is the first line that holds.
-- Assumes nothing.
use Rattle.std.proofs.Common.{◌≡◌, ◌*◌, ℕ, List, [], ◌∷◌, length, Ok, sym, ap, ◌∙◌, arith}
use Rattle.std.proofs.lemmas.Result.{err_from_is_err_and}
use Rattle.sizes.specs.declared.Sizes.{Sizes}
use Rattle.sizes.specs.Sizing.{α, stripes}
use Rattle.sizes.specs.Refusals.{Line, first, board_order, Check}
use Rattle.sizes.proofs.Legal.{legal-facts, α-most}
use Rattle.board_spec.specs.Calls.{node_line, short_line, share_lines}
use Rattle.line_checks.specs.Steps.{asked, stated_lines}
use Rattle.board_lines.proofs.Chain.{thens, grouped, goes-on, refuses, ends}
use Rattle.board_lines.proofs.Facts.{stated-facts}
use Rattle.board_lines.proofs.Given.{as_many, few_bytes}
use Rattle.board_share.proofs.check_share.Goals as goal

-- the lines that each check asks, and those after it
module _ (z : Sizes) (xs : List ℕ) (node : ℕ) (file out : List ℕ) where
  abbrev shorts : List (List Line)
  shorts = (short_line out (stripes z (length file) * α z) ∷ []) ∷ []

  abbrev nodes : List (List Line)
  nodes = (node_line z (node ∷ []) ∷ []) ∷ shorts

  abbrev all : List (List Line)
  all = stated_lines z xs (length file) ∷ nodes

  abbrev answer : Check
  answer = first board_order (share_lines z xs node file out)

  whole : thens all ≡ answer
  unfolding share_lines
  whole = grouped all

  on-node : {r : Check} → r ≡ first board_order (stated_lines z xs (length file)) → r ≡ Ok tt → thens nodes ≡ answer
  on-node e p = goes-on whole e p

  on-short : {r s : Check} → r ≡ first board_order (stated_lines z xs (length file)) → r ≡ Ok tt → s ≡ asked (node_line z (node ∷ [])) → s ≡ Ok tt
      → thens shorts ≡ answer
  on-short e p f q = goes-on (on-node e p) f q

pub returns-in_err-check_stated : goal.returns-in_err-check_stated
returns-in_err-check_stated c =
    let a = c.args in
    let x = err_from_is_err_and c.from_residual.result c.from_residual.ensures.1 in
    rw (x.1, x.2) (refuses _ (whole a.sizes a.points.now a.node a.file.now a.out.now) c.check_stated.ensures c.in_err-check_stated.was)

pub returns-in_err-check_node : goal.returns-in_err-check_node
returns-in_err-check_node c =
    let a = c.args in
    let x = err_from_is_err_and c.from_residual-in_err-check_node.result c.from_residual-in_err-check_node.ensures.1 in
    rw (x.1, x.2) (refuses _ (on-node a.sizes a.points.now a.node a.file.now a.out.now c.check_stated.ensures c.in_ok-check_stated.was) c.check_node.ensures c.in_err-check_node.was)

pub overflow_mul-stripes : goal.overflow_mul-stripes
overflow_mul-stripes c =
    let ok = (stated-facts _ _ _ (sym c.check_stated.ensures ∙ c.in_ok-check_stated.was)).is-legal in
    omega (arith, few_bytes _ c.share_len.result _ _ c.stripe_count-stripes.ensures.1 c.share_len.ensures ok (α-most _ (legal-facts _ ok)))

pub returns : goal.returns
returns c =
    let a = c.args in
    let ok = (stated-facts _ _ _ (sym c.check_stated.ensures ∙ c.in_ok-check_stated.was)).is-legal in
    let many = as_many _ c.share_len.result _ _ _ c.stripe_count-stripes.ensures.0 c.share_len.ensures ok in
    ends (on-short a.sizes a.points.now a.node a.file.now a.out.now c.check_stated.ensures c.in_ok-check_stated.was c.check_node.ensures c.in_ok-check_node.was)
    (c.check_room.ensures ∙ ap (λ (m : ℕ). asked (short_line a.out.now m)) many)
