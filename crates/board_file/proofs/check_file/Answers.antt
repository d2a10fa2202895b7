-- `board_file::check_file` meets its contract: each check's refusal is the first line that holds.
-- Assumes nothing.
use Rattle.std.proofs.Common.{◌≡◌, ◌*◌, ◌≤◌, ℕ, List, [], ◌∷◌, not, length, Ok, eqb, sym, ap, ◌∙◌, arith}
use Rattle.std.proofs.lemmas.Result.{err_from_is_err_and}
use native.Mathlib.Nat.{mul-le-mul_right}
use Rattle.lists.specs.Tests.{given}
use Rattle.sizes.specs.declared.Sizes.{Sizes}
use Rattle.sizes.specs.declared.Refusal.TheVariants.{Disagree}
use Rattle.sizes.specs.Sizing.{α, stripes}
use Rattle.sizes.specs.Refusals.{Line, ◌when◌, first, board_order, Check}
use Rattle.sizes.proofs.Legal.{legal-facts, α-most}
use Rattle.mbcr.specs.Read.{read_file}
use Rattle.line_checks.specs.Steps.{asked, stated_lines}
use Rattle.board_lines.proofs.Given.{as_many, few_bytes}
use Rattle.board_lines.proofs.Chain.{thens, grouped, goes-on, refuses, ends}
use Rattle.board_lines.proofs.Facts.{stated-facts, taken-facts}
use Rattle.board_spec.specs.Calls.{count_line, node_line, repeat_line, area_line, short_line, file_lines}
use Rattle.board_file.proofs.FileCall.{readable, asked_of, not-passed}
use Rattle.board_file.proofs.check_file.Goals as goal

-- the lines that each check asks, and those after it
module _ (z : Sizes) (xs : List ℕ) (L : ℕ) (boards held out : List ℕ) where
  abbrev agrees : List (List Line)
  agrees = ((Disagree when not (given (read_file z xs L boards held))) ∷ []) ∷ []

  abbrev shorts : List (List Line)
  shorts = (short_line out L ∷ []) ∷ agrees

  abbrev areas : List (List Line)
  areas = (area_line (eqb (length held) (z.k * (stripes z L * α z)) ∷ []) ∷ []) ∷ shorts

  abbrev repeats : List (List Line)
  repeats = (repeat_line boards ∷ []) ∷ areas

  abbrev nodes : List (List Line)
  nodes = (node_line z boards ∷ []) ∷ repeats

  abbrev counts : List (List Line)
  counts = (count_line (eqb (length boards) z.k ∷ []) ∷ []) ∷ nodes

  abbrev stateds : List (List Line)
  stateds = stated_lines z xs L ∷ counts

  abbrev answer : Check
  answer = first board_order (file_lines z xs L boards held out)

  whole : thens stateds ≡ answer
  unfolding file_lines
  whole = grouped stateds

  on-counts : {r : Check} → thens stateds ≡ answer → r ≡ first board_order (stated_lines z xs L) → r ≡ Ok tt → thens counts ≡ answer
  on-counts w e p = goes-on w e p

  on-nodes : {r : Check} → thens counts ≡ answer → r ≡ asked (count_line (eqb (length boards) z.k ∷ [])) → r ≡ Ok tt → thens nodes ≡ answer
  on-nodes w e p = goes-on w e p

  on-repeats : {r : Check} → thens nodes ≡ answer → r ≡ asked (node_line z boards) → r ≡ Ok tt → thens repeats ≡ answer
  on-repeats w e p = goes-on w e p

  on-areas : {r : Check} → thens repeats ≡ answer → r ≡ asked (repeat_line boards) → r ≡ Ok tt → thens areas ≡ answer
  on-areas w e p = goes-on w e p

  on-shorts : {r : Check} → thens areas ≡ answer → r ≡ asked (area_line (eqb (length held) (z.k * (stripes z L * α z)) ∷ [])) → r ≡ Ok tt → thens shorts ≡ answer
  on-shorts w e p = goes-on w e p

  on-agrees : {r : Check} → thens shorts ≡ answer → r ≡ asked (short_line out L) → r ≡ Ok tt → thens agrees ≡ answer
  on-agrees w e p = goes-on w e p

pub returns-in_err-check_stated : goal.returns-in_err-check_stated
returns-in_err-check_stated c =
    let a = c.args in
    let x = err_from_is_err_and c.from_residual.result c.from_residual.ensures.1 in
    rw (x.1, x.2) (refuses _ (whole a.sizes a.points.now a.len a.boards.now a.held.now a.out.now) c.check_stated.ensures c.in_err-check_stated.was, not-passed)

pub returns-in_err-check_count : goal.returns-in_err-check_count
returns-in_err-check_count c =
    let a = c.args in
    let x = err_from_is_err_and c.from_residual-in_err-check_count.result c.from_residual-in_err-check_count.ensures.1 in
    let count = on-counts a.sizes a.points.now a.len a.boards.now a.held.now a.out.now (whole a.sizes a.points.now a.len a.boards.now a.held.now a.out.now) c.check_stated.ensures c.in_ok-check_stated.was in
    rw (x.1, x.2) (refuses _ count c.check_count.ensures c.in_err-check_count.was, not-passed)

pub returns-in_err-check_nodes : goal.returns-in_err-check_nodes
returns-in_err-check_nodes c =
    let a = c.args in
    let x = err_from_is_err_and c.from_residual-in_err-check_nodes.result c.from_residual-in_err-check_nodes.ensures.1 in
    let count = on-counts a.sizes a.points.now a.len a.boards.now a.held.now a.out.now (whole a.sizes a.points.now a.len a.boards.now a.held.now a.out.now) c.check_stated.ensures c.in_ok-check_stated.was in
    let node = on-nodes a.sizes a.points.now a.len a.boards.now a.held.now a.out.now count c.check_count.ensures c.in_ok-check_count.was in
    rw (x.1, x.2) (refuses _ node c.check_nodes.ensures c.in_err-check_nodes.was, not-passed)

pub returns-in_err-check_repeat : goal.returns-in_err-check_repeat
returns-in_err-check_repeat c =
    let a = c.args in
    let x = err_from_is_err_and c.from_residual-in_err-check_repeat.result c.from_residual-in_err-check_repeat.ensures.1 in
    let count = on-counts a.sizes a.points.now a.len a.boards.now a.held.now a.out.now (whole a.sizes a.points.now a.len a.boards.now a.held.now a.out.now) c.check_stated.ensures c.in_ok-check_stated.was in
    let node = on-nodes a.sizes a.points.now a.len a.boards.now a.held.now a.out.now count c.check_count.ensures c.in_ok-check_count.was in
    let repeat = on-repeats a.sizes a.points.now a.len a.boards.now a.held.now a.out.now node c.check_nodes.ensures c.in_ok-check_nodes.was in
    rw (x.1, x.2) (refuses _ repeat c.check_repeat.ensures c.in_err-check_repeat.was, not-passed)

pub overflow_mul-share_len : goal.overflow_mul-share_len
overflow_mul-share_len c =
    let ok = (stated-facts _ _ _ (sym c.check_stated.ensures ∙ c.in_ok-check_stated.was)).is-legal in
    let few = few_bytes _ c.share_len.result _ _ c.stripe_count-stripes.ensures.1 c.share_len.ensures ok (α-most _ (legal-facts _ ok)) in
    omega (arith, few)

pub overflow_mul-sizes : goal.overflow_mul-sizes
overflow_mul-sizes c =
    let ok = (stated-facts _ _ _ (sym c.check_stated.ensures ∙ c.in_ok-check_stated.was)).is-legal in
    let few = few_bytes _ c.share_len.result _ _ c.stripe_count-stripes.ensures.1 c.share_len.ensures ok (α-most _ (legal-facts _ ok)) in
    let f = legal-facts _ ok in
    let q = c.stripe_count-stripes.result * c.share_len.result in
    let most : c.args.sizes.k * q ≤ 32 * q = mul-le-mul_right q (omega (arith, f.read-helpers, f.enough, f.few)) in
    omega (arith, few, most)

pub returns-in_err-check_lent : goal.returns-in_err-check_lent
returns-in_err-check_lent c =
    let a = c.args in
    let ok = (stated-facts _ _ _ (sym c.check_stated.ensures ∙ c.in_ok-check_stated.was)).is-legal in
    let many = as_many _ c.share_len.result _ _ _ c.stripe_count-stripes.ensures.0 c.share_len.ensures ok in
    let x = err_from_is_err_and c.from_residual-in_err-check_lent.result c.from_residual-in_err-check_lent.ensures.1 in
    let count = on-counts a.sizes a.points.now a.len a.boards.now a.held.now a.out.now (whole a.sizes a.points.now a.len a.boards.now a.held.now a.out.now) c.check_stated.ensures c.in_ok-check_stated.was in
    let node = on-nodes a.sizes a.points.now a.len a.boards.now a.held.now a.out.now count c.check_count.ensures c.in_ok-check_count.was in
    let repeat = on-repeats a.sizes a.points.now a.len a.boards.now a.held.now a.out.now node c.check_nodes.ensures c.in_ok-check_nodes.was in
    let area = on-areas a.sizes a.points.now a.len a.boards.now a.held.now a.out.now repeat c.check_repeat.ensures c.in_ok-check_repeat.was in
    rw (x.1, x.2) (refuses _ area (c.check_lent.ensures ∙ ap (λ (m : ℕ). asked (area_line (eqb (length a.held.now) (a.sizes.k * m) ∷ []))) many) c.in_err-check_lent.was, not-passed)

pub returns-in_err-check_room : goal.returns-in_err-check_room
returns-in_err-check_room c =
    let a = c.args in
    let ok = (stated-facts _ _ _ (sym c.check_stated.ensures ∙ c.in_ok-check_stated.was)).is-legal in
    let many = as_many _ c.share_len.result _ _ _ c.stripe_count-stripes.ensures.0 c.share_len.ensures ok in
    let x = err_from_is_err_and c.from_residual-in_err-check_room.result c.from_residual-in_err-check_room.ensures.1 in
    let count = on-counts a.sizes a.points.now a.len a.boards.now a.held.now a.out.now (whole a.sizes a.points.now a.len a.boards.now a.held.now a.out.now) c.check_stated.ensures c.in_ok-check_stated.was in
    let node = on-nodes a.sizes a.points.now a.len a.boards.now a.held.now a.out.now count c.check_count.ensures c.in_ok-check_count.was in
    let repeat = on-repeats a.sizes a.points.now a.len a.boards.now a.held.now a.out.now node c.check_nodes.ensures c.in_ok-check_nodes.was in
    let area = on-areas a.sizes a.points.now a.len a.boards.now a.held.now a.out.now repeat c.check_repeat.ensures c.in_ok-check_repeat.was in
    let short = on-shorts a.sizes a.points.now a.len a.boards.now a.held.now a.out.now area (c.check_lent.ensures ∙ ap (λ (m : ℕ). asked (area_line (eqb (length a.held.now) (a.sizes.k * m) ∷ []))) many) c.in_ok-check_lent.was in
    rw (x.1, x.2) (refuses _ short c.check_room.ensures c.in_err-check_room.was, not-passed)

pub check_agrees-requires : goal.check_agrees-requires
check_agrees-requires c =
    let a = c.args in
    let stated = sym c.check_stated.ensures ∙ c.in_ok-check_stated.was in
    let ok = (stated-facts _ _ _ (sym c.check_stated.ensures ∙ c.in_ok-check_stated.was)).is-legal in
    let many = as_many _ c.share_len.result _ _ _ c.stripe_count-stripes.ensures.0 c.share_len.ensures ok in
    let f = readable _ _ _ _ _ (stated-facts _ _ _ stated) (taken-facts _ _ a.len stated) (sym c.check_count.ensures ∙ c.in_ok-check_count.was) (sym c.check_nodes.ensures ∙ c.in_ok-check_nodes.was)
    (sym c.check_repeat.ensures ∙ c.in_ok-check_repeat.was) (sym (c.check_lent.ensures ∙ ap (λ (m : ℕ). asked (area_line (eqb (length a.held.now) (a.sizes.k * m) ∷ []))) many) ∙ c.in_ok-check_lent.was) in
    let e = c.stripe_count-stripes.ensures.0 in
    (asked_of _ _ _ _ _ f, c.requires.0, f.points-taken.long, c.stripe_count-stripes.ensures.1, e, rw e f.held-is, c.requires.1)

pub returns : goal.returns
returns c =
    let a = c.args in
    let ok = (stated-facts _ _ _ (sym c.check_stated.ensures ∙ c.in_ok-check_stated.was)).is-legal in
    let many = as_many _ c.share_len.result _ _ _ c.stripe_count-stripes.ensures.0 c.share_len.ensures ok in
    let count = on-counts a.sizes a.points.now a.len a.boards.now a.held.now a.out.now (whole a.sizes a.points.now a.len a.boards.now a.held.now a.out.now) c.check_stated.ensures c.in_ok-check_stated.was in
    let node = on-nodes a.sizes a.points.now a.len a.boards.now a.held.now a.out.now count c.check_count.ensures c.in_ok-check_count.was in
    let repeat = on-repeats a.sizes a.points.now a.len a.boards.now a.held.now a.out.now node c.check_nodes.ensures c.in_ok-check_nodes.was in
    let area = on-areas a.sizes a.points.now a.len a.boards.now a.held.now a.out.now repeat c.check_repeat.ensures c.in_ok-check_repeat.was in
    let short = on-shorts a.sizes a.points.now a.len a.boards.now a.held.now a.out.now area (c.check_lent.ensures ∙ ap (λ (m : ℕ). asked (area_line (eqb (length a.held.now) (a.sizes.k * m) ∷ []))) many) c.in_ok-check_lent.was in
    let agree = on-agrees a.sizes a.points.now a.len a.boards.now a.held.now a.out.now short c.check_room.ensures c.in_ok-check_room.was in
    (ends agree c.check_agrees.ensures.0, λ _. c.check_agrees.ensures.1)
