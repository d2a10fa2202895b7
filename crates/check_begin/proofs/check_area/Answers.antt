-- `check_begin::check_area` meets its contract: the bytes of an area are few, and past SIZE its answer is that of AREA.
-- Assumes nothing.
use Rattle.std.proofs.Common.{◌≡◌, ◌≤◌, ◌*◌, ℕ, [], ◌∷◌, not, Ok, eqb, refl, sym, ap, ◌∙◌, arith}
use native.Mathlib.Nat.{mul-le-mul_right}
use Rattle.lists.specs.Tests.{pick}
use Rattle.sizes.specs.declared.Refusal.TheVariants.{Area}
use Rattle.sizes.specs.Sizing.{legal, α}
use Rattle.sizes.specs.Refusals.{◌when◌, first, store_order, Check}
use Rattle.sizes.proofs.Legal.{legal-facts, α-most}
use Rattle.store_spec.specs.Record.{Record}
use Rattle.store_spec.specs.Calls.{lent_line}
use Rattle.store_spec.proofs.Records.{Sound, sound-facts}
use Rattle.beside_spec.specs.Running.{Running}
use Rattle.beside_spec.specs.Both.{both_line}
use Rattle.beside_spec.proofs.Beside.{both_facts}
use Rattle.line_checks.specs.Steps.{asked}
use Rattle.line_checks.proofs.Answers.{passed}
use Rattle.board_lines.proofs.Given.{few_bytes}
use Rattle.board_lines.proofs.Chain.{then, grouped, goes-on, ends, one-area}
use Rattle.record.specs.Records.{record_of, running_in}
use Rattle.check_begin.specs.Steps.{area_lines}
use Rattle.check_begin.proofs.check_area.Goals as goal

module _ (s : Record) (p : Running) where
  sound-on : {r : Check} → r ≡ asked (both_line s p) → r ≡ Ok tt → Sound s
  sound-on e h = sound-facts _ (both_facts s p (passed (both_line s p) (sym e ∙ h))).0

module _ (s : Record) (f : Sound s) {q : ℕ} (e : q ≡ pick (legal s.sizes) (α s.sizes) 0) where
  part-few : s.capacity * q ≤ 253952
  part-few = few_bytes _ q _ _ f.cap-high e f.is-legal (α-most _ (legal-facts _ f.is-legal))

  all-few : s.sizes.n * (s.capacity * q) ≤ 8126464
  all-few =
      let p = mul-le-mul_right (s.capacity * q) (legal-facts _ f.is-legal).few in
      omega (arith, p, part-few)

  -- the sizes are legal, so the answer of `share_len` is α
  row : q ≡ α s.sizes
  row = e ∙ (rw f.is-legal refl)

pub overflow_mul-part_len : goal.overflow_mul-part_len
overflow_mul-part_len c =
    let s = record_of c.args.kept in
    omega (arith, part-few s (sound-on s (running_in c.args.running) c.check_both.ensures c.in_ok-check_both.was) c.share_len.ensures)

pub overflow_mul-sizes : goal.overflow_mul-sizes
overflow_mul-sizes c =
    let s = record_of c.args.kept in
    omega (arith, all-few s (sound-on s (running_in c.args.running) c.check_both.ensures c.in_ok-check_both.was) c.share_len.ensures)

pub returns : goal.returns
returns c =
    let s = record_of c.args.kept in
    let p = running_in c.args.running in
    let m = c.args.lent in
    let whole : then (asked (both_line s p)) (then (asked (lent_line s m)) (Ok tt)) ≡ first store_order (area_lines s p m) =
    grouped ((both_line s p ∷ []) ∷ (lent_line s m ∷ []) ∷ []) in
    let e = row s (sound-on s p c.check_both.ensures c.in_ok-check_both.was) c.share_len.ensures in
    ends (goes-on whole c.check_both.ensures c.in_ok-check_both.was)
    (c.check_lent.ensures ∙ one-area (eqb m (s.sizes.n * (s.capacity * c.share_len.result)))
    ∙ ap (λ (v : ℕ). asked (Area when not (eqb m (s.sizes.n * (s.capacity * v))))) e)
