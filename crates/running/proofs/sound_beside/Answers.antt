-- `running::sound_beside` meets its contract: the tests in their order.
-- Assumes nothing.
use Rattle.std.proofs.Common.{◌≡◌, ◌≤◌, ◌*◌, ◌+◌, ◌-◌, ℕ, length, true, sym, ◌∙◌, arith, rules}
use native.Mathlib.Nat.{mul-le-mul}
use borrow.Author.Tests.{not-true}
use Rattle.lists.proofs.Tests.{not-no}
use Rattle.sizes.specs.declared.Sizes.{Sizes}
use Rattle.sizes.specs.Sizing.{legal}
use Rattle.sizes.proofs.Legal.{legal-facts}
use Rattle.record.specs.Records.{record_of, running_in}
use Rattle.running_lists.proofs.Lists.{fit-fresh}
use Rattle.running.proofs.Beside.{arrays-are, none_runs, many-fresh, lists-refused, lists-passed}
use Rattle.running.proofs.sound_beside.Goals as goal

-- the packets in all are few
sizes-few : (z : Sizes) → legal z ≡ true → (1 ≤ z.d + z.r) × (z.d + z.r ≤ 32)
sizes-few z ok = let f = legal-facts z ok in (omega (arith, f.some-fresh), omega (arith, f.enough, f.few))

packets-few : (z : Sizes) (t : ℕ) → legal z ≡ true → t ≤ z.r → t * (z.d + z.r - 1) ≤ 1024
packets-few z t ok h =
    let f : t ≤ 32 = fit-fresh z t ok h in
    let w : z.d + z.r - 1 ≤ 32 = omega (arith, (sizes-few z ok).1) in
    mul-le-mul f w

pub returns-then-not-running : goal.returns-then-not-running
returns-then-not-running c = none_runs (record_of c.args.kept) (running_in c.args.running) (not-true _ c.if-not-running.true)

pub returns-then-sizes-t : goal.returns-then-sizes-t
returns-then-sizes-t c =
    let long : length c.args.running.fresh ≡ 32 = search rules in
    many-fresh (record_of c.args.kept) (running_in c.args.running) (not-no _ c.if-not-running.false) c.requires long c.if-sizes-t.true

pub returns-then-is_err : goal.returns-then-is_err
returns-then-is_err c =
    let s = record_of c.args.kept in
    let p = running_in c.args.running in
    let long : length c.args.running.fresh ≡ 32 = search rules in
    lists-refused s p (not-no _ c.if-not-running.false) (omega (arith, long, fit-fresh s.sizes p.count c.requires c.if-sizes-t.false))
    (c.check_arrays.ensures ∙ arrays-are s p.count p.fresh p.helpers p.stand_ins) (sym c.is_err.ensures.value ∙ c.if-is_err.true)

pub overflow_add-result : goal.overflow_add-result
overflow_add-result c = omega (arith, (sizes-few c.args.kept.sizes c.requires).1)

pub overflow_sub-result : goal.overflow_sub-result
overflow_sub-result c = omega (arith, (sizes-few c.args.kept.sizes c.requires).0)

pub overflow_mul-result : goal.overflow_mul-result
overflow_mul-result c = omega (arith, packets-few c.args.kept.sizes c.args.running.count c.requires c.if-sizes-t.false)

pub returns : goal.returns
returns c =
    let s = record_of c.args.kept in
    let p = running_in c.args.running in
    let long : length c.args.running.fresh ≡ 32 = search rules in
    lists-passed s p (not-no _ c.if-not-running.false) (omega (arith, long, fit-fresh s.sizes p.count c.requires c.if-sizes-t.false))
    (c.check_arrays.ensures ∙ arrays-are s p.count p.fresh p.helpers p.stand_ins) (sym c.is_err.ensures.value ∙ c.if-is_err.false)
