-- `trial_limits::set_up` meets its contract, by the check of the set-up.
-- Assumes nothing.
use Rattle.std.proofs.Common.{◌≡◌, ℕ, List, [], ◌∷◌, true, false, refl, sym, ap, ◌∙◌}
use lib.Dec.{leb}
use Rattle.std.specs.Prelude.{Ok, Err, is_ok}
use Rattle.lists.proofs.Tests.{true-false}
use Rattle.sizes.specs.declared.Sizes.{Sizes}
use Rattle.sizes.specs.Refusals.{first, store_order, Check}
use Rattle.store_spec.specs.Record.{new_record}
use Rattle.store_spec.specs.Calls.{record_line}
use Rattle.trial_limits.specs.Steps.{set_up}
use Rattle.trial_limits.proofs.SetUp.{set_up_check, passed-sound, refused_none, passed-area}
use Rattle.trial_limits.proofs.set_up.Goals as goal

-- the check, of the points as they are made
check-is : (z : Sizes) (C : ℕ) (points std : List ℕ) (r : Check) → r ≡ first store_order (record_line (new_record z points C) ∷ []) → points ≡ std
    → r ≡ first store_order (record_line (new_record z std C) ∷ [])
check-is z C points std r e p = e ∙ ap (λ (xs : List ℕ). first store_order (record_line (new_record z xs C) ∷ [])) p

-- it passed, or it did not
passed : (r : Check) → is_ok r ≡ true → r ≡ Ok tt
passed (Ok t) e = refl
passed (Err x) e = absurd (true-false e refl)

refused : (z : Sizes) (C : ℕ) (r : Check) → r ≡ set_up_check z C → is_ok r ≡ false → false ≡ set_up z C
refused z C (Ok t) e f = absurd (true-false refl f)
refused z C (Err x) e f = sym (refused_none z C x (sym e))

pub area_len-requires : goal.area_len-requires
area_len-requires c =
    let a = c.args in
    let e = check-is a.sizes a.capacity _ _ _ c.check_set_up.ensures c.standard_points-points.ensures in
    let s = passed-sound a.sizes a.capacity (sym e ∙ passed _ (sym c.is_ok.ensures.value ∙ c.if-is_ok.true)) in
    record { is-legal = s.is-legal; few = s.cap-high }

pub returns-then-is_ok : goal.returns-then-is_ok
returns-then-is_ok c =
    let a = c.args in
    let e = check-is a.sizes a.capacity _ _ _ c.check_set_up.ensures c.standard_points-points.ensures in
    ap (λ m. leb m 32768) c.area_len.ensures ∙ passed-area a.sizes a.capacity (sym e ∙ passed _ (sym c.is_ok.ensures.value ∙ c.if-is_ok.true))

pub returns-else-is_ok : goal.returns-else-is_ok
returns-else-is_ok c =
    let a = c.args in
    c.if-is_ok.false
    ∙ refused a.sizes a.capacity _ (check-is a.sizes a.capacity _ _ _ c.check_set_up.ensures c.standard_points-points.ensures) (sym c.is_ok.ensures.value ∙ c.if-is_ok.false)
