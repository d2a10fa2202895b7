-- Whether the record of a repair may stand beside a store's, by its tests in their order.
-- Assumes nothing.
use Prim.Native.Nat.{ℕ, ◌-◌, ◌*◌, ◌≤◌, ◌<◌}
use mathlib.Core.Path.{◌≡◌, refl, sym, ap, ◌∙◌}
use mathlib.Core.Bool.{Bool, true, false}
use mathlib.Core.List.{List, [], ◌∷◌}
use native.Mathlib.Omega.{arith}
use lib.Dec.{ltb}
use lib.ListN.{length, take}
use Rattle.lists.specs.Tests.{alls}
use lib.Seq.{length-take-le}
use Rattle.lists.proofs.Tests.{true-false, is_false}
use Rattle.std.specs.Prelude.{Ok, Err, is_err}
use Rattle.sizes.specs.Sizing.{legal}
use Rattle.sizes.specs.Refusals.{first, store_order, Check}
use Rattle.store_spec.specs.Record.{Record}
use Rattle.store_spec.specs.Calls.{list_lines}
use Rattle.beside_spec.specs.Running.{Running, fresh_of, packet_count, passed, sound_beside}
use Rattle.list_tests.specs.Steps.{named}
use Rattle.running_lists.proofs.Lists.{count-few}

-- the lists of t fresh boards, as the arrays of a record begin
abbrev pub arrays_pass : Record → ℕ → List ℕ → List ℕ → List ℕ → Check
arrays_pass s t fresh helpers stand_ins =
    first store_order (list_lines s (take t fresh) (take (t * s.sizes.d) helpers) (take (t * (s.sizes.r - t)) stand_ins))

-- their lines ask only sizes and marks
pub arrays-are : (s : Record) (t : ℕ) (fresh helpers stand_ins : List ℕ) → arrays_pass (named s.sizes s.marks) t fresh helpers stand_ins ≡ arrays_pass s t fresh helpers stand_ins
unfolding list_lines
arrays-are s t fresh helpers stand_ins = refl

module _ (s : Record) (p : Running) where
  -- one of no repair is not examined
  pub none_runs : p.running ≡ false → true ≡ sound_beside s p
  unfolding sound_beside
  none_runs e = rw e refl

  module _ (on : p.running ≡ true) where
    pub many-fresh : legal s.sizes ≡ true → length p.fresh ≡ 32 → s.sizes.r < p.count → false ≡ sound_beside s p
    many-fresh h long more = sym (is_false _ (λ k. omega (arith, count-few s p h long k on, more)))

    module _ (fits : p.count ≤ length p.fresh) where
      -- the two tests
      abbrev tests : Check → List Bool
      tests c = passed c ∷ ltb p.carried (packet_count s.sizes p.count) ∷ []

      by_tests : sound_beside s p ≡ alls (tests (arrays_pass s p.count p.fresh p.helpers p.stand_ins))
      unfolding sound_beside
      by_tests =
          rw on
          (ap
          (λ (t : ℕ). alls
          (passed (first store_order (list_lines s (fresh_of p) (take (t * s.sizes.d) p.helpers) (take (t * (s.sizes.r - t)) p.stand_ins)))
          ∷ ltb p.carried (packet_count s.sizes t)
          ∷ []))
          (length-take-le p.count p.fresh fits))

      pub lists-refused : {c : Check} → c ≡ arrays_pass s p.count p.fresh p.helpers p.stand_ins → is_err c ≡ true → false ≡ sound_beside s p
      lists-refused {c} e h = sym (by_tests ∙ ap (λ (c : Check). alls (tests c)) (sym e) ∙ go c h)
        where
          go : (c : Check) → is_err c ≡ true → alls (tests c) ≡ false
          go (Ok tt) h = absurd (true-false h refl)
          go (Err x) h = refl

      pub lists-passed : {c : Check} → c ≡ arrays_pass s p.count p.fresh p.helpers p.stand_ins → is_err c ≡ false
          → ltb p.carried (packet_count s.sizes p.count) ≡ sound_beside s p
      lists-passed {c} e h = sym (by_tests ∙ ap (λ (c : Check). alls (tests c)) (sym e) ∙ go c h)
        where
          alone : (t : Bool) → alls (true ∷ t ∷ []) ≡ t
          alone true = refl
          alone false = refl

          go : (c : Check) → is_err c ≡ false → alls (tests c) ≡ ltb p.carried (packet_count s.sizes p.count)
          go (Ok tt) h = alone (ltb p.carried (packet_count s.sizes p.count))
          go (Err x) h = absurd (true-false refl h)
