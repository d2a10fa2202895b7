-- The boards named for one fresh board: its helpers and stand-ins, the other fresh boards and itself are different boards below n.
-- Assumes nothing.
use Prim.Native.Nat.{ℕ, ◌+◌, ◌<◌}
use mathlib.Core.Path.{◌≡◌, ◌∙◌, ap}
use mathlib.Core.Bool.{true, false, not}
use mathlib.Core.List.{List, [], ◌∷◌, ◌++◌}
use native.Mathlib.Omega.{arith}
use lib.ListN.{length, length-append}
use borrow.Author.Tests.{not-true}
use Rattle.lists.specs.Lists.{All, without}
use Rattle.lists.specs.Tests.{different, among, apart}
use Rattle.lists.proofs.Alls.{all-imp, append-all}
use Rattle.lists.proofs.Boards.{all_without, all_among, distinct_append, distinct, distinct_without, not-among-without, alone, without-self, length_without}
use Rattle.lists.proofs.Tests.{every-all}
use Rattle.sizes.specs.declared.Sizes.{Sizes}
use Rattle.mbcr.proofs.Points.{Boards}

module _ (z : Sizes) (fresh : List ℕ) (low : All (λ x. x < z.n) fresh) (once : different fresh ≡ true) (i : ℕ) (e : among fresh i ≡ true)
    (l : List ℕ) (known : All (λ x. x < z.n) l) (l-once : different l ≡ true) (none : apart fresh l ≡ true) where
  not-fresh : All (λ x. among fresh x ≡ false) l
  not-fresh =
      all-imp (λ x. not (among fresh x) ≡ true) (λ x. among fresh x ≡ false) (λ x q. not-true (among fresh x) q) l
      (every-all (λ x. not (among fresh x)) l none)

  pub named-boards : Boards z (l ++ without i fresh ++ (i ∷ []))
  named-boards =
      record {
        known = append-all (λ x. x < z.n) (l ++ without i fresh) (i ∷ [])
            (append-all (λ x. x < z.n) l (without i fresh) known (all_without (λ x. x < z.n) i fresh low))
            (all_among (λ x. x < z.n) fresh i low e, tt);
        once = distinct_append (l ++ without i fresh) (i ∷ [])
            (distinct_append l (without i fresh) (distinct l l-once) (distinct_without i fresh (distinct fresh once))
            (all-imp (λ x. among fresh x ≡ false) (λ x. among (without i fresh) x ≡ false) (λ x q. not-among-without i fresh x q) l not-fresh))
            (tt, tt)
            (append-all (λ x. among (i ∷ []) x ≡ false) l (without i fresh)
            (all-imp (λ x. among fresh x ≡ false) (λ x. among (i ∷ []) x ≡ false) (λ x q. alone i x fresh e q) l not-fresh)
            (without-self i fresh));
      }

  pub named_count : length l + length fresh ≡ z.d + z.r → length (l ++ without i fresh ++ (i ∷ [])) ≡ z.d + z.r
  named_count c =
      let w = length_without i fresh once e in
      length-append (l ++ without i fresh) (i ∷ []) ∙ ap (λ (m : ℕ). m + 1) (length-append l (without i fresh)) ∙ omega arith
