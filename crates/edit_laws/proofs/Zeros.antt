-- A stripe that does not change: what a board keeps of 00 is 00, and adding it changes nothing.
-- Assumes nothing.
use Prim.Native.Nat.{ℕ, zero, suc, ◌+◌, ◌-◌}
use mathlib.Core.Path.{◌≡◌, refl, sym, ap, ap₂, ◌∙◌}
use mathlib.Core.List.{List, [], ◌∷◌}
use native.Mathlib.Omega.{arith}
use lib.ListN.{length}
use Rattle.lists.specs.Lists.{All, tabulate}
use Rattle.lists.proofs.Alls.{append-all}
use Rattle.lists.proofs.Pieces.{length-tabulate, tabulate-all}
use Rattle.gf256.specs.Field.{add}
use Rattle.gf256.proofs.Ring.{ring}
use Rattle.gf256.proofs.Sums.{add_zero_r}
use Rattle.polynomial.specs.Polynomial.{plus}
use Rattle.sizes.specs.declared.Sizes.{Sizes}
use Rattle.sizes.specs.Sizing.{B}
use Rattle.sizes.proofs.Legal.{Legal}
use Rattle.mbcr.specs.Share.{F, kept}
use Rattle.mbcr.proofs.Linear.{F-plus}
use Rattle.kept_bytes.specs.Steps.{kept_of}
use Rattle.kept_bytes.proofs.Kept.{kept-of}

pub add-self : (a : ℕ) → add a a ≡ 0
add-self a = simp ring

-- so many bytes 00
abbrev pub none : ℕ → List ℕ
none m = tabulate m (λ q. 0)

plus_none : (m : ℕ) → plus (none m) (none m) ≡ none m
plus_none zero = refl
plus_none (suc m) = ap₂ {C = List ℕ} (λ x l. x ∷ l) (add-self 0) (plus_none m)

plus-zeros : (c l : List ℕ) → length l ≡ length c → All (λ x. x ≡ 0) l → plus c l ≡ c
plus-zeros [] [] h e = refl
plus-zeros [] (b ∷ l) h e = absurd (omega arith)
plus-zeros (a ∷ c) [] h e = absurd (omega arith)
plus-zeros (a ∷ c) (b ∷ l) h e = ap₂ {C = List ℕ} (λ x t. x ∷ t) (ap (add a) e.0 ∙ add_zero_r a) (plus-zeros c l (omega arith) e.1)

module _ (z : Sizes) (legal : Legal z) (xs : List ℕ) where
  no_value : (x y : ℕ) → F z (none (B z)) x y ≡ 0
  no_value x y =
      let l : length (none (B z)) ≡ B z = length-tabulate (B z) (λ q. 0) in
      ap (λ (u : List ℕ). F z u x y) (sym (plus_none (B z))) ∙ F-plus z legal (none (B z)) (none (B z)) l l x y ∙ add-self (F z (none (B z)) x y)

  no-share : (i : ℕ) → All (λ x. x ≡ 0) (kept z xs (none (B z)) i)
  unfolding kept_of
  no-share i =
      let e : kept_of z (λ b. 0) (λ b. 0) i ≡ kept z xs (none (B z)) i =
      kept-of z legal xs (none (B z)) i (λ b. 0) (λ b. 0) (λ b h. sym (no_value _ _)) (λ b h. sym (no_value _ _)) in
      rw (← e) (append-all (λ x. x ≡ 0) (none (z.d + z.r)) (none (z.d - 1))
      (tabulate-all (λ x. x ≡ 0) (z.d + z.r) (λ t. 0) (λ t h. refl)) (tabulate-all (λ x. x ≡ 0) (z.d - 1) (λ t. 0) (λ t h. refl)))

  pub nothing-added : (c : List ℕ) (i : ℕ) → length (kept z xs (none (B z)) i) ≡ length c → plus c (kept z xs (none (B z)) i) ≡ c
  nothing-added c i h = plus-zeros c (kept z xs (none (B z)) i) h (no-share i)
