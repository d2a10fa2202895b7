-- A turn of a loop that puts one piece behind the others.
-- Assumes nothing.
use mathlib.Core.Path.{◌≡◌, sym, ap, ap₂, ◌∙◌}
use mathlib.Core.List.{List, ◌++◌}
use Prim.Native.Nat.{ℕ, ◌+◌, ◌*◌, ◌-◌, ◌<◌}
use native.Mathlib.Nat.{suc-mul}
use native.Mathlib.Numerals.{add-one}
use native.Mathlib.Omega.{arith}
use lib.ListN.{length, drop}
use borrow.Rule.Slice.PartMut.{put_mid}
use Rattle.lists.specs.Lists.{join}
use Rattle.lists.proofs.Pieces.{join-turn}

-- pieces of w bytes
pub join-loop : (f : ℕ → List ℕ) (w s : ℕ) (out₀ out ys : List ℕ) → ((i : ℕ) → i < s → length (f i) ≡ w) → ys ≡ f s
    → out ≡ join s f ++ drop (s * w) out₀ → put_mid (s * w) (s * w + w - s * w) out ys ≡ join (s + 1) f ++ drop ((s + 1) * w) out₀
join-loop f w s out₀ out ys h ey eo =
    let a : s * w + w - s * w ≡ w = omega arith in
    let b : (s + 1) * w ≡ s * w + w = ap (λ (m : ℕ). m * w) (add-one s) ∙ suc-mul s w in
    ap₂ {C = List ℕ} (λ (m : ℕ) (y : List ℕ). put_mid (s * w) m out y) a ey
    ∙ ap (λ (l : List ℕ). put_mid (s * w) w l (f s)) eo
    ∙ join-turn s w f out₀ h
    ∙ ap₂ {C = List ℕ} (λ (i j : ℕ). join i f ++ drop j out₀) (sym (add-one s)) (sym b)
