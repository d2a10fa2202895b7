-- The two rows, put together of what was copied.
-- Assumes nothing.
use mathlib.Core.Path.{◌≡◌, refl, ap₂, ◌∙◌}
use mathlib.Core.List.{List, [], ◌∷◌, ◌++◌}
use Prim.Native.Nat.{ℕ, suc, ◌+◌, ◌-◌, ◌≤◌}
use native.Mathlib.Nat.{sub-zero}
use native.Mathlib.Omega.{arith}
use lib.ListN.{length, get_or, take, drop, set, length-drop}
use lib.Seq.{take_all}
use borrow.Rule.Slice.PartMut.{put_mid}
use Rattle.row_dots.proofs.Rows.{copied}

pub f-row : (w : ℕ) (held f ys : List ℕ) → w ≤ length held → w ≤ length f
    → ys ≡ take (length (take (w - 0) (drop 0 f))) (take (w - 0) (drop 0 held)) → put_mid 0 (w - 0) f ys ≡ take w held ++ drop w f
f-row w held f ys h l e =
    ap₂ {C = List ℕ} (λ (y : List ℕ) (k : ℕ). y ++ drop k f) (copied (w - 0) 0 (w - 0) 0 w f held ys (sub-zero w) (sub-zero w) (omega arith) e) (sub-zero w)

pub g-row : (d w : ℕ) (held g ys : List ℕ) → 1 ≤ d → 1 ≤ w → length held ≡ w + d - 1 → d ≤ length g
    → ys ≡ take (length (take (d - 1) (drop 1 (set g 0 (get_or held 0 0))))) (take (length held - w) (drop w held))
    → put_mid 1 (d - 1) (set g 0 (get_or held 0 0)) ys ≡ (take 1 held ++ drop w held) ++ drop d g
g-row d w [] g ys hd hw l h e = absurd (omega arith)
g-row d w (b ∷ held) [] ys hd hw l h e = absurd (omega arith)
g-row d w (b ∷ held) (x ∷ g) ys hd hw l h e =
    let y : ys ≡ drop w (b ∷ held) =
    copied (d - 1) 1 (length (b ∷ held) - w) w (d - 1) (b ∷ g) (b ∷ held) ys refl (omega arith) (omega arith) e
    ∙ take_all (d - 1) (drop w (b ∷ held)) (simp length-drop (omega arith)) in
    let s : suc (d - 1) ≡ d = omega arith in
    ap₂ {C = List ℕ} (λ (y : List ℕ) (k : ℕ). b ∷ (y ++ drop k (x ∷ g))) y s
