-- What is written of each input; the line of any sizes.
-- Assumes nothing.
use mathlib.Core.Path.{◌≡◌, refl, ap, ◌∙◌}
use mathlib.Core.Logic.{⊎_elim}
use mathlib.Core.List.{List, [], ◌∷◌, ◌++◌, map, append_assoc, append-nil}
use Prim.Native.Nat.{ℕ, ◌+◌, ◌*◌, ◌-◌, ◌≤◌}
use native.Mathlib.Omega.{arith}
use lib.Dec.{eqb}
use Rattle.lists.specs.Tests.{pick}
use Rattle.lists.specs.Lists.{concat}
use Rattle.number_lines.proofs.Picks.{if-ne}
use Rattle.sizes.specs.declared.Sizes.{Sizes}
use Rattle.sizes.specs.Sizing.{B}
use Rattle.board_spec.specs.Text.{decimal}
use Rattle.printer.specs.Printer.{refused_line}
use Rattle.size_list.specs.Combinations.{combinations, named, row, rows, limit, listed}
use Rattle.size_list.proofs.Limits.{taken}
use Rattle.size_list.proofs.Limited.{limit_is}

-- ---- the lines

seven : (a b c d e f g : List ℕ) → a ++ b ++ c ++ d ++ e ++ f ++ g ≡ concat (a ∷ b ∷ c ∷ d ∷ e ∷ f ∷ g ∷ [])
seven a b c d e f g = simp (append_assoc, append-nil)

pub row_is : (z : Sizes) → row z ≡ concat
    (((0x6E ∷ 0x3D ∷ []) ++ decimal z.n)
    ∷ ((0x20 ∷ 0x6B ∷ 0x3D ∷ []) ++ decimal z.k)
    ∷ ((0x20 ∷ 0x64 ∷ 0x3D ∷ []) ++ decimal z.d)
    ∷ ((0x20 ∷ 0x72 ∷ 0x3D ∷ []) ++ decimal z.r)
    ∷ ((0x20 ∷ 0x73 ∷ 0x68 ∷ 0x61 ∷ 0x72 ∷ 0x65 ∷ 0x3D ∷ []) ++ decimal (2 * z.d + z.r - 1))
    ∷ ((0x20 ∷ 0x73 ∷ 0x74 ∷ 0x72 ∷ 0x69 ∷ 0x70 ∷ 0x65 ∷ 0x3D ∷ []) ++ decimal (z.k * (2 * z.d + z.r - z.k)))
    ∷ (0x0A ∷ [])
    ∷ [])
unfolding row B
row_is z =
    seven (named (0x6E ∷ 0x3D ∷ []) z.n) (named (0x20 ∷ 0x6B ∷ 0x3D ∷ []) z.k) (named (0x20 ∷ 0x64 ∷ 0x3D ∷ []) z.d) (named (0x20 ∷ 0x72 ∷ 0x3D ∷ []) z.r)
    (named (0x20 ∷ 0x73 ∷ 0x68 ∷ 0x61 ∷ 0x72 ∷ 0x65 ∷ 0x3D ∷ []) (2 * z.d + z.r - 1))
    (named (0x20 ∷ 0x73 ∷ 0x74 ∷ 0x72 ∷ 0x69 ∷ 0x70 ∷ 0x65 ∷ 0x3D ∷ []) (z.k * (2 * z.d + z.r - z.k))) (0x0A ∷ [])

-- ---- what is written

-- of an input with this limit
by-limit : (input : List ℕ) (x : ℕ) → limit input ≡ x → listed input ≡ pick (eqb x 0) (refused_line 1) (rows (combinations x))
unfolding listed
by-limit input x e = ap (λ (x : ℕ). pick (eqb x 0) (refused_line 1) (rows (combinations x))) e

pub listed-is : (v : ℕ) → 2 ≤ v → v ≤ 32 → listed (decimal v ++ (0x0A ∷ [])) ≡ concat (map row (combinations v))
listed-is v h k = by-limit (decimal v ++ (0x0A ∷ [])) v (taken v h k) ∙ if-ne v 0 _ _ (λ e. omega (arith, h, e))

refused-one : refused_line 1 ≡ 0x72 ∷ 0x65 ∷ 0x66 ∷ 0x75 ∷ 0x73 ∷ 0x65 ∷ 0x64 ∷ 0x3D ∷ 0x31 ∷ 0x0A ∷ []
unfolding decimal
refused-one = refl

pub listed-else : (input : List ℕ) → ((v : ℕ) → 2 ≤ v → v ≤ 32 → input ≡ decimal v ++ (0x0A ∷ []) → ⊥)
    → listed input ≡ 0x72 ∷ 0x65 ∷ 0x66 ∷ 0x75 ∷ 0x73 ∷ 0x65 ∷ 0x64 ∷ 0x3D ∷ 0x31 ∷ 0x0A ∷ []
listed-else input f = ⊎_elim (λ e. by-limit input 0 e ∙ refused-one) (λ h. absurd (f (limit input) h.0 h.1 h.2)) (limit_is input)
