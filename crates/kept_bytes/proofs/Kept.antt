-- What a board keeps of a stripe: F at its neighbours' points, taken around the boards.
-- Assumes nothing.
use mathlib.Core.Path.{◌≡◌, sym, ap, ap₂, ◌∙◌}
use mathlib.Core.List.{List, ◌++◌, map}
use Prim.Native.Nat.{ℕ, zero, suc, ◌+◌, ◌-◌, ◌%◌, ◌<◌, ◌≤◌}
use native.Mathlib.Nat.{mod-add-mod}
use native.Mathlib.Omega.{arith}
use lib.ListN.{drop}
use Rattle.lists.specs.Lists.{tabulate}
use Rattle.lists.proofs.Pieces.{map-tabulate, tabulate-ext}
use Rattle.sizes.specs.declared.Sizes.{Sizes}
use Rattle.sizes.proofs.Legal.{Legal}
use Rattle.mbcr.specs.Share.{point, points, neighbours, F, symbols, kept}
use Rattle.kept_bytes.specs.Steps.{kept_of}
use Rattle.kept_bytes.proofs.Turns.{around-ext}

-- values at points, by the boards
at-boards : (f : ℕ → ℕ) (xs : List ℕ) (m : ℕ) (b : ℕ → ℕ) → map f (points xs (tabulate m b)) ≡ tabulate m (λ t. f (point xs (b t)))
at-boards f xs m b = ap (map f) (map-tabulate (point xs) m b) ∙ map-tabulate f m (λ t. point xs (b t))

-- all but the first
rest : (d : ℕ) (b : ℕ → ℕ) → 1 ≤ d → drop 1 (tabulate d b) ≡ tabulate (d - 1) (λ t. b (suc t))
rest zero b h = absurd (omega arith)
rest (suc d) b h = let e : d ≡ suc d - 1 = omega arith in ap (λ (m : ℕ). tabulate m (λ t. b (suc t))) e

-- the boards after the next
next-around : (n i t : ℕ) → ((i + 1) % n + t) % n ≡ (i + suc t) % n
next-around n i t = let e : i + 1 + t ≡ i + suc t = omega arith in mod-add-mod (i + 1) n t ∙ ap (λ (x : ℕ). x % n) e

-- the bytes taken are those that the board keeps
pub kept-of : (z : Sizes) → Legal z → (xs u : List ℕ) (i : ℕ) (f g : ℕ → ℕ)
    → ((b : ℕ) → b < z.n → f b ≡ F z u (point xs i) (point xs b)) → ((b : ℕ) → b < z.n → g b ≡ F z u (point xs b) (point xs i))
    → kept_of z f g i ≡ kept z xs u i
unfolding kept_of kept symbols neighbours
kept-of z legal xs u i f g ef eg =
    let n : ℕ = z.n in
    let hn : 0 < n = omega (arith, legal.some-fresh, legal.enough) in
    let f' : ℕ → ℕ = λ y. F z u (point xs i) y in
    let g' : ℕ → ℕ = λ x. F z u x (point xs i) in
    ap₂ {C = List ℕ} (λ (x y : List ℕ). x ++ y)
    (around-ext n f (λ b. f' (point xs b)) i (z.d + z.r) hn ef ∙ sym (at-boards f' xs (z.d + z.r) (λ t. (i + t) % n)))
    (around-ext n g (λ b. g' (point xs b)) ((i + 1) % n) (z.d - 1) hn eg
    ∙ tabulate-ext (z.d - 1) _ (λ t. g' (point xs ((i + suc t) % n))) (λ t h. ap (λ (b : ℕ). g' (point xs b)) (next-around n i t))
    ∙ sym (ap (λ (l : List ℕ). map g' (points xs l)) (rest z.d (λ t. (i + t) % n) (omega (arith, legal.some_read, legal.read-helpers)))
    ∙ at-boards g' xs (z.d - 1) (λ t. (i + suc t) % n)))
