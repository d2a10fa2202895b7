-- A stripe by rows, from what was heard.
-- Assumes nothing.
use mathlib.Core.Path.{◌≡◌, ap, ap₂, ◌∙◌}
use mathlib.Core.List.{List, ◌++◌}
use Prim.Native.Nat.{ℕ, ◌*◌, ◌-◌}
use lib.ListN.{take, drop}
use Rattle.sizes.specs.declared.Sizes.{Sizes}
use Rattle.mbcr.specs.Rebuild.{received, exchanged}
use Rattle.row_values.specs.Steps.{row_sums}
use Rattle.stripe_finish.specs.Steps.{finished_by}
use Rattle.finish_bytes.specs.Steps.{stripe_by}

pub finished-step : (z : Sizes) (i L L₀ e : ℕ) (rows firsts rest g rowsG rowsF out : List ℕ) → out ≡ finished_by z.n i L e rowsF g rest
    → g ≡ row_sums L₀ firsts rowsG → L₀ ≡ L → rowsG ≡ take (z.d * 32) rows → rowsF ≡ drop (z.d * 32) rows → e ≡ z.d - 1
    → out ≡ finished_by z.n i L (z.d - 1) (drop (z.d * 32) rows) (row_sums L firsts (take (z.d * 32) rows)) rest
finished-step z i L L₀ e rows firsts rest g rowsG rowsF out eo eg el er ef ee =
    eo ∙ ap₂ (λ (k : ℕ) (q : List ℕ). finished_by z.n i L k q g rest) ee ef
    ∙ ap (λ (q : List ℕ). finished_by z.n i L (z.d - 1) (drop (z.d * 32) rows) q rest)
    (eg ∙ ap₂ (λ (k : ℕ) (q : List ℕ). row_sums k firsts q) el er)

pub stripe-heard : (z : Sizes) (i L L₀ S s w w₀ : ℕ) (rows packets sent firsts got out : List ℕ)
    → out ≡ finished_by z.n i L₀ (z.d - 1) (drop (z.d * 32) rows) (row_sums L₀ firsts (take (z.d * 32) rows)) (take (w - 1) got) → L₀ ≡ L
    → firsts ≡ received z S 0 s packets → take (w₀ - 1) got ≡ received z S 1 s packets ++ exchanged z S s sent → w ≡ w₀
    → out ≡ stripe_by z i L rows S s packets sent
unfolding stripe_by
stripe-heard z i L L₀ S s w w₀ rows packets sent firsts got out eo el e₁ e₂ ew =
    eo ∙ ap (λ (k : ℕ). finished_by z.n i k (z.d - 1) (drop (z.d * 32) rows) (row_sums k firsts (take (z.d * 32) rows)) (take (w - 1) got)) el
    ∙ ap₂ (λ (q rest : List ℕ). finished_by z.n i L (z.d - 1) (drop (z.d * 32) rows) (row_sums L q (take (z.d * 32) rows)) rest) e₁
    (ap (λ (k : ℕ). take (k - 1) got) ew ∙ e₂)
