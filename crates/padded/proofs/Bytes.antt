-- A list filled up with 0, by its elements.
-- Assumes nothing.
use mathlib.Core.Path.{◌≡◌, sym, ap, ◌∙◌}
use mathlib.Core.List.{List, ◌++◌}
use Prim.Native.Nat.{ℕ, ◌+◌}
use native.Mathlib.Omega.{arith}
use lib.ListN.{length, get_or, drop}
use lib.Seq.{get_or-drop}
use Rattle.lists.specs.Lists.{tabulate, fit}
use Rattle.lists.proofs.Pieces.{tabulate-ext, tabulate-get_d, fit_at, length-fit, fill-all}

fit-bytes : (m base : ℕ) (file : List ℕ) → tabulate m (λ t. get_or file (base + t) 0) ≡ fit m (drop base file)
fit-bytes m base file =
    tabulate-ext m _ (λ t. get_or (fit m (drop base file)) t 0) (λ t h. sym (fit_at m (drop base file) t h ∙ get_or-drop base file t 0))
    ∙ tabulate-get_d m (fit m (drop base file)) 0 (length-fit m (drop base file))

-- the end of the loop
pub pad-end : (t base : ℕ) (file out₀ out : List ℕ) → t ≡ length out₀ → out ≡ tabulate t (λ t. get_or file (base + t) 0) ++ drop t out₀
    → out ≡ fit (length out₀) (drop base file)
pad-end t base file out₀ out e h =
    h ∙ ap (λ (m : ℕ). tabulate m (λ t. get_or file (base + t) 0) ++ drop m out₀) e
    ∙ fill-all (λ t. get_or file (base + t) 0) out₀ (length out₀) (omega arith) ∙ fit-bytes (length out₀) base file
