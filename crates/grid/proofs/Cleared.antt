-- Zeros, as a list of them and by their places.
-- Assumes nothing.
use Rattle.std.proofs.Common.{◌≡◌, ℕ, zero, suc, List, ◌∷◌, refl, ap}
use Rattle.std.specs.Prelude.{replicate}
use Rattle.lists.specs.Lists.{tabulate}

pub zeros : (n : ℕ) → replicate {A = ℕ} n 0 ≡ tabulate n (λ _. 0)
zeros zero = refl
zeros (suc n) = ap (λ (l : List ℕ). 0 ∷ l) (zeros n)
