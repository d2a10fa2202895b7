-- Lists compared: `==` of two lists of bytes is the test that they are the same.
-- Assumes nothing.
use Rattle.std.proofs.Common.{◌≡◌, ℕ, Bool, true, false, ◌&&◌, List, [], ◌∷◌, refl, ap, ◌∙◌}
use Rattle.std.specs.Prelude.{nat_eq}
use lib.Pointwise.{pointwise}
use Rattle.lists.specs.Tests.{pick, same}

both-pick : (s t : Bool) → s && t ≡ pick s t false
both-pick true t = refl
both-pick false t = refl

pub pointwise_same : (a b : List ℕ) → pointwise nat_eq a b ≡ same a b
pointwise_same [] [] = refl
pointwise_same [] (y ∷ ys) = refl
pointwise_same (x ∷ xs) [] = refl
pointwise_same (x ∷ xs) (y ∷ ys) = ap (λ t. nat_eq x y && t) (pointwise_same xs ys) ∙ both-pick (nat_eq x y) (same xs ys)
