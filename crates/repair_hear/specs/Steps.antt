-- What helpers send of a stripe: by the definition, and by rows of factors, which are made once a call. `own j` is what board j holds of the
-- stripe.
-- Assumes nothing.
use Rattle.std.specs.Prelude.{ℕ, ◌+◌, ◌≤◌, ◌≡◌, List, map, get_or, take}
use Rattle.lists.specs.Lists.{piece}
use Rattle.sizes.specs.declared.Sizes.{Sizes}
use Rattle.polynomial.specs.Polynomial.{eval}
use Rattle.mbcr.specs.Share.{point}
use Rattle.mbcr.specs.Rebuild.{own_f, own_g}
use Rattle.stripe_helper.specs.Steps.{pair_by}

-- t fresh boards, each of which names c boards: its d helpers, then its r − t stand-ins
pub record Naming (z : Sizes) (t c : ℕ) : Type 0 where
  pub some : 1 ≤ t
  pub helps : z.d ≤ c
  pub whole : c + t ≡ z.d + z.r

-- the first and the second bytes of these boards for board i
abbrev pub firsts_of : Sizes → List ℕ → (ℕ → List ℕ) → ℕ → List ℕ → List ℕ
firsts_of z xs own i helpers = map (λ j. eval (own_f z xs j (own j)) (point xs i)) helpers

abbrev pub seconds_of : Sizes → List ℕ → (ℕ → List ℕ) → ℕ → List ℕ → List ℕ
seconds_of z xs own i helpers = map (λ j. eval (own_g z xs j (own j)) (point xs i)) helpers

-- what the p-th helper sends by its rows of factors, the p-th of ff and of gf, of which fl and gl bytes count: its first and its second byte, from
-- the bytes that it holds, of which w are of f
unfoldable pub heard_first : ℕ → ℕ → ℕ → List ℕ → List ℕ → (ℕ → List ℕ) → List ℕ → ℕ → ℕ
heard_first w fl gl ff gf own helpers p = get_or (pair_by w (take fl (piece 32 p ff)) (take gl (piece 32 p gf)) (own (get_or helpers p 0))) 0 0

unfoldable pub heard_second : ℕ → ℕ → ℕ → List ℕ → List ℕ → (ℕ → List ℕ) → List ℕ → ℕ → ℕ
heard_second w fl gl ff gf own helpers p = get_or (pair_by w (take fl (piece 32 p ff)) (take gl (piece 32 p gf)) (own (get_or helpers p 0))) 1 0
