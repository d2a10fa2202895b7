-- A stripe of a file, from what boards hold of it at given places.
-- Assumes nothing.
use Rattle.std.specs.Prelude.{List, ℕ}
use Rattle.sizes.specs.declared.Sizes.{Sizes}
use Rattle.mbcr.specs.Read.{decoded_stripe}
use Rattle.decode_laws.specs.Steps.{held_at}

-- stripe s
abbrev pub stripe_at : Sizes → List ℕ → List ℕ → List ℕ → List ℕ → ℕ → List ℕ
stripe_at z xs boards starts bytes s = decoded_stripe z xs boards (held_at z starts bytes s)
