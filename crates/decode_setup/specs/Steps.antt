-- Where the tables of a read stand, one after another, in 49,152 bytes: factors of f, factors of g, the tables of two matrices, and rows of coefficients.
-- Assumes nothing.
use Rattle.std.specs.Prelude.{◌≡◌, List, ℕ, ◌+◌, ◌-◌, ◌*◌, length, get_or, take, drop}
use Rattle.sizes.specs.declared.Sizes.{Sizes}
use Rattle.mbcr.specs.Share.{neighbours}
use Rattle.decode_stripe.specs.Steps.{Tables}

-- the boards at which values are taken: d + r, from the first board read on
abbrev pub targets_of : Sizes → List ℕ → List ℕ
targets_of z boards = neighbours z (get_or boards 0 0) (z.d + z.r)

pub record Made (z : Sizes) (xs boards tables : List ℕ) : Type 0 where
  pub long : length tables ≡ 49152
  pub are :
      Tables z xs boards (targets_of z boards)
      (take (z.k * ((z.n - (z.d + z.r)) * 32)) tables)
      (take (z.k * ((z.n - z.d) * 32)) (drop 7680 tables))
      (take ((z.d + z.r) * 512) (drop 15872 tables))
      (take ((z.d - z.k) * 32) (drop 48128 tables))
      (take (z.d * 512) (drop 32256 tables))
