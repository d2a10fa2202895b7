-- Shares that stand at given places: what boards hold of a stripe is a piece of them.
-- Assumes nothing.
use mathlib.Core.Path.{◌≡◌, sym, ap, ◌∙◌}
use mathlib.Core.List.{List}
use Prim.Native.Nat.{ℕ, ◌+◌, ◌*◌, ◌<◌, ◌≤◌}
use native.Mathlib.Omega.{arith}
use lib.ListN.{length, get_or, take, drop, length-drop}
use lib.Seq.{drop-drop, length-take-le}
use Rattle.lists.specs.Lists.{join, piece}
use Rattle.lists.proofs.Alls.{all-at}
use Rattle.lists.proofs.Pieces.{length-join, piece-join, join-joined}
use Rattle.lists.proofs.Put.{within}
use Rattle.sizes.specs.declared.Sizes.{Sizes}
use Rattle.sizes.specs.Sizing.{α}
use Rattle.sizes.proofs.Legal.{row_fits}
use Rattle.decode_laws.specs.Steps.{held_at, Placed}
use Rattle.decode_file.specs.Steps.{shares_at}

module _ (z : Sizes) (S : ℕ) (starts bytes : List ℕ) (placed : Placed z starts bytes S) where
  abbrev one : ℕ → List ℕ
  one t = take (S * α z) (drop (get_or starts t 0) bytes)

  long : (t : ℕ) → t < length starts → get_or starts t 0 + S * α z ≤ length bytes
  long t h = all-at (λ p. p + S * α z ≤ length bytes) 0 starts placed t h

  length-one : (t : ℕ) → t < length starts → length (one t) ≡ S * α z
  length-one t h = length-take-le (S * α z) (drop (get_or starts t 0) bytes) (omega (arith, length-drop (get_or starts t 0) bytes, long t h))

  shares-are : shares_at z S starts bytes ≡ join (length starts) one
  unfolding shares_at
  shares-are = sym (join-joined (λ p. take (S * α z) (drop p bytes)) starts)

  pub shares-long : length (shares_at z S starts bytes) ≡ length starts * (S * α z)
  shares-long = ap length shares-are ∙ length-join (length starts) (S * α z) one length-one

  pub held-there : (s t : ℕ) → s < S → t < length starts → piece (α z) s (piece (S * α z) t (shares_at z S starts bytes)) ≡ held_at z starts bytes s t
  unfolding held_at piece
  held-there s t hs ht =
      ap (piece (α z) s) (ap (piece (S * α z) t) shares-are ∙ piece-join (length starts) (S * α z) one length-one t ht)
      ∙ within (α z) (S * α z) (s * α z) (drop (get_or starts t 0) bytes) (row_fits s S (α z) hs)
      ∙ ap (take (α z)) (drop-drop (s * α z) (get_or starts t 0) bytes)
