-- An edit of an area, stripe by stripe. Boards are read at `starts`, their parts have `part` bytes, and `on` are the boards that are changed.
-- Assumes nothing.
use Rattle.std.specs.Prelude.{Bool, false, List, [], ◌∷◌, ℕ, zero, suc, ◌*◌, get_or}
use Rattle.lists.specs.Lists.{tabulate, concat}
use Rattle.lists.specs.Tests.{pick}
use Rattle.sizes.specs.declared.Sizes.{Sizes}
use Rattle.sizes.specs.Sizing.{α}
use Rattle.mbcr.specs.Share.{kept}
use Rattle.edit_put.specs.Steps.{added}
use Rattle.edit_stripe.specs.Steps.{changed_stripe}

-- the boards that these marks have in service, of n
abbrev pub serving_of : ℕ → List Bool → List ℕ
serving_of n marks = concat (tabulate n (λ i. pick (get_or marks i false) (i ∷ []) []))

module _ (z : Sizes) (xs boards starts : List ℕ) (part : ℕ) (on : List ℕ) (offset : ℕ) (bytes : List ℕ) where
  -- stripe t: what it changes by is made of the area before the first board of it is changed
  unfoldable pub stripe_edited : ℕ → List ℕ → List ℕ
  stripe_edited t area = added (α z) part (t * α z) (kept z xs (changed_stripe z xs boards starts area offset bytes t)) on area

  -- m stripes from stripe t on
  abbrev pub stripes_edited : ℕ → ℕ → List ℕ → List ℕ
  stripes_edited t zero area = area
  stripes_edited t (suc m) area = stripes_edited (suc t) m (stripe_edited t area)
