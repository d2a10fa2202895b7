-- Whether a board holds what it keeps of each stripe that k boards decode to.
-- Assumes nothing.
use Rattle.std.specs.Prelude.{Bool, List, ℕ, ◌+◌, ◌*◌, ◌-◌, ltb, take, drop}
use Rattle.lists.specs.Tests.{pick, alls, same}
use Rattle.lists.specs.Lists.{tabulate}
use Rattle.sizes.specs.declared.Sizes.{Sizes}
use Rattle.sizes.specs.Sizing.{α}
use Rattle.mbcr.specs.Share.{kept}
use Rattle.stripes_cut.specs.Steps.{stripe_at}

-- the stripe that is looked at after t others, from one on and around; from the first on where there is no such stripe
abbrev pub turned : ℕ → ℕ → ℕ → ℕ
turned from S t = pick (ltb from S) (pick (ltb t (S - from)) (from + t) (t - (S - from))) t

module _ (z : Sizes) (xs boards starts area : List ℕ) where
  -- board i, whose part starts at a place, holds what it keeps of stripe s
  abbrev pub holds_stripe : ℕ → ℕ → ℕ → Bool
  holds_stripe place i s = same (take (α z) (drop (place + s * α z) area)) (kept z xs (stripe_at z xs boards starts area s) i)

  -- and so of each stripe
  abbrev pub holds_stripes : ℕ → ℕ → ℕ → Bool
  holds_stripes S place i = alls (tabulate S (holds_stripe place i))
