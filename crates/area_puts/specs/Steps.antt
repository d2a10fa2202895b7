-- Bytes put at many places of a list, one after another.
-- Assumes nothing.
use Rattle.std.specs.Prelude.{List, ℕ, zero, suc}
use Rattle.lists.specs.Lists.{put}

-- f 0 put at p 0, then f 1 at p 1, .. , f (m − 1) at p (m − 1)
abbrev pub puts : (ℕ → ℕ) → (ℕ → List ℕ) → ℕ → List ℕ → List ℕ
puts p f zero l = l
puts p f (suc m) l = put (puts p f m l) (p m) (f m)
