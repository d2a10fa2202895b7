-- The limit, byte by byte: what a reader of the line gives, with a number of 33 or more held as 33.
-- Assumes nothing.
use mathlib.Core.Path.{◌≡◌, refl, sym, ◌∙◌}
use mathlib.Core.List.{List, [], ◌∷◌}
use Prim.Native.Nat.{ℕ, suc, ◌<◌, ◌≤◌}
use native.Mathlib.Omega.{arith}
use native.Mathlib.Decide.{dec_lt}
use lib.Dec.{leb, eqb}
use lib.ListN.{length}
use borrow.Author.Tests.{lt-ltb, le-ltb, le-leb, lt-leb, eq-eqb, ne_eqb}
use Rattle.lists.specs.Tests.{pick, alls}
use Rattle.number_lines.specs.Steps.{begin, capped, reads}
use Rattle.number_lines.proofs.Laws.{line-laws}
use Rattle.size_list.specs.Combinations.{none, limit}
use Rattle.size_steps.specs.Steps.{whole_limit}

pub too_small : (v b : ℕ) → v < 2 → 0 ≡ whole_limit v b
too_small v b h = rw (lt-leb 2 v h)

pub too-great : (v b : ℕ) → 32 < v → 0 ≡ whole_limit v b
too-great v b h = rw (le-leb 2 v (omega arith), lt-leb v 32 h)

pub not_last : (v b : ℕ) → 2 ≤ v → v ≤ 32 → (b ≡ 0 → ⊥) → 0 ≡ whole_limit v b
not_last v b h g n = rw (le-leb 2 v h, le-leb v 32 g, ne_eqb b 0 n)

pub whole-limit : (v b : ℕ) → 2 ≤ v → v ≤ 32 → b ≡ 0 → v ≡ whole_limit v b
whole-limit v b h g e = rw (le-leb 2 v h, le-leb v 32 g, eq-eqb b 0 e)

none-length : (l : List ℕ) → eqb (length l) 0 ≡ none l
none-length [] = refl
none-length (x ∷ l) = ne_eqb (suc (length l)) 0 (λ e. omega arith)

-- what is done with a whole line
abbrev pub go : ℕ → List ℕ → ℕ
go v behind = whole_limit v (length behind)

pub held : (v : ℕ) (behind : List ℕ) → go (capped 33 v) behind ≡ pick (alls (leb 2 v ∷ leb v 32 ∷ none behind ∷ [])) v 0
held v behind = by (dec_lt v 33)
  where
    by : Dec (v < 33) → go (capped 33 v) behind ≡ pick (alls (leb 2 v ∷ leb v 32 ∷ none behind ∷ [])) v 0
    by (yes h) = rw (lt-ltb v 33 h, none-length behind)
    by (no h) = rw (le-ltb v 33 (omega arith)) (sym (too-great 33 (length behind) (omega arith)) ∙ (rw (le-leb 2 v (omega arith), lt-leb v 32 (omega arith))))

pub limit-reads : (input : List ℕ) → reads 0 [] 33 begin input go ≡ limit input
unfolding limit
limit-reads input = line-laws.goes-on 0 [] 33 go (λ v behind. pick (alls (leb 2 v ∷ leb v 32 ∷ none behind ∷ [])) v 0) held input
