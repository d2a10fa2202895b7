-- What a walk over texts, one after another, finds: whether they stand there, whether they are alike, and of each its board and where its pairs begin.
-- Assumes nothing.
use Rattle.std.specs.Prelude.{◌≡◌, Bool, true, false, List, [], ◌∷◌, map, ℕ, ◌+◌, ◌*◌, ◌≤◌, eqb, length}
use Rattle.std.proofs.Math.Option.{some, none}
use Rattle.lists.specs.Tests.{alls, every, same}
use Rattle.lists.specs.Lists.{All, fit}
use Rattle.sizes.specs.declared.Sizes.{Sizes}
use Rattle.sizes.specs.Sizing.{max_boards, α, stripes}
use Rattle.text_spec.specs.Texts.{texts_of}
use Rattle.text_spec.specs.Calls.{like_sizes}
use Rattle.text_head.specs.declared.Head.{Head}
use Rattle.text_head.specs.Steps.{told_by}
use Rattle.text_scan.specs.declared.Scan.{Scan}

-- these sizes, points and length
abbrev pub like_head : Sizes → List ℕ → ℕ → Head → Bool
like_head z xs L h = alls (like_sizes z h.sizes ∷ same xs h.points ∷ eqb L h.length ∷ [])

-- the pairs of a share stand within the text
pub record Inside (text : List ℕ) (h : Head) : Type 0 where
  pub counts : h.count ≡ stripes h.sizes h.length * α h.sizes
  pub within : h.place + 2 * h.count ≤ length text

-- the heads of all texts, one after another
pub record Heads (text : List ℕ) (z : Sizes) (xs : List ℕ) (L : ℕ) (r : Scan) (nodes places : List ℕ) (hs : List Head) : Type 0 where
  pub are-texts : texts_of text ≡ some (map (told_by text) hs)
  pub counted : r.count ≡ length hs
  pub compared : r.alike ≡ every (like_head z xs L) hs
  pub boards : nodes ≡ fit max_boards (map (λ (h : Head). h.node) hs)
  pub begin : places ≡ fit max_boards (map (λ (h : Head). h.place) hs)
  pub inside : All (Inside text) hs

-- what the walk finds
pub record Scanned (text : List ℕ) (z : Sizes) (xs : List ℕ) (L : ℕ) (r : Scan) (nodes places : List ℕ) : Type 0 where
  pub no-texts : r.ok ≡ false → texts_of text ≡ none
  pub heads : r.ok ≡ true → (hs : List Head) × Heads text z xs L r nodes places hs
