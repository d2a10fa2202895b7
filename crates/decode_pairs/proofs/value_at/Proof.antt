-- `decode_pairs::value_at` meets its contract: the value of a board's row by its own factors.
-- Assumes nothing.
use mathlib.Core.Path.{◌≡◌, ap, ap₂, ◌∙◌}
use mathlib.Core.List.{List}
use Prim.Native.Nat.{ℕ, ◌≤◌, ◌<◌, ◌-◌, ◌+◌, ◌*◌}
use native.Mathlib.Omega.{arith}
use borrow.Author.Rules.{rules}
use lib.ListN.{length, get_or, length-take, length-drop}
use Rattle.lists.proofs.Pieces.{part-piece}
use Rattle.sizes.proofs.Legal.{row_fits}
use Rattle.decode_laws.specs.Steps.{offset, value_by}
use Rattle.decode_laws.proofs.Values.{offset-below}
use Rattle.kept_rows.proofs.Made.{board-below, rest_part}
use Rattle.decode_pairs.proofs.value_at.Statement.{statement}
use Rattle.decode_pairs.proofs.value_at.Tie as tie

-- places in the code
abbrev st-at-shared-slice-known5 : tie.After-shared_slice_known-5-1 → tie.Start
st-at-shared-slice-known5 c = c.before.before.before.before.before

abbrev st-offset : tie.After-offset-o → tie.Start
st-offset c = st-at-shared-slice-known5 c.before

abbrev offset-at-value-arg2 : tie.After-value-arg-2-1 → tie.After-offset-o
offset-at-value-arg2 c = c.before.before

abbrev st-value-arg2 : tie.After-value-arg-2-1 → tie.Start
st-value-arg2 c = st-offset (offset-at-value-arg2 c)

-- the two boards are known
known-t : (g : tie.Start) → get_or g.args.boards.now g.args.t 0 < g.args.n
known-t g = board-below _ g.args.boards.now g.args.t g.requires.4 g.requires.7

known-i : (g : tie.Start) → get_or g.args.boards.now g.args.i 0 < g.args.n
known-i g = board-below _ g.args.boards.now g.args.i g.requires.4 g.requires.8

-- where the factors of the board end
end : (g : tie.Start) → let a = g.args in a.t * ((a.n - a.c) * 32) + (a.n - a.c) * 32 ≤ length a.boards.now * ((a.n - a.c) * 32)
end g = row_fits _ _ _ g.requires.7

offset-requires : tie.Need-offset-o-requires
offset-requires c κs = let g = st-at-shared-slice-known5 c in (g.requires.0, known-t g, known-i g)

mul-from-2 : tie.Need-overflow_mul-from-2
mul-from-2 c = omega (arith, end (st-offset c))

sub-value : tie.Need-slice_bounds-value-count
sub-value c = omega (arith, end (st-offset c))

part-value-start : tie.Need-slice_bounds-value-start
part-value-start c = omega (arith, end (st-offset c))

value-requires : tie.Need-value-requires
value-requires c κs =
    let g = st-value-arg2 c in
    let a = g.args in
    let e = end g in
    let below : offset a.n (get_or a.boards.now a.t 0) (get_or a.boards.now a.i 0) < a.n = offset-below a.n _ _ (known-t g) (known-i g) in (
      g.requires.0,
      g.requires.1,
      g.requires.2,
      omega (arith, below, (offset-at-value-arg2 c).offset-o.ensures),
      simp (length-take, length-drop) (omega arith),
      simp (length-take, length-drop) (omega arith),
    )

-- the same value, of what is the same
same-value : (c m o o' : ℕ) (f f' r r' : List ℕ) → o ≡ o' → f ≡ f' → r ≡ r' → value_by c o m f r ≡ value_by c o' m f' r'
same-value c m o o' f f' r r' eo ef er = ap (λ (o : ℕ). value_by c o m f r) eo ∙ ap₂ (value_by c o' m) ef er

returns : tie.Need-returns
returns c =
    let a = (st-value-arg2 c.before).args in
    c.value.ensures
    ∙ same-value a.c a.m _ _ _ _ _ _ (offset-at-value-arg2 c.before).offset-o.ensures (rest_part (a.t * ((a.n - a.c) * 32)) a.factors.now) (part-piece 32 a.t a.rows.now)

pub value_at_spec : {M : Type 1} → statement M
value_at_spec =
    tie.close
    (tie.spec
    (λ c. search rules)
    (λ c. search rules)
    (λ c. search rules)
    (λ c. search rules)
    offset-requires
    (λ c. search rules)
    (λ c. search rules)
    mul-from-2
    (λ c. search rules)
    (λ c. search rules)
    sub-value
    part-value-start
    (λ c. search rules)
    (λ c. search rules)
    (λ c. search rules)
    (λ c. search rules)
    value-requires
    returns)
