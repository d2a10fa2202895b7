-- `text_in::fill_pairs` meets its contract: two digits of four bits make a byte.
-- Assumes nothing.
use Rattle.std.proofs.Common.{◌≡◌, ℕ, ◌+◌, ◌*◌, length, get_or, ap₂, ◌∙◌, arith}
use Rattle.lists.proofs.Pieces.{fill-loop, fill_end, fill-all}
use Rattle.text_in.specs.Steps.{pair_at}
use Rattle.text_in.proofs.At.{nibble-low}
use Rattle.text_in.proofs.fill_pairs.Goals as goal

pub overflow_mul-out : goal.overflow_mul-out
overflow_mul-out c = omega (arith, c.nibble.ensures, nibble-low (get_or c.args.text.now (c.args.at + 2 * c.loop-j.j) 0))

pub overflow_add-out : goal.overflow_add-out
overflow_add-out c = omega (
  arith,
  c.nibble.ensures,
  c.nibble-in-loop-j.ensures,
  nibble-low (get_or c.args.text.now (c.args.at + 2 * c.loop-j.j) 0),
  nibble-low (get_or c.args.text.now (c.args.at + 2 * c.loop-j.j + 1) 0),
)

pub loop-j-preserved : goal.loop-j-preserved
loop-j-preserved c =
    let a = c.args in
    let v = ap₂ {C = ℕ} (λ (x y : ℕ). 16 * x + y) c.nibble.ensures c.nibble-in-loop-j.ensures in
    fill-loop (λ j. pair_at a.text.now (a.at + 2 * j)) a.out.now c.loop-j.out c.loop-j.j _ c.loop-j-test.true v c.loop-j.invariant

pub returns : goal.returns
returns c =
    let a = c.args in
    let e : c.loop-j.j ≡ length a.out.now = omega arith in
    fill_end (λ j. pair_at a.text.now (a.at + 2 * j)) a.out.now c.loop-j.out c.loop-j.j (length a.out.now) e c.loop-j.invariant
    ∙ fill-all (λ j. pair_at a.text.now (a.at + 2 * j)) a.out.now (length a.out.now) (omega arith)
