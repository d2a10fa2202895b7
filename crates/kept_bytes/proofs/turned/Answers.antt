-- `kept_bytes::turned` meets its contract. The loop's invariant: the bytes so far, before what was there, and b is the next board.
-- Assumes nothing.
use Rattle.std.proofs.Common.{ℕ, ◌+◌, ◌%◌, ◌∙◌, refl, sym, ap, get_or, arith}
use Rattle.std.proofs.Math.ListN.{length-set}
use native.Mathlib.Nat.{mod-eq_of_lt, mod-lt, add-zero}
use Rattle.kept_bytes.proofs.Turns.{after, around-turn, around-end}
use Rattle.kept_bytes.proofs.turned.Goals as goal

pub loop-byte-init : goal.loop-byte-init
loop-byte-init c = (refl, sym (ap (λ (x : ℕ). x % c.args.n) (add-zero c.args.i) ∙ mod-eq_of_lt c.requires.0), c.requires.0, refl)

pub loop-byte-preserved : goal.loop-byte-preserved
loop-byte-preserved c =
    let l = c.loop-byte in
    let a = c.args in (
      around-turn a.n (λ b. get_or c.args.row.now b 0) a.i l.byte-index l.b _ a.out.now l.byte-items (omega arith) l.invariant.1 refl l.invariant.0,
      after a.n a.i l.byte-index l.b _ l.invariant.1 c.next-b.ensures,
      omega (arith, mod-lt (l.b + 1) {m = a.n} (omega arith), c.next-b.ensures),
      length-set l.byte-items l.byte-index _ ∙ l.invariant.3,
    )

pub returns : goal.returns
returns c =
    around-end c.args.n (λ b. get_or c.args.row.now b 0) c.args.i c.loop-byte.byte-index c.args.out.now c.loop-byte.byte-items (omega arith) c.loop-byte.invariant.0
