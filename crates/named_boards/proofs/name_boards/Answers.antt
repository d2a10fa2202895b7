-- `named_boards::name_boards` meets its contract: the runs of the fresh boards so far, before what was there.
-- Assumes nothing.
use Rattle.std.proofs.Common.{◌≡◌, sym, ap, ap₂, ◌∙◌, ◌++◌, ◌+◌, ◌*◌, ◌<◌, length, ℕ, List, drop, arith}
use native.Mathlib.Nat.{zero-mul}
use lib.ListN.{length-append}
use Rattle.lists.specs.Lists.{piece}
use Rattle.lists.proofs.Put.{part_end}
use Rattle.lists.proofs.Pieces.{part-piece, length-piece}
use Rattle.row_dots.proofs.Rows.{join-loop, join-end}
use Rattle.named_boards.proofs.name_boards.Goals as goal

-- a run of each, and both
long : (t d e : ℕ) (hs ss : List ℕ) → length hs ≡ t * d → length ss ≡ t * e → (b : ℕ) → b < t → (length (piece d b hs) ≡ d) × (length (piece e b ss) ≡ e)
long t d e hs ss h s b k =
    let x = part_end b d t k in
    let y = part_end b e t k in
    (length-piece d b hs (omega arith), length-piece e b ss (omega arith))

both_long : (t d e : ℕ) (hs ss : List ℕ) → length hs ≡ t * d → length ss ≡ t * e → (b : ℕ) → b < t → length (piece d b hs ++ piece e b ss) ≡ d + e
both_long t d e hs ss h s b k =
    length-append (piece d b hs) (piece e b ss) ∙ ap₂ ◌+◌ (long t d e hs ss h s b k).0 (long t d e hs ss h s b k).1

pub loop-a-init : goal.loop-a-init
loop-a-init c = ap (λ (m : ℕ). drop m c.args.out.now) (sym (zero-mul (c.args.d + c.args.e)))

pub loop-a-preserved : goal.loop-a-preserved
loop-a-preserved c =
    let a = c.args in
    let l = c.loop-a in
    join-loop (λ b. piece a.d b a.helpers.now ++ piece a.e b a.standins.now) (a.d + a.e) l.a a.out.now l.out _
    (λ i q. both_long a.t a.d a.e a.helpers.now a.standins.now c.requires.0 c.requires.1 i (omega arith))
    (c.put_run.ensures ∙ ap₂ {C = List ℕ} (λ x y. x ++ y) (part-piece a.d l.a a.helpers.now) (part-piece a.e l.a a.standins.now))
    l.invariant

pub returns : goal.returns
returns c =
    let a = c.args in
    join-end _ (a.d + a.e) c.loop-a.a a.t a.out.now c.loop-a.out (omega arith) (omega (arith, c.requires.2)) c.loop-a.invariant
