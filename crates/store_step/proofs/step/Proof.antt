-- `store_step::step` meets its contract: the lists of the repair's record, as its count and the sizes tell them.
-- Assumes nothing.
use Prim.Native.Nat.{ℕ, ◌≤◌}
use mathlib.Core.Path.{◌≡◌, sym}
use mathlib.Core.List.{List}
use native.Mathlib.Omega.{arith}
use lib.ListN.{length, take}
use lib.Seq.{length-take-le}
use borrow.Author.Rules.{rules}
use Rattle.store_spec.specs.Record.{Record}
use Rattle.beside_spec.specs.Running.{Running}
use Rattle.record.specs.Records.{record_of, running_in}
use Rattle.store_step.proofs.Going.{Lists, lists_of}
use Rattle.store_step.proofs.step.Statement.{statement}
use Rattle.store_step.proofs.step.Tie as tie

-- places in the code
abbrev boards_of-3-of-b-3-1 : tie.After-b-3-1 → tie.After-boards_of-3
boards_of-3-of-b-3-1 c = c.before.before.before.before.before

abbrev boards_of-3-of-c-3-1 : tie.After-c-3-1 → tie.After-boards_of-3
boards_of-3-of-c-3-1 c = boards_of-3-of-b-3-1 c.before

abbrev start-of-fresh-2-1 : tie.After-fresh-2-1 → tie.Start
start-of-fresh-2-1 c = c.before.before.before.before.before.before

abbrev start-of-a-1 : tie.After-a-1 → tie.Start
start-of-a-1 c = start-of-fresh-2-1 c.before

abbrev boards_of-3-of-step_by-arg-2-1 : tie.After-step_by-arg-2-1 → tie.After-boards_of-3
boards_of-3-of-step_by-arg-2-1 c = boards_of-3-of-c-3-1 c.before.before

abbrev start-of-helpers-2-1 : tie.After-helpers-2-1 → tie.Start
start-of-helpers-2-1 c = start-of-a-1 c.before.before.before

abbrev start-of-b-1 : tie.After-b-1 → tie.Start
start-of-b-1 c = start-of-helpers-2-1 c.before

abbrev start-of-standins-2-1 : tie.After-standins-2-1 → tie.Start
start-of-standins-2-1 c = start-of-b-1 c.before.before.before

abbrev start-of-c-1 : tie.After-c-1 → tie.Start
start-of-c-1 c = start-of-standins-2-1 c.before

abbrev start-of-boards_of-3 : tie.After-boards_of-3 → tie.Start
start-of-boards_of-3 c = start-of-c-1 c.before

abbrev R : tie.Start → Record
R g = record_of g.args.kept

abbrev P : tie.Start → Running
P g = running_in g.args.running

-- its arrays
fresh-long : (g : tie.Start) → length g.args.running.fresh ≡ 32
fresh-long g = search rules

helpers-long : (g : tie.Start) → length g.args.running.helpers ≡ 256
helpers-long g = search rules

stand-ins-long : (g : tie.Start) → length g.args.running.stand_ins ≡ 256
stand-ins-long g = search rules

-- the boards of the three arrays
abbrev F : tie.After-boards_of-3 → List ℕ
F c = c.boards_of.new.boards

abbrev H : tie.After-boards_of-3 → List ℕ
H c = c.boards_of-2.new.boards

abbrev I : tie.After-boards_of-3 → List ℕ
I c = c.boards_of-3.new.boards

lists : (c : tie.After-boards_of-3) → Lists (R (start-of-boards_of-3 c)) (P (start-of-boards_of-3 c)) c.args.area.now c.args.packets.now (F c) (H c) (I c)
lists c =
    lists_of (R (start-of-boards_of-3 c)) (P (start-of-boards_of-3 c)) c.args.area.now c.args.packets.now c.requires (F c) (H c) (I c)
    c.boards_of.ensures c.boards_of-2.ensures c.boards_of-3.ensures (fresh-long (start-of-boards_of-3 c)) (helpers-long (start-of-boards_of-3 c)) (stand-ins-long (start-of-boards_of-3 c))

-- as many as are taken
taken : (m : ℕ) (l : List ℕ) → m ≤ length l → m ≡ length (take m l)
taken m l h = sym (length-take-le m l h)

pub step_spec : {M : Type 1} → statement M
step_spec =
    tie.close
    (tie.spec
    (λ c. sym (fresh-long (start-of-fresh-2-1 c)))
    (λ c. search rules)
    (λ c κs. sym (fresh-long (start-of-a-1 c)))
    (λ c. sym (helpers-long (start-of-helpers-2-1 c)))
    (λ c. search rules)
    (λ c κs. sym (helpers-long (start-of-b-1 c)))
    (λ c. sym (stand-ins-long (start-of-standins-2-1 c)))
    (λ c. search rules)
    (λ c κs. sym (stand-ins-long (start-of-c-1 c)))
    (λ c. omega (arith, (lists c.before.before).helpers-fit))
    (λ c. (lists c.before.before.before).few)
    (λ c. omega (arith, (lists c.before.before.before).stand-ins-fit))
    (λ c. let l = lists c.before.before.before in omega (arith, l.fresh-fit, l.fresh-long))
    (λ c. let l = lists c.before.before.before.before in taken _ (F c.before.before.before.before) (omega (arith, l.fresh-fit, l.fresh-long)))
    (λ c. let l = lists c.before.before.before.before in omega (arith, l.helpers-fit, l.helpers-long))
    (λ c. let l = lists (boards_of-3-of-b-3-1 c) in taken _ (H (boards_of-3-of-b-3-1 c)) (omega (arith, l.helpers-fit, l.helpers-long)))
    (λ c. let l = lists (boards_of-3-of-b-3-1 c) in omega (arith, l.stand-ins-fit, l.stand-ins-long))
    (λ c. let l = lists (boards_of-3-of-c-3-1 c) in taken _ (I (boards_of-3-of-c-3-1 c)) (omega (arith, l.stand-ins-fit, l.stand-ins-long)))
    (λ c κs. let l = lists (boards_of-3-of-step_by-arg-2-1 c) in (l.is-going, l.is-listing))
    (λ c. c.area-1.given)
    (λ c. c.packets-1.given)
    (λ c. search rules))
