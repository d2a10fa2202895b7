-- `step_sent::stand_in_at` meets its contract: the packet by what the stand-in holds, put at its place.
-- Assumes nothing.
use mathlib.Core.Path.{ap, ◌∙◌}
use mathlib.Core.List.{List, ◌++◌}
use Prim.Native.Nat.{ℕ, ◌+◌, ◌-◌}
use lib.ListN.{take, drop}
use Rattle.sizes.proofs.Legal.{Legal, legal-facts}
use Rattle.mbcr.specs.Rebuild.{stand_in_packet}
use Rattle.mbcr.proofs.Repair.{length-stand-in}
use Rattle.step_laws.specs.Steps.{held_at}
use Rattle.step_laws.proofs.Held.{Held, held_in, held-part, held-long, put-made, room}
use borrow.Author.Rules.{rules}
use native.Mathlib.Omega.{arith}
use Rattle.step_sent.proofs.stand_in_at.Statement.{statement}
use Rattle.step_sent.proofs.stand_in_at.Tie as tie

-- the places
abbrev st-struct-known : tie.After-struct_known-1 → tie.Start
st-struct-known c = c.before.before.before.before.before

abbrev st-struct-known2 : tie.After-struct_known-2-1 → tie.Start
st-struct-known2 c = st-struct-known c.before

abbrev st-packet-arg2 : tie.After-stand_in_packet-arg-2-1 → tie.Start
st-packet-arg2 c = st-struct-known2 c.before.before

abbrev packet-end : tie.After-slice_known-2-1 → tie.After-stand_in_packet
packet-end c = c.before.before

abbrev st-end : tie.After-slice_known-2-1 → tie.Start
st-end c = st-packet-arg2 (packet-end c).before

facts : (c : tie.Start) → Legal c.args.sizes
facts c = legal-facts _ c.requires.0

own : (c : tie.Start) → let a = c.args in Held a.sizes a.capacity a.stripes a.j
own c = let a = c.args in let p = c.requires in held_in a.sizes (facts c) a.capacity a.stripes a.j p.4 p.5 p.6

stand-in-packet-requires : tie.Need-stand_in_packet-requires
stand-in-packet-requires c κs =
    let s = st-packet-arg2 c in
    let a = s.args in
    let p = s.requires in (
      p.0,
      p.1,
      p.2,
      p.3,
      omega (arith, p.4, p.5),
      p.6,
      p.7,
      held-long a.sizes a.capacity a.stripes a.j a.area.now (own s) p.8,
      room a.at a.stripes a.packets.now p.9,
    )

returns : tie.Need-returns
returns c =
    let s = st-end c in
    let a = s.args in
    let z = a.sizes in
    let b : List ℕ → List ℕ = stand_in_packet z a.points.now a.stripes a.j a.i in
    put-made a.at a.stripes a.packets.now _ (b (held_at z a.capacity a.stripes a.area.now a.j))
    (length-stand-in z a.points.now a.stripes a.j a.i _)
    ((packet-end c).stand_in_packet.ensures
    ∙ ap (λ (l : List ℕ). b l ++ drop a.stripes (take (a.at + a.stripes - a.at) (drop a.at a.packets.now))) (held-part z a.capacity a.stripes a.j a.area.now))

pub stand_in_at_spec : {M : Type 1} → statement M
stand_in_at_spec =
    tie.close
    (tie.spec
    (λ c. let f = facts (st-struct-known c) in omega (arith, f.enough, f.few))
    (λ c. let f = facts (st-struct-known2 c) in omega (arith, f.enough, f.few))
    (λ c. let f = facts (st-struct-known2 c) in omega (arith, f.some-fresh))
    (λ c. let h = own (st-struct-known2 c) in omega (arith, h.few))
    (λ c. let h = own (st-struct-known2 c) in omega (arith, h.ends, h.all))
    (λ c. let h = own (st-struct-known2 c) in omega (arith, h.used, h.few))
    (λ c. let h = own (st-struct-known2 c) in omega (arith, h.used, h.ends, h.all))
    (λ c. search rules)
    (λ c. search rules)
    (λ c. search rules)
    (λ c. let h = own (st-struct-known2 c) in omega (arith, h.used, h.ends, (st-struct-known2 c).requires.8))
    (λ c. search rules)
    (λ c. search rules)
    (λ c. search rules)
    stand-in-packet-requires
    (λ c. search rules)
    returns)
