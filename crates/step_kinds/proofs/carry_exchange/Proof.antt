-- `step_kinds::carry_exchange` meets its contract: the fresh board that hears, the one that sends, and its run of helpers with their packets.
-- Assumes nothing.
use mathlib.Core.Path.{◌≡◌, sym, ap, subst, ◌∙◌}
use mathlib.Core.List.{List}
use Prim.Native.Nat.{ℕ, ◌+◌, ◌-◌, ◌*◌, ◌/◌, ◌%◌, ◌<◌, ◌≤◌}
use native.Mathlib.Nat.{mul-le-mul}
use lib.ListN.{length, get_or, take, drop}
use Rattle.lists.specs.Lists.{piece, put}
use Rattle.lists.proofs.Put.{part_end}
use Rattle.lists.proofs.Pieces.{part-piece, length-piece}
use Rattle.sizes.proofs.Legal.{Legal, legal-facts}
use Rattle.mbcr.specs.Rebuild.{exchange_packet}
use Rattle.repair_rows.specs.Steps.{past}
use Rattle.repair_rows.proofs.Others.{past-below}
use Rattle.step_laws.specs.Steps.{exchange_at}
use Rattle.step_laws.proofs.Runs.{in-part}
use Rattle.step_laws.proofs.Facts.{served-low, run_end, run-below}
use borrow.Author.Rules.{rules}
use native.Mathlib.Omega.{arith}
use Rattle.step_kinds.proofs.carry_exchange.Statement.{statement}
use Rattle.step_kinds.proofs.carry_exchange.Tie as tie

-- the places
abbrev st-known : tie.After-slice_known-1 → tie.Start
st-known c = c.before.before.before.before.before

abbrev st-past : tie.After-past-sends → tie.Start
st-past c = st-known c.before

abbrev st-arg : tie.After-exchange_at-arg-1 → tie.Start
st-arg c = st-past c.before

abbrev past-at-shared-slice-known5 : tie.After-shared_slice_known-5-1 → tie.After-past-sends
past-at-shared-slice-known5 c = c.before.before

abbrev st-known5 : tie.After-shared_slice_known-5-1 → tie.Start
st-known5 c = st-past (past-at-shared-slice-known5 c)

abbrev past-arg2 : tie.After-exchange_at-arg-2-1 → tie.After-past-sends
past-arg2 c = past-at-shared-slice-known5 c.before

abbrev exchange-at-at-slice-known2 : tie.After-slice_known-2-1 → tie.After-exchange_at
exchange-at-at-slice-known2 c = c.before.before

abbrev past_end : tie.After-slice_known-2-1 → tie.After-past-sends
past_end c = past-arg2 (exchange-at-at-slice-known2 c).before

abbrev t : tie.Start → ℕ
t c = length c.args.fresh.now

-- the places in the fresh list
heard : (c : tie.Start) → (c.args.p / (t c - 1) < t c) × (c.args.p % (t c - 1) < t c - 1)
heard c = in-part c.args.p (t c) (t c - 1) c.requires.8

sender : (c : tie.After-past-sends) → c.past-sends.result < t (st-past c)
sender c =
    let s = st-past c in
    subst (λ (b : ℕ). b < t s) (sym c.past-sends.ensures) (past-below (s.args.p / (t s - 1)) (s.args.p % (t s - 1)) (t s) (heard s).1)

facts : (c : tie.Start) → Legal c.args.sizes
facts c = legal-facts _ c.requires.0

-- where the run of a fresh board ends, and its packets
runs : (c : tie.Start) (b : ℕ) → b < t c → b * c.args.sizes.d + c.args.sizes.d ≤ length c.args.helpers.now
runs c b h = let a = c.args in run_end a.sizes.n a.sizes.d a.fresh.now a.helpers.now c.requires.6 b h

run : (c : tie.After-past-sends) → let a = (st-past c).args in c.past-sends.result * a.sizes.d + a.sizes.d ≤ length a.helpers.now
run c = runs (st-past c) c.past-sends.result (sender c)

own : (c : tie.After-past-sends) → let a = (st-past c).args in let b = a.p / (t (st-past c) - 1) in b * a.sizes.d + a.sizes.d ≤ length a.helpers.now
own c = let s = st-past c in runs s (s.args.p / (t s - 1)) (heard s).0

few : (c : tie.Start) → let a = c.args in a.sizes.d * (2 * a.stripes) ≤ 32 * 8192
few c = let f = facts c in let n : c.args.sizes.d ≤ 32 = omega (arith, f.enough, f.few) in let m : 2 * c.args.stripes ≤ 8192 = omega (arith, c.requires.4) in mul-le-mul n m

packets-ends : (c : tie.Start) (b : ℕ) → b < t c → let w = c.args.sizes.d * (2 * c.args.stripes) in b * w + w ≤ c.args.at
packets-ends c b h = omega (arith, part_end b (c.args.sizes.d * (2 * c.args.stripes)) (t c) h, c.requires.9)

packets-end : (c : tie.After-past-sends) → let a = (st-past c).args in let w = a.sizes.d * (2 * a.stripes) in c.past-sends.result * w + w ≤ a.at
packets-end c = packets-ends (st-past c) c.past-sends.result (sender c)

own-end : (c : tie.After-past-sends) → let a = (st-past c).args in let b = a.p / (t (st-past c) - 1) in let w = a.sizes.d * (2 * a.stripes) in b * w + w ≤ a.at
own-end c = let s = st-past c in packets-ends s (s.args.p / (t s - 1)) (heard s).0

exchange-at-requires : tie.Need-exchange_at-requires
exchange-at-requires c κs =
    let b = (past-arg2 c).past-sends.result in
    let s = st-past (past-arg2 c) in
    let a = s.args in
    let p = s.requires in
    let e : take (b * a.sizes.d + a.sizes.d - b * a.sizes.d) (drop (b * a.sizes.d) a.helpers.now) ≡ piece a.sizes.d b a.helpers.now =
    part-piece a.sizes.d b a.helpers.now in (
      p.0,
      p.1,
      p.2,
      p.3,
      p.4,
      ap length e ∙ length-piece a.sizes.d b a.helpers.now (run (past-arg2 c)),
      rw e (run-below a.sizes.n a.sizes.d a.fresh.now a.helpers.now p.6 b),
      rw e (p.7.each b (sender (past-arg2 c))),
      served-low a.sizes.n a.sizes.d a.fresh.now a.helpers.now p.6 _ (heard s).0,
      omega (arith, packets-end (past-arg2 c), own-end (past-arg2 c)),
      p.10,
    )

returns : tie.Need-returns
unfolding exchange_at piece
returns c =
    let b = (past_end c).past-sends.result in
    let s = st-past (past_end c) in
    let a = s.args in
    let i : ℕ = get_or a.fresh.now (a.p / (t s - 1)) 0 in
    let w : ℕ = a.sizes.d * (2 * a.stripes) in
    let x : ℕ → List ℕ = λ b. exchange_packet a.sizes a.points.now a.stripes (piece a.sizes.d b a.helpers.now) (piece w b a.packets.now) i in
    (exchange-at-at-slice-known2 c).exchange_at.ensures
    ∙ ap (λ (hs : List ℕ). put a.packets.now a.at (exchange_packet a.sizes a.points.now a.stripes hs (take w (drop (b * w) a.packets.now)) i))
    (part-piece a.sizes.d b a.helpers.now)
    ∙ ap (λ (m : ℕ). put a.packets.now a.at (x m)) (past_end c).past-sends.ensures

abbrev past-at-shared-slice-known5-unread : tie.After-shared_slice_known-5-1-unread → tie.After-past-sends
past-at-shared-slice-known5-unread c = c.before.before

abbrev st-known5-unread : tie.After-shared_slice_known-5-1-unread → tie.Start
st-known5-unread c = st-past (past-at-shared-slice-known5-unread c)

pub carry_exchange_spec : {M : Type 1} → statement M
carry_exchange_spec =
    tie.close
    (tie.spec
    (λ c. omega (arith, (heard (st-known c)).1))
    (λ c. omega (arith, (heard (st-known c)).1))
    (λ c. omega (arith, (heard (st-known c)).1))
    (λ c κs. omega (arith, (heard (st-known c)).1, (st-known c).requires.5))
    (λ c. omega (arith, run c, own c))
    (λ c. omega (arith, run c, own c))
    (λ c. search rules)
    (λ c. omega (arith, few (st-past c)))
    (λ c. omega (arith, packets-end c, own-end c))
    (λ c. omega (arith, run c, own c))
    (λ c. search rules)
    (λ c. search rules)
    (λ c. omega (arith, run c, own c))
    (λ c. omega (arith, (heard (st-arg c)).0, sender c.before))
    (λ c. omega (arith, (heard (st-known5-unread c)).0, sender (past-at-shared-slice-known5-unread c)))
    exchange-at-requires
    (λ c. search rules)
    returns)
