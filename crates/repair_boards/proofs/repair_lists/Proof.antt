-- `repair_boards::repair_lists` meets its contract: the callees' contracts, put together.
-- Assumes nothing.
use mathlib.Core.Path.{◌≡◌, sym, ap, ◌∙◌}
use mathlib.Core.List.{List, ◌++◌}
use Prim.Native.Nat.{ℕ, ◌+◌, ◌*◌, ◌-◌}
use lib.ListN.{length, get_or, drop}
use Rattle.lists.specs.Lists.{join, piece}
use Rattle.sizes.specs.Sizing.{α}
use Rattle.sizes.proofs.Legal.{Legal, legal-facts}
use Rattle.area_puts.specs.Steps.{puts}
use Rattle.repair_hear.proofs.Heard.{few-runs}
use Rattle.repair_stripe.specs.Steps.{rebuilt}
use Rattle.repair_boards.proofs.Lists.{named-below, named-apart}
use borrow.Author.Rules.{rules}
use native.Mathlib.Omega.{arith}
use Rattle.repair_boards.proofs.repair_lists.Statement.{statement}
use Rattle.repair_boards.proofs.repair_lists.Tie as tie

-- the places
abbrev st-at-entry : tie.After-slice_known-2-1 → tie.Start
st-at-entry c = c.before.before.before.before.before.before.before

abbrev st-at-name : tie.After-name_boards-arg-1 → tie.Start
st-at-name c = st-at-entry c.before

abbrev named-at-call : tie.After-repair_area-arg-1 → tie.After-named-1
named-at-call c = c.before.before

abbrev name-at-call : tie.After-repair_area-arg-1 → tie.After-name_boards
name-at-call c = (named-at-call c).before

abbrev st-at-call : tie.After-repair_area-arg-1 → tie.Start
st-at-call c = st-at-name (name-at-call c).before

abbrev repair-area-at-slice-known4 : tie.After-slice_known-4-1 → tie.After-repair_area
repair-area-at-slice-known4 c = c.before.before

abbrev st-at-end : tie.After-slice_known-4-1 → tie.Start
st-at-end c = st-at-call (repair-area-at-slice-known4 c).before

facts : (c : tie.Start) → Legal c.args.sizes
facts c = legal-facts _ c.requires.0

-- the boards named, in one list
abbrev list : tie.Start → List ℕ
list g =
    let a = g.args in
    join (length a.fresh.now) (λ b. piece a.sizes.d b a.helpers.now ++ piece (a.c - a.sizes.d) b a.standins.now)

name-requires : tie.Need-name_boards-requires
name-requires c κs =
    let g = st-at-name c in
    let a = g.args in
    let p = g.requires in
    let f = facts g in
    let h = p.4.helps in
    let w = p.4.whole in
    let o = p.4.some in
    let m = few-runs a.sizes f (length a.fresh.now) a.c p.4 in
    let e : a.sizes.d + (a.c - a.sizes.d) ≡ a.c = omega arith in
    (p.6, p.8, p.16 ∙ ap (λ (q : ℕ). length a.fresh.now * q) (sym e), omega arith, omega arith, omega arith)

shares-requires : tie.Need-repair_area-requires
shares-requires c κs =
    let g = st-at-call c in
    let a = g.args in
    let p = g.requires in
    let t = length a.fresh.now in
    let d = a.sizes.d in
    let e = a.c - a.sizes.d in
    let q = (name-at-call c).name_boards.ensures in (
      p.0,
      p.1,
      p.2,
      p.3,
      p.4,
      p.5,
      (named-at-call c).named-1.given ∙ p.16,
      rw q (named-below t d e a.helpers.now a.standins.now a.sizes.n p.7 p.9),
      p.10,
      rw q (named-apart t d e a.helpers.now a.standins.now a.fresh.now p.11 p.12),
      rw q p.13,
      p.14,
      p.15,
      p.17,
    )

returns : tie.Need-returns
returns c =
    let g = st-at-end c in
    let a = g.args in
    let w = a.capacity * α a.sizes in
    (repair-area-at-slice-known4 c).repair_area.ensures
    ∙ ap (λ (l : List ℕ). puts (λ b. get_or a.fresh.now b 0 * w)
    (λ b. join a.stripes (λ s. rebuilt a.sizes a.points.now (λ j. piece (α a.sizes) s (drop (j * w) a.area.now)) a.fresh.now a.c l b))
    (length a.fresh.now) a.area.now)
    (name-at-call (repair-area-at-slice-known4 c).before).name_boards.ensures

pub repair_lists_spec : {M : Type 1} → statement M
repair_lists_spec =
    tie.close
    (tie.spec
    (λ c. omega (arith, (st-at-entry c).requires.4.helps))
    name-requires
    shares-requires
    (λ c. search rules)
    (λ c. search rules)
    returns)
