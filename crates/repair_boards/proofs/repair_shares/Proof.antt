-- `repair_boards::repair_shares` meets its contract: a list for the boards named is lent.
-- Assumes nothing.
use mathlib.Core.Path.{◌≡◌, sym, ap, subst, ◌∙◌}
use mathlib.Core.List.{List, ◌++◌}
use Prim.Native.Nat.{ℕ, ◌+◌, ◌*◌, ◌-◌, ◌≤◌}
use native.Mathlib.Omega.{arith}
use lib.ListN.{length, get_or, drop}
use borrow.Author.Rules.{rules}
use Rattle.lists.specs.Lists.{join, piece}
use Rattle.sizes.specs.Sizing.{α}
use Rattle.sizes.proofs.Legal.{Legal, legal-facts}
use Rattle.area_puts.specs.Steps.{puts}
use Rattle.repair_hear.specs.Steps.{Naming}
use Rattle.repair_hear.proofs.Heard.{few-runs}
use Rattle.repair_stripe.specs.Steps.{DifferentRuns, rebuilt}
use Rattle.repair_boards.proofs.repair_shares.Statement.{statement}
use Rattle.repair_boards.proofs.repair_shares.Tie as tie

-- the places
abbrev st_1 : tie.After-struct_known-1 → tie.Start
st_1 c = c.before.before.before.before.before.before.before

abbrev st : tie.After-struct_known-2-1 → tie.Start
st c = st_1 c.before

abbrev st-at-call : tie.After-repair_lists-arg-1 → tie.Start
st-at-call c = st c.before.before

abbrev st-at-end : tie.After-slice_known-2-1 → tie.Start
st-at-end c = st-at-call c.before.before.before.before

facts : (g : tie.Start) → Legal g.args.sizes
facts g = legal-facts _ g.requires.0

-- how many each fresh board names
abbrev count : tie.Start → ℕ
count g = g.args.sizes.d + (g.args.sizes.r - length g.args.fresh.now)

naming : (g : tie.Start) → Naming g.args.sizes (length g.args.fresh.now) (count g)
naming g = let h = g.requires.5 in record { some = g.requires.4; helps = omega arith; whole = omega arith }

-- those of them that stand in
stand-in : (g : tie.Start) → count g - g.args.sizes.d ≡ g.args.sizes.r - length g.args.fresh.now
stand-in g = omega arith

-- there is room for all of them
few : (g : tie.Start) → length g.args.fresh.now * count g ≤ 256
few g = few-runs g.args.sizes (facts g) (length g.args.fresh.now) (count g) (naming g)

-- the boards named, where each fresh board has so many stand-ins
abbrev list : tie.Start → ℕ → List ℕ
list g e = let a = g.args in join (length a.fresh.now) (λ b. piece a.sizes.d b a.helpers.now ++ piece e b a.standins.now)

lists-requires : tie.Need-repair_lists-requires
lists-requires c κs =
    let g = st-at-call c in
    let a = g.args in
    let p = g.requires in
    let e = sym (stand-in g) in
    let t = length a.fresh.now in (
      p.0,
      p.1,
      p.2,
      p.3,
      naming g,
      p.6,
      p.7,
      p.8,
      p.9 ∙ ap (λ (m : ℕ). t * m) e,
      p.10,
      p.11,
      p.12,
      p.13,
      subst (λ (m : ℕ). DifferentRuns (count g) a.fresh.now (list g m)) e p.14,
      p.15,
      p.16,
      search rules,
      p.17,
    )

returns : tie.Need-returns
returns c =
    let g = st-at-end c in
    let a = g.args in
    let w = a.capacity * α a.sizes in
    c.before.before.before.repair_lists.ensures
    ∙ ap (λ (m : ℕ). puts (λ b. get_or a.fresh.now b 0 * w)
    (λ b. join a.stripes (λ s. rebuilt a.sizes a.points.now (λ j. piece (α a.sizes) s (drop (j * w) a.area.now)) a.fresh.now (count g) (list g m) b))
    (length a.fresh.now) a.area.now)
    (stand-in g)

pub repair_shares_spec : {M : Type 1} → statement M
repair_shares_spec =
    tie.close
    (tie.spec
    (λ c. omega (arith, (st_1 c).requires.5))
    (λ c. let f = facts (st c) in search rules)
    (λ c. omega (arith, few (st c)))
    (λ c. search rules)
    (λ c. search rules)
    (λ c. omega (arith, few (st c)))
    lists-requires
    (λ c. search rules)
    returns)
