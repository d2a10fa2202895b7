-- `running_lists::lost_beside` meets its contract: a repair that names the board ends.
-- Assumes nothing.
use Prim.Native.Nat.{ℕ, ◌≤◌}
use mathlib.Core.Path.{◌≡◌, sym, ap, ◌∙◌}
use mathlib.Core.Bool.{Bool, true}
use mathlib.Core.List.{List, [], ◌∷◌}
use native.Mathlib.Omega.{arith}
use lib.ListN.{length}
use borrow.Author.Rules.{rules}
use Rattle.lists.specs.Tests.{pick, alls, among}
use Rattle.store_spec.specs.Record.{Record}
use Rattle.beside_spec.specs.Running.{Running, idle, named_in}
use Rattle.beside_spec.specs.Both.{lost_beside}
use Rattle.record.specs.Records.{record_of, running_in}
use Rattle.running_lists.proofs.Lists.{fit-fresh, count-few, named-are}
use Rattle.running_lists.proofs.lost_beside.Statement.{statement}
use Rattle.running_lists.proofs.lost_beside.Tie as tie

-- the places
abbrev st : tie.After-standins-1 → tie.Start
st c = c.before.before.before.before

abbrev then1-at-standins2 : tie.After-standins-then-running-1 → tie.Then-running
then1-at-standins2 c = c.before.before.before

abbrev at_on : tie.After-names → tie.Then-running
at_on c = then1-at-standins2 c.before

abbrev R : tie.Start → Record
R g = record_of g.args.kept

abbrev P : tie.Start → Running
P g = running_in g.args.running

-- its arrays
fresh-long : (g : tie.Start) → length g.args.running.fresh ≡ 32
fresh-long g = search rules

helpers-long : (g : tie.Start) → length g.args.running.helpers ≡ 256
helpers-long g = search rules

stand-ins-long : (g : tie.Start) → length g.args.running.stand_ins ≡ 256
stand-ins-long g = search rules

-- how many fresh boards there are
few : (c : tie.Then-running) → let g = st c.before in (P g).count ≤ (R g).sizes.r
few c = let g = st c.before in count-few (R g) (P g) g.requires.0 (fresh-long g) g.requires.1 c.if-running.true

-- the boards named
named : (c : tie.After-names) → let g = st (at_on c).before in c.names.result ≡ among (named_in (R g).sizes (P g)) g.args.board
named c =
    let o = at_on c in
    let g = st o.before in
    let fits = fit-fresh (R g).sizes (P g).count g.requires.0 (few o) in
    c.names.ensures ∙ ap (λ (l : List ℕ). among l g.args.board) (named-are (R g).sizes (P g) (omega (arith, fits, fresh-long g)))

-- which record goes on, by the two tests
abbrev goes : tie.Start → Bool → Bool → Running
goes g on is-named = pick (alls (on ∷ is-named ∷ [])) idle (P g)

both : (c : tie.After-names) (t : Bool) → c.names.result ≡ t
    → let g = st (at_on c).before in goes g true t ≡ lost_beside (R g) (P g) g.args.board
both c t e =
    let o = at_on c in
    let g = st o.before in
    ap (goes g true) (sym e ∙ named c) ∙ ap (λ (r : Bool). goes g r (among (named_in (R g).sizes (P g)) g.args.board)) (sym o.if-running.true)

abbrev standins-at-fresh2 : tie.After-fresh-then-running-1 → tie.After-standins-1
standins-at-fresh2 c = c.before.before

pub lost_beside_spec : {M : Type 1} → statement M
lost_beside_spec =
    tie.close
    (tie.spec
    (λ c. sym (fresh-long (st (standins-at-fresh2 c))))
    (λ c. sym (helpers-long (st (standins-at-fresh2 c.before))))
    (λ c. sym (stand-ins-long (st (then1-at-standins2 c).before)))
    (λ c κs. let o = then1-at-standins2 c in let g = st o.before in (
      record { is-legal = g.requires.0; few = few o; fresh-long = fresh-long g; helpers-long = helpers-long g; stand-ins-long = stand-ins-long g },
      g.requires.2,
    ))
    (λ c κs. search rules)
    (λ c. let n = c.before in c.idle.ensures ∙ both n.before true n.if-names.true)
    (λ c. both c.before _ c.if-names.false)
    (λ c. let g = st c.before in ap (λ (r : Bool). goes g r (among (named_in (R g).sizes (P g)) g.args.board)) (sym c.if-running.false)))
