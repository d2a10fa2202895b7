-- `trial_calls::repair_drawn` meets its contract: the beginnings of two arrays are lent.
-- Assumes nothing.
use mathlib.Core.Path.{sym}
use Prim.Native.Nat.{◌*◌, ◌≤◌}
use native.Mathlib.Omega.{arith}
use Rattle.sizes.proofs.Legal.{legal-facts}
use Rattle.trial_calls.proofs.Made.{length_front, few-helpers}
use borrow.Author.Rules.{rules}
use Rattle.trial_calls.proofs.repair_drawn.Statement.{statement}
use Rattle.trial_calls.proofs.repair_drawn.Tie as tie

few-fresh : (c : tie.Start) → c.args.sizes.r ≤ 32
few-fresh c = let f = legal-facts c.args.sizes c.requires.0 in omega (arith, f.few, f.enough)

few : (c : tie.Start) → c.args.sizes.r * c.args.sizes.d ≤ 256
few c = let f = legal-facts c.args.sizes c.requires.0 in few-helpers c.args.sizes.r c.args.sizes.d (omega (arith, f.few, f.enough))

-- the places
abbrev st-at-struct-known : tie.After-struct_known-1 → tie.Start
st-at-struct-known c = c.before.before

repair-into-requires : tie.Need-repair_into-requires
repair-into-requires c κs =
    let s = st-at-struct-known c.before.before.before in
    record {
      is-legal = s.requires.0;
      low = s.requires.1;
      fresh-long = sym (length_front s.args.sizes.r 32 (few-fresh s));
      helpers-long = sym (length_front (s.args.sizes.r * s.args.sizes.d) 256 (few s));
    }

pub repair_drawn_spec : {M : Type 1} → statement M
repair_drawn_spec =
    tie.close
    (tie.spec
    (λ c. record { fits = omega (arith, few (st-at-struct-known c)) })
    (λ c. few-fresh (st-at-struct-known c))
    (λ c. let s = st-at-struct-known c.before in length_front s.args.sizes.r 32 (few-fresh s))
    (λ c. few (st-at-struct-known c.before))
    (λ c. let s = st-at-struct-known c.before.before in length_front (s.args.sizes.r * s.args.sizes.d) 256 (few s))
    repair-into-requires
    (λ c. search rules)
    (λ c. search rules))
