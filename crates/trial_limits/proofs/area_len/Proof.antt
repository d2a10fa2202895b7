-- `trial_limits::area_len` meets its contract: the products fit.
-- Assumes nothing.
use mathlib.Core.Path.{◌≡◌, ap, ◌∙◌}
use Prim.Native.Nat.{ℕ, ◌*◌, ◌≤◌}
use native.Mathlib.Nat.{mul-le-mul}
use native.Mathlib.Omega.{arith}
use Rattle.number_lines.proofs.Picks.{yes}
use Rattle.sizes.specs.Sizing.{α}
use Rattle.sizes.proofs.Legal.{Legal, legal-facts}
use borrow.Author.Rules.{rules}
use Rattle.trial_limits.proofs.area_len.Statement.{statement}
use Rattle.trial_limits.proofs.area_len.Tie as tie

facts : (c : tie.Start) → Legal c.args.sizes
facts c = legal-facts c.args.sizes c.requires.is-legal

-- where the call began
abbrev st : tie.After-share_len → tie.Start
st c = c.before

share : (c : tie.After-share_len) → (c.share_len.result ≡ α (st c).args.sizes) × (c.share_len.result ≤ 62)
share c =
    let f = facts (st c) in
    let w = c.share_len.ensures ∙ yes _ _ _ (st c).requires.is-legal in
    (w, omega (arith, w, f.few, f.enough, f.some-fresh))

part-fits : (c : tie.After-share_len) → (st c).args.capacity * c.share_len.result ≤ 253952
part-fits c = mul-le-mul (st c).requires.few (share c).1

mul-result : tie.Need-overflow_mul-result
mul-result c = record { fits = omega (arith, part-fits c) }

mul-result-2 : tie.Need-overflow_mul-result-2
mul-result-2 c = record { fits = omega (arith, mul-le-mul (facts (st c.before)).few (part-fits c.before)) }

returns : tie.Need-returns
returns c = let k = c.before in ap (λ (w : ℕ). (st k).args.sizes.n * ((st k).args.capacity * w)) (share k).0

pub area_len_spec : {M : Type 1} → statement M
area_len_spec = tie.close (tie.spec (λ c κs. search rules) mul-result mul-result-2 returns)
