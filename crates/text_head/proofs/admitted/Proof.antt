-- `text_head::admitted` meets its contract, test by test.
-- Assumes nothing.
use mathlib.Core.Path.{◌≡◌, refl, sym, ◌∙◌, ap}
use mathlib.Core.Bool.{Bool, true, false, not}
use Prim.Native.Nat.{◌*◌, ◌≤◌, ◌<◌}
use native.Mathlib.Omega.{arith}
use lib.Dec.{ltb}
use borrow.Author.Tests.{not-true, not-false, le-leb, lt-leb}
use Rattle.lists.specs.Tests.{pick}
use Rattle.number_lines.proofs.Picks.{yes}
use Rattle.sizes.specs.Sizing.{legal, B}
use Rattle.sizes.proofs.Legal.{legal-facts, B-most}
use Rattle.text_spec.specs.Texts.{admitted}
use borrow.Author.Rules.{rules}
use Rattle.text_head.proofs.admitted.Statement.{statement}
use Rattle.text_head.proofs.admitted.Tie as tie

is-legal : (c : tie.Else-not-legal) → legal c.before.before.args.sizes ≡ true
is-legal c = sym c.before.legal.ensures ∙ not-false _ (ap not c.if-not-legal.false)

-- the places
abbrev st-at-stripe-len : tie.After-stripe_len → tie.Start
st-at-stripe-len c = c.before.before.before

-- B of legal sizes
stripe : (c : tie.After-stripe_len) → c.stripe_len.result ≡ B (st-at-stripe-len c).args.sizes
stripe c = c.stripe_len.ensures ∙ yes _ _ _ (is-legal c.before)

returns : tie.Need-returns-then-not-legal
unfolding admitted
returns c = let e = sym c.before.legal.ensures ∙ not-true _ (ap not c.if-not-legal.true) in sym (rw e)

mul-if2 : tie.Need-overflow_mul-stripe_len
mul-if2 c = record { fits = omega (arith, stripe c, B-most (st-at-stripe-len c).args.sizes (legal-facts _ (is-legal c.before))) }

returns-2 : tie.Need-returns-then-stripe_len-length
unfolding admitted
returns-2 c =
    let k = c.before in
    let a = (st-at-stripe-len k).args in
    let far : 4096 * B a.sizes < a.length = omega (arith, stripe k, c.if-stripe_len-length.true) in
    sym (rw (is-legal k.before, lt-leb a.length (4096 * B a.sizes) far))

last : (t : Bool) → t ≡ pick t true false
last true = refl
last false = refl

returns-3 : tie.Need-returns
unfolding admitted
returns-3 c =
    let k = c.before.before in
    let a = (st-at-stripe-len k).args in
    let near : a.length ≤ 4096 * B a.sizes = omega (arith, stripe k, c.before.if-stripe_len-length.false) in
    sym (rw (is-legal k.before, le-leb a.length (4096 * B a.sizes) near) (sym (last (ltb a.node a.sizes.n))))

pub admitted_spec : {M : Type 1} → statement M
admitted_spec = tie.close (tie.spec (λ c κs. search rules) returns (λ c κs. search rules) mul-if2 returns-2 returns-3)
