-- `prefix_rest::rest_on` meets its contract, by the first byte.
-- Assumes nothing.
use mathlib.Core.Path.{◌≡◌, sym, ap, ap₂, ◌∙◌}
use mathlib.Core.Bool.{true}
use mathlib.Core.Logic.{◌≢◌}
use mathlib.Core.List.{List, []}
use Prim.Native.Nat.{ℕ, ◌+◌, ◌*◌, ◌≤◌, ◌<◌}
use native.Mathlib.Nat.{mul-le-mul}
use native.Mathlib.Omega.{arith}
use lib.ListN.{length, get_or, drop}
use borrow.Author.Rules.{rules}
use Rattle.number_lines.proofs.Picks.{yes, if-eq, if-ne}
use Rattle.sizes.specs.declared.Sizes.{Sizes}
use Rattle.sizes.specs.Sizing.{α, stripes}
use Rattle.sizes.proofs.Legal.{legal-facts, α-most}
use Rattle.point_lines.specs.Steps.{points_name}
use Rattle.text_spec.specs.Texts.{data_name}
use Rattle.prefix_spec.specs.Prefix.{name_on, pairs_on, may_point, points_on}
use Rattle.prefix_steps.proofs.Steps.{at_byte, past}
use Rattle.prefix_rest.proofs.rest_on.Statement.{statement}
use Rattle.prefix_rest.proofs.rest_on.Tie as tie

abbrev on_data : ℕ → List ℕ → ℕ
on_data count input = name_on data_name input (λ input. pairs_on (λ m xs. true) count [] input (λ rest. 0))

abbrev on_points : Sizes → ℕ → List ℕ → ℕ
on_points z count input = name_on points_name input (λ input. pairs_on (may_point z.n) z.n [] input (on_data count))

-- by the first byte
with-points : (z : Sizes) (L count : ℕ) (text : List ℕ) (at : ℕ) → count ≡ stripes z L * α z → at < length text → get_or text at 0 ≡ 0x70
    → at + on_points z count (drop at text) ≡ at + points_on z L (drop at text)
unfolding points_on
with-points z L count text at e h b =
    ap (λ (m : ℕ). at + on_points z m (drop at text)) e
    ∙ sym (ap (λ (m : ℕ). at + m) (if-eq (get_or (drop at text) 0 0) 0x70 _ _ (ap (λ (l : List ℕ). get_or l 0 0) (at_byte text at h) ∙ b)))

without : (z : Sizes) (L count : ℕ) (text : List ℕ) (at : ℕ) → count ≡ stripes z L * α z → get_or (drop at text) 0 0 ≢ 0x70
    → at + on_data count (drop at text) ≡ at + points_on z L (drop at text)
unfolding points_on
without z L count text at e b = ap (λ (m : ℕ). at + on_data m (drop at text)) e ∙ sym (ap (λ (m : ℕ). at + m) (if-ne (get_or (drop at text) 0 0) 0x70 _ _ b))

abbrev st : tie.After-share_len → tie.Start
st c = c.before.before.before

share : (c : tie.After-share_len) → c.share_len.result ≡ α (st c).args.sizes
share c = c.share_len.ensures ∙ yes _ _ _ (st c).requires.0

is-count : (c : tie.After-share_len) → c.before.stripe_count.result * c.share_len.result ≡ stripes (st c).args.sizes (st c).args.length * α (st c).args.sizes
is-count c = ap₂ (λ (a b : ℕ). a * b) c.before.stripe_count.ensures.0 (share c)

mul-count : tie.Need-overflow_mul-count
mul-count c =
    let a = α-most (st c).args.sizes (legal-facts _ (st c).requires.0) in
    let s : c.share_len.result ≤ 62 = omega (arith, a, share c) in
    record { fits = omega (arith, mul-le-mul c.before.stripe_count.ensures.1 s) }

returns : tie.Need-returns-then-text-at
returns c =
    let k = c.before.before in
    let a = (st k).args in
    c.data_line.ensures
    ∙ without a.sizes a.length _ a.text.now a.at (is-count k)
    (λ e. let z = ap (λ (l : List ℕ). get_or l 0 0) (past a.text.now a.at c.before.if-text-at.true) in omega (arith, e, z))

returns-2 : tie.Need-returns-then-text-at-eq112
returns-2 c =
    let t = c.before in
    let e = t.before.before in
    let k = e.before in
    let a = (st k).args in
    c.points_line.ensures ∙ with-points a.sizes a.length _ a.text.now a.at (is-count k) e.if-text-at.false t.if-text-at-eq112.true

returns-3 : tie.Need-returns
returns-3 c =
    let t = c.before in
    let e = t.before.before in
    let k = e.before in
    let a = (st k).args in
    c.data_line-2.ensures
    ∙ without a.sizes a.length _ a.text.now a.at (is-count k)
    (λ q. t.if-text-at-eq112.false (sym (ap (λ (l : List ℕ). get_or l 0 0) (at_byte a.text.now a.at e.if-text-at.false)) ∙ q))

pub rest_on_spec : {M : Type 1} → statement M
rest_on_spec =
    tie.close
    (tie.spec
    (λ c κs. search rules)
    (λ c κs. search rules)
    mul-count
    (λ c κs. search rules)
    returns
    (λ c. search rules)
    (λ c κs. let k = c.before.before.before in (legal-facts (st k).args.sizes (st k).requires.0).few)
    returns-2
    (λ c κs. search rules)
    returns-3)
