-- `text_prefix::prefix` meets its contract: the lines one after another, each from behind the last.
-- Assumes nothing.
use mathlib.Core.Path.{◌≡◌, ap, ◌∙◌}
use mathlib.Core.List.{List}
use Prim.Native.Nat.{ℕ, ◌+◌, ◌*◌, ◌-◌, ◌≤◌}
use native.Mathlib.Nat.{zero-add}
use native.Mathlib.Omega.{arith}
use lib.ListN.{drop}
use borrow.Author.Rules.{rules}
use borrow.Author.Tests.{not-true, not-false}
use Rattle.number_lines.proofs.Picks.{yes}
use Rattle.sizes.specs.declared.Sizes.{Sizes}
use Rattle.sizes.specs.Sizing.{B}
use Rattle.sizes.proofs.Legal.{Legal, legal-yes, B-most}
use Rattle.prefix_spec.specs.Prefix.{line_on, points_on, longest}
use Rattle.prefix_spec.proofs.Text.{sizes, n_name, length_name, on_length, on_node, on_r, on_d, on_k}
use Rattle.prefix_steps.proofs.Steps.{goes-from, goes_end}
use Rattle.text_prefix.proofs.prefix.Statement.{statement}
use Rattle.text_prefix.proofs.prefix.Tie as tie

-- the text
abbrev text : tie.After-line_on-n → List ℕ
text c = c.before.before.args.text.now

whole : (t : List ℕ) → 0 + line_on 2 32 n_name (drop 0 t) (λ n input. on_k n input) ≡ longest t
unfolding longest
whole t = zero-add _

-- ---- n=

abbrev n-at : tie.Else-not-n → tie.After-line_on-n
n-at c = c.before.before

abbrev n_of : tie.Else-not-n → ℕ
n_of c = (n-at c).line_on-n.result.value

n-range : (c : tie.Else-not-n) → (2 ≤ n_of c) × (n_of c ≤ 32)
n-range c = (n-at c).line_on-n.ensures.1 (not-false _ c.if-not-n.false)

from-n : (c : tie.Else-not-n) → let w = (n-at c).line_on-n.result in w.at + on_k w.value (drop w.at (text (n-at c))) ≡ longest (text (n-at c))
from-n c = goes-from (text (n-at c)) 0 _ (n-at c).line_on-n.result (n-at c).line_on-n.ensures.0 (not-false _ c.if-not-n.false) (λ n input. on_k n input) ∙ whole (text (n-at c))

returns : tie.Need-returns-then-not-n
returns c =
    let k = c.before.before in
    goes_end (text k) 0 _ k.line_on-n.result k.line_on-n.ensures.0 (not-true _ c.if-not-n.true) (λ n input. on_k n input) ∙ whole (text k)

-- ---- k=

abbrev k-at : tie.Else-not-k → tie.After-line_on-k
k-at c = c.before.before

abbrev after-n : tie.After-line_on-k → tie.Else-not-n
after-n c = c.before.before

abbrev k_of : tie.Else-not-k → ℕ
k_of c = (k-at c).line_on-k.result.value

k-range : (c : tie.Else-not-k) → (1 ≤ k_of c) × (k_of c ≤ n_of (after-n (k-at c)) - 1)
k-range c = (k-at c).line_on-k.ensures.1 (not-false _ c.if-not-k.false)

from-k : (c : tie.Else-not-k) → let w = (k-at c).line_on-k.result in let e = after-n (k-at c) in w.at + on_d (n_of e) w.value (drop w.at (text (n-at e))) ≡ longest (text (n-at e))
from-k c =
    let e = after-n (k-at c) in
    goes-from (text (n-at e)) _ _ (k-at c).line_on-k.result (k-at c).line_on-k.ensures.0 (not-false _ c.if-not-k.false) (λ k input. on_d (n_of e) k input) ∙ from-n e

returns-2 : tie.Need-returns-then-not-k
returns-2 c =
    let k = c.before.before in
    let e = after-n k in
    goes_end (text (n-at e)) _ _ k.line_on-k.result k.line_on-k.ensures.0 (not-true _ c.if-not-k.true) (λ k input. on_d (n_of e) k input) ∙ from-n e

-- ---- d=

abbrev d-at : tie.Else-not-d → tie.After-line_on-d
d-at c = c.before.before

abbrev after-k : tie.After-line_on-d → tie.Else-not-k
after-k c = c.before.before

abbrev d_of : tie.Else-not-d → ℕ
d_of c = (d-at c).line_on-d.result.value

abbrev n-of-d : tie.After-line_on-d → tie.Else-not-n
n-of-d c = after-n (k-at (after-k c))

d-range : (c : tie.Else-not-d) → (k_of (after-k (d-at c)) ≤ d_of c) × (d_of c ≤ n_of (n-of-d (d-at c)) - 1)
d-range c = (d-at c).line_on-d.ensures.1 (not-false _ c.if-not-d.false)

from-d : (c : tie.Else-not-d) → let w = (d-at c).line_on-d.result in let e = n-of-d (d-at c) in
    w.at + on_r (n_of e) (k_of (after-k (d-at c))) w.value (drop w.at (text (n-at e))) ≡ longest (text (n-at e))
from-d c =
    let e = n-of-d (d-at c) in
    goes-from (text (n-at e)) _ _ (d-at c).line_on-d.result (d-at c).line_on-d.ensures.0 (not-false _ c.if-not-d.false) (λ d input. on_r (n_of e) (k_of (after-k (d-at c))) d input)
    ∙ from-k (after-k (d-at c))

returns-3 : tie.Need-returns-then-not-d
returns-3 c =
    let k = c.before.before in
    let e = n-of-d k in
    goes_end (text (n-at e)) _ _ k.line_on-d.result k.line_on-d.ensures.0 (not-true _ c.if-not-d.true) (λ d input. on_r (n_of e) (k_of (after-k k)) d input)
    ∙ from-k (after-k k)

-- ---- r=

abbrev r-at : tie.Else-not-r → tie.After-line_on-r
r-at c = c.before.before

abbrev after-d : tie.After-line_on-r → tie.Else-not-d
after-d c = c.before.before.before

abbrev n-of-r : tie.After-line_on-r → tie.Else-not-n
n-of-r c = n-of-d (d-at (after-d c))

-- the sizes read
abbrev sizes_of : tie.Else-not-r → Sizes
sizes_of c = sizes (n_of (n-of-r (r-at c))) (k_of (after-k (d-at (after-d (r-at c))))) (d_of (after-d (r-at c))) (r-at c).line_on-r.result.value

is-legal : (c : tie.Else-not-r) → Legal (sizes_of c)
is-legal c =
    let e = after-d (r-at c) in
    let r = (r-at c).line_on-r.ensures.1 (not-false _ c.if-not-r.false) in
    let d = d-range e in
    let k = k-range (after-k (d-at e)) in
    let n = n-range (n-of-d (d-at e)) in
    record { some_read = k.0; read-helpers = d.0; some-fresh = r.0; enough = omega (arith, r.1, d.1, n.0); few = n.1 }

from-r : (c : tie.Else-not-r) → let w = (r-at c).line_on-r.result in let e = n-of-r (r-at c) in w.at + on_node (sizes_of c) (drop w.at (text (n-at e))) ≡ longest (text (n-at e))
from-r c =
    let k = r-at c in
    let e = n-of-r k in
    goes-from (text (n-at e)) _ _ k.line_on-r.result k.line_on-r.ensures.0 (not-false _ c.if-not-r.false)
    (λ r input. on_node (sizes (n_of e) (k_of (after-k (d-at (after-d k)))) (d_of (after-d k)) r) input)
    ∙ from-d (after-d k)

returns-4 : tie.Need-returns-then-not-r
returns-4 c =
    let k = c.before.before in
    let e = n-of-r k in
    goes_end (text (n-at e)) _ _ k.line_on-r.result k.line_on-r.ensures.0 (not-true _ c.if-not-r.true)
    (λ r input. on_node (sizes (n_of e) (k_of (after-k (d-at (after-d k)))) (d_of (after-d k)) r) input)
    ∙ from-d (after-d k)

-- ---- node=

abbrev node-at : tie.Else-not-node → tie.After-line_on-node
node-at c = c.before.before

abbrev after-r : tie.After-line_on-node → tie.Else-not-r
after-r c = c.before.before

from-node : (c : tie.Else-not-node) → let w = (node-at c).line_on-node.result in let f = after-r (node-at c) in
    w.at + on_length (sizes_of f) (drop w.at (text (n-at (n-of-r (r-at f))))) ≡ longest (text (n-at (n-of-r (r-at f))))
from-node c =
    let k = node-at c in
    let f = after-r k in
    goes-from (text (n-at (n-of-r (r-at f)))) _ _ k.line_on-node.result k.line_on-node.ensures.0 (not-false _ c.if-not-node.false) (λ node input. on_length (sizes_of f) input)
    ∙ from-r f

returns-5 : tie.Need-returns-then-not-node
returns-5 c =
    let k = c.before.before in
    let f = after-r k in
    goes_end (text (n-at (n-of-r (r-at f)))) _ _ k.line_on-node.result k.line_on-node.ensures.0 (not-true _ c.if-not-node.true) (λ node input. on_length (sizes_of f) input)
    ∙ from-r f

-- ---- length=

abbrev after-node : tie.After-stripe_len → tie.Else-not-node
after-node c = c.before

abbrev sized : tie.After-stripe_len → tie.Else-not-r
sized c = after-r (node-at (after-node c))

stripe : (c : tie.After-stripe_len) → c.stripe_len.result ≡ B (sizes_of (sized c))
stripe c = c.stripe_len.ensures ∙ yes _ _ _ (legal-yes (sizes_of (sized c)) (is-legal (sized c)))

most : (c : tie.After-stripe_len) → 4096 * c.stripe_len.result ≤ 4063232
most c = let b = B-most (sizes_of (sized c)) (is-legal (sized c)) in omega (arith, b, stripe c)

-- the place of the line of length, and what the line counts
from-length : (c : tie.After-line_on-length) → let s = c.before in let f = sized s in let w = (node-at (after-node s)).line_on-node.result in
    w.at + line_on 0 (4096 * s.stripe_len.result) length_name (drop w.at (text (n-at (n-of-r (r-at f))))) (λ L input. points_on (sizes_of f) L input)
    ≡ longest (text (n-at (n-of-r (r-at f))))
from-length c =
    let s = c.before in
    let f = sized s in
    let w = (node-at (after-node s)).line_on-node.result in
    ap (λ (b : ℕ). w.at + line_on 0 (4096 * b) length_name (drop w.at (text (n-at (n-of-r (r-at f))))) (λ L input. points_on (sizes_of f) L input)) (stripe s) ∙ from-node (after-node s)

returns-6 : tie.Need-returns-then-not-length
returns-6 c =
    let k = c.before.before in
    let f = sized k.before in
    goes_end (text (n-at (n-of-r (r-at f)))) _ _ k.line_on-length.result k.line_on-length.ensures.0 (not-true _ c.if-not-length.true) (λ L input. points_on (sizes_of f) L input)
    ∙ from-length k

returns-7 : tie.Need-returns
returns-7 c =
    let e = c.before in
    let k = e.before.before in
    let f = sized k.before in
    c.rest_on.ensures
    ∙ goes-from (text (n-at (n-of-r (r-at f)))) _ _ k.line_on-length.result k.line_on-length.ensures.0 (not-false _ e.if-not-length.false) (λ L input. points_on (sizes_of f) L input)
    ∙ from-length k

pub prefix_spec : {M : Type 1} → statement M
prefix_spec =
    tie.close
    (tie.spec
    (λ c κs. search rules)
    returns
    (λ c. omega (arith, (n-range c.before).0))
    (λ c κs. omega (arith, (n-range c.before).1))
    returns-2
    (λ c. omega (arith, (n-range (after-n (k-at c.before))).0))
    (λ c κs. omega (arith, (n-range (after-n (k-at c.before))).1))
    returns-3
    (λ c. let e = c.before.before in omega (arith, (d-range e).1, (n-range (n-of-d (d-at e))).0))
    (λ c κs. omega (arith, (n-range (n-of-d (d-at c.before.before))).1))
    returns-4
    (λ c. omega (arith, (n-range (n-of-r (r-at c.before))).0))
    (λ c κs. omega (arith, (n-range (n-of-r (r-at c.before))).1))
    returns-5
    (λ c κs. search rules)
    (λ c. record { fits = omega (arith, most c) })
    (λ c κs. most c)
    returns-6
    (λ c κs.
    let k = c.before.before in
    let f = sized k.before in
    let l = (k.line_on-length.ensures.1 (not-false _ c.if-not-length.false)).1 in
    (legal-yes (sizes_of f) (is-legal f), omega (arith, l, stripe k.before)))
    returns-7)
