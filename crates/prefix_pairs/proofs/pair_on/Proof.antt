-- `prefix_pairs::pair_on` meets its contract: each branch as the definition has it.
-- Assumes nothing.
use mathlib.Core.Path.{◌≡◌, sym, ap, ap₂, ◌∙◌}
use mathlib.Core.Bool.{Bool, true, not}
use mathlib.Core.List.{List, [], ◌∷◌, ◌++◌}
use Prim.Native.Nat.{ℕ, ◌+◌, ◌*◌, ◌-◌, ◌≤◌, ◌<◌}
use native.Mathlib.Omega.{arith}
use lib.ListN.{length, get_or, take, drop, set, length-set}
use borrow.Author.Rules.{rules}
use borrow.Author.Tests.{not-true, not-false}
use Rattle.lists.proofs.Tests.{true-false}
use Rattle.point_lines.specs.Lines.{hexadecimal, digit_value}
use Rattle.point_lines.proofs.Digits.{digit_low}
use Rattle.text_in.proofs.At.{digit-within}
use Rattle.prefix_spec.specs.Prefix.{some, may_point}
use Rattle.prefix_steps.specs.declared.Went.{Went}
use Rattle.prefix_steps.specs.Steps.{stopped}
use Rattle.prefix_steps.proofs.Steps.{goes-stop}
use Rattle.prefix_pairs.proofs.Pairs.{high-none, high-shut, low-none, low-shut, pair-on}
use Rattle.prefix_points.proofs.Last.{last_set}
use Rattle.prefix_pairs.proofs.pair_on.Statement.{statement}
use Rattle.prefix_pairs.proofs.pair_on.Tie as tie

-- which byte may stand last
abbrev may : List ℕ → ℕ → ℕ → Bool
may points left x = may_point (length points + left) left (take (length points - 1) points ++ (x ∷ []))

-- what stops tells no byte
nothing : {A : Type 0} (w : Went) (p : ℕ) → w ≡ stopped p → w.ok ≡ true → A
nothing w p e h = absurd (true-false h (ap (λ (w : Went). w.ok) e))

abbrev st : tie.After-digit_at → tie.Start
st c = c.before.before.before

first : (c : tie.Else-not-digit_at) → hexadecimal (get_or (st c.before).args.text.now (st c.before).args.at 0) ≡ true
first c = sym c.before.digit_at.ensures ∙ not-false _ (ap not c.if-not-digit_at.false)

inside : (c : tie.Else-not-digit_at) → (st c.before).args.at < length (st c.before).args.text.now
inside c = digit-within (st c.before).args.text.now (st c.before).args.at (first c)

abbrev some-low-at-slice-known2 : tie.After-slice_known-2-1 → tie.After-some_low
some-low-at-slice-known2 c = c.before.before

abbrev digits : tie.After-slice_known-2-1 → tie.After-digit_value-high
digits c = (some-low-at-slice-known2 c).before.before

abbrev else1-at-digit-value : tie.After-digit_value-high → tie.Else-not-digit_at
else1-at-digit-value c = c.before.before

-- the first digit was read, and some byte with it was looked for
abbrev else1 : tie.After-slice_known-2-1 → tie.Else-not-digit_at
else1 c = else1-at-digit-value (digits c)

looked : (c : tie.After-slice_known-2-1) → let a = (st (else1 c).before).args in
    (some-low-at-slice-known2 c).some_low.result ≡ some 16 (λ low. may a.points.now a.left (16 * digit_value (get_or a.text.now a.at 0) + low))
looked c =
    let a = (st (else1 c).before).args in
    (some-low-at-slice-known2 c).some_low.ensures.0
    ∙ ap (λ (h : ℕ). some 16 (λ low. may a.points.now a.left (16 * h + low))) (digits c).digit_value-high.ensures

returns : tie.Need-returns-then-not-digit_at
returns c =
    let d = c.before.before in
    let a = (st d).args in (
      goes-stop a.text.now a.at _ c.stopped.result a.at c.stopped.ensures
          (λ go. high-none a.text.now a.at (may a.points.now a.left) go (sym d.digit_at.ensures ∙ not-true _ (ap not c.before.if-not-digit_at.true))),
      nothing c.stopped.result a.at c.stopped.ensures,
    )

returns-2 : tie.Need-returns-then-not-some_low
returns-2 c =
    let k = c.before.before in
    let e = else1 k in
    let a = (st e.before).args in (
      goes-stop a.text.now a.at _ c.stopped-then-not-some_low.result a.at c.stopped-then-not-some_low.ensures
          (λ go. high-shut a.text.now a.at (may a.points.now a.left) go (first e) (sym (looked k) ∙ not-true _ (ap not c.before.if-not-some_low.true))),
      nothing c.stopped-then-not-some_low.result a.at c.stopped-then-not-some_low.ensures,
    )

found : (c : tie.Else-not-some_low) → let k = c.before in let a = (st (else1 k).before).args in
    some 16 (λ low. may a.points.now a.left (16 * digit_value (get_or a.text.now a.at 0) + low)) ≡ true
found c = sym (looked c.before) ∙ not-false _ (ap not c.if-not-some_low.false)

returns-3 : tie.Need-returns-then-not-digit_at-2
returns-3 c =
    let d = c.before.before in
    let f = d.before in
    let e = else1 f.before in
    let a = (st e.before).args in (
      goes-stop a.text.now a.at _ c.stopped-then-not-digit_at-2.result (a.at + 1) c.stopped-then-not-digit_at-2.ensures
          (λ go. low-none a.text.now a.at (may a.points.now a.left) go (first e) (found f) (sym d.digit_at-2.ensures ∙ not-true _ (ap not c.before.if-not-digit_at-2.true))),
      nothing c.stopped-then-not-digit_at-2.result (a.at + 1) c.stopped-then-not-digit_at-2.ensures,
    )

abbrev slice-known2-at-digit-at2 : tie.After-digit_at-2 → tie.After-slice_known-2-1
slice-known2-at-digit-at2 c = c.before.before

second : (c : tie.Else-not-digit_at-2) → let a = (st (else1 (slice-known2-at-digit-at2 c.before)).before).args in hexadecimal (get_or a.text.now (a.at + 1) 0) ≡ true
second c = sym c.before.digit_at-2.ensures ∙ not-false _ (ap not c.if-not-digit_at-2.false)

-- the byte put last, and whether it may stand there
asked : (points now : List ℕ) (left x : ℕ) → 1 ≤ length points → length now ≡ length points → take (length points - 1) now ≡ take (length points - 1) points
    → (r : Bool) → r ≡ may_point (length (set now (length now - 1) x) + left) left (set now (length now - 1) x)
    → (r ≡ may points left x) × (set now (length now - 1) x ≡ take (length points - 1) points ++ (x ∷ []))
asked points now left x h e t r q =
    let put : set now (length now - 1) x ≡ take (length points - 1) points ++ (x ∷ []) =
    ap (λ (m : ℕ). set now (m - 1) x) e ∙ last_set now points x e h t in
    (q ∙ ap₂ (λ (m : ℕ) (l : List ℕ). may_point (m + left) left l) (length-set now (length now - 1) x ∙ e) put, put)

abbrev else3-at-digit-value2 : tie.After-digit_value-low → tie.Else-not-digit_at-2
else3-at-digit-value2 c = c.before.before

abbrev digit-value2-at-may-point : tie.After-may_point → tie.After-digit_value-low
digit-value2-at-may-point c = c.before

abbrev else3 : tie.After-may_point → tie.Else-not-digit_at-2
else3 c = else3-at-digit-value2 (digit-value2-at-may-point c)

abbrev known2 : tie.Else-not-digit_at-2 → tie.After-slice_known-2-1
known2 c = slice-known2-at-digit-at2 c.before

abbrev args : (c : tie.Else-not-digit_at-2) → tie.Start
args c = st (else1 (known2 c)).before

high-low : (c : tie.After-digit_value-high) → c.digit_value-high.result < 16
high-low c =
    let a = (st (else1-at-digit-value c).before).args in
    let h = digit_low (get_or a.text.now a.at 0) (first (else1-at-digit-value c)) in
    omega (arith, c.digit_value-high.ensures, h)

low-low : (c : tie.After-digit_value-low) → c.digit_value-low.result < 16
low-low c =
    let a = (args (else3-at-digit-value2 c)).args in
    let h = digit_low (get_or a.text.now (a.at + 1) 0) (second (else3-at-digit-value2 c)) in
    omega (arith, c.digit_value-low.ensures, h)

value : (c : tie.After-may_point) → let v = digit-value2-at-may-point c in let a = (args (else3 c)).args in
    16 * (digits (known2 (else3 c))).digit_value-high.result + v.digit_value-low.result ≡ 16 * digit_value (get_or a.text.now a.at 0) + digit_value (get_or a.text.now (a.at + 1) 0)
value c = let h = (digits (known2 (else3 c))).digit_value-high.ensures in let l = (digit-value2-at-may-point c).digit_value-low.ensures in omega (arith, h, l)

stands : (c : tie.After-may_point) → let a = (args (else3 c)).args in
    (c.may_point.result ≡ may a.points.now a.left (16 * digit_value (get_or a.text.now a.at 0) + digit_value (get_or a.text.now (a.at + 1) 0)))
stands c =
    let k = known2 (else3 c) in
    let g = args (else3 c) in
    (asked g.args.points.now _ g.args.left _ g.requires k.before.points-1.given k.before.before.some_low.ensures.1 c.may_point.result c.may_point.ensures).0
    ∙ ap (may g.args.points.now g.args.left) (value c)

returns-4 : tie.Need-returns-then-not-may_point
returns-4 c =
    let m = c.before.before in
    let f = else3 m in
    let e = else1 (known2 f) in
    let a = (st e.before).args in (
      goes-stop a.text.now a.at _ c.stopped-then-not-may_point.result (a.at + 1) c.stopped-then-not-may_point.ensures
          (λ go. low-shut a.text.now a.at (may a.points.now a.left) go (first e) (found f.before.before) (second f) (sym (stands m) ∙ not-true _ (ap not c.before.if-not-may_point.true))),
      nothing c.stopped-then-not-may_point.result (a.at + 1) c.stopped-then-not-may_point.ensures,
    )

returns-5 : tie.Need-returns
returns-5 c =
    let m = c.before in
    let f = else3 m in
    let k = known2 f in
    let e = else1 k in
    let g = st e.before in
    let a = g.args in (
      λ go.
          pair-on a.text.now a.at (may a.points.now a.left) go (first e) (found f.before.before) (second f) (sym (stands m) ∙ not-false _ (ap not c.if-not-may_point.false))
          ∙ ap (λ (x : ℕ). a.at + 2 + go x (drop (a.at + 2) a.text.now)) (sym (value m)),
      λ ok.
          (asked a.points.now _ a.left _ g.requires k.before.points-1.given k.before.before.some_low.ensures.1 m.may_point.result m.may_point.ensures).1,
    )

pub pair_on_spec : {M : Type 1} → statement M
pair_on_spec =
    tie.close
    (tie.spec
    (λ c κs. search rules)
    (λ c κs. search rules)
    returns
    (λ c. inside c.before)
    (λ c κs. first c.before)
    (λ c κs. ((st (else1-at-digit-value c.before).before).requires, high-low c.before))
    (λ c κs. search rules)
    (λ c. search rules)
    returns-2
    (λ c. record { fits = omega (arith, inside (else1 c.before)) })
    (λ c κs. search rules)
    (λ c. record { fits = omega (arith, inside (else1 (slice-known2-at-digit-at2 c.before))) })
    (λ c κs. search rules)
    (λ c. search rules)
    returns-3
    (λ c. record { fits = omega (arith, inside (else1 (known2 c))) })
    (λ c. digit-within (args c.before).args.text.now ((args c.before).args.at + 1) (second c.before))
    (λ c κs. second c.before)
    (λ c. record { fits = omega (arith, high-low (digits (known2 (else3-at-digit-value2 c)))) })
    (λ c. record { fits = omega (arith, high-low (digits (known2 (else3-at-digit-value2 c))), low-low c) })
    (λ c. search rules)
    (λ c. search rules)
    (λ c κs. search rules)
    (λ c. record { fits = omega (arith, inside (else1 (known2 (else3 c.before)))) })
    (λ c κs. search rules)
    (λ c. search rules)
    returns-4
    (λ c. search rules)
    (λ c. let h = digit-within (args (else3 c.before)).args.text.now ((args (else3 c.before)).args.at + 1) (second (else3 c.before)) in record { fits = omega (arith, h) })
    (λ c. search rules)
    returns-5)
