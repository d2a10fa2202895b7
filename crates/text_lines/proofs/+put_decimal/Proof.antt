-- `text_lines::put_decimal` meets its contract: the digits of the tenth, then the last digit. The measure is the number.
-- Assumes nothing.
use native.Mathlib.Nat.{div-add-mod', mod-lt}
use native.Mathlib.Omega.{arith}
use borrow.Author.Rules.{rules}
use Rattle.text_lines.proofs.Decimals.{decimal-one, decimal-more, length-one, length_more}
use Rattle.text_lines.proofs.Writes.{one, more}
use Prim.Native.Nat.{ℕ, ◌+◌, ◌≤◌, ◌<◌}
use lib.ListN.{length}
use Rattle.board_spec.specs.Text.{decimal}
use borrow.Fn.Kinds.{In}
use borrow.Fn.PlainCycle.{Measures, is, falls, and}
use Rattle.text_lines.proofs.put_decimal.Reads as put-decimal
use Rattle.text_lines.proofs.put_decimal.Kinds as put-decimal-kinds
use Rattle.text_lines.proofs.+put_decimal.Lts-put_decimal as put-decimal-lts
use Rattle.text_lines.proofs.+put_decimal.{statement}
use Rattle.text_lines.proofs.+put_decimal.Tie.{close}

abbrev μ-put-decimal : Measures 1 put-decimal-kinds.ps ℕ
μ-put-decimal κs a = a.0

abbrev put-decimal-at : ℕ → In 1 put-decimal-kinds.ps
put-decimal-at t =
    and 1 put-decimal-kinds.ps (is 1 put-decimal-kinds.ps μ-put-decimal t) put-decimal.Pre

abbrev put-decimal-below : ℕ → In 1 put-decimal-kinds.ps
put-decimal-below t =
    and 1 put-decimal-kinds.ps (falls 1 put-decimal-kinds.ps ◌<◌ μ-put-decimal t) put-decimal.Pre

-- past the digits of the tenth: where the call began
abbrev st : (t : ℕ) → put-decimal-lts.After-slice_known-2-1 (
  put-decimal-below t,
  put-decimal.Post,
) (put-decimal-at t) put-decimal.Post → put-decimal-lts.Start (
  put-decimal-below t,
  put-decimal.Post,
) (put-decimal-at t) put-decimal.Post
st t c = c.before.before.before.before.before.before

-- where the call began, there is room for the digits
abbrev room : (t : ℕ) → (g : put-decimal-lts.Start (
  put-decimal-below t,
  put-decimal.Post,
) (put-decimal-at t) put-decimal.Post) → g.args.at + length (decimal g.args.x) ≤ length g.args.out.now
room t g = g.requires.1

returns_one : (t : ℕ) → put-decimal-lts.Need-returns-then-x-lt10 (
  put-decimal-below t,
  put-decimal.Post,
) (put-decimal-at t) put-decimal.Post
returns_one t c =
    let a = c.before.before.args in
    rw (decimal-one a.x c.if-x-lt10.true) (one a.out.now a.at _ (omega (arith, length-one a.x c.if-x-lt10.true)))

tenth-asks : (t : ℕ) → put-decimal-lts.Need-put_decimal-last-requires (
  put-decimal-below t,
  put-decimal.Post,
) (put-decimal-at t) put-decimal.Post
tenth-asks t c κs =
    let a = c.before.before.before.args in
    (omega (arith, div-add-mod' a.x 10), omega (arith, length_more a.x (omega arith)))

returns-more : (t : ℕ) → put-decimal-lts.Need-returns (
  put-decimal-below t,
  put-decimal.Post,
) (put-decimal-at t) put-decimal.Post
returns-more t c =
    let g = st t c in
    let x = g.args.x in
    let h : 10 ≤ x = omega arith in
    rw (decimal-more x h) (more c.before.before.put_decimal-last.ensures _ (rw (decimal-more x h) at (room t g)))

pub +put_decimal_spec : {M : Type 1} → statement M
+put_decimal_spec = close μ-put-decimal λ t. put-decimal-lts.spec (
  put-decimal-below t,
  put-decimal.Post,
)
    (put-decimal-at t)
    put-decimal.Post
    (λ c. search rules)
    (λ c. search rules)
    (λ c. omega (arith, length-one c.before.before.args.x c.if-x-lt10.true))
    (λ c. omega (arith, length-one c.before.before.args.x c.if-x-lt10.true))
    (λ c. search rules)
    (returns_one t)
    (tenth-asks t)
    (λ c. omega (arith, mod-lt (st t c).args.x {m = 10} (omega arith)))
    (λ c. omega (arith, mod-lt (st t c).args.x {m = 10} (omega arith)))
    (λ c. omega (arith, length_more (st t c).args.x (omega arith)))
    (λ c. omega (arith, length_more (st t c).args.x (omega arith)))
    (λ c. search rules)
    (returns-more t)
