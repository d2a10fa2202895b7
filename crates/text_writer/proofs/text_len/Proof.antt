-- `text_writer::text_len` meets its contract: the lengths are the definition's, and small enough to add.
-- Assumes nothing.
use mathlib.Core.Path.{◌≡◌, sym, ap, ◌∙◌}
use Prim.Native.Nat.{ℕ, ◌≤◌}
use native.Mathlib.Omega.{arith}
use lib.ListN.{length, take}
use lib.Seq.{length-take-le}
use Rattle.sizes.proofs.Legal.{legal-facts}
use Rattle.board_spec.specs.Text.{decimal, points_line}
use Rattle.text_lines.proofs.Decimals.{decimal-most}
use Rattle.text_lines.proofs.Lines.{length-text}
use Rattle.text_lines.proofs.Orders.{points-line, said-most}
use borrow.Author.Rules.{rules}
use Rattle.text_writer.proofs.text_len.Statement.{statement}
use Rattle.text_writer.proofs.text_len.Tie as tie

record Small (n k d r node total : ℕ) : Type 0 where
  for-n : length (decimal n) ≤ 33
  for-k : length (decimal k) ≤ 33
  for-d : length (decimal d) ≤ 33
  for-r : length (decimal r) ≤ 33
  for-node : length (decimal node) ≤ 33
  for-length : length (decimal total) ≤ 4063233

-- places in the code
abbrev start-of-decimal_len-4 : tie.After-decimal_len-4 → tie.Start
start-of-decimal_len-4 c = c.before.before.before.before.before

abbrev start-of-points_len-line : tie.After-points_len-line → tie.Start
start-of-points_len-line c = start-of-decimal_len-4 c.before

abbrev start-of-decimal_len-5 : tie.After-decimal_len-5 → tie.Start
start-of-decimal_len-5 c = start-of-points_len-line c.before

abbrev start-of-decimal_len-6 : tie.After-decimal_len-6 → tie.Start
start-of-decimal_len-6 c = start-of-decimal_len-5 c.before

small : (c : tie.Start) → let a = c.args in Small a.sizes.n a.sizes.k a.sizes.d a.sizes.r a.node a.total
small c =
    let a = c.args in
    let f = legal-facts a.sizes c.requires.is-legal in
    record {
      for-n = omega (arith, decimal-most a.sizes.n);
      for-k = omega (arith, decimal-most a.sizes.k);
      for-d = omega (arith, decimal-most a.sizes.d);
      for-r = omega (arith, decimal-most a.sizes.r);
      for-node = omega (arith, decimal-most a.node);
      for-length = omega (arith, decimal-most a.total);
    }

-- the points of n boards
lent : (c : tie.Start) → length (take c.args.sizes.n c.args.points.now) ≡ c.args.sizes.n
lent c = length-take-le _ _ c.requires.has-points

few : (c : tie.Start) → c.args.sizes.n ≤ 32
few c = (legal-facts c.args.sizes c.requires.is-legal).few

-- the length of the points' line
line : (c : tie.After-points_len-line) → let a = c.args in (c.points_len-line.result ≡ length (points_line a.sizes a.points.now)) × (c.points_len-line.result ≤ 72)
line c =
    let e = c.points_len-line.ensures ∙ ap length (sym (points-line c.args.sizes c.args.points.now c.requires.has-points)) in
    (e, omega (arith, c.points_len-line.ensures, said-most (take c.args.sizes.n c.args.points.now), lent (start-of-points_len-line c), few (start-of-points_len-line c)))

returns : tie.Need-returns
returns c share e =
    let a = c.args in
    let l = (line c.before.before).0 in
    omega (arith, length-text a.sizes a.points.now a.total a.node share)

pub text_len_spec : {M : Type 1} → statement M
text_len_spec =
    tie.close
    (tie.spec
    (λ c κs. search rules)
    (λ c κs. search rules)
    (λ c. let s = small c.before.before.before in omega arith)
    (λ c κs. search rules)
    (λ c. let s = small c.before.before.before.before in omega arith)
    (λ c κs. search rules)
    (λ c. let s = small (start-of-decimal_len-4 c) in omega arith)
    (λ c. sym (lent (start-of-decimal_len-4 c)))
    (λ c κs. omega (arith, lent (start-of-decimal_len-4 c), few (start-of-decimal_len-4 c)))
    (λ c. let s = small (start-of-points_len-line c) in omega arith)
    (λ c κs. search rules)
    (λ c. let s = small (start-of-decimal_len-5 c) in omega arith)
    (λ c κs. search rules)
    (λ c. let s = small (start-of-decimal_len-6 c) in omega arith)
    (λ c. let s = small (start-of-decimal_len-6 c) in let l = (line c.before.before).1 in omega arith)
    (λ c. search rules)
    (λ c. let s = small (start-of-decimal_len-6 c) in let l = (line c.before.before).1 in omega arith)
    returns)
