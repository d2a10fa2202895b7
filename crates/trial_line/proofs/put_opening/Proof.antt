-- `trial_line::put_opening` meets its contract: each arm has its word.
-- Assumes nothing.
use mathlib.Core.Path.{◌≡◌, sym, ap, subst}
use mathlib.Core.Logic.{◌≢◌}
use mathlib.Core.List.{List}
use Prim.Native.Nat.{ℕ}
use borrow.Author.Tests.{ne_eqb}
use Rattle.text_lines.specs.Steps.{Wrote}
use Rattle.trial_line.specs.Line.{opening}
use borrow.Author.Rules.{rules}
use Rattle.trial_line.proofs.put_opening.Statement.{statement}
use Rattle.trial_line.proofs.put_opening.Tie as tie

-- of any other number the word is read
other : (x : ℕ) → x ≢ 0 → x ≢ 1 → x ≢ 2 → opening x ≡ opening 3
other x a b c = rw (ne_eqb x 0 a, ne_eqb x 1 b, ne_eqb x 2 c)

-- what is written by the arm of a number
by_arm : {l l2 : List ℕ} {e : ℕ} (op k : ℕ) → opening op ≡ opening k → Wrote l 0 (opening k) l2 e → Wrote l 0 (opening op) l2 e
by_arm {l} {l2} {e} op k q w = subst (λ (a : List ℕ). Wrote l 0 a l2 e) (sym q) w

returns : tie.Need-returns-in-0
returns c =
    by_arm c.args.op 0 (ap opening c.in-0.is) c.put_bytes.ensures

returns-2 : tie.Need-returns-in-1
returns-2 c =
    by_arm c.args.op 1 (ap opening c.in-1.is) c.put_bytes-in-1.ensures

returns-3 : tie.Need-returns-in-2
returns-3 c =
    by_arm c.args.op 2 (ap opening c.in-2.is) c.put_bytes-in-2.ensures

returns-4 : tie.Need-returns-in_default
returns-4 c =
    let r = c.in_default.in_default-own.rest in
    by_arm c.args.op 3 (other _ r.0.0.1 r.0.1 r.1) c.put_bytes-in_default.ensures

pub put_opening_spec : {M : Type 1} → statement M
put_opening_spec =
    tie.close
    (tie.spec
    (λ c κs. search rules)
    (λ c κs. search rules)
    (λ c κs. search rules)
    (λ c κs. search rules)
    (λ c. search rules)
    returns
    (λ c. search rules)
    returns-2
    (λ c. search rules)
    returns-3
    (λ c. search rules)
    returns-4)
