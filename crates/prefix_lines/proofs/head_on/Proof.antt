-- `prefix_lines::head_on` meets its contract: each arm has its name.
-- Assumes nothing.
use mathlib.Core.Path.{◌≡◌, sym, ap, subst}
use mathlib.Core.Logic.{◌≢◌}
use mathlib.Core.List.{List}
use Prim.Native.Nat.{ℕ}
use lib.ListN.{drop}
use borrow.Author.Tests.{ne_eqb}
use borrow.Author.Rules.{rules}
use Rattle.text_in.specs.Steps.{name_of}
use Rattle.prefix_spec.specs.Prefix.{name_on}
use Rattle.prefix_steps.specs.declared.Went.{Went}
use Rattle.prefix_steps.specs.Steps.{Goes}
use Rattle.prefix_lines.proofs.head_on.Statement.{statement}
use Rattle.prefix_lines.proofs.head_on.Tie as tie

-- of another number the line is length=
other : (x : ℕ) → x ≢ 0 → x ≢ 1 → x ≢ 2 → x ≢ 3 → x ≢ 4 → name_of x ≡ name_of 5
other x a b c d e = rw (ne_eqb x 0 a, ne_eqb x 1 b, ne_eqb x 2 c, ne_eqb x 3 d, ne_eqb x 4 e)

-- by the name
named : (text : List ℕ) (at x y : ℕ) (w : Went) → name_of x ≡ name_of y → Goes text at (λ go. name_on (name_of y) (drop at text) (go 0)) w
    → Goes text at (λ go. name_on (name_of x) (drop at text) (go 0)) w
named text at x y w e h = subst (λ (l : List ℕ). Goes text at (λ go. name_on l (drop at text) (go 0)) w) (sym e) h

returns : tie.Need-returns-in-0
returns c =
    let a = c.args in
    named a.text.now a.at a.which 0 c.name_on.result (ap name_of c.in-0.is) c.name_on.ensures

returns-2 : tie.Need-returns-in-1
returns-2 c =
    let a = c.args in
    named a.text.now a.at a.which 1 c.name_on-in-1.result (ap name_of c.in-1.is) c.name_on-in-1.ensures

returns-3 : tie.Need-returns-in-2
returns-3 c =
    let a = c.args in
    named a.text.now a.at a.which 2 c.name_on-in-2.result (ap name_of c.in-2.is) c.name_on-in-2.ensures

returns-4 : tie.Need-returns-in-3
returns-4 c =
    let a = c.args in
    named a.text.now a.at a.which 3 c.name_on-in-3.result (ap name_of c.in-3.is) c.name_on-in-3.ensures

returns-5 : tie.Need-returns-in-4
returns-5 c =
    let a = c.args in
    named a.text.now a.at a.which 4 c.name_on-in-4.result (ap name_of c.in-4.is) c.name_on-in-4.ensures

returns-6 : tie.Need-returns-in_default
returns-6 c =
    let a = c.args in
    let r = c.in_default.in_default-own.rest in
    named a.text.now a.at a.which 5 c.name_on-in_default.result (other _ r.0.0.0.0.1 r.0.0.0.1 r.0.0.1 r.0.1 r.1) c.name_on-in_default.ensures

pub head_on_spec : {M : Type 1} → statement M
head_on_spec =
    tie.close
    (tie.spec
    (λ c κs. search rules)
    (λ c κs. search rules)
    (λ c κs. search rules)
    (λ c κs. search rules)
    (λ c κs. search rules)
    (λ c κs. search rules)
    returns
    returns-2
    returns-3
    returns-4
    returns-5
    returns-6)
