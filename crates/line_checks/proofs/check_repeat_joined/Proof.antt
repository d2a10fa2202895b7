-- `line_checks::check_repeat_joined` meets its contract.
-- Assumes nothing.
use Prim.Native.Nat.{ℕ}
use mathlib.Core.Path.{◌≡◌, sym, ap, ◌∙◌}
use mathlib.Core.Bool.{false, not}
use mathlib.Core.List.{List, [], ◌∷◌, ◌++◌}
use borrow.Author.Rules.{rules}
use Rattle.lists.specs.Tests.{different}
use Rattle.sizes.specs.declared.Refusal.TheVariants.{Repeat}
use Rattle.std.specs.Prelude.{Err}
use Rattle.board_spec.specs.Calls.{repeat_line}
use Rattle.line_checks.specs.Steps.{asked}
use Rattle.line_checks.proofs.Answers.{passes, refuses}
use Rattle.line_checks.proofs.Joined.{twice-left, twice-mid, shared, last-left, last-mid, all_apart}
use Rattle.line_checks.proofs.check_repeat_joined.Statement.{statement}
use Rattle.line_checks.proofs.check_repeat_joined.Tie as tie

-- the places
abbrev st : tie.After-different → tie.Start
st c = c.before.before.before

abbrev at-boards : tie.After-different-then-different → tie.After-different
at-boards c = c.before.before

abbrev at_others : tie.After-apart → tie.After-different-then-different
at_others c = c.before.before

abbrev at-apart : tie.After-among_from → tie.After-apart
at-apart c = c.before.before

abbrev at-among : tie.After-among_from-then-apart → tie.After-among_from
at-among c = c.before.before

abbrev st-apart : tie.After-apart → tie.Start
st-apart c = st (at-boards (at_others c))

abbrev named : tie.Start → List ℕ
named g = g.args.boards.now ++ g.args.others.now ++ (g.args.last ∷ [])

twice : (g : tie.Start) → different (named g) ≡ false → Err Repeat ≡ asked (repeat_line (named g))
twice g e = refuses (repeat_line (named g)) (ap not e)

returns : tie.Need-returns-then-among_from
returns c =
    let k = c.before in
    let g = st-apart (at-apart k) in
    twice g (last-left g.args.boards.now g.args.others.now g.args.last (sym k.among_from.ensures ∙ c.if-among_from.true))

returns-2 : tie.Need-returns-then-among_from-2
returns-2 c =
    let k = c.before in
    let g = st-apart (at-apart (at-among k)) in
    twice g (last-mid g.args.boards.now g.args.others.now g.args.last (sym k.among_from-then-apart.ensures ∙ c.if-among_from-2.true))

returns-3 : tie.Need-returns-then-apart
returns-3 c =
    let k = c.before in
    let l = at-among k in
    let m = at-apart l in
    let n = at_others m in
    let g = st-apart m in
    let boards = sym (at-boards n).different.ensures ∙ n.before.if-different.true in
    let others = sym n.different-then-different.ensures ∙ m.before.if-different-2.true in
    let both = sym m.apart.ensures ∙ l.before.if-apart.true in
    let first = sym l.among_from.ensures ∙ k.before.if-among_from.false in
    let second = sym k.among_from-then-apart.ensures ∙ c.if-among_from-2.false in
    passes (repeat_line (named g)) (ap not (all_apart g.args.boards.now g.args.others.now g.args.last boards others both first second))

returns-4 : tie.Need-returns-else-apart
returns-4 c =
    let k = c.before in
    let g = st-apart k in
    twice g (shared g.args.boards.now g.args.others.now g.args.last (sym k.apart.ensures ∙ c.if-apart.false))

returns-5 : tie.Need-returns-else-different-2
returns-5 c =
    let k = c.before in
    let g = st (at-boards k) in
    twice g (twice-mid g.args.boards.now g.args.others.now g.args.last (sym k.different-then-different.ensures ∙ c.if-different-2.false))

returns-6 : tie.Need-returns-else-different
returns-6 c =
    let k = c.before in
    let g = st k in
    twice g (twice-left g.args.boards.now g.args.others.now g.args.last (sym k.different.ensures ∙ c.if-different.false))

pub check_repeat_joined_spec : {M : Type 1} → statement M
check_repeat_joined_spec =
    tie.close
    (tie.spec
    (λ c κs. search rules)
    (λ c κs. search rules)
    (λ c κs. search rules)
    (λ c κs. search rules)
    returns
    (λ c κs. search rules)
    returns-2
    returns-3
    returns-4
    returns-5
    returns-6)
