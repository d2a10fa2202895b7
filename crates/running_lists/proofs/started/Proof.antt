-- `running_lists::started` meets its contract: each list in its array, and 00 behind it.
-- Assumes nothing.
use mathlib.Core.Path.{◌≡◌, ap, ap₂, ◌∙◌}
use mathlib.Core.Bool.{true}
use mathlib.Core.List.{List}
use Prim.Native.Nat.{ℕ}
use borrow.Author.Rules.{rules}
use Rattle.beside_spec.specs.Running.{Running}
use Rattle.running_lists.proofs.started.Statement.{statement}
use Rattle.running_lists.proofs.started.Tie as tie

-- the record with these arrays
abbrev by : ℕ → List ℕ → List ℕ → List ℕ → Running
by t fresh helpers stand_ins = record { running = true; count = t; carried = 0; fresh = fresh; helpers = helpers; stand_ins = stand_ins }

same : (t : ℕ) {a b c x y z : List ℕ} → a ≡ x → b ≡ y → c ≡ z → by t a b c ≡ by t x y z
same t {a} {b} {c} {x} {y} {z} e f g = ap₂ (λ (a b : List ℕ). by t a b c) e f ∙ ap (by t x y) g

-- the places
abbrev bytes-of2-at-c : tie.After-c-1 → tie.After-bytes_of-2
bytes-of2-at-c c = c.before.before

abbrev at_b : tie.After-bytes_of-3 → tie.After-bytes_of-2
at_b c = bytes-of2-at-c c.before

abbrev bytes-of-at-b : tie.After-b-1 → tie.After-bytes_of
bytes-of-at-b c = c.before.before

abbrev at_a : tie.After-bytes_of-2 → tie.After-bytes_of
at_a c = bytes-of-at-b c.before

abbrev st-at-a : tie.After-a-1 → tie.Start
st-at-a c = c.before.before.before.before

abbrev st : tie.After-bytes_of → tie.Start
st c = st-at-a c.before

pub started_spec : {M : Type 1} → statement M
started_spec =
    tie.close
    (tie.spec
    (λ c. search rules)
    (λ c κs. (st-at-a c).requires.0)
    (λ c. search rules)
    (λ c κs. (st (bytes-of-at-b c)).requires.1)
    (λ c. search rules)
    (λ c κs. (st (at_a (bytes-of2-at-c c))).requires.2)
    (λ c. let k = c.before in let j = at_b k in let i = at_a j in same _ i.bytes_of.ensures j.bytes_of-2.ensures k.bytes_of-3.ensures))
