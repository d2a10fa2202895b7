-- `trial_calls::read_drawn` meets its contract: the beginnings of two arrays are lent.
-- Assumes nothing.
use mathlib.Core.Path.{◌≡◌, sym, ap₂, subst}
use mathlib.Core.List.{List}
use Prim.Native.Nat.{ℕ, ◌≤◌}
use native.Mathlib.Omega.{arith}
use lib.ListN.{length, take, replicate}
use Rattle.sizes.specs.declared.Sizes.{Sizes}
use Rattle.sizes.proofs.Legal.{legal-facts}
use Rattle.beside_spec.specs.Acting.{Call, read}
use Rattle.trial_spec.specs.Trial.{counted}
use Rattle.trial_calls.specs.Acts.{state_in, Acts, read_drawn}
use Rattle.trial_calls.proofs.Made.{length_front, take-zeros}
use borrow.Author.Rules.{rules}
use Rattle.trial_calls.proofs.read_drawn.Statement.{statement}
use Rattle.trial_calls.proofs.read_drawn.Tie as tie

few : (c : tie.Start) → c.args.sizes.k ≤ 32
few c = let f = legal-facts c.args.sizes c.requires.0 in omega (arith, f.few, f.enough, f.read-helpers)

-- what is lent is what is drawn
drawn-is : (z : Sizes) (len first : ℕ) → z.k ≤ 32 → len ≤ 16384
    → read (counted z.n first (length (take z.k (replicate {A = ℕ} 32 0)))) (take len (replicate 16384 0)) ≡ read_drawn z len first
drawn-is z len first h l =
    ap₂ {C = Call} (λ (m : ℕ) (output : List ℕ). read (counted z.n first m) output) (sym (length_front z.k 32 h)) (take-zeros len 16384 l)

-- the places
abbrev st-at-out : tie.After-out-1 → tie.Start
st-at-out c = c.before.before.before

read-into-requires : tie.Need-read_into-requires
read-into-requires c κs =
    let s = st-at-out c in
    let f = legal-facts s.args.sizes s.requires.0 in
    (omega (arith, f.enough, f.some-fresh), s.requires.2, omega (arith, length_front s.args.sizes.k 32 (few s), few s))

returns : tie.Need-returns
returns c =
    let r = c.before.before in
    let s = st-at-out r.before in
    let a = s.args in
    subst (λ (call : Call). Acts (state_in a.kept a.running a.area.now) call r.read_into.result a.area.now)
    (drawn-is a.sizes a.len a.first (few s) s.requires.1) r.read_into.ensures

pub read_drawn_spec : {M : Type 1} → statement M
read_drawn_spec =
    tie.close
    (tie.spec
    (λ c. few c.before)
    (λ c. let s = c.before.before in length_front s.args.sizes.k 32 (few s))
    (λ c. search rules)
    (λ c. let s = st-at-out c in length_front s.args.len 16384 s.requires.1)
    read-into-requires
    returns)
