-- `trial_calls::write_drawn` meets its contract: the beginning of an array is lent.
-- Assumes nothing.
use mathlib.Core.Path.{◌≡◌, sym, subst}
use Prim.Native.Nat.{ℕ}
use Rattle.generator.specs.Generator.{after, emitted}
use Rattle.beside_spec.specs.Acting.{write}
use Rattle.trial_calls.specs.Acts.{state_in, Acts}
use Rattle.trial_calls.proofs.Made.{length_front}
use borrow.Author.Rules.{rules}
use Rattle.trial_calls.proofs.write_drawn.Statement.{statement}
use Rattle.trial_calls.proofs.write_drawn.Tie as tie

slice-aggregate-write-into : tie.Need-slice_bounds-write_into-end
slice-aggregate-write-into c = length_front c.args.len 16384 c.requires

returns : tie.Need-returns
returns c =
    let a = c.args in
    let i = c.write_into in
    subst (λ (m : ℕ). Acts (state_in a.kept a.running a.area.now) (write (emitted m a.state)) i.result.handed i.new.area × (i.result.state ≡ after m a.state))
    (sym (length_front a.len 16384 c.requires)) i.ensures

pub write_drawn_spec : {M : Type 1} → statement M
write_drawn_spec =
    tie.close
    (tie.spec
    (λ c. search rules)
    slice-aggregate-write-into
    (λ c κs. search rules)
    (λ c. search rules)
    returns)
