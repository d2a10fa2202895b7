-- `trial_calls::write_into` meets its contract: the file written is the one drawn.
-- Assumes nothing.
use mathlib.Core.Path.{ap, ◌∙◌}
use mathlib.Core.List.{List}
use Prim.Native.Nat.{ℕ}
use lib.ListN.{length}
use Rattle.generator.specs.Generator.{emitted}
use Rattle.beside_spec.specs.Both.{write_both}
use Rattle.record.specs.Records.{running_in}
use Rattle.store.specs.Handing.{record_in}
use Rattle.trial_calls.proofs.Made.{write-acts}
use borrow.Author.Rules.{rules}
use Rattle.trial_calls.proofs.write_into.Statement.{statement}
use Rattle.trial_calls.proofs.write_into.Tie as tie

-- past the draw; where the call began
abbrev drew : tie.After-write-handed → tie.After-fill-next
drew c = c.before.before.before.before

abbrev st : tie.After-fill-next → tie.Start
st c = c.before.before.before.before

returns : tie.Need-returns
returns c =
    let w = c.before.before in
    let f = drew w in
    let a = (st f).args in
    let area = a.area.now in (
      write-acts a.kept a.running area (emitted (length a.file.now) a.state)
          (w.write-handed.ensures ∙ ap (λ (file : List ℕ). write_both (record_in a.kept) (running_in a.running) area file) f.fill-next.ensures.0),
      f.fill-next.ensures.1,
    )

pub write_into_spec : {M : Type 1} → statement M
write_into_spec =
    tie.close (tie.spec (λ c κs. search rules) (λ c κs. search rules) (λ c. search rules) (λ c. search rules) returns)
