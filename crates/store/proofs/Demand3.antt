-- Demand 3 of the code: a run of the methods follows the definitions.
-- Assumes nothing.
use mathlib.Core.Path.{sym, ap, ◌∙◌}
use Rattle.beside_spec.specs.Both.{Outcome}
use Rattle.beside_spec.specs.Acting.{act}
use Rattle.beside_spec.proofs.Beside.{accepted-both}
use Rattle.list_spec.proofs.Follows.{follows, follows-worn}
use Rattle.store_spec.proofs.MoveLaws.{move-laws}
use Rattle.beside_spec.proofs.BesideLaws.{move-beside}
use Rattle.record.specs.Records.{running_in}
use Rattle.store.specs.Handing.{record_in}
use Rattle.store.specs.Demand3.{Records, kept_in, beside_in, handed_on, CodeDemand3, CodeWorn, CodeMoved}

pub code-demand-3 : CodeDemand3
unfolding act
code-demand-3 old p z xs c new made taken area steps run ok r =
    let d =
    follows Records kept_in beside_in (record_in old) (running_in p) z xs c (handed_on new) (ap (λ (o : Outcome). o.handed) made)
    (ap (λ (o : Outcome). o.running) made) (ap (λ (o : Outcome). o.answer.refusal) (sym made) ∙ taken) area steps run ok r in (
      d.0,
      d.1,
      λ x any fresh helpers stand_ins g m k.
          (accepted-both (kept_in x) (beside_in x) any fresh helpers stand_ins (ap (λ (o : Outcome). o.answer.refusal) (sym m) ∙ k)).1,
    )

pub code-worn : CodeWorn
code-worn old p z xs c new made taken area steps run ok r =
    follows-worn Records kept_in beside_in (record_in old) (running_in p) z xs c (handed_on new) (ap (λ (o : Outcome). o.handed) made)
    (ap (λ (o : Outcome). o.running) made) (ap (λ (o : Outcome). o.answer.refusal) (sym made) ∙ taken) area steps run ok r

pub code-moved : CodeMoved
unfolding act
code-moved x any board point helpers partners g m k byte =
    let ok = ap (λ (o : Outcome). o.answer.refusal) (sym m) ∙ k in
    let alone = (move-beside.taken-beside (kept_in x) (beside_in x) any board point helpers partners).0 ok in
    let q = m ∙ move-beside.same_beside (kept_in x) (beside_in x) any board point helpers partners ok in (
      move-laws.moved (kept_in x) any board point helpers partners byte alone.0,
      ap (λ (o : Outcome). o.handed) q,
      ap (λ (o : Outcome). o.area) q,
      ap (λ (o : Outcome). o.running) q,
      alone.1,
    )
