-- Before the first read nothing is fed; a read comes behind those before it.
use Rattle.std.proofs.Common.{refl, ap, ◌∙◌}
use Rattle.printer.specs.declared.Parser.{Parser}
use Rattle.print_read.proofs.Came.{none, next}
use Rattle.print_read.proofs.read_all.Goals as goal

pub loop-turns-init : goal.loop-turns-init
loop-turns-init g c = record {
  same = refl;
  reading = none (ap (λ (q : Parser). record { parser = q; file = c.args.file.now }) c.start-p.ensures);
}

pub loop-turns-preserved : goal.loop-turns-preserved
loop-turns-preserved g c = record {
  same = c.read_some-step.auto.file ∙ c.loop-turns.invariant.same;
  reading = next c.loop-turns.invariant.reading c.if-more.true c.read_some-step.ensures;
}
