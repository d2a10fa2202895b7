-- What is read is answered, and there is room for all of it.
use Rattle.print_read.proofs.Came.{printing}
use Rattle.print_read.proofs.print.Goals as goal

pub returns-clause-printing : goal.returns-clause-printing
returns-clause-printing g c =
    (printing c.args.asked c.args.file.now c.args.out.now c.requires (record { count = c.answer.result; out = c.answer.new.out }) c.read_all-p.ensures
    c.answer.ensures).1
