-- `stripe_finish::all_boards` meets its contract: the callees' contracts, put together.
-- Assumes nothing.
use Rattle.stripe_finish.proofs.Finished.{boards-made}
use Rattle.stripe_finish.proofs.all_boards.Goals as goal

pub returns : goal.returns
returns c =
    let a = c.args in
    boards-made a.helpers.now a.partners.now a.out.now _ _ a.i c.requires c.copy_boards.ensures c.copy_boards-2.ensures
