-- `board_file::file` meets its contract: it answers what its check refuses, and past it the file is written.
-- Assumes nothing.
use Rattle.std.proofs.Common.{sym, ◌∙◌}
use Rattle.std.proofs.lemmas.Result.{err_from_is_err_and}
use Rattle.board_file.proofs.FileCall.{asked_of, file-readable, file-room, file-refuses, file-works}
use Rattle.board_file.proofs.file.Goals as goal

pub returns-in_err-check_file : goal.returns-in_err-check_file
returns-in_err-check_file c =
    let a = c.args in
    let x = err_from_is_err_and c.from_residual.result c.from_residual.ensures.1 in
    rw (x.1, x.2) (file-refuses a.sizes a.points a.len a.boards.now a.held.now a.out.now (sym c.check_file.ensures.0 ∙ c.in_err-check_file.was))

pub stripe_count-stripes-requires : goal.stripe_count-stripes-requires
stripe_count-stripes-requires c =
    let a = c.args in
    (file-readable a.sizes a.points a.len a.boards.now a.held.now a.out.now (sym c.check_file.ensures.0 ∙ c.in_ok-check_file.was)).stated

pub write_file-requires : goal.write_file-requires
write_file-requires c =
    let a = c.args in
    let passed = sym c.check_file.ensures.0 ∙ c.in_ok-check_file.was in
    let f = file-readable a.sizes a.points a.len a.boards.now a.held.now a.out.now passed in
    let e = c.stripe_count-stripes.ensures in
    (asked_of _ _ _ _ _ f, e.1, e.0, rw e.0 f.held-is, c.check_file.ensures.1 c.in_ok-check_file.was, file-room a.sizes a.points a.len a.boards.now a.held.now a.out.now passed)

pub returns : goal.returns
returns c =
    let a = c.args in
    file-works a.sizes a.points a.len a.boards.now a.held.now a.out.now _ (sym c.check_file.ensures.0 ∙ c.in_ok-check_file.was) c.write_file.ensures
