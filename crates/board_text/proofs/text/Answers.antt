-- `board_text::text` meets its contract: it answers what its check refuses, and past it the text is written.
-- Assumes nothing.
use Rattle.std.proofs.Common.{refl, sym, ◌∙◌}
use Rattle.std.proofs.lemmas.Result.{err_from_is_err_and}
use Rattle.board_text.proofs.TextCall.{text-writes, text-fits, text-refuses, text-works}
use Rattle.board_text.proofs.text.Goals as goal

pub returns-in_err-check_text : goal.returns-in_err-check_text
returns-in_err-check_text c =
    let a = c.args in
    let x = err_from_is_err_and c.from_residual.result c.from_residual.ensures.1 in
    rw (x.1, x.2) (text-refuses a.sizes a.points a.len a.node a.held.now a.out.now (sym c.check_text.ensures ∙ c.in_err-check_text.was))

pub text_len-text_len-requires : goal.text_len-text_len-requires
text_len-text_len-requires c = let a = c.args in text-writes a.sizes a.points a.len a.node a.held.now a.out.now (sym c.check_text.ensures ∙ c.in_ok-check_text.was)

pub write_text-requires : goal.write_text-requires
write_text-requires c = let a = c.args in text-fits a.sizes a.points a.len a.node a.held.now a.out.now (sym c.check_text.ensures ∙ c.in_ok-check_text.was)

pub returns : goal.returns
returns c =
    let a = c.args in
    text-works a.sizes a.points a.len a.node a.held.now a.out.now _ _ (sym c.check_text.ensures ∙ c.in_ok-check_text.was) (c.text_len-text_len.ensures a.held.now refl) c.write_text.ensures
