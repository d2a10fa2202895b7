-- `setup_rows::factors_at` meets its contract: the callee's, for the beginning of what is lent.
-- Assumes nothing.
use Rattle.lists.specs.Lists.{put}
use Rattle.setup_rows.proofs.Parts.{part-there, put-part}
use mathlib.Core.Path.{ap, ◌∙◌}
use Prim.Native.Nat.{◌-◌, ◌*◌}
use lib.ListN.{length}
use borrow.Author.Rules.{rules}
use Rattle.setup_rows.proofs.factors_at.Statement.{statement}
use Rattle.setup_rows.proofs.factors_at.Tie as tie

factor-rows-requires : tie.Need-factor_rows-requires
factor-rows-requires c κs =
    (c.requires.0, c.requires.1, c.requires.2, c.requires.3, c.requires.4, c.requires.5, part-there c.args.at _ c.args.out.now c.requires.6)

returns : tie.Need-returns
returns c =
    let z = c.args.sizes in
    let m = length c.args.boards.now * ((z.n - c.args.c) * 32) in
    put-part c.args.at m c.args.out.now c.factor_rows.new.out (c.factor_rows.auto.out ∙ part-there c.args.at m c.args.out.now c.requires.6)
    ∙ ap (put c.args.out.now c.args.at) c.factor_rows.ensures

pub factors_at_spec : {M : Type 1} → statement M
factors_at_spec =
    tie.close
    (tie.spec
    (λ c. search rules)
    (λ c. search rules)
    (λ c. search rules)
    (λ c. search rules)
    (λ c. search rules)
    (λ c. search rules)
    (λ c. search rules)
    factor-rows-requires
    (λ c. search rules)
    returns)
