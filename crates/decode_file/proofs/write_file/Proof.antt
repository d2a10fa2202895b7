-- `decode_file::write_file` meets its contract: the stripes of what boards hold are those of the shares.
-- Assumes nothing.
use Rattle.sizes.proofs.Legal.{Legal, legal-facts}
use Rattle.mbcr.proofs.Points.{boards-of}
use Rattle.decode_stripe.proofs.Made.{part-long}
use Rattle.decode_file.proofs.Agree.{file-made, few-stripes, enough-stripes, placed-all}
use native.Mathlib.Omega.{arith}
use borrow.Author.Rules.{rules}
use Rattle.decode_file.proofs.write_file.Statement.{statement}
use Rattle.decode_file.proofs.write_file.Tie as tie

-- places in the code
abbrev st-stripes-arg : tie.After-stripes-arg-1 → tie.Start
st-stripes-arg c = c.before.before.before.before.before.before.before

-- the sizes are legal
facts : (c : tie.Start) → Legal c.args.sizes
facts c = legal-facts _ c.requires.0.sized

stripes-requires : tie.Need-stripes-requires
stripes-requires c κs =
    let g = st-stripes-arg c in
    let a = g.args in
    let p = g.requires in
    let l = part-long a.len a.out.now p.6 in (
      p.0,
      p.1,
      placed-all a.sizes a.starts.now a.bytes.now a.stripes p.2,
      omega (arith, p.3),
      p.5,
      omega (arith, l, enough-stripes a.sizes (facts g) a.len a.stripes p.4),
      omega (arith, l, few-stripes a.sizes (facts g) a.len a.stripes p.4),
    )

returns : tie.Need-returns
returns c =
    let g = st-stripes-arg c.before.before.before in
    let a = g.args in
    let p = g.requires in
    file-made a.sizes a.points.now (facts g) p.0.distinct a.boards.now (boards-of a.sizes a.boards.now p.0.known p.0.unlike) p.0.counted a.len a.stripes p.4
    a.starts.now a.bytes.now p.1 p.2 a.out.now _ p.6 c.before.before.stripes.ensures

pub write_file_spec : {M : Type 1} → statement M
write_file_spec =
    tie.close
    (tie.spec
    (λ c. search rules)
    (λ c. search rules)
    (λ c. search rules)
    stripes-requires
    (λ c. search rules)
    returns)
