-- `decode_shares::check_agrees` meets its contract: the shares start at multiples of their length.
-- Assumes nothing.
use mathlib.Core.Bool.{Bool, not}
use Rattle.lists.specs.Tests.{pick, given}
use Rattle.sizes.specs.declared.Refusal.TheVariants.{Disagree}
use Rattle.sizes.specs.Sizing.{α}
use Rattle.sizes.specs.Refusals.{◌when◌}
use Rattle.sizes.proofs.Legal.{Legal, legal-facts}
use Rattle.mbcr.specs.Read.{read_file}
use Rattle.line_checks.proofs.Answers.{passes, refuses}
use Rattle.decode_stripe.proofs.Made.{part-long}
use Rattle.decode_shares.proofs.Places.{share-few, lent-long, lent_placed, lent-shares}
use mathlib.Core.Path.{◌≡◌, sym, ap, ◌∙◌}
use mathlib.Core.List.{List}
use Prim.Native.Nat.{ℕ, ◌≤◌, ◌*◌}
use native.Mathlib.Omega.{arith}
use lib.ListN.{length, length-take, length-append}
use borrow.Author.Rules.{rules}
use Rattle.decode_shares.proofs.check_agrees.Statement.{statement}
use Rattle.decode_shares.proofs.check_agrees.Tie as tie

-- places in the code
abbrev starts-of-slice_known-2-1 : tie.After-slice_known-2-1 → tie.After-starts
starts-of-slice_known-2-1 c = c.before.before.before.before.before

abbrev start-of-share_len : tie.After-share_len → tie.Start
start-of-share_len c = c.before.before.before.before.before.before

abbrev start-of-places-1 : tie.After-places-1 → tie.Start
start-of-places-1 c = start-of-share_len c.before

abbrev share_len-of-agrees-arg-1 : tie.After-agrees-arg-1 → tie.After-share_len
share_len-of-agrees-arg-1 c = c.before.before.before.before.before.before.before.before

abbrev start-of-starts : tie.After-starts → tie.Start
start-of-starts c = start-of-places-1 c.before

abbrev share_len-of-agrees : tie.After-agrees → tie.After-share_len
share_len-of-agrees c = share_len-of-agrees-arg-1 c.before

abbrev start-of-slice_known-2-1 : tie.After-slice_known-2-1 → tie.Start
start-of-slice_known-2-1 c = start-of-starts c.before.before.before.before.before

abbrev start-of-agrees-arg-1 : tie.After-agrees-arg-1 → tie.Start
start-of-agrees-arg-1 c = start-of-slice_known-2-1 c.before

abbrev start-of-agrees : tie.After-agrees → tie.Start
start-of-agrees c = start-of-agrees-arg-1 c.before

abbrev start-of-else-agrees : tie.Else-agrees → tie.Start
start-of-else-agrees c = start-of-agrees c.before

abbrev start-of-then-agrees : tie.Then-agrees → tie.Start
start-of-then-agrees c = start-of-agrees c.before

-- the sizes are legal
facts : (c : tie.Start) → Legal c.args.sizes
facts c = legal-facts _ c.requires.0.sized

-- so the length of a share is that of the definitions
row : (c : tie.After-share_len) → c.share_len.result ≡ α c.args.sizes
row c = c.share_len.ensures ∙ ap (λ b. pick b (α c.args.sizes) 0) c.requires.0.sized

few : (c : tie.After-share_len) → c.args.stripes * c.share_len.result ≤ 253952
few c = share-few c.args.sizes c.args.stripes c.share_len.result (facts (start-of-share_len c)) c.requires.3 (row c)

as_long : (c : tie.After-share_len) → c.args.stripes * c.share_len.result ≡ c.args.stripes * α c.args.sizes
as_long c = ap (λ (m : ℕ). c.args.stripes * m) (row c)

places-long : (c : tie.After-starts) → length c.starts.new.out ≡ c.args.sizes.k
places-long c = c.starts.auto.out ∙ part-long _ _ (omega (arith, facts (start-of-starts c)))

-- whether there is such a file
abbrev there : tie.Start → Bool
there g = given (read_file g.args.sizes g.args.points.now g.args.total g.args.boards.now g.args.held.now)

found : (c : tie.After-agrees) → c.agrees.result ≡ there (start-of-agrees c)
found c =
    let a = c.args in
    c.agrees.ensures
    ∙ ap (λ (l : List ℕ). given (read_file a.sizes a.points.now a.total a.boards.now l))
    (lent-shares a.sizes a.stripes _ _ _ a.held.now (as_long (share_len-of-agrees c)) (omega (arith, facts (start-of-agrees c))) c.requires.5
    c.starts.ensures)

mul-share : tie.Need-overflow_mul-share
mul-share c = omega (arith, few c)

part-places-end : tie.Need-slice_bounds-places-end
part-places-end c = omega (arith, facts (start-of-share_len c))

starts-requires : tie.Need-starts-requires
starts-requires c κs = (few c.before, simp length-take (omega (arith, facts (start-of-places-1 c))))

fill-requires : tie.Need-fill-requires
fill-requires c κs = let p = c.requires in (p.0, p.1, p.2, p.6)

part-agrees-end : tie.Need-slice_bounds-agrees-end
part-agrees-end c = simp length-append (omega (arith, facts (start-of-slice_known-2-1 c), places-long (starts-of-slice_known-2-1 c)))

agrees-requires : tie.Need-agrees-requires
agrees-requires c κs =
    let a = c.args in
    let p = c.requires in
    let e = c.starts.ensures in
    let h : a.sizes.k ≤ 32 = omega (arith, facts (start-of-agrees-arg-1 c)) in (
      p.0,
      lent-long a.sizes a.stripes _ _ _ a.held.now (as_long (share_len-of-agrees-arg-1 c)) h p.5 e,
      lent_placed a.sizes a.stripes _ _ _ a.held.now (as_long (share_len-of-agrees-arg-1 c)) h p.5 e,
      p.3,
      p.4,
      c.fill.ensures,
    )

returns : tie.Need-returns-then-agrees
returns c =
    (passes (Disagree when not (there (start-of-then-agrees c))) (ap not (sym (found c.before) ∙ c.if-agrees.true)), c.fill.ensures)

returns-2 : tie.Need-returns-else-agrees
returns-2 c =
    (refuses (Disagree when not (there (start-of-else-agrees c))) (ap not (sym (found c.before) ∙ c.if-agrees.false)), c.fill.ensures)

pub check_agrees_spec : {M : Type 1} → statement M
check_agrees_spec =
    tie.close
    (tie.spec
    (λ c κs. search rules)
    mul-share
    (λ c. search rules)
    (λ c. search rules)
    part-places-end
    starts-requires
    fill-requires
    (λ c. search rules)
    (λ c. search rules)
    part-agrees-end
    agrees-requires
    (λ c. search rules)
    returns
    (λ c. search rules)
    returns-2)
