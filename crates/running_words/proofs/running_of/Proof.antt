-- `running_words::running_of` meets its contract: three numbers from their words, and the bytes of the others.
-- Assumes nothing.
use mathlib.Core.Path.{◌≡◌}
use native.Mathlib.Omega.{arith}
use lib.ListN.{length}
use borrow.Author.Rules.{rules}
use Rattle.running_words.proofs.Words71.{seventy-one, told}
use Rattle.running_words.proofs.running_of.Statement.{statement}
use Rattle.running_words.proofs.running_of.Tie as tie

-- the places
abbrev at_first : tie.After-fill_bytes → tie.Start
at_first c = c.before.before.before.before

abbrev at_second : tie.After-fill_bytes-2 → tie.After-fill_bytes
at_second c = c.before.before.before.before

abbrev at-third : tie.After-fill_bytes-3 → tie.After-fill_bytes-2
at-third c = c.before.before.before.before

long : (g : tie.Start) → length g.args.words.now ≡ 71
long g = seventy-one g.args.words.now g.requires

abbrev fill-bytes3-at-shared-slice-known2 : tie.After-shared_slice_known-2-1 → tie.After-fill_bytes-3
fill-bytes3-at-shared-slice-known2 c = c.before.before

abbrev fill-bytes3-at-shared-slice-known3 : tie.After-shared_slice_known-3-1 → tie.After-fill_bytes-3
fill-bytes3-at-shared-slice-known3 c = fill-bytes3-at-shared-slice-known2 c.before

returns : tie.Need-returns
returns c =
    let k = fill-bytes3-at-shared-slice-known3 c.before in
    let j = at-third k in
    let i = at_second j in
    let g = at_first i in
    told g.args.words.now _ _ _ (long g) i.fill_bytes.ensures j.fill_bytes-2.ensures k.fill_bytes-3.ensures

abbrev fill-bytes3-at-shared-slice-known2-unread : tie.After-shared_slice_known-2-1-unread → tie.After-fill_bytes-3
fill-bytes3-at-shared-slice-known2-unread c = c.before.before

abbrev fill-bytes3-at-shared-slice-known3-unread : tie.After-shared_slice_known-3-1-unread → tie.After-fill_bytes-3
fill-bytes3-at-shared-slice-known3-unread c = fill-bytes3-at-shared-slice-known2 c.before

pub running_of_spec : {M : Type 1} → statement M
running_of_spec =
    tie.close
    (tie.spec
    (λ c. search rules)
    (λ c. search rules)
    (λ c. omega (arith, long c.before))
    (λ c. search rules)
    (λ c κs. search rules)
    (λ c. search rules)
    (λ c. search rules)
    (λ c. omega (arith, long (at_first c.before)))
    (λ c. search rules)
    (λ c κs. search rules)
    (λ c. search rules)
    (λ c. search rules)
    (λ c. omega (arith, long (at_first (at_second c.before))))
    (λ c. search rules)
    (λ c κs. search rules)
    (λ c. omega (arith, long (at_first (at_second (at-third (fill-bytes3-at-shared-slice-known2-unread c))))))
    (λ c. omega (arith, long (at_first (at_second (at-third (fill-bytes3-at-shared-slice-known3-unread c))))))
    (λ c. omega (arith, long (at_first (at_second (at-third (fill-bytes3-at-shared-slice-known3 c.before))))))
    returns)
