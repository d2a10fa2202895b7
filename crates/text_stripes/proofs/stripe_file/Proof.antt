-- `text_stripes::stripe_file` meets its contract: the bytes of the stripe are one stripe of shares, one after another, and what they decode to is as long as the output.
-- Assumes nothing.
use mathlib.Core.Path.{◌≡◌, sym, ap, ap₂, ◌∙◌}
use mathlib.Core.List.{List, ◌++◌, append-nil}
use Prim.Native.Nat.{ℕ, ◌*◌}
use native.Mathlib.Omega.{arith}
use lib.ListN.{length, drop_of_length-le}
use borrow.Author.Rules.{rules}
use Rattle.lists.specs.Tests.{pick}
use Rattle.sizes.specs.Sizing.{α}
use Rattle.sizes.proofs.Legal.{legal-facts}
use Rattle.mbcr.specs.Read.{decoded_file}
use Rattle.decode_file.specs.Steps.{shares_at}
use Rattle.text_stripes.specs.Steps.{spelled}
use Rattle.text_stripes.proofs.Starts.{one-stripe, starts-long, starts-placed, stripe-shares}
use Rattle.text_stripes.proofs.stripe_file.Statement.{statement}
use Rattle.text_stripes.proofs.stripe_file.Tie as tie

-- places in the code
abbrev stripe_bytes-of-slice_known-4-1 : tie.After-slice_known-4-1 → tie.After-stripe_bytes
stripe_bytes-of-slice_known-4-1 c = c.before.before.before.before.before.before

-- the length of a stripe's share is that of the definitions
row : (c : tie.After-share_len-share) → c.share_len-share.result ≡ α c.args.sizes
row c = c.share_len-share.ensures ∙ ap (λ b. pick b (α c.args.sizes) 0) c.requires.0.sized

-- the stripe's bytes
abbrev held : tie.After-stripe_bytes → List ℕ
held c = c.stripe_bytes.new.out

held-long : (c : tie.After-stripe_bytes) → length (held c) ≡ c.args.sizes.k * α c.args.sizes
held-long c = c.stripe_bytes.auto.out ∙ c.requires.7

-- they are the shares at the places where they start
shares : (c : tie.After-stripe_bytes)
    → let a = c.args in shares_at a.sizes 1 a.starts.now (held c) ≡ spelled a.text.now a.places.now a.from (α a.sizes)
shares c =
    let a = c.args in
    stripe-shares a.sizes a.starts.now (held c) c.requires.6 (held-long c) a.text.now a.places.now a.from _ c.stripe_bytes.ensures (row c.before.before)

stripe-bytes-requires : tie.Need-stripe_bytes-requires
stripe-bytes-requires c κs =
    let p = c.requires in
    let e = row c.before in
    (rw e p.5, p.7 ∙ ap₂ {C = ℕ} (λ (m n : ℕ). m * n) (sym p.4) (sym e))

file-requires : tie.Need-write_file-requires
file-requires c κs =
    let a = c.args in
    let p = c.requires in (
      p.0,
      starts-long a.sizes a.starts.now (held c.before.before.before) p.6 (held-long c.before.before.before),
      starts-placed a.sizes a.starts.now (held c.before.before.before) p.6 (held-long c.before.before.before),
      omega arith,
      one-stripe a.sizes (legal-facts _ p.0.sized) _ p.2 p.3,
      p.1,
      omega arith,
    )

returns : tie.Need-returns
returns c =
    let a = c.args in
    let out = a.out.now in
    let file : List ℕ → List ℕ = decoded_file a.sizes a.points.now (length out) a.boards.now in
    c.write_file.ensures
    ∙ ap (λ (l : List ℕ). file (shares_at a.sizes 1 a.starts.now (held (stripe_bytes-of-slice_known-4-1 c))) ++ l) (drop_of_length-le out {i = length out} (omega arith))
    ∙ append-nil _ ∙ ap file (shares (stripe_bytes-of-slice_known-4-1 c))

pub stripe_file_spec : {M : Type 1} → statement M
stripe_file_spec = tie.close (tie.spec
    (λ c κs. search rules)
    stripe-bytes-requires
    file-requires
    (λ c. search rules)
    (λ c. search rules)
    returns)
