-- `check_step::check_packets` meets its contract: the bytes of all packets, S × t × (2d + r − 1).
-- Assumes nothing.
use Rattle.std.proofs.Common.{◌≡◌, ◌≤◌, ◌*◌, ℕ, Bool, true, not, eqb, length, refl, sym, ap₂, ◌∙◌, arith, rules}
use native.Mathlib.Nat.{mul-le-mul}
use lib.Seq.{length-take-le}
use Rattle.lists.specs.Tests.{pick}
use Rattle.lists.proofs.Tests.{not-no}
use Rattle.sizes.specs.declared.Refusal.TheVariants.{Area}
use Rattle.sizes.specs.Sizing.{legal, α, stripes}
use Rattle.sizes.specs.Refusals.{◌when◌, Check}
use Rattle.sizes.proofs.Legal.{legal-facts, α-most}
use Rattle.store_spec.specs.Record.{Record, sound}
use Rattle.beside_spec.specs.Running.{Running, fresh_of, packets_len, sound_beside}
use Rattle.line_checks.specs.Steps.{asked}
use Rattle.board_lines.proofs.Chain.{one-area}
use Rattle.record.specs.Records.{record_of, running_in}
use Rattle.store_lines.proofs.Ready.{ready}
use Rattle.running_lists.proofs.Lists.{count-few, fit-fresh}
use Rattle.check_step.proofs.check_packets.Goals as goal

-- t fresh boards, where a repair runs; and the numbers are small
module _ (s : Record) (p : Running) (h : (sound s ≡ true) × (sound_beside s p ≡ true)) (on : p.running ≡ true) (long : length p.fresh ≡ 32) where
  is-legal : legal s.sizes ≡ true
  is-legal = (ready s h.0).stated.is-legal

  few : p.count ≤ 32
  few = fit-fresh s.sizes p.count is-legal (count-few s p is-legal long h.1 on)

  t-is : length (fresh_of p) ≡ p.count
  t-is = length-take-le p.count p.fresh (omega (arith, few, long))

  all-few : (n : ℕ) → n ≤ 4096 → n * p.count ≤ 131072
  all-few n k = mul-le-mul k few

  module _ {q : ℕ} (e : q ≡ pick (legal s.sizes) (α s.sizes) 0) where
    -- the sizes are legal, so the answer of `share_len` is α
    row : q ≡ α s.sizes
    row = e ∙ (rw is-legal refl)

    bytes-few : (n : ℕ) → n ≤ 4096 → n * p.count * q ≤ 8126464
    bytes-few n k =
        let w : q ≤ 62 = omega (arith, row, α-most _ (legal-facts _ is-legal)) in
        mul-le-mul (all-few n k) w

    bytes-are : (n : ℕ) → n ≡ stripes s.sizes s.length → n * p.count * q ≡ packets_len s (length (fresh_of p))
    bytes-are n k = ap₂ ◌*◌ (ap₂ ◌*◌ k (sym t-is)) row

-- the line by whether a repair runs, and by how many bytes its packets have
abbrev line : ℕ → Bool → ℕ → Check
line lent runs bytes = asked (Area when not (pick runs (eqb lent bytes) true))

pub stripe_count-stripes-requires : goal.stripe_count-stripes-requires
stripe_count-stripes-requires c = (ready (record_of c.args.kept) c.requires.0).stated

pub overflow_mul-all : goal.overflow_mul-all
overflow_mul-all c =
    let p = all-few (record_of c.args.kept) (running_in c.args.running) c.requires (not-no _ c.if-not-running.false) (search rules) _ c.stripe_count-stripes.ensures.1 in
    omega (arith, p)

pub overflow_mul-all-2 : goal.overflow_mul-all-2
overflow_mul-all-2 c =
    let p = bytes-few (record_of c.args.kept) (running_in c.args.running) c.requires (not-no _ c.if-not-running.false) (search rules) c.share_len.ensures _ c.stripe_count-stripes.ensures.1 in
    omega (arith, p)

pub returns : goal.returns
returns c =
    let s = record_of c.args.kept in
    let p = running_in c.args.running in
    let on = not-no _ c.if-not-running.false in
    c.check_lent.ensures ∙ one-area (eqb c.args.lent (c.stripe_count-stripes.result * p.count * c.share_len.result))
    ∙ ap₂ (line c.args.lent) (sym on) (bytes-are s p c.requires on (search rules) c.share_len.ensures _ c.stripe_count-stripes.ensures.0)
