-- Bytes out of packets, and a packet by factors.
-- Assumes nothing.
use mathlib.Core.Path.{◌≡◌, sym, subst, ◌∙◌}
use mathlib.Core.Bool.{true}
use mathlib.Core.List.{List}
use Prim.Native.Nat.{ℕ, ◌+◌, ◌*◌, ◌-◌, ◌<◌, ◌≤◌}
use native.Mathlib.Omega.{arith}
use lib.ListN.{length, get_or}
use Rattle.lists.specs.Tests.{below, different}
use Rattle.lists.specs.Lists.{Bytes, tabulate, fit}
use Rattle.lists.proofs.Alls.{byte_at}
use Rattle.lists.proofs.Pieces.{length-tabulate, tabulate-ext, tabulate-all, piece-at, piece-piece-at, join-ones}
use Rattle.sizes.specs.declared.Sizes.{Sizes}
use Rattle.polynomial.specs.Polynomial.{eval, interpolate}
use Rattle.mbcr.specs.Share.{DifferentPoints, point, points}
use Rattle.mbcr.specs.Rebuild.{received, exchanged, g_from, exchange_packet}
use Rattle.mbcr.proofs.Points.{boards-of, points-bytes, points-distinct}
use Rattle.lagrange_factors.specs.Steps.{factors_at, dot_of}
use Rattle.lagrange_factors.proofs.Values.{factors-value}

-- ---- packets that came

pub received-made : (z : Sizes) (S b s : ℕ) (packets : List ℕ) → b < 2 → s < S
    → tabulate z.d (λ t. get_or packets (t * (2 * S) + (s * 2 + b)) 0) ≡ received z S b s packets
unfolding received
received-made z S b s packets hb hs =
    tabulate-ext z.d _ _ (λ t l. sym (piece-piece-at 2 s (2 * S) t packets b hb (omega arith)))

pub exchanged-made : (z : Sizes) (S s : ℕ) (packets : List ℕ) → s < S
    → tabulate (z.r - 1) (λ t. get_or packets (t * S + s) 0) ≡ exchanged z S s packets
unfolding exchanged
exchanged-made z S s packets hs = tabulate-ext (z.r - 1) _ _ (λ t l. sym (piece-at S t packets s 0 hs))

pub length-received : (z : Sizes) (S b s : ℕ) (packets : List ℕ) → length (received z S b s packets) ≡ z.d
unfolding received
length-received z S b s packets = length-tabulate z.d _

pub length_exchanged : (z : Sizes) (S s : ℕ) (packets : List ℕ) → length (exchanged z S s packets) ≡ z.r - 1
unfolding exchanged
length_exchanged z S s packets = length-tabulate (z.r - 1) _

pub received-bytes : (z : Sizes) (S b s : ℕ) (packets : List ℕ) → b < 2 → s < S → Bytes packets → Bytes (received z S b s packets)
received-bytes z S b s packets hb hs h =
    subst (λ (l : List ℕ). Bytes l) (received-made z S b s packets hb hs)
    (tabulate-all (λ a. a < 256) z.d (λ t. get_or packets (t * (2 * S) + (s * 2 + b)) 0) (λ t l. byte_at packets h (t * (2 * S) + (s * 2 + b))))

pub exchanged-bytes : (z : Sizes) (S s : ℕ) (packets : List ℕ) → s < S → Bytes packets → Bytes (exchanged z S s packets)
exchanged-bytes z S s packets hs h =
    subst (λ (l : List ℕ). Bytes l) (exchanged-made z S s packets hs)
    (tabulate-all (λ a. a < 256) (z.r - 1) (λ t. get_or packets (t * S + s) 0) (λ t l. byte_at packets h (t * S + s)))

-- ---- an exchange packet

pub packet-is : (z : Sizes) (pts : List ℕ) → DifferentPoints z pts → (S m L : ℕ) (helpers packets ff : List ℕ) → length helpers ≡ z.d → below z.n helpers ≡ true
    → different helpers ≡ true → z.d ≤ L → Bytes packets → ff ≡ fit L (factors_at pts helpers m)
    → tabulate S (λ s. dot_of ff (received z S 0 s packets)) ≡ exchange_packet z pts S helpers packets m
unfolding exchange_packet g_from
packet-is z pts apart S m L helpers packets ff lh known once h b ef =
    let bs = boards-of z helpers known once in
    tabulate-ext S (λ s. dot_of ff (received z S 0 s packets)) (λ s. eval (interpolate (points pts helpers) (received z S 0 s packets)) (point pts m))
    (λ s k. factors-value pts helpers (received z S 0 s packets) ff m L ef (omega arith) (lh ∙ sym (length-received z S 0 s packets))
    (points-bytes z pts apart helpers bs) (points-distinct z pts apart helpers bs) (received-bytes z S 0 s packets (omega arith) k b))
    ∙ sym (join-ones S (λ s. eval (interpolate (points pts helpers) (received z S 0 s packets)) (point pts m)))
