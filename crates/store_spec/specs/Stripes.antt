-- A repair stripe by stripe: what one with room for a single stripe works out. `own j` is what board j holds of the stripe, `helpers i` the
-- helpers of fresh board i, `stand_ins i` its stand-ins.
-- Assumes nothing.
use Rattle.std.specs.Prelude.{ℕ, ◌≡◌, true, List, ◌++◌, map}
use Rattle.lists.specs.Tests.{among}
use Rattle.lists.specs.Lists.{join, piece, without}
use Rattle.sizes.specs.declared.Sizes.{Sizes}
use Rattle.sizes.specs.Sizing.{α}
use Rattle.polynomial.specs.Polynomial.{eval}
use Rattle.mbcr.specs.Share.{point}
use Rattle.mbcr.specs.Rebuild.{own_f, own_g, g_from, finished_stripe}
use Rattle.store_spec.specs.Record.{Record, stripe_count, held}
use Rattle.store_spec.specs.Packets.{sent_to, senders_of, helper_packets, stand_in_packets, fresh_share}
use Rattle.store_spec.specs.Calls.{repair_call}

module _ (z : Sizes) (xs : List ℕ) (own : ℕ → List ℕ) (fresh : List ℕ) (helpers : ℕ → List ℕ) where
  -- the first bytes that fresh board i hears: F(x_j, y_i)
  unfoldable pub firsts : ℕ → List ℕ
  firsts i = map (λ j. eval (own_f z xs j (own j)) (point xs i)) (helpers i)

  -- the second bytes: F(x_i, y_j)
  unfoldable pub seconds : ℕ → List ℕ
  seconds i = map (λ j. eval (own_g z xs j (own j)) (point xs i)) (helpers i)

  -- the byte that fresh board m sends to fresh board i
  unfoldable pub exchanged_byte : ℕ → ℕ → ℕ
  exchanged_byte m i = eval (g_from z xs (helpers m) (firsts m)) (point xs i)

module _ (z : Sizes) (xs : List ℕ) (own : ℕ → List ℕ) (fresh : List ℕ) (helpers stand_ins : ℕ → List ℕ) where
  -- the bytes that its stand-ins send to fresh board i: F(x_i, y_s)
  unfoldable pub stood_in : ℕ → List ℕ
  stood_in i = map (λ j. eval (own_g z xs j (own j)) (point xs i)) (stand_ins i)

  -- the stripe that fresh board i finishes
  unfoldable pub fresh_stripe : ℕ → List ℕ
  fresh_stripe i =
      finished_stripe z xs i (helpers i) (firsts z xs own fresh helpers i) (seconds z xs own fresh helpers i) (stand_ins i ++ without i fresh)
      (stood_in i ++ map (λ m. exchanged_byte z xs own fresh helpers m i) (without i fresh))

-- In an accepted repair over any area a fresh share is its finished stripes, each from the same stripe of its helpers and stand-ins.
abbrev pub ByStripes : Type 0
ByStripes =
    (s : Record) (area fresh helpers stand_ins : List ℕ) → (repair_call s area fresh helpers stand_ins).answer.refusal ≡ 0
    → (i : ℕ) → among fresh i ≡ true
    → fresh_share s area fresh helpers stand_ins i
    ≡ join (stripe_count s)
    (λ t. fresh_stripe s.sizes s.points (λ j. piece (α s.sizes) t (held s area j)) fresh
    (λ m. senders_of (sent_to m (helper_packets s area fresh helpers))) (λ m. senders_of (sent_to m (stand_in_packets s area fresh stand_ins))) i)
