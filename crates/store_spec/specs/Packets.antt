-- Document 01, repair, with the stand-ins of request A.3: the list of its packets, those of the helpers, then those of the stand-ins, then those that
-- fresh boards exchange; and the shares made of them.
-- Assumes nothing.
use Rattle.std.specs.Prelude.{ℕ, ◌+◌, ◌-◌, List, [], ◌∷◌, ◌++◌, map, eqb, length, take, drop}
use Rattle.lists.specs.Tests.{pick}
use Rattle.lists.specs.Lists.{concat, without}
use Rattle.mbcr.specs.Rebuild.{helper_packet, stand_in_packet, exchange_packet, finished_share}
use Rattle.store_spec.specs.Record.{Record, stripe_count, held}

pub record Packet : Type 0 where
  pub sender : ℕ
  pub receiver : ℕ
  pub bytes : List ℕ

-- a board that hears others
pub record Hearing : Type 0 where
  pub receiver : ℕ
  pub senders : List ℕ

-- every hearing's packets, in order: by receiver, then by its list
abbrev pub packets_of : (ℕ → ℕ → List ℕ) → List Hearing → List Packet
packets_of bytes hs = concat (map (λ h. map (λ j. record { sender = j; receiver = h.receiver; bytes = bytes j h.receiver }) h.senders) hs)

-- the packets sent to board i
abbrev pub sent_to : ℕ → List Packet → List Packet
sent_to i [] = []
sent_to i (p ∷ ps) = pick (eqb p.receiver i) (p ∷ []) [] ++ sent_to i ps

abbrev pub senders_of : List Packet → List ℕ
senders_of ps = map (λ p. p.sender) ps

-- their bytes, one packet after another
abbrev pub contents : List Packet → List ℕ
contents ps = concat (map (λ p. p.bytes) ps)

-- their summed length
abbrev pub total : List Packet → ℕ
total [] = 0
total (p ∷ ps) = length p.bytes + total ps

-- "for each, its own list of d helpers": the a-th fresh board hears the a-th run of d
abbrev pub hear_helpers : ℕ → List ℕ → List ℕ → List Hearing
hear_helpers d [] helpers = []
hear_helpers d (i ∷ fresh) helpers = record { receiver = i; senders = take d helpers } ∷ hear_helpers d fresh (drop d helpers)

-- all boards named for a fresh one: the a-th run of d helpers, and the a-th run of e stand-ins
abbrev pub hear_named : ℕ → ℕ → List ℕ → List ℕ → List ℕ → List Hearing
hear_named d e [] helpers stand_ins = []
hear_named d e (i ∷ fresh) helpers stand_ins =
    record { receiver = i; senders = take d helpers ++ take e stand_ins } ∷ hear_named d e fresh (drop d helpers) (drop e stand_ins)

-- each fresh board hears the other fresh ones
abbrev pub hear_partners : List ℕ → List Hearing
hear_partners fresh = map (λ i. record { receiver = i; senders = without i fresh }) fresh

-- "For each it names d helpers and r − t stand-ins": so many stand-ins, where t fresh boards are named
abbrev pub stand_ins_each : Record → List ℕ → ℕ
stand_ins_each s fresh = s.sizes.r - length fresh

module _ (s : Record) (area fresh helpers : List ℕ) where
  -- "these are the board-level packets of its senders": each helper works from what it holds
  unfoldable pub helper_packets : List Packet
  helper_packets =
      packets_of (λ j i. helper_packet s.sizes s.points (stripe_count s) j i (held s area j)) (hear_helpers s.sizes.d fresh helpers)

  -- a fresh board works from the helper packets sent to it
  unfoldable pub exchange_packets : List Packet
  exchange_packets =
      packets_of (λ i m. exchange_packet s.sizes s.points (stripe_count s) (senders_of (sent_to i helper_packets)) (contents (sent_to i helper_packets)) m)
      (hear_partners fresh)

-- each stand-in works from what it holds; the a-th fresh board hears the a-th run of r − t
unfoldable pub stand_in_packets : Record → List ℕ → List ℕ → List ℕ → List Packet
stand_in_packets s area fresh stand_ins =
    packets_of (λ j i. stand_in_packet s.sizes s.points (stripe_count s) j i (held s area j)) (hear_helpers (stand_ins_each s fresh) fresh stand_ins)

module _ (s : Record) (area fresh helpers stand_ins : List ℕ) where
  -- a stand-in "counts as a partner in the finished share": those that partners send
  unfoldable pub partner_packets : List Packet
  partner_packets = stand_in_packets s area fresh stand_ins ++ exchange_packets s area fresh helpers

  unfoldable pub repair_packets : List Packet
  repair_packets = helper_packets s area fresh helpers ++ partner_packets

  -- "each fresh share is the finished share of just its packets"
  unfoldable pub fresh_share : ℕ → List ℕ
  fresh_share i =
      finished_share s.sizes s.points (stripe_count s) i
      (senders_of (sent_to i (helper_packets s area fresh helpers))) (contents (sent_to i (helper_packets s area fresh helpers)))
      (senders_of (sent_to i partner_packets)) (contents (sent_to i partner_packets))
