-- Request A.8, the packets of a started repair as they lie in the lent packet area, "in the order carried"; and what a step carries.
-- Assumes nothing.
use Rattle.std.specs.Prelude.{List, [], ◌∷◌, ◌++◌, ℕ, zero, suc, ◌+◌, ◌*◌, min, length, take, drop, get_or}
use Rattle.lists.specs.Lists.{put}
use Rattle.mbcr.specs.Rebuild.{exchange_packet, finished_share}
use Rattle.store_spec.specs.Record.{Record, stripe_count}
use Rattle.store_spec.specs.Packets.{Packet, Hearing, packets_of, sent_to, senders_of, contents, hear_helpers, hear_partners, stand_ins_each, helper_packets, stand_in_packets}

-- packets of w bytes each that one board hears from these senders, one after another in these bytes
abbrev pub laid_to : ℕ → ℕ → List ℕ → List ℕ → List Packet
laid_to w i [] bytes = []
laid_to w i (j ∷ js) bytes = record { sender = j; receiver = i; bytes = take w bytes } ∷ laid_to w i js (drop w bytes)

-- of every hearing, in order: by receiver, then by its list
abbrev pub laid : ℕ → List Hearing → List ℕ → List Packet
laid w [] bytes = []
laid w (h ∷ hs) bytes = laid_to w h.receiver h.senders bytes ++ laid w hs (drop (length h.senders * w) bytes)

-- where packet q begins: helper packets, t × d of them, have 2S bytes, all others S
abbrev pub place_of : Record → ℕ → ℕ → ℕ
place_of s t q = (q + min q (t * s.sizes.d)) * stripe_count s

module _ (s : Record) (fresh helpers : List ℕ) (packets : List ℕ) where
  -- the helper packets that lie there
  unfoldable pub helpers_lying : List Packet
  helpers_lying = laid (2 * stripe_count s) (hear_helpers s.sizes.d fresh helpers) packets

  -- "an exchange made from its sender's helper packets lying there"
  unfoldable pub exchanges_made : List Packet
  exchanges_made =
      packets_of (λ i m. exchange_packet s.sizes s.points (stripe_count s) (senders_of (sent_to i helpers_lying)) (contents (sent_to i helpers_lying)) m)
      (hear_partners fresh)

module _ (s : Record) (fresh helpers stand_ins : List ℕ) (packets : List ℕ) where
  -- the stand-ins' packets and the exchanges that lie there
  unfoldable pub partners_lying : List Packet
  partners_lying =
      laid (stripe_count s) (hear_helpers (stand_ins_each s fresh) fresh stand_ins) (drop (place_of s (length fresh) (length fresh * s.sizes.d)) packets)
      ++ laid (stripe_count s) (hear_partners fresh)
      (drop (place_of s (length fresh) (length fresh * s.sizes.d + length fresh * stand_ins_each s fresh)) packets)

  -- "each fresh share the finished share of just the packets lying there"
  unfoldable pub share_lying : ℕ → List ℕ
  share_lying i =
      finished_share s.sizes s.points (stripe_count s) i
      (senders_of (sent_to i (helpers_lying s fresh helpers packets))) (contents (sent_to i (helpers_lying s fresh helpers packets)))
      (senders_of (sent_to i partners_lying)) (contents (sent_to i partners_lying))

-- no packet
abbrev pub blank : Packet
blank = record { sender = 0; receiver = 0; bytes = [] }

module _ (s : Record) (fresh helpers stand_ins : List ℕ) (area : List ℕ) where
  -- all packets as they would be made now, "helper packets first, then stand-ins' packets, then exchanges, each by fresh board (the receiver) and then
  -- by list": "from helpers and stand-ins their board-level packets over the boards as they then are"
  unfoldable pub packets_now : List ℕ → List Packet
  packets_now packets = helper_packets s area fresh helpers ++ (stand_in_packets s area fresh stand_ins ++ exchanges_made s fresh helpers packets)

  -- the packet area after m packets more, from packet q on: "Each packet carried is written at its place in the packet area and all other bytes there
  -- stay"
  abbrev pub carry : ℕ → ℕ → List ℕ → List ℕ
  carry q zero packets = packets
  carry q (suc m) packets = carry (suc q) m (put packets (place_of s (length fresh) q) (get_or (packets_now packets) q blank).bytes)
