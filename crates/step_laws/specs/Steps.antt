-- The packets of a started repair and the shares made of them, by places: packet q is known by its number, and the a-th fresh board by its place in the
-- fresh list. The definitions are those of the crate store_spec's specs/Lying.antt, which names boards by their numbers.
-- Assumes nothing.
use Rattle.std.specs.Prelude.{◌≡◌, true, List, ◌++◌, ℕ, zero, suc, ◌+◌, ◌-◌, ◌*◌, ◌/◌, ◌%◌, ◌≤◌, ◌<◌, min, ltb, length, take, drop, get_or}
use Rattle.lists.specs.Tests.{pick, every, below, different, apart}
use Rattle.lists.specs.Lists.{piece, put}
use Rattle.sizes.specs.declared.Sizes.{Sizes}
use Rattle.sizes.specs.Sizing.{α}
use Rattle.mbcr.specs.Rebuild.{helper_packet, stand_in_packet, exchange_packet, finished_share}
use Rattle.store_spec.specs.Packets.{hear_named}
use Rattle.repair_rows.specs.Steps.{past, others_at}

-- lists that a start takes
pub record Listed (z : Sizes) (fresh helpers stand_ins : List ℕ) : Type 0 where
  pub some-fresh : 1 ≤ length fresh
  pub few-fresh : length fresh ≤ z.r
  pub helper-count : length helpers ≡ length fresh * z.d
  pub stand-in-count : length stand_ins ≡ length fresh * (z.r - length fresh)
  pub named-below : below z.n (fresh ++ (helpers ++ stand_ins)) ≡ true
  pub fresh-different : different fresh ≡ true
  pub named-different : every (λ h. different h.senders) (hear_named z.d (z.r - length fresh) fresh helpers stand_ins) ≡ true
  pub none-fresh : apart fresh (helpers ++ stand_ins) ≡ true

-- a run of c boards for each fresh one, all of them below n
pub record Served (n c : ℕ) (fresh boards : List ℕ) : Type 0 where
  pub count : length boards ≡ length fresh * c
  pub fresh-below : below n fresh ≡ true
  pub boards-below : below n boards ≡ true

-- no run names a board twice
pub record DifferentEach (c : ℕ) (fresh boards : List ℕ) : Type 0 where
  pub each : (a : ℕ) → a < length fresh → different (piece c a boards) ≡ true

-- the first S stripes of board j, of C
abbrev pub held_at : Sizes → ℕ → ℕ → List ℕ → ℕ → List ℕ
held_at z C S area j = take (S * α z) (drop (j * (C * α z)) area)

-- where packet q begins, of t fresh boards
abbrev pub place_at : Sizes → ℕ → ℕ → ℕ → ℕ
place_at z S t q = (q + min q (t * z.d)) * S

module _ (z : Sizes) (pts : List ℕ) (C S : ℕ) where
  -- the p-th helper packet, stand-in's packet and exchange
  unfoldable pub helper_at : List ℕ → List ℕ → List ℕ → ℕ → List ℕ
  helper_at fresh helpers area p = helper_packet z pts S (get_or helpers p 0) (get_or fresh (p / z.d) 0) (held_at z C S area (get_or helpers p 0))

  unfoldable pub stand_in_at : List ℕ → List ℕ → List ℕ → ℕ → List ℕ
  stand_in_at fresh stand_ins area p =
      stand_in_packet z pts S (get_or stand_ins p 0) (get_or fresh (p / (z.r - length fresh)) 0) (held_at z C S area (get_or stand_ins p 0))

module _ (z : Sizes) (pts : List ℕ) (S : ℕ) (fresh helpers : List ℕ) where
  -- from the b-th fresh board's helper packets, for the a-th
  abbrev pub exchange_from : List ℕ → ℕ → ℕ → List ℕ
  exchange_from packets b a = exchange_packet z pts S (piece z.d b helpers) (piece (z.d * (2 * S)) b packets) (get_or fresh a 0)

  unfoldable pub exchange_at : List ℕ → ℕ → List ℕ
  exchange_at packets p = exchange_from packets (past (p / (length fresh - 1)) (p % (length fresh - 1))) (p / (length fresh - 1))

module _ (z : Sizes) (pts : List ℕ) (C S : ℕ) (fresh helpers stand_ins area : List ℕ) where
  -- packet q: helper packets first, then stand-ins' packets, then exchanges
  unfoldable pub packet_at : ℕ → List ℕ → List ℕ
  packet_at q packets =
      let h = length fresh * z.d in
      let e = length fresh * (z.r - length fresh) in
      pick (ltb q h) (helper_at z pts C S fresh helpers area q)
      (pick (ltb (q - h) e) (stand_in_at z pts C S fresh stand_ins area (q - h)) (exchange_at z pts S fresh helpers packets (q - h - e)))

  -- the packet area after m packets more, from packet q on
  abbrev pub carry_at : ℕ → ℕ → List ℕ → List ℕ
  carry_at q zero packets = packets
  carry_at q (suc m) packets = carry_at (suc q) m (put packets (place_at z S (length fresh) q) (packet_at q packets))

-- the share of the a-th fresh board from the packets lying there
module _ (z : Sizes) (pts : List ℕ) (S : ℕ) (fresh helpers stand_ins packets : List ℕ) where
  abbrev pub partners_at : ℕ → List ℕ
  partners_at a = piece (z.r - length fresh) a stand_ins ++ others_at fresh a

  -- what stand-ins and other fresh boards sent it
  abbrev pub stood_at : ℕ → List ℕ
  stood_at a = piece ((z.r - length fresh) * S) a (drop (length fresh * z.d * (2 * S)) packets)

  abbrev pub exchanged_at : ℕ → List ℕ
  exchanged_at a = piece ((length fresh - 1) * S) a (drop (length fresh * z.d * (2 * S) + length fresh * (z.r - length fresh) * S) packets)

  unfoldable pub share_at : ℕ → List ℕ
  share_at a =
      finished_share z pts S (get_or fresh a 0) (piece z.d a helpers) (piece (z.d * (2 * S)) a packets) (partners_at a) (stood_at a ++ exchanged_at a)
