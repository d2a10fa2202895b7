-- Request A.8, one step over any records and "any bytes in both areas": what it carries where, what stays, and what the last one makes. proofs/StepLaws.antt
-- has `step-laws : StepLaws`.
-- Assumes nothing.
use Rattle.std.specs.Prelude.{◌≡◌, true, false, ◌⊎◌, List, [], ◌++◌, ℕ, suc, ◌+◌, ◌-◌, ◌*◌, ◌≤◌, ◌<◌, min, ltb, length, take, drop, get_or, Ok}
use Rattle.lists.specs.Tests.{pick, among}
use Rattle.lists.specs.Lists.{All, without}
use Rattle.sizes.specs.Refusals.{said}
use Rattle.mbcr.specs.Rebuild.{helper_packet, stand_in_packet, exchange_packet, finished_share}
use Rattle.store_spec.specs.Record.{Record, in_service, with_marks, turn_on, stripe_count, held}
use Rattle.store_spec.specs.Packets.{contents, senders_of, sent_to, packets_of, total, hear_helpers, hear_partners, stand_ins_each}
use Rattle.beside_spec.specs.Running.{Running, idle, with_carried, fresh_of, helpers_of, stand_ins_of, named_in, packet_count, packets_len}
use Rattle.beside_spec.specs.Lying.{place_of, helpers_lying, partners_lying, share_lying, packets_now, blank}
use Rattle.store_spec.specs.Demand1.{Stays}
use Rattle.beside_spec.specs.Both.{Outcome, step_call, lose_both}

-- the packets that lie in a packet area, by lists that a start takes: `t` fresh boards, `e` stand-ins for each
module _ (s : Record) (fresh helpers stand_ins area packets : List ℕ) where
  abbrev pub S : ℕ
  S = stripe_count s

  abbrev pub d : ℕ
  d = s.sizes.d

  abbrev pub t : ℕ
  t = length fresh

  abbrev pub e : ℕ
  e = stand_ins_each s fresh

  pub record Lain : Type 0 where
    -- the a-th fresh board's helper packets are the a-th run of d, of 2S bytes each
    pub helpers-are : (a : ℕ) → a < t → senders_of (sent_to (get_or fresh a 0) (helpers_lying s fresh helpers packets)) ≡ take d (drop (a * d) helpers)
    pub helpers-sent : (a : ℕ) → a < t → contents (sent_to (get_or fresh a 0) (helpers_lying s fresh helpers packets)) ≡ take (d * (2 * S)) (drop (a * (d * (2 * S))) packets)
    -- its partners are its run of r − t stand-ins, and the other fresh boards, in the order of the fresh list: behind all helper packets lie the stand-ins',
    -- behind these the exchanges, of S bytes each
    pub partners-are : (a : ℕ) → a < t → senders_of (sent_to (get_or fresh a 0) (partners_lying s fresh helpers stand_ins packets))
        ≡ take e (drop (a * e) stand_ins) ++ without (get_or fresh a 0) fresh
    pub partners-sent : (a : ℕ) → a < t → contents (sent_to (get_or fresh a 0) (partners_lying s fresh helpers stand_ins packets))
        ≡ take (e * S) (drop (a * (e * S)) (drop (t * d * (2 * S)) packets)) ++ take ((t - 1) * S) (drop (a * ((t - 1) * S)) (drop (t * d * (2 * S) + t * e * S) packets))
    -- "the finished share of just the packets lying there"
    pub shares-are : (i : ℕ) → share_lying s fresh helpers stand_ins packets i
        ≡ finished_share s.sizes s.points S i (senders_of (sent_to i (helpers_lying s fresh helpers packets))) (contents (sent_to i (helpers_lying s fresh helpers packets)))
        (senders_of (sent_to i (partners_lying s fresh helpers stand_ins packets))) (contents (sent_to i (partners_lying s fresh helpers stand_ins packets)))
    -- the packets as they would be made now: "from helpers and stand-ins their board-level packets over the boards as they then are, an exchange made from its
    -- sender's helper packets lying there"; so many, and each begins behind those before it
    pub now-are : packets_now s fresh helpers stand_ins area packets
        ≡ packets_of (λ j i. helper_packet s.sizes s.points S j i (held s area j)) (hear_helpers d fresh helpers)
        ++ (packets_of (λ j i. stand_in_packet s.sizes s.points S j i (held s area j)) (hear_helpers e fresh stand_ins)
        ++ packets_of
        (λ m i. exchange_packet s.sizes s.points S (senders_of (sent_to m (helpers_lying s fresh helpers packets))) (contents (sent_to m (helpers_lying s fresh helpers packets))) i)
        (hear_partners fresh))
    -- in the order carried: "helper packets first, then stand-ins' packets, then exchanges, each by fresh board (the receiver) and then by list". An exchange's sender
    -- is the b-th fresh board, in the order of the fresh list without the receiver; its helper packets are the b-th run of d
    pub helper-at : (a j : ℕ) → a < t → j < d → let i = get_or fresh a 0 in let h = get_or helpers (a * d + j) 0 in
        get_or (packets_now s fresh helpers stand_ins area packets) (a * d + j) blank
        ≡ record { sender = h; receiver = i; bytes = helper_packet s.sizes s.points S h i (held s area h) }
    pub stand-in-at : (a j : ℕ) → a < t → j < e → let i = get_or fresh a 0 in let h = get_or stand_ins (a * e + j) 0 in
        get_or (packets_now s fresh helpers stand_ins area packets) (t * d + (a * e + j)) blank
        ≡ record { sender = h; receiver = i; bytes = stand_in_packet s.sizes s.points S h i (held s area h) }
    pub exchange-at : (a j : ℕ) → a < t → suc j < t → let i = get_or fresh a 0 in let b = pick (ltb j a) j (suc j) in
        get_or (packets_now s fresh helpers stand_ins area packets) (t * d + (t * e + (a * (t - 1) + j))) blank
        ≡ record {
          sender = get_or fresh b 0;
          receiver = i;
          bytes = exchange_packet s.sizes s.points S (take d (drop (b * d) helpers)) (take (d * (2 * S)) (drop (b * (d * (2 * S))) packets)) i;
        }
    pub now-count : length (packets_now s fresh helpers stand_ins area packets) ≡ packet_count s.sizes t
    pub now-place : (q : ℕ) → q ≤ packet_count s.sizes t → place_of s t q ≡ total (take q (packets_now s fresh helpers stand_ins area packets))
    pub now-end : place_of s t (packet_count s.sizes t) ≡ packets_len s t

-- an accepted step
module _ (s : Record) (p : Running) (area packets : List ℕ) (allowance : ℕ) where
  abbrev pub o : Outcome
  o = step_call s p area packets allowance

  -- "at most the number of packets the caller allows, fewer only where fewer are left"
  abbrev pub m : ℕ
  m = min allowance (packet_count s.sizes (length (fresh_of p)) - p.carried)

  pub record StepTaken : Type 0 where
    pub lain : (now : List ℕ) → Lain s (fresh_of p) (helpers_of s.sizes p) (stand_ins_of s.sizes p) area now
    -- "A step answers how many packets it carried"
    pub answers : o.answer ≡ said (Ok m)
    -- "Each packet carried is written at its place in the packet area": as it would be made of what lies there now
    pub written : (q : ℕ) → p.carried ≤ q → q < p.carried + m
        → let b = (get_or (packets_now s (fresh_of p) (helpers_of s.sizes p) (stand_ins_of s.sizes p) area o.packets) q blank).bytes in
        take (length b) (drop (place_of s (length (fresh_of p)) q) o.packets) ≡ b
    -- "and all other bytes there stay"
    pub as_long : length o.packets ≡ length packets
    pub stay : (x : ℕ) → (x < place_of s (length (fresh_of p)) p.carried) ⊎ (place_of s (length (fresh_of p)) (p.carried + m) ≤ x)
        → get_or o.packets x 0 ≡ get_or packets x 0
    -- before the last packet the store is as it came
    pub before : p.carried + m < packet_count s.sizes (length (fresh_of p))
        → (o.handed ≡ s) × (o.area ≡ area) × (o.running ≡ with_carried p (p.carried + m))
    -- "the last makes each fresh share the finished share of just the packets lying there", "and the fresh boards get their shares and enter service only with
    -- the last"
    pub last : p.carried + m ≡ packet_count s.sizes (length (fresh_of p))
        → (o.running ≡ idle) × (o.handed ≡ with_marks s (turn_on (fresh_of p) s.marks))
        × ((i : ℕ) → among (fresh_of p) i ≡ true
        → held s o.area i ≡ share_lying s (fresh_of p) (helpers_of s.sizes p) (stand_ins_of s.sizes p) o.packets i)
        × Stays s (fresh_of p) area o.area

pub record StepLaws : Type 0 where
  pub step-taken : (s : Record) (p : Running) (area packets : List ℕ) (allowance : ℕ) → (step_call s p area packets allowance).answer.refusal ≡ 0
      → StepTaken s p area packets allowance
  -- "An allowance of 0 moves nothing."
  pub none-moved : (s : Record) (p : Running) (area packets : List ℕ) → (step_call s p area packets 0).answer.refusal ≡ 0
      → step_call s p area packets 0 ≡ record { answer = said (Ok 0); handed = s; running = p; area = area; output = []; packets = packets }
  -- "A failure inside a step counts as one after a step allowed just the packets carried by then": a step is smaller ones, one after another. Where `a` packets are not the
  -- last, a step that allows a + b leaves, byte for byte, what one that allows a, and then on what that left one that allows b, leave; and it answers the packets of both
  pub in_parts : (s : Record) (p : Running) (area packets : List ℕ) (a b : ℕ) → (step_call s p area packets a).answer.refusal ≡ 0
      → p.carried + a < packet_count s.sizes (length (fresh_of p))
      → let o = step_call s p area packets a in let q = step_call s o.running o.area o.packets b in
      step_call s p area packets (a + b)
      ≡ record { answer = said (Ok (a + q.answer.reported)); handed = q.handed; running = q.running; area = q.area; output = []; packets = q.packets }
  -- "Losing a board named in the repair ends it, fresh boards out of service"; losing another does not
  pub loss-ends : (s : Record) (p : Running) (area : List ℕ) (board : ℕ) → p.running ≡ true → among (named_in s.sizes p) board ≡ true
      → (lose_both s p area board).answer.refusal ≡ 0
      → ((lose_both s p area board).running ≡ idle) × All (λ i. in_service (lose_both s p area board).handed i ≡ false) (fresh_of p)
  pub loss-goes-on : (s : Record) (p : Running) (area : List ℕ) (board : ℕ) → p.running ≡ true → among (named_in s.sizes p) board ≡ false
      → (lose_both s p area board).running ≡ p
