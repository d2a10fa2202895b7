-- What an accepted repair does, over any record and any area. proofs/RepairLaws.antt has `repair-laws : RepairLaws`.
-- Assumes nothing.
use Rattle.std.specs.Prelude.{ℕ, ◌+◌, ◌-◌, ◌*◌, ◌<◌, ◌≡◌, true, false, List, ◌++◌, length, take, drop, get_or, Ok}
use Rattle.lists.specs.Tests.{among}
use Rattle.lists.specs.Lists.{joined, without, All}
use Rattle.sizes.specs.Refusals.{said}
use Rattle.mbcr.specs.Rebuild.{helper_packet, stand_in_packet, exchange_packet, finished_share}
use Rattle.store_spec.specs.Record.{Record, stripe_count, held, in_service}
use Rattle.store_spec.specs.Packets.{sent_to, senders_of, contents, total, helper_packets, stand_in_packets, exchange_packets, repair_packets, fresh_share}
use Rattle.store_spec.specs.Calls.{repair_call}

-- An accepted repair, over any record and any area.
pub record Repaired (s : Record) (area fresh helpers stand_ins : List ℕ) : Type 0 where
  -- "the bytes moved, the summed length of all packets"; request A.3: "the report is S × t × (2d + r − 1)"
  pub moved : (repair_call s area fresh helpers stand_ins).answer ≡ said (Ok (total (repair_packets s area fresh helpers stand_ins)))
  pub moved-is : total (repair_packets s area fresh helpers stand_ins) ≡ stripe_count s * length fresh * (2 * s.sizes.d + s.sizes.r - 1)
  -- the packets are those of the helpers, of the stand-ins, and those that fresh boards exchange, which the fresh shares are made of: stand-ins and
  -- other fresh boards are the partners
  pub packets-are : repair_packets s area fresh helpers stand_ins
      ≡ helper_packets s area fresh helpers ++ (stand_in_packets s area fresh stand_ins ++ exchange_packets s area fresh helpers)
  pub shares-are : (i : ℕ) → fresh_share s area fresh helpers stand_ins i
      ≡ finished_share s.sizes s.points (stripe_count s) i
      (senders_of (sent_to i (helper_packets s area fresh helpers))) (contents (sent_to i (helper_packets s area fresh helpers)))
      (senders_of (sent_to i (stand_in_packets s area fresh stand_ins)) ++ senders_of (sent_to i (exchange_packets s area fresh helpers)))
      (contents (sent_to i (stand_in_packets s area fresh stand_ins)) ++ contents (sent_to i (exchange_packets s area fresh helpers)))
  -- the a-th fresh board's helpers are the a-th run of d, its stand-ins the a-th run of r − t, its other partners the other fresh boards
  pub helpers-are : (a : ℕ) → a < length fresh
      → senders_of (sent_to (get_or fresh a 0) (helper_packets s area fresh helpers)) ≡ take s.sizes.d (drop (a * s.sizes.d) helpers)
  pub stand-ins-are : (a : ℕ) → a < length fresh
      → senders_of (sent_to (get_or fresh a 0) (stand_in_packets s area fresh stand_ins))
      ≡ take (s.sizes.r - length fresh) (drop (a * (s.sizes.r - length fresh)) stand_ins)
  pub partners-are : (i : ℕ) → among fresh i ≡ true → senders_of (sent_to i (exchange_packets s area fresh helpers)) ≡ without i fresh
  -- "these are the board-level packets of its senders": a helper's and a stand-in's from what it holds, a fresh partner's from its own helper packets
  pub helpers-send : (i : ℕ) → among fresh i ≡ true → contents (sent_to i (helper_packets s area fresh helpers))
      ≡ joined (λ j. helper_packet s.sizes s.points (stripe_count s) j i (held s area j)) (senders_of (sent_to i (helper_packets s area fresh helpers)))
  pub stand-ins-send : (i : ℕ) → among fresh i ≡ true → contents (sent_to i (stand_in_packets s area fresh stand_ins))
      ≡ joined (λ j. stand_in_packet s.sizes s.points (stripe_count s) j i (held s area j)) (senders_of (sent_to i (stand_in_packets s area fresh stand_ins)))
  pub partners-send : (i : ℕ) → among fresh i ≡ true → contents (sent_to i (exchange_packets s area fresh helpers))
      ≡ joined
      (λ m. exchange_packet s.sizes s.points (stripe_count s) (senders_of (sent_to m (helper_packets s area fresh helpers)))
      (contents (sent_to m (helper_packets s area fresh helpers))) i)
      (without i fresh)
  -- "every fresh board gets exactly 2d + r − 1 bytes per stripe"
  pub gets : (i : ℕ) → among fresh i ≡ true
      → total (sent_to i (repair_packets s area fresh helpers stand_ins)) ≡ stripe_count s * (2 * s.sizes.d + s.sizes.r - 1)
  -- "and, over any area, then holds what document 01's steps make of them": the finished share of just the packets sent to it
  pub has : (i : ℕ) → among fresh i ≡ true → held s (repair_call s area fresh helpers stand_ins).area i ≡ fresh_share s area fresh helpers stand_ins i

pub record RepairLaws : Type 0 where
  pub repaired : (s : Record) (area fresh helpers stand_ins : List ℕ) → (repair_call s area fresh helpers stand_ins).answer.refusal ≡ 0 → Repaired s area fresh helpers stand_ins
  -- no board in service is rebuilt
  pub fresh-out : (s : Record) (area fresh helpers stand_ins : List ℕ) → (repair_call s area fresh helpers stand_ins).answer.refusal ≡ 0
      → All (λ i. in_service s i ≡ false) fresh
