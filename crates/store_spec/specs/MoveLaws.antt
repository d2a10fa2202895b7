-- Request A.10, 'To the present points with the robot running': what an accepted move does over any record and any area, what it makes of true shares,
-- and one move of the turn of all boards; the turn whole is in crate list_spec. proofs/MoveLaws.antt has `move-laws : MoveLaws`.
-- Assumes nothing.
use Rattle.std.specs.Prelude.{◌≡◌, true, false, ◌≢◌, ◌↔◌, ◌⊎◌, List, [], ◌∷◌, ◌++◌, map, ℕ, suc, ◌+◌, ◌-◌, ◌*◌, ◌<◌, length, take, set, Ok}
use Rattle.lists.specs.Tests.{among, below, different, every}
use Rattle.lists.specs.Lists.{All, Bytes, joined}
use Rattle.sizes.specs.declared.Sizes.{Sizes}
use Rattle.sizes.specs.Sizing.{legal}
use Rattle.sizes.specs.declared.Refusal.TheVariants.{Count, Node, Repeat}
use Rattle.sizes.specs.Refusals.{said, applies_in}
use Rattle.mbcr.specs.Share.{standard, share}
use Rattle.mbcr.specs.TurnLaws.{turned}
use Rattle.mbcr.specs.Rebuild.{seconds, helper_packet, stand_in_packet, finished_share}
use Rattle.mbcr.specs.Afresh.{share_afresh}
use Rattle.mbcr.specs.AfreshLaws.{pairs_at}
use Rattle.store_spec.specs.Record.{Record, in_service, sound, stripe_count, area_len, held, written_record, new_record}
use Rattle.store_spec.specs.Packets.{total}
use Rattle.store_spec.specs.Calls.{list_lines, write_call}
use Rattle.store_spec.specs.Move.{all_boards, moved_record, afresh, move_packets, move_lines, move_call}
use Rattle.store_spec.specs.Demand1.{Stays}

-- An accepted move, over any record and any area. `ys` are the points after it.
pub record Moved (s : Record) (area : List ℕ) (board point : ℕ) (helpers partners ys : List ℕ) : Type 0 where
  pub points-are : ys ≡ set s.points board point
  -- the record has the new point; all else in it, and so every mark, is as it was
  pub record_is : (move_call s area board point helpers partners).handed
      ≡ record { sizes = s.sizes; points = ys; capacity = s.capacity; written = s.written; length = s.length; marks = s.marks }
  -- "the bytes reported are those of a repair of one board": the summed length of its packets
  pub moved : (move_call s area board point helpers partners).answer ≡ said (Ok (total (move_packets s area board point helpers partners)))
  pub moved-is : total (move_packets s area board point helpers partners) ≡ stripe_count s * (2 * s.sizes.d + s.sizes.r - 1)
  -- "Every other board works out its own kept values afresh from f and g": board i, from what it held before
  pub afresh-is : (i : ℕ) → afresh s area board point i ≡ share_afresh s.sizes s.points ys (stripe_count s) i (held s area i)
  pub others-have : (i : ℕ) → i < s.sizes.n → i ≢ board → held s (move_call s area board point helpers partners).area i ≡ afresh s area board point i
  -- its packets: each helper's, then each partner's, "partners sending as stand-ins do"; they are the board-level packets at the new points
  pub packets-are : move_packets s area board point helpers partners
      ≡ map (λ j. record { sender = j; receiver = board; bytes = helper_packet s.sizes ys (stripe_count s) j board (afresh s area board point j) }) helpers
      ++ map (λ j. record { sender = j; receiver = board; bytes = stand_in_packet s.sizes ys (stripe_count s) j board (afresh s area board point j) }) partners
  -- "Over any bytes in the area the board's share at its new point is the finished share of just its packets"
  pub has : held s (move_call s area board point helpers partners).area board
      ≡ finished_share s.sizes ys (stripe_count s) board
      helpers (joined (λ j. helper_packet s.sizes ys (stripe_count s) j board (afresh s area board point j)) helpers)
      partners (joined (λ j. stand_in_packet s.sizes ys (stripe_count s) j board (afresh s area board point j)) partners)
  -- the packets are f and g of what the senders held before, at the new byte: no sender has to work afresh first
  pub packets-at : Bytes area
      → (joined (λ j. helper_packet s.sizes ys (stripe_count s) j board (afresh s area board point j)) helpers
      ≡ joined (λ j. pairs_at s.sizes s.points (stripe_count s) j point (held s area j)) helpers)
      × (joined (λ j. stand_in_packet s.sizes ys (stripe_count s) j board (afresh s area board point j)) partners
      ≡ joined (λ j. seconds (stripe_count s) (pairs_at s.sizes s.points (stripe_count s) j point (held s area j))) partners)
  -- "Other bytes stay": only the first S stripes change
  pub stays : Stays s (all_boards s) area (move_call s area board point helpers partners).area

pub record MoveLaws : Type 0 where
  -- "Lists and marks are checked as in a repair of one board": COUNT and NODE hold where they do there, and, with lists of the right lengths, REPEAT does
  -- where it does there or the new byte is some board's point
  pub as-in-a-repair : (s : Record) (m board point : ℕ) (helpers partners : List ℕ) → legal s.sizes ≡ true
      → (applies_in (move_lines s m board point helpers partners) Count ≡ applies_in (list_lines s (board ∷ []) helpers partners) Count)
      × (applies_in (move_lines s m board point helpers partners) Node ≡ applies_in (list_lines s (board ∷ []) helpers partners) Node)
      × (applies_in (move_lines s m board point helpers partners) Count ≡ false
      → (applies_in (move_lines s m board point helpers partners) Repeat ≡ true)
      ↔ ((applies_in (list_lines s (board ∷ []) helpers partners) Repeat ≡ true) ⊎ (among (take s.sizes.n s.points) point ≡ true)))
  pub moved : (s : Record) (area : List ℕ) (board point : ℕ) (helpers partners : List ℕ) → point < 256
      → (move_call s area board point helpers partners).answer.refusal ≡ 0
      → Moved s area board point helpers partners (set s.points board point)
  -- where each board holds its share, each board then holds its share at the new points
  pub move-true : (s : Record) (area : List ℕ) (board point : ℕ) (helpers partners file : List ℕ) → point < 256
      → (move_call s area board point helpers partners).answer.refusal ≡ 0
      → length file ≡ s.length → Bytes file
      → ((i : ℕ) → i < s.sizes.n → held s area i ≡ share s.sizes s.points file i)
      → (i : ℕ) → i < s.sizes.n
      → held s (move_call s area board point helpers partners).area i ≡ share s.sizes (set s.points board point) file i
  -- of each other board by itself, over any bytes: it then holds its share exactly where it held it before; and the moved board does where those that it names did
  pub other-true : (s : Record) (area : List ℕ) (board point : ℕ) (helpers partners file : List ℕ) → point < 256
      → (move_call s area board point helpers partners).answer.refusal ≡ 0
      → length file ≡ s.length → Bytes file → Bytes area
      → (i : ℕ) → i < s.sizes.n → i ≢ board
      → (held s (move_call s area board point helpers partners).area i ≡ share s.sizes (set s.points board point) file i)
      ↔ (held s area i ≡ share s.sizes s.points file i)
  pub named-true : (s : Record) (area : List ℕ) (board point : ℕ) (helpers partners file : List ℕ) → point < 256
      → (move_call s area board point helpers partners).answer.refusal ≡ 0
      → length file ≡ s.length → Bytes file
      → All (λ j. held s area j ≡ share s.sizes s.points file j) (helpers ++ partners)
      → held s (move_call s area board point helpers partners).area board ≡ share s.sizes (set s.points board point) file board
  -- and its first S stripes are what a write of the file on the record handed on gives, over whatever area
  pub as_written : (s : Record) (area : List ℕ) (board point : ℕ) (helpers partners file any : List ℕ) → point < 256
      → (move_call s area board point helpers partners).answer.refusal ≡ 0
      → length file ≡ s.length → Bytes file
      → ((i : ℕ) → i < s.sizes.n → held s area i ≡ share s.sizes s.points file i)
      → length any ≡ area_len s
      → ((write_call (moved_record s board point) any file).answer.refusal ≡ 0)
      × ((i : ℕ) → i < s.sizes.n
      → held s (move_call s area board point helpers partners).area i
      ≡ held (written_record (moved_record s board point) (length file)) (write_call (moved_record s board point) any file).area i)
  -- each new byte of the turn is free when its turn comes: with all boards in service and lists that a repair of one board takes, the move is
  -- accepted; and the last leaves document 01's points
  pub turn-taken : (s : Record) (area : List ℕ) (i : ℕ) (helpers partners : List ℕ) → sound s ≡ true → s.points ≡ turned s.sizes i
      → length area ≡ area_len s → s.written ≡ true
      → length helpers ≡ s.sizes.d → length partners ≡ s.sizes.r - 1
      → below s.sizes.n (i ∷ (helpers ++ partners)) ≡ true → different (i ∷ (helpers ++ partners)) ≡ true
      → every (in_service s) (all_boards s) ≡ true
      → ((move_call s area i i helpers partners).answer.refusal ≡ 0) × ((move_call s area i i helpers partners).handed.points ≡ turned s.sizes (suc i))
  pub turn-ends : (z : Sizes) → turned z z.n ≡ standard z
  -- "if each board holds its share before the last move, the first S stripes of every board then equal what a fresh write of the file gives": in a store newly
  -- set up at document 01's points, over whatever area
  pub turn-written : (s : Record) (area : List ℕ) (i : ℕ) (helpers partners file any : List ℕ) → s.points ≡ turned s.sizes i → suc i ≡ s.sizes.n
      → (move_call s area i i helpers partners).answer.refusal ≡ 0
      → length file ≡ s.length → Bytes file
      → ((j : ℕ) → j < s.sizes.n → held s area j ≡ share s.sizes s.points file j)
      → length any ≡ area_len s
      → let fresh = new_record s.sizes (standard s.sizes) s.capacity in
      ((write_call fresh any file).answer.refusal ≡ 0)
      × ((j : ℕ) → j < s.sizes.n
      → held s (move_call s area i i helpers partners).area j ≡ held (written_record fresh (length file)) (write_call fresh any file).area j)
