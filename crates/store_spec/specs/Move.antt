-- Request A.10, 'To the present points with the robot running': a call that moves one board to a new byte, as a total function like the other calls.
-- Assumes nothing.
use Rattle.std.specs.Prelude.{ℕ, ◌-◌, not, List, [], ◌∷◌, ◌++◌, eqb, length, take, set}
use Rattle.lists.specs.Tests.{alls, among, different}
use Rattle.lists.specs.Lists.{tabulate, without}
use Rattle.sizes.specs.declared.Refusal.TheVariants.{Count, Repeat}
use Rattle.sizes.specs.Refusals.{Line, ◌when◌, first, store_order}
use Rattle.mbcr.specs.Afresh.{share_afresh}
use Rattle.board_spec.specs.Calls.{node_line}
use Rattle.store_spec.specs.Record.{Record, stripe_count, held, put_shares}
use Rattle.store_spec.specs.Packets.{Packet, total, repair_packets, fresh_share}
use Rattle.store_spec.specs.Calls.{StoreOutcome, accepted, refused, settle, record_line, lent_line, empty_line, down_line}

abbrev pub all_boards : Record → List ℕ
all_boards s = tabulate s.sizes.n (λ i. i)

-- the record with the board at its new byte; the board stays in service
abbrev pub moved_record : Record → ℕ → ℕ → Record
moved_record s board point =
    record { sizes = s.sizes; points = set s.points board point; capacity = s.capacity; written = s.written; length = s.length; marks = s.marks }

module _ (s : Record) (area : List ℕ) (board point : ℕ) where
  -- "Every other board works out its own kept values afresh from f and g, without the bus": what board i then holds
  unfoldable pub afresh : ℕ → List ℕ
  afresh i = share_afresh s.sizes s.points (set s.points board point) (stripe_count s) i (held s area i)

  unfoldable pub afresh_area : List ℕ
  afresh_area = put_shares s afresh (without board (all_boards s)) area

  module _ (helpers partners : List ℕ) where
    -- "the finished share of just its packets, partners sending as stand-ins do": the packets of a repair of this one board at the new points
    unfoldable pub move_packets : List Packet
    move_packets = repair_packets (moved_record s board point) afresh_area (board ∷ []) helpers partners

    unfoldable pub moved_share : ℕ → List ℕ
    moved_share = fresh_share (moved_record s board point) afresh_area (board ∷ []) helpers partners

-- "Lists and marks are checked as in a repair of one board, .. SERVING left out; any board out of service is DOWN. A new byte that is some board's point,
-- its own included, is REPEAT."
unfoldable pub move_lines : Record → ℕ → ℕ → ℕ → List ℕ → List ℕ → List Line
move_lines s m board point helpers partners =
    record_line s
    ∷ lent_line s m
    ∷ empty_line s
    ∷ Count when not (alls (eqb (length helpers) s.sizes.d ∷ eqb (length partners) (s.sizes.r - 1) ∷ []))
    ∷ node_line s.sizes (board ∷ (helpers ++ partners))
    ∷ Repeat when not (alls (different (board ∷ (helpers ++ partners)) ∷ not (among (take s.sizes.n s.points) point) ∷ []))
    ∷ down_line s (all_boards s)
    ∷ []

-- "the bytes reported are those of a repair of one board"
abbrev pub move_done : Record → List ℕ → ℕ → ℕ → List ℕ → List ℕ → StoreOutcome
move_done s area board point helpers partners =
    accepted (total (move_packets s area board point helpers partners)) (moved_record s board point)
    (put_shares s (moved_share s area board point helpers partners) (board ∷ []) (afresh_area s area board point)) []

unfoldable pub move_call : Record → List ℕ → ℕ → ℕ → List ℕ → List ℕ → StoreOutcome
move_call s area board point helpers partners =
    settle (first store_order (move_lines s (length area) board point helpers partners)) (refused s area []) (move_done s area board point helpers partners)
