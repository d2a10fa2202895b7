-- Every store call as data, with both records: what it is given, and what the store does.
-- Assumes nothing.
use Rattle.std.specs.Prelude.{ℕ, List, []}
use Rattle.store_spec.specs.Record.{Record}
use Rattle.beside_spec.specs.Running.{Running}
use Rattle.beside_spec.specs.Both.{Outcome, write_both, lose_both, repair_both, read_both, edit_both, careful_both, move_both, start_call, step_call}

-- "writes, losses, repairs and reads", and from request A.6 on "every store call that a request adds": a call with its arguments other than
-- record and area. A step's packet area is lent with it; the ledger looks at its length alone.
pub data Call : Type 0 where
  write : (file : List ℕ) → Call
  lose : (board : ℕ) → Call
  repair : (fresh helpers stand_ins : List ℕ) → Call
  read : (boards output : List ℕ) → Call
  edit : (offset : ℕ) (bytes boards : List ℕ) → Call
  start : (fresh helpers stand_ins : List ℕ) → Call
  step : (allowance : ℕ) (packets : List ℕ) → Call
  careful : (boards output : List ℕ) → Call
  move : (board point : ℕ) (helpers partners : List ℕ) → Call

-- the output that a call was lent; none but a read's, a careful one's too
abbrev pub output_of : Call → List ℕ
output_of (write file) = []
output_of (lose board) = []
output_of (repair fresh helpers stand_ins) = []
output_of (read boards output) = output
output_of (edit offset bytes boards) = []
output_of (start fresh helpers stand_ins) = []
output_of (step allowance packets) = []
output_of (careful boards output) = output
output_of (move board point helpers partners) = []

-- the packet area that a call was lent; none but a step's
abbrev pub packets_of_call : Call → List ℕ
packets_of_call (write file) = []
packets_of_call (lose board) = []
packets_of_call (repair fresh helpers stand_ins) = []
packets_of_call (read boards output) = []
packets_of_call (edit offset bytes boards) = []
packets_of_call (start fresh helpers stand_ins) = []
packets_of_call (step allowance packets) = packets
packets_of_call (careful boards output) = []
packets_of_call (move board point helpers partners) = []

-- the two records that the last call handed on, the area, and the packet area as the last accepted step left it
pub record State : Type 0 where
  pub kept : Record
  pub running : Running
  pub area : List ℕ
  pub packets : List ℕ

unfoldable pub act : State → Call → Outcome
act w (write file) = write_both w.kept w.running w.area file
act w (lose board) = lose_both w.kept w.running w.area board
act w (repair fresh helpers stand_ins) = repair_both w.kept w.running w.area fresh helpers stand_ins
act w (read boards output) = read_both w.kept w.running w.area boards output
act w (edit offset bytes boards) = edit_both w.kept w.running w.area offset bytes boards
act w (start fresh helpers stand_ins) = start_call w.kept w.running w.area fresh helpers stand_ins
act w (step allowance packets) = step_call w.kept w.running w.area packets allowance
act w (careful boards output) = careful_both w.kept w.running w.area boards output
act w (move board point helpers partners) = move_both w.kept w.running w.area board point helpers partners
