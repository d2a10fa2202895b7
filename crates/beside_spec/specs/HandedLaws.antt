-- What a call changes in the two records, whatever the call: nothing where it is refused; else as many marks, points and entries as before. What each call
-- marks is in MarkLaws. proofs/HandedLaws.antt has `handed-laws : HandedLaws`.
-- Assumes nothing.
use Rattle.std.specs.Prelude.{◌≡◌, List, [], ◌∷◌, ℕ, ◌<◌, eqb, length, set}
use Rattle.lists.specs.Tests.{pick}
use Rattle.lists.specs.Lists.{Bytes}
use Rattle.sizes.specs.Sizing.{max_boards}
use Rattle.beside_spec.specs.Running.{Running, idle}
use Rattle.beside_spec.specs.Acting.{Call, move, State, act, output_of, packets_of_call, write, lose, repair, read, edit, start, step, careful}
use Rattle.sizes.specs.Refusals.{Said}

-- the board that an accepted call moves, and its new point; none but a move's
abbrev pub new_point : Call → Said → List (ℕ × ℕ)
new_point (write file) a = []
new_point (lose board) a = []
new_point (repair fresh helpers stand_ins) a = []
new_point (read boards output) a = []
new_point (edit offset bytes boards) a = []
new_point (start fresh helpers stand_ins) a = []
new_point (step allowance packets) a = []
new_point (careful boards output) a = []
new_point (move board point helpers partners) a = pick (eqb a.refusal 0) ((board, point) ∷ []) []

-- points of which some are moved, one after another
abbrev pub set_points : List ℕ → List (ℕ × ℕ) → List ℕ
set_points xs [] = xs
set_points xs (p ∷ ps) = set_points (set xs p.0 p.1) ps

-- a record of a repair has arrays of 32, 256 and 256 bytes
pub record Arrays (p : Running) : Type 0 where
  pub fresh-long : length p.fresh ≡ 32
  pub fresh-bytes : Bytes p.fresh
  pub helpers-long : length p.helpers ≡ 256
  pub helpers-bytes : Bytes p.helpers
  pub stand-ins-long : length p.stand_ins ≡ 256
  pub stand-ins-bytes : Bytes p.stand_ins

pub record HandedLaws : Type 0 where
  -- a call's new point is that of an accepted move, once, and of all other calls there is none
  pub new-one : (board point : ℕ) (helpers partners : List ℕ) (a : Said) → a.refusal ≡ 0 → new_point (move board point helpers partners) a ≡ (board, point) ∷ []
  pub new_none : (call : Call) (a : Said) → (a.refusal ≡ 0 → ⊥) → new_point call a ≡ []
  -- whatever the call, with both records: a refused one leaves both, area, output and packet area as they came, and one on 32 marks hands on 32
  pub refused-keeps : (w : State) (call : Call) → ((act w call).answer.refusal ≡ 0 → ⊥)
      → act w call ≡ record { answer = (act w call).answer; handed = w.kept; running = w.running; area = w.area; output = output_of call; packets = packets_of_call call }
  pub full-marks : (w : State) (call : Call) → length w.kept.marks ≡ max_boards
      → length (act w call).handed.marks ≡ max_boards
  -- request A.8: so it is with the arrays of the record beside
  pub arrays-stay : (w : State) (call : Call) → Arrays w.running → Arrays (act w call).running
  pub arrays-idle : Arrays idle
  -- request A.9, and A.10: the points are those of the set-up but for the boards that were moved since; 32 of them stay 32, and with new points that are bytes, bytes
  -- stay bytes
  pub points-are : (w : State) (call : Call) → (act w call).handed.points ≡ set_points w.kept.points (new_point call (act w call).answer)
  pub full-points : (w : State) (call : Call) → length (act w call).handed.points ≡ length w.kept.points
  pub byte-points : (w : State) (call : Call) → ((board point : ℕ) (helpers partners : List ℕ) → call ≡ move board point helpers partners → point < 256)
      → Bytes w.kept.points → Bytes (act w call).handed.points
