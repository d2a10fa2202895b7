-- Request A.5, the store: no call answers 11 POINTS, since the checks before it leave no input with two equal points in one interpolation.
-- proofs/Runs.antt has `store-runs : StoreRuns`.
-- Assumes nothing.
use Rattle.std.specs.Prelude.{◌≡◌, true, false, ◌≢◌, List, [], ◌∷◌, ◌++◌, map, ℕ, ◌-◌, ◌<◌, length, get_or, take, set, Ok}
use Rattle.lists.specs.Tests.{among, different}
use Rattle.lists.specs.Lists.{All, tabulate, concat, piece, without}
use Rattle.sizes.specs.declared.Sizes.{Sizes}
use Rattle.sizes.specs.Refusals.{first, store_order}
use Rattle.board_spec.specs.Runs.{equal_points, own_runs, finish_runs, read_runs, Within}
use Rattle.store_spec.specs.Record.{Record}
use Rattle.store_spec.specs.Packets.{stand_ins_each}
use Rattle.store_spec.specs.Calls.{repair_lines, read_lines}
use Rattle.store_spec.specs.Edit.{edit_lines}
use Rattle.store_spec.specs.Careful.{leaving, careful_lines}
use Rattle.store_spec.specs.Move.{moved_record, move_lines}

-- the boards at whose points a repair interpolates: each helper and each stand-in for its f and g, each fresh board for its own, where its partners are
-- its stand-ins and the other fresh boards
abbrev pub runs_of : Record → List ℕ → ℕ → List ℕ → List ℕ → List (List ℕ)
runs_of s fresh i helpers stand_ins =
    concat (map (own_runs s.sizes) (helpers ++ stand_ins)) ++ finish_runs i helpers (stand_ins ++ without i fresh)

abbrev pub repair_runs : Record → List ℕ → List ℕ → List ℕ → List (List ℕ)
repair_runs s fresh helpers stand_ins =
    concat (tabulate (length fresh) (λ a. runs_of s fresh (get_or fresh a 0) (piece s.sizes.d a helpers) (piece (stand_ins_each s fresh) a stand_ins)))

-- the interpolations for the a-th fresh board are among those of the repair: f and g of each of its helpers and stand-ins, its own g and f
pub record RepairAre (s : Record) (fresh helpers stand_ins : List ℕ) (a : ℕ) : Type 0 where
  pub own_in : (j : ℕ) → among (piece s.sizes.d a helpers ++ piece (s.sizes.r - length fresh) a stand_ins) j ≡ true
      → Within (own_runs s.sizes j) (repair_runs s fresh helpers stand_ins)
  pub finish-in : Within
      (finish_runs (get_or fresh a 0) (piece s.sizes.d a helpers) (piece (s.sizes.r - length fresh) a stand_ins ++ without (get_or fresh a 0) fresh))
      (repair_runs s fresh helpers stand_ins)

-- those of a careful read: of each try, of k boards where one is left out, those of a read
abbrev pub careful_runs : Sizes → List ℕ → List (List ℕ)
careful_runs z boards = concat (tabulate (length boards) (λ t. read_runs z (take z.k (leaving t boards))))

-- those of a move, at the points before it: each other board for its f and g; at the points after it they are those of a repair of the one board
abbrev pub afresh_runs : Sizes → ℕ → List (List ℕ)
afresh_runs z board = concat (map (own_runs z) (without board (tabulate z.n (λ i. i))))

pub record StoreRuns : Type 0 where
  pub repair-are : (s : Record) (fresh helpers stand_ins : List ℕ) (a : ℕ) → a < length fresh → RepairAre s fresh helpers stand_ins a
  pub repair-apart : (s : Record) (m : ℕ) (fresh helpers stand_ins : List ℕ)
      → first store_order (repair_lines s m fresh helpers stand_ins) ≡ Ok tt → equal_points s.points (repair_runs s fresh helpers stand_ins) ≡ false
  pub read-apart : (s : Record) (area boards output : List ℕ)
      → first store_order (read_lines s area boards output) ≡ Ok tt → equal_points s.points (read_runs s.sizes boards) ≡ false
  -- an edit decodes from its k boards as a read does
  pub edit-apart : (s : Record) (area : List ℕ) (offset : ℕ) (bytes boards : List ℕ)
      → first store_order (edit_lines s area offset bytes boards) ≡ Ok tt → equal_points s.points (read_runs s.sizes boards) ≡ false
  -- the tries of a careful read are among these, and none has two equal points; no more has a decoding from any others of its boards, in any order
  pub careful-are : (z : Sizes) (boards : List ℕ) (t : ℕ) → t < length boards → Within (read_runs z (take z.k (leaving t boards))) (careful_runs z boards)
  pub careful-apart : (s : Record) (area boards output : List ℕ)
      → first store_order (careful_lines s area boards output) ≡ Ok tt → equal_points s.points (careful_runs s.sizes boards) ≡ false
  pub careful-any-apart : (s : Record) (area boards output some : List ℕ)
      → first store_order (careful_lines s area boards output) ≡ Ok tt → different some ≡ true → All (λ i. among boards i ≡ true) some
      → equal_points s.points (read_runs s.sizes some) ≡ false
  -- request A.10: every other board's f and g are among those at the points before a move, and neither there nor at the points after it has one two equal points
  pub move-are : (z : Sizes) (board i : ℕ) → i < z.n → i ≢ board → Within (own_runs z i) (afresh_runs z board)
  pub move-apart : (s : Record) (m board point : ℕ) (helpers partners : List ℕ) → point < 256
      → first store_order (move_lines s m board point helpers partners) ≡ Ok tt
      → (equal_points s.points (afresh_runs s.sizes board) ≡ false)
      × (equal_points (set s.points board point) (repair_runs (moved_record s board point) (board ∷ []) helpers partners) ≡ false)
