-- Request A.6, the edit: "an offset, the new bytes and k boards in service to read from", as a total function like the calls of Calls.antt.
-- Assumes nothing.
use Rattle.std.specs.Prelude.{ℕ, ◌+◌, not, List, [], ◌∷◌, ltb, eqb, length}
use Rattle.lists.specs.Tests.{different, given}
use Rattle.lists.specs.Lists.{put}
use Rattle.sizes.specs.declared.Refusal.TheVariants.{Range, Count, Repeat, Disagree}
use Rattle.sizes.specs.Refusals.{Line, ◌when◌, first, store_order}
use Rattle.polynomial.specs.Polynomial.{plus}
use Rattle.mbcr.specs.Share.{share}
use Rattle.board_spec.specs.Calls.{file_of, node_line}
use Rattle.store_spec.specs.Record.{Record, serving, held, put_shares}
use Rattle.store_spec.specs.Calls.{StoreOutcome, settle, accepted, refused, record_line, lent_line, empty_line, down_line, file_held}

-- "15 RANGE, offset plus count beyond L, after 8; the read's own checks follow, without 7"
unfoldable pub edit_lines : Record → List ℕ → ℕ → List ℕ → List ℕ → List Line
edit_lines s area offset bytes boards =
    record_line s
    ∷ lent_line s (length area)
    ∷ empty_line s
    ∷ Range when ltb s.length (offset + length bytes)
    ∷ Count when not (eqb (length boards) s.sizes.k)
    ∷ node_line s.sizes boards
    ∷ Repeat when not (different boards)
    ∷ down_line s boards
    ∷ Disagree when not (given (file_held s area boards))
    ∷ []

-- "old against new bytes": the exclusive or of the file with the edited one, 00 outside the edit
abbrev pub change : List ℕ → ℕ → List ℕ → List ℕ
change file offset bytes = plus file (put file offset bytes)

-- "each board in service receives the exclusive or of its share with the share of old against new bytes": of what it holds, over any bytes
abbrev pub edited_share : Record → List ℕ → List ℕ → ℕ → List ℕ → ℕ → List ℕ
edited_share s area file offset bytes i = plus (held s area i) (share s.sizes s.points (change file offset bytes) i)

-- the old bytes are those of the file that the k boards hold; nothing is reported
abbrev pub edit_done : Record → List ℕ → ℕ → List ℕ → List ℕ → StoreOutcome
edit_done s area offset bytes boards =
    accepted 0 s (put_shares s (edited_share s area (file_of (file_held s area boards)) offset bytes) (serving s) area) []

unfoldable pub edit_call : Record → List ℕ → ℕ → List ℕ → List ℕ → StoreOutcome
edit_call s area offset bytes boards =
    settle (first store_order (edit_lines s area offset bytes boards)) (refused s area []) (edit_done s area offset bytes boards)
