-- Request A.11, 'A board that answers wrongly': a careful read of k + 2 boards, as a total function like the other calls.
-- Assumes nothing.
use Rattle.std.specs.Prelude.{ℕ, zero, suc, ◌+◌, Bool, not, List, [], ◌∷◌, ◌++◌, leb, ltb, eqb, length, take}
use Rattle.std.proofs.Math.Option.{Option, some, none}
use Rattle.lists.specs.Tests.{pick, alls, different, same, given}
use Rattle.lists.specs.Lists.{tabulate, over}
use Rattle.sizes.specs.declared.Refusal.TheVariants.{Count, Repeat, Short, Disagree}
use Rattle.sizes.specs.Refusals.{Line, ◌when◌, first, store_order}
use Rattle.mbcr.specs.Share.{share}
use Rattle.board_spec.specs.Calls.{file_of, node_line}
use Rattle.store_spec.specs.Record.{Record, held}
use Rattle.store_spec.specs.Calls.{StoreOutcome, accepted, refused, settle, record_line, lent_line, empty_line, down_line, file_held}

-- those of a list that pass a test
abbrev pub those : (ℕ → Bool) → List ℕ → List ℕ
those p [] = []
those p (x ∷ l) = pick (p x) (x ∷ []) [] ++ those p l

-- the list without its element t, counted from 0
abbrev pub leaving : ℕ → List ℕ → List ℕ
leaving t [] = []
leaving zero (x ∷ l) = l
leaving (suc t) (x ∷ l) = x ∷ leaving t l

-- the first file that there is
abbrev pub first_file : List (Option (List ℕ)) → Option (List ℕ)
first_file [] = none
first_file (none ∷ files) = first_file files
first_file (some file ∷ files) = some file

module _ (s : Record) (area : List ℕ) where
  -- board i holds its share of the file, all S stripes of it
  abbrev pub holds_share : List ℕ → ℕ → Bool
  holds_share file i = same (held s area i) (share s.sizes s.points file i)

  -- the boards that a file's shares agree with, and the odd ones
  abbrev pub agreeing : List ℕ → List ℕ → List ℕ
  agreeing file boards = those (holds_share file) boards

  abbrev pub odd : List ℕ → List ℕ → List ℕ
  odd file boards = those (λ i. not (holds_share file i)) boards

  -- a file "whose shares agree with at least k + 1 of them"
  abbrev pub qualifying : List ℕ → Option (List ℕ) → Option (List ℕ)
  qualifying boards none = none
  qualifying boards (some file) = pick (leb (s.sizes.k + 1) (length (agreeing file boards))) (some file) none

  -- "the file of length L whose shares agree with at least k + 1 of them": where one board is left out, the file of the first k of the others
  unfoldable pub careful_file : List ℕ → Option (List ℕ)
  careful_file boards = first_file (tabulate (length boards) (λ t. qualifying boards (file_held s area (take s.sizes.k (leaving t boards)))))

-- "the odd board's number or none": 0 for none, else the number plus 1
abbrev pub odd_report : List ℕ → ℕ
odd_report [] = 0
odd_report (i ∷ boards) = suc i

-- "Where k + 2 exceeds n, COUNT." All else is asked as in a read
unfoldable pub careful_lines : Record → List ℕ → List ℕ → List ℕ → List Line
careful_lines s area boards output =
    record_line s
    ∷ lent_line s (length area)
    ∷ empty_line s
    ∷ Count when not (alls (leb (s.sizes.k + 2) s.sizes.n ∷ eqb (length boards) (s.sizes.k + 2) ∷ []))
    ∷ node_line s.sizes boards
    ∷ Repeat when not (different boards)
    ∷ down_line s boards
    ∷ Short when ltb (length output) s.length
    ∷ Disagree when not (given (careful_file s area boards))
    ∷ []

-- the file goes to the first L bytes of the output, as in a read; record and area stay, and with them the odd board's mark
abbrev pub careful_done : Record → List ℕ → List ℕ → List ℕ → StoreOutcome
careful_done s area boards output =
    let file = file_of (careful_file s area boards) in
    accepted (odd_report (odd s area file boards)) s area (over file output)

unfoldable pub careful_call : Record → List ℕ → List ℕ → List ℕ → StoreOutcome
careful_call s area boards output =
    settle (first store_order (careful_lines s area boards output)) (refused s area output) (careful_done s area boards output)
