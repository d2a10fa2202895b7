-- Figures of requests A.10 and A.11 beside a stepped repair: a list with careful reads, moves, an edit and a power failure, with the replies of ledger and
-- store written out. proofs/MixFigures.antt has `mix-figures`.
-- Assumes nothing.
use Rattle.std.specs.Prelude.{◌≡◌, List, [], ◌∷◌, ℕ, replicate}
use Rattle.mbcr.specs.PointLaws.{first_series}
use Rattle.sizes.specs.declared.Sizes.{Sizes}
use Rattle.store_spec.specs.Record.{new_record}
use Rattle.beside_spec.specs.Running.{idle}
use Rattle.beside_spec.specs.Acting.{Call, write, lose, read, edit, start, step, careful, move, State}
use Rattle.ledger_spec.specs.Ledger.{Event, call, power_fails, Reply, Book, open_book, replies, book_replies}
use Rattle.ledger_spec.specs.Demand3.{begun, events}
use Rattle.ledger_spec.specs.Premises.{unaltered}

abbrev reply : ℕ → ℕ → List ℕ → Reply
reply refusal value output = record { answer = record { refusal = refusal; reported = value }; output = output }

-- n=4, k=1, d=1, r=2, at the points of the first series: one fresh board is told two packets of 3 bytes in all
abbrev four : Sizes
four = record { n = 4; k = 1; d = 1; r = 2 }

abbrev pub newly : State
newly = begun (new_record four (first_series four) 1) idle four (first_series four) 1 (replicate 12 0x55)

abbrev pub opened : Book
opened = open_book four (first_series four) 1 12

abbrev one : Call
one = start (3 ∷ []) (0 ∷ []) (1 ∷ [])

abbrev first : Call
first = move 0 0 (1 ∷ []) (2 ∷ [])

abbrev change : Call
change = edit 1 (7 ∷ []) (0 ∷ [])

abbrev pub happened : List Event
happened =
    call (write (1 ∷ 2 ∷ 3 ∷ []))
    ∷ call (lose 3)
    ∷ call one
    ∷ call (step 1 (replicate 3 0xEE))
    ∷ call (careful (0 ∷ 1 ∷ 2 ∷ []) (replicate 4 0x77))
    ∷ call first
    ∷ call change
    ∷ power_fails idle
    ∷ call first
    ∷ call change
    ∷ call one
    ∷ call (step 9 (replicate 3 0xEE))
    ∷ call first
    ∷ call first
    ∷ call (careful (3 ∷ 0 ∷ 1 ∷ []) (replicate 3 0x77))
    ∷ call (read (0 ∷ []) (replicate 3 0x77))
    ∷ []

-- a careful read goes on during a repair, a move is BUSY; then board 3 is DOWN; then the move reports 3 bytes, and 00 is board 0's own point: REPEAT
abbrev pub told : List Reply
told =
    reply 0 0 []
    ∷ reply 0 0 []
    ∷ reply 0 0 []
    ∷ reply 0 1 []
    ∷ reply 0 0 (1 ∷ 2 ∷ 3 ∷ 0x77 ∷ [])
    ∷ reply 16 0 []
    ∷ reply 16 0 []
    ∷ reply 9 0 []
    ∷ reply 0 0 []
    ∷ reply 0 0 []
    ∷ reply 0 2 []
    ∷ reply 0 3 []
    ∷ reply 6 0 []
    ∷ reply 0 0 (1 ∷ 7 ∷ 3 ∷ [])
    ∷ reply 0 0 (1 ∷ 7 ∷ 3 ∷ [])
    ∷ []

pub record MixFigures : Type 0 where
  pub store-replies : replies newly (unaltered newly opened happened) ≡ told
  pub book-replies : book_replies opened (events (unaltered newly opened happened)) ≡ told
