-- Figures of the ledger: a list of calls, refused and accepted, with the replies written out; the store's replies to the same calls, with bytes
-- of lost boards altered between them; the book after them. proofs/LedgerFigures.antt has `ledger-figures`.
-- Assumes nothing.
use Rattle.std.specs.Prelude.{◌≡◌, List, [], ◌∷◌, ◌++◌, ℕ, replicate}
use Rattle.std.proofs.Math.Option.{some, none}
use Rattle.mbcr.specs.Share.{standard}
use Rattle.store_spec.specs.Record.{new_record}
use Rattle.beside_spec.specs.Running.{idle}
use Rattle.beside_spec.specs.Acting.{Call, write, lose, repair, read, State}
use Rattle.ledger_spec.specs.Ledger.{call, Reply, Book, Step, Allowed, open_book, replies, book_replies, book_final}
use Rattle.ledger_spec.specs.Demand3.{begun, events}
use Rattle.store_spec.specs.FurtherFigures.{five, five_file, helpers}

-- what is replied: the refusal's number or 0, the number reported, all bytes of the output
abbrev reply : ℕ → ℕ → List ℕ → Reply
reply refusal value output = record { answer = record { refusal = refusal; reported = value }; output = output }

abbrev step : List ℕ → Call → Step
step lent c = record { area = lent; event = call c }

-- five boards of one stripe, at five points that are not their numbers. Boards 0 and 1 are lost and spoiled, rebuilt; board 1 is lost again and
-- spoiled, rebuilt alone with a stand-in, and lost and spoiled once more.
abbrev points5 : List ℕ
points5 = 0x05 ∷ 0xFF ∷ 0x80 ∷ 0x1D ∷ 0x02 ∷ replicate 27 0

abbrev blank : List ℕ
blank = replicate 35 0xEE

abbrev pub start : State
start = begun (new_record five (standard five) 1) idle five points5 1 blank

abbrev pub opened : Book
opened = open_book five points5 1 35

abbrev board0 : List ℕ
board0 = 0x55 ∷ 0xB4 ∷ 0x68 ∷ 0xD0 ∷ 0x22 ∷ 0x4D ∷ 0x5F ∷ []

abbrev boards234 : List ℕ
boards234 =
    0x75 ∷ 0xEA ∷ 0x26 ∷ 0x5F ∷ 0x57 ∷ 0xC9 ∷ 0x3A
    ∷ 0x8F ∷ 0x98 ∷ 0x61 ∷ 0x41 ∷ 0xC9 ∷ 0x74 ∷ 0xD0
    ∷ 0x08 ∷ 0x14 ∷ 0xDB ∷ 0x3A ∷ 0x74 ∷ 0x22 ∷ 0xD9 ∷ []

abbrev area : List ℕ
area = board0 ++ (0x26 ∷ 0x44 ∷ 0x88 ∷ 0xD9 ∷ 0x4D ∷ 0x57 ∷ 0x41 ∷ []) ++ boards234

abbrev spoiled : List ℕ
spoiled = replicate 14 0x77 ++ boards234

abbrev again : List ℕ
again = board0 ++ replicate 7 0x99 ++ boards234

abbrev pub steps : List Step
steps =
    step blank (read (2 ∷ 3 ∷ []) (0x55 ∷ []))
    ∷ step blank (write (replicate 13 0))
    ∷ step blank (write five_file)
    ∷ step area (lose 5)
    ∷ step area (lose 0)
    ∷ step area (lose 1)
    ∷ step spoiled (read (0 ∷ 2 ∷ []) (replicate 14 0x55))
    ∷ step spoiled (repair (0 ∷ 1 ∷ []) (2 ∷ 3 ∷ 4 ∷ 2 ∷ 3 ∷ []) [])
    ∷ step spoiled (repair (0 ∷ 1 ∷ []) helpers [])
    ∷ step area (lose 1)
    ∷ step again (repair (0 ∷ []) (1 ∷ 2 ∷ 3 ∷ []) (4 ∷ []))
    ∷ step again (repair (1 ∷ []) (0 ∷ 2 ∷ 3 ∷ []) (4 ∷ []))
    ∷ step area (read (0 ∷ 1 ∷ []) (replicate 12 0x55))
    ∷ step area (lose 1)
    ∷ step again (read (4 ∷ 0 ∷ []) (replicate 14 0x55))
    ∷ step again (read (4 ∷ 0 ∷ []) (replicate 11 0x55))
    ∷ []

abbrev pub told : List Reply
told =
    reply 8 0 (0x55 ∷ [])
    ∷ reply 3 0 []
    ∷ reply 0 0 []
    ∷ reply 5 0 []
    ∷ reply 0 0 []
    ∷ reply 0 0 []
    ∷ reply 9 0 (replicate 14 0x55)
    ∷ reply 4 0 []
    ∷ reply 0 14 []
    ∷ reply 0 0 []
    ∷ reply 14 0 []
    ∷ reply 0 7 []
    ∷ reply 0 0 (0 ∷ 0 ∷ 0 ∷ 0 ∷ 0 ∷ 0 ∷ 0 ∷ 0 ∷ 0 ∷ 0 ∷ 0 ∷ 1 ∷ [])
    ∷ reply 0 0 []
    ∷ reply 0 0 (0 ∷ 0 ∷ 0 ∷ 0 ∷ 0 ∷ 0 ∷ 0 ∷ 0 ∷ 0 ∷ 0 ∷ 0 ∷ 1 ∷ 0x55 ∷ 0x55 ∷ [])
    ∷ reply 7 0 (replicate 11 0x55)
    ∷ []

pub record LedgerFigures : Type 0 where
  -- the list is allowed
  pub allowed : Allowed start opened steps
  -- what the ledger replies, and what the store does
  pub book-replies : book_replies opened (events steps) ≡ told
  pub store-replies : replies start steps ≡ told
  -- the book after them
  pub book-after : book_final opened (events steps)
      ≡ record { sizes = five; points = points5; capacity = 1; area_length = 35; file = some five_file; service = 0 ∷ 2 ∷ 3 ∷ 4 ∷ []; repairing = none }
