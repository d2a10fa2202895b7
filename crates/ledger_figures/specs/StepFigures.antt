-- Figures of request A.8: a list with a stepped repair, a power failure and a second start, with the replies of ledger and store written out, and the
-- packets of M12 as they lie. proofs/StepFigures.antt has `step-figures`.
-- Assumes nothing.
use Rattle.std.specs.Prelude.{◌≡◌, List, [], ◌∷◌, ◌++◌, ℕ, replicate, take, true, false}
use Rattle.mbcr.specs.Share.{standard}
use Rattle.store_spec.specs.Record.{Record, new_record}
use Rattle.sizes.specs.declared.Sizes.{Sizes}
use Rattle.beside_spec.specs.Running.{idle, running_by}
use Rattle.beside_spec.specs.Both.{step_call}
use Rattle.beside_spec.specs.Acting.{Call, write, lose, read, edit, start, step, State}
use Rattle.ledger_spec.specs.Ledger.{Event, call, power_fails, Reply, Book, open_book, replies, book_replies}
use Rattle.ledger_spec.specs.Demand3.{begun, events}
use Rattle.ledger_spec.specs.Premises.{unaltered}
use Rattle.store_spec.specs.FurtherFigures.{five, helpers, spoiled}

abbrev reply : ℕ → ℕ → List ℕ → Reply
reply refusal value output = record { answer = record { refusal = refusal; reported = value }; output = output }

-- n=4, k=1, d=1, r=2: a stripe has three bytes, two fresh boards are told four packets of 6 bytes in all
abbrev four : Sizes
four = record { n = 4; k = 1; d = 1; r = 2 }

abbrev file : List ℕ
file = 1 ∷ 2 ∷ 3 ∷ []

abbrev both : Call
both = start (0 ∷ 1 ∷ []) (2 ∷ 3 ∷ []) []

abbrev room : List ℕ
room = replicate 6 0xEE

abbrev pub newly : State
newly = begun (new_record four (standard four) 1) idle four (standard four) 1 (replicate 12 0x55)

abbrev pub opened : Book
opened = open_book four (standard four) 1 12

abbrev pub happened : List Event
happened =
    call (step 1 room)
    ∷ call (write file)
    ∷ call (step 1 [])
    ∷ call (lose 0)
    ∷ call (lose 1)
    ∷ call both
    ∷ call (step 0 room)
    ∷ call (step 1 (replicate 5 0))
    ∷ call (step 3 room)
    ∷ call (write file)
    ∷ call (edit 4 [] [])
    ∷ call both
    ∷ call (read (2 ∷ []) (replicate 4 0x77))
    ∷ call (read (0 ∷ []) (replicate 3 0x77))
    ∷ power_fails idle
    ∷ call (step 9 room)
    ∷ call both
    ∷ call (step 1 room)
    ∷ call (step 2 [])
    ∷ call (step 9 [])
    ∷ call (step 9 room)
    ∷ call (edit 1 (7 ∷ []) (0 ∷ []))
    ∷ call (read (1 ∷ []) (replicate 3 0x77))
    ∷ []

abbrev pub told : List Reply
told =
    reply 8 0 []
    ∷ reply 0 0 []
    ∷ reply 17 0 []
    ∷ reply 0 0 []
    ∷ reply 0 0 []
    ∷ reply 0 0 []
    ∷ reply 0 0 []
    ∷ reply 2 0 []
    ∷ reply 0 3 []
    ∷ reply 16 0 []
    ∷ reply 16 0 []
    ∷ reply 16 0 []
    ∷ reply 0 0 (1 ∷ 2 ∷ 3 ∷ 0x77 ∷ [])
    ∷ reply 9 0 (replicate 3 0x77)
    ∷ reply 17 0 []
    ∷ reply 0 0 []
    ∷ reply 0 1 []
    ∷ reply 0 2 []
    ∷ reply 0 1 []
    ∷ reply 17 0 []
    ∷ reply 0 0 []
    ∷ reply 0 0 (1 ∷ 7 ∷ 3 ∷ [])
    ∷ []

abbrev pub lost : Record
lost = record { sizes = five; points = standard five; capacity = 1; written = true; length = 12; marks = take 32 (false ∷ false ∷ true ∷ true ∷ true ∷ replicate 32 false) }

-- M12, packet by packet: "board 1 gets 04 02, 05 03, 10 04, then 00 from board 0"
abbrev pub lying : List ℕ
lying = (step_call lost (running_by (0 ∷ 1 ∷ []) helpers [] 0) spoiled (replicate 14 0xEE) 7).packets

-- helper packets that no file could cause lie there: the exchange from board 1 to board 0 is made of them, and not of the boards
abbrev pub altered : List ℕ
altered = replicate 6 0 ++ (0x09 ∷ 0x01 ∷ 0x09 ∷ 0x02 ∷ 0x09 ∷ 0x03 ∷ 0xEE ∷ 0xEE ∷ [])

pub record StepFigures : Type 0 where
  pub store-replies : replies newly (unaltered newly opened happened) ≡ told
  pub book-replies : book_replies opened (events (unaltered newly opened happened)) ≡ told
  pub packets-lying : lying ≡ replicate 6 0 ++ (0x04 ∷ 0x02 ∷ 0x05 ∷ 0x03 ∷ 0x10 ∷ 0x04 ∷ 0x00 ∷ 0xEE ∷ [])
  pub exchange-lying : (step_call lost (running_by (0 ∷ 1 ∷ []) helpers [] 6) spoiled altered 1).packets
      ≡ replicate 6 0 ++ (0x09 ∷ 0x01 ∷ 0x09 ∷ 0x02 ∷ 0x09 ∷ 0x03 ∷ 0x09 ∷ 0xEE ∷ [])
