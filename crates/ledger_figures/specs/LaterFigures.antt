-- Figures of a careful read (request A.11) and of a move (A.10) over the definitions. proofs/LaterFigures.antt has `later-figures`.
-- Assumes nothing.
use Rattle.std.specs.Prelude.{◌≡◌, Bool, true, false, List, [], ◌∷◌, ◌++◌, map, ℕ, take, drop, replicate, set}
use Rattle.sizes.specs.declared.Sizes.{Sizes}
use Rattle.mbcr.specs.Share.{standard, share}
use Rattle.mbcr.specs.PointLaws.{first_series}
use Rattle.store_spec.specs.Record.{Record, new_record}
use Rattle.store_spec.specs.Packets.{contents}
use Rattle.store_spec.specs.Calls.{StoreOutcome}
use Rattle.store_spec.specs.Careful.{careful_call}
use Rattle.beside_spec.specs.Running.{idle}
use Rattle.store_spec.specs.Move.{move_packets, move_call}
use Rattle.beside_spec.specs.Acting.{write, lose, careful}
use Rattle.ledger_spec.specs.Ledger.{call, Reply, replies}
use Rattle.store_spec.specs.FurtherFigures.{gives, two}
use Rattle.store_spec.specs.FurtherFigures as further

abbrev answers : List StoreOutcome → List ℕ
answers os = map (λ o. o.answer.refusal) os

-- an accepted call's reply
abbrev says : ℕ → List ℕ → Reply
says v output = record { answer = record { refusal = 0; reported = v }; output = output }

-- n=4, k=1, d=1, r=2: three of four boards in a careful read
abbrev four : Sizes
four = record { n = 4; k = 1; d = 1; r = 2 }

abbrev at : Sizes → List ℕ → ℕ → List Bool → Record
at z xs length on = record { sizes = z; points = xs; capacity = 1; written = true; length = length; marks = take 32 (on ++ replicate 32 false) }

abbrev held : Record
held = at four (standard four) 3 (replicate 4 true)

-- the file 01 02 03
abbrev area : List ℕ
area = 0x01 ∷ 0x00 ∷ 0x09 ∷ 0x00 ∷ 0x09 ∷ 0x08 ∷ 0x09 ∷ 0x08 ∷ 0x01 ∷ 0x08 ∷ 0x01 ∷ 0x00 ∷ []

-- and at the points of the first series
abbrev first_area : List ℕ
first_area = 0x00 ∷ 0x09 ∷ 0x08 ∷ 0x09 ∷ 0x08 ∷ 0x39 ∷ 0x08 ∷ 0x39 ∷ 0x00 ∷ 0x39 ∷ 0x00 ∷ 0x09 ∷ []

abbrev other : List ℕ
other = share four (standard four) (0x04 ∷ 0x05 ∷ 0x06 ∷ []) 0 ++ share four (standard four) (0x04 ∷ 0x05 ∷ 0x06 ∷ []) 1 ++ drop 6 area

-- any bytes
abbrev any : List ℕ
any = 0x10 ∷ 0x20 ∷ 0x30 ∷ 0x41 ∷ 0x52 ∷ 0x63 ∷ 0x07 ∷ 0x80 ∷ 0x09 ∷ 0xA0 ∷ 0xB1 ∷ 0xC2 ∷ []

-- n=4, k=1, d=2, r=1
abbrev wide : Sizes
wide = record { n = 4; k = 1; d = 2; r = 1 }

abbrev wide_any : List ℕ
wide_any = 0x10 ∷ 0x20 ∷ 0x30 ∷ 0x40 ∷ 0x41 ∷ 0x52 ∷ 0x63 ∷ 0x74 ∷ 0x07 ∷ 0x80 ∷ 0x09 ∷ 0xF0 ∷ 0xA0 ∷ 0xB1 ∷ 0xC2 ∷ 0xD3 ∷ []

pub record LaterFigures : Type 0 where
  -- no board is odd; board 3 is, by one byte; board 0 is; then two are: DISAGREE, and the output stays
  pub careful-none : careful_call held area (3 ∷ 0 ∷ 1 ∷ []) (replicate 4 0xEE) ≡ gives 0 0 held area (0x01 ∷ 0x02 ∷ 0x03 ∷ 0xEE ∷ [])
  pub careful-odd : careful_call held (set area 11 0x01) (3 ∷ 0 ∷ 1 ∷ []) (replicate 4 0xEE) ≡ gives 0 4 held (set area 11 0x01) (0x01 ∷ 0x02 ∷ 0x03 ∷ 0xEE ∷ [])
  pub careful-first : careful_call held (set area 0 0x00) (3 ∷ 0 ∷ 1 ∷ []) (replicate 3 0xEE) ≡ gives 0 1 held (set area 0 0x00) (0x01 ∷ 0x02 ∷ 0x03 ∷ [])
  pub careful-two : careful_call held (set (set area 0 0x00) 11 0x01) (3 ∷ 0 ∷ 1 ∷ []) (replicate 3 0xEE)
      ≡ gives 10 0 held (set (set area 0 0x00) 11 0x01) (replicate 3 0xEE)
  -- boards 0 and 1 are wrong alike: they hold their shares of the file 04 05 06, which is the answer, and board 3, which is right, is told as odd
  pub careful-wrong-alike : careful_call held other (3 ∷ 0 ∷ 1 ∷ []) (replicate 3 0xEE) ≡ gives 0 4 held other (0x04 ∷ 0x05 ∷ 0x06 ∷ [])
  -- k = 2: board 4 is odd, by one byte
  pub careful-by-four : careful_call further.written (set further.area 33 0x05) (4 ∷ 0 ∷ 3 ∷ 1 ∷ []) (replicate 12 0xEE)
      ≡ gives 0 5 further.written (set further.area 33 0x05) further.five_file
  -- a list in which board 3, in service, answers a wrong byte from the first careful read on: it is told as odd, then again after another call, and
  -- the file is the answer each time
  pub worn-list : replies (record { kept = new_record four (standard four) 1; running = idle; area = replicate 12 0; packets = [] })
      (record { area = replicate 12 0; event = call (write (0x01 ∷ 0x02 ∷ 0x03 ∷ [])) }
      ∷ record { area = set area 11 0x01; event = call (careful (3 ∷ 0 ∷ 1 ∷ []) (replicate 3 0)) }
      ∷ record { area = set area 11 0x01; event = call (lose 2) }
      ∷ record { area = set area 11 0x01; event = call (careful (1 ∷ 3 ∷ 0 ∷ []) (replicate 3 0)) }
      ∷ [])
      ≡ says 0 [] ∷ says 4 (0x01 ∷ 0x02 ∷ 0x03 ∷ []) ∷ says 0 [] ∷ says 4 (0x01 ∷ 0x02 ∷ 0x03 ∷ []) ∷ []
  -- "Where k + 2 exceeds n, COUNT", whatever the list; then each refusal
  pub careful-refusals : answers
      (careful_call (at two (standard two) 2 (true ∷ true ∷ [])) (replicate 4 0) (0 ∷ []) []
      ∷ careful_call (at two (standard two) 2 (true ∷ true ∷ [])) (replicate 4 0) (0 ∷ 1 ∷ 2 ∷ []) []
      ∷ careful_call (at four (standard four) 4 []) [] [] []
      ∷ careful_call held [] [] []
      ∷ careful_call (new_record four (standard four) 1) area [] []
      ∷ careful_call held area (0 ∷ []) []
      ∷ careful_call held area (0 ∷ 1 ∷ 4 ∷ []) []
      ∷ careful_call held area (0 ∷ 1 ∷ 0 ∷ []) []
      ∷ careful_call (at four (standard four) 3 (true ∷ true ∷ [])) area (0 ∷ 1 ∷ 2 ∷ []) []
      ∷ careful_call held any (0 ∷ 1 ∷ 2 ∷ []) []
      ∷ careful_call held any (0 ∷ 1 ∷ 2 ∷ []) (replicate 3 0)
      ∷ [])
      ≡ 4 ∷ 4 ∷ 1 ∷ 2 ∷ 8 ∷ 4 ∷ 5 ∷ 6 ∷ 9 ∷ 7 ∷ 10 ∷ []
  -- a move of board 0 from 01 to 00, helper 1, partner 2: of true shares, and over any bytes
  pub move-first : move_call (at four (first_series four) 3 (replicate 4 true)) first_area 0 0 (1 ∷ []) (2 ∷ [])
      ≡ gives 0 3 (at four (set (first_series four) 0 0) 3 (replicate 4 true))
      (0x01 ∷ 0x09 ∷ 0x08 ∷ 0x09 ∷ 0x08 ∷ 0x39 ∷ 0x08 ∷ 0x39 ∷ 0x01 ∷ 0x39 ∷ 0x01 ∷ 0x09 ∷ []) []
  pub move-any : (move_call (at four (first_series four) 3 (replicate 4 true)) any 0 0 (1 ∷ []) (2 ∷ [])).area
      ≡ 0x7F ∷ 0x41 ∷ 0x07 ∷ 0x41 ∷ 0x52 ∷ 0x63 ∷ 0x07 ∷ 0x80 ∷ 0x39 ∷ 0xA0 ∷ 0xD5 ∷ 0xC2 ∷ []
  pub move-packets : contents (move_packets (at four (first_series four) 3 (replicate 4 true)) any 0 0 (1 ∷ []) (2 ∷ [])) ≡ 0x7F ∷ 0x41 ∷ 0x07 ∷ []
  -- board 1 to 80, helpers 3 and 0, over any bytes: with d = 2 values of g change too
  pub move-wide : move_call (at wide (first_series wide) 4 (replicate 4 true)) wide_any 1 0x80 (3 ∷ 0 ∷ []) []
      ≡ gives 0 4 (at wide (set (first_series wide) 1 0x80) 4 (replicate 4 true))
      (0x10 ∷ 0xE8 ∷ 0x30 ∷ 0x05 ∷ 0xA7 ∷ 0x3A ∷ 0x96 ∷ 0xEB ∷ 0x07 ∷ 0x80 ∷ 0x09 ∷ 0xF0 ∷ 0xA0 ∷ 0xB1 ∷ 0x61 ∷ 0xD3 ∷ []) []
  -- board 0 kept values at the old point of board 1, and what it sends is f and g of them at the new one
  pub wide-packets : contents (move_packets (at wide (first_series wide) 4 (replicate 4 true)) wide_any 1 0x80 (3 ∷ 0 ∷ []) []) ≡ 0x61 ∷ 0x96 ∷ 0xE8 ∷ 0x05 ∷ []
  -- four moves in turn, then what a fresh write gives at the points 0 to 3
  pub move-turn : let s = at four (first_series four) 3 (replicate 4 true) in
      let a = move_call s first_area 0 0 (1 ∷ []) (2 ∷ []) in
      let b = move_call a.handed a.area 1 1 (2 ∷ []) (3 ∷ []) in
      let c = move_call b.handed b.area 2 2 (3 ∷ []) (0 ∷ []) in
      move_call c.handed c.area 3 3 (0 ∷ []) (1 ∷ []) ≡ gives 0 3 held area []
  -- each refusal; 00, kept from n up, is no board's point; a point of the board itself, of another; any board down
  pub move-refusals : answers
      (move_call (at four (first_series four) 4 []) [] 9 9 [] []
      ∷ move_call held [] 9 9 [] []
      ∷ move_call (new_record four (first_series four) 1) area 9 9 [] []
      ∷ move_call held area 9 9 (1 ∷ 2 ∷ []) []
      ∷ move_call held area 9 9 (1 ∷ []) []
      ∷ move_call held area 4 0 (1 ∷ []) (1 ∷ [])
      ∷ move_call held area 0 0x80 (1 ∷ []) (4 ∷ [])
      ∷ move_call held area 0 0x80 (0 ∷ []) (1 ∷ [])
      ∷ move_call held area 0 0x80 (1 ∷ []) (1 ∷ [])
      ∷ move_call held area 0 0 (1 ∷ []) (2 ∷ [])
      ∷ move_call held area 0 3 (1 ∷ []) (2 ∷ [])
      ∷ move_call (at four (first_series four) 3 (true ∷ true ∷ true ∷ [])) area 0 4 (1 ∷ []) (2 ∷ [])
      ∷ move_call (at four (first_series four) 3 (true ∷ true ∷ true ∷ [])) area 0 0 (1 ∷ []) (2 ∷ [])
      ∷ move_call (at four (first_series four) 3 (false ∷ true ∷ true ∷ true ∷ [])) area 0 0 (1 ∷ []) (2 ∷ [])
      ∷ [])
      ≡ 1 ∷ 2 ∷ 8 ∷ 4 ∷ 4 ∷ 5 ∷ 5 ∷ 6 ∷ 6 ∷ 6 ∷ 6 ∷ 6 ∷ 9 ∷ 9 ∷ []
