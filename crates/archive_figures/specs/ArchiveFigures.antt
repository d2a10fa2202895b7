-- Figures of the archive's store calls, with words, answers, areas and outputs written out: single calls, and a list of them with a power failure, each on
-- what the last one left, with what demand 3 of the archive says of it: that it is allowed, what is compared, and where it ends. And of the text reader: a
-- text that is read, and each refusal. proofs/ArchiveFigures.antt has `archive-figures`.
-- Assumes nothing.
use Rattle.std.specs.Prelude.{◌≡◌, false, List, [], ◌∷◌, ◌++◌, map, ℕ, take, set, replicate}
use Rattle.std.proofs.Math.Option.{some, none}
use Rattle.sizes.specs.declared.Sizes.{Sizes}
use Rattle.beside_spec.specs.Running.{Running}
use Rattle.beside_spec.specs.Acting.{Call, write, lose, repair, read, start, step, careful, move}
use Rattle.ledger_spec.specs.Ledger.{call, power_fails, Step, open_book, book_replies}
use Rattle.ledger_spec.specs.Demand3.{events}
use Rattle.archive_spec.specs.Archive.{sizes_of}
use Rattle.archive_spec.specs.Lent.{Lent, zbk_set_up, zbk}
use Rattle.archive_spec.specs.Texts.{TextLent, zbk_read_text}
use Rattle.archive_spec.specs.Demand3.{lents, AllowedLents, Told, told, in_word, first_held, end_held, end_book}

-- n = 4, k = 1, d = 1, r = 2, points 05, 00, 80, 1D, C = 1: the file 01 02 03 is written on any bytes, boards 0 and 1 are lost and spoiled, one is read in vain, both
-- are rebuilt. They are lost and spoiled again; a repair of both is started, and the power fails before its last packet; it is started again and
-- stepped to its end; and the file is read from board 1
abbrev area : List ℕ
area = 0x38 ∷ 0x01 ∷ 0x29 ∷ 0x01 ∷ 0x29 ∷ 0xEF ∷ 0x29 ∷ 0xEF ∷ 0x38 ∷ 0xEF ∷ 0x38 ∷ 0x01 ∷ []

abbrev spoiled : List ℕ
spoiled = 0x77 ∷ 0x77 ∷ 0x77 ∷ 0x66 ∷ 0x66 ∷ 0x66 ∷ 0x29 ∷ 0xEF ∷ 0x38 ∷ 0xEF ∷ 0x38 ∷ 0x01 ∷ []

abbrev pub blank : List ℕ
blank = replicate 12 0xEE

abbrev pub four : Sizes
four = sizes_of 4 1 1 2

abbrev pub points : List ℕ
points = 0x05 ∷ 0x00 ∷ 0x80 ∷ 0x1D ∷ replicate 28 0

-- any twelve words and any 71, over which the store is set up
abbrev pub any : List ℕ
any = replicate 12 8

abbrev pub beside : List ℕ
beside = replicate 71 9

-- after the power failure: no repair runs, whatever else the record has
abbrev given : Running
given = record { running = false; count = 7; carried = 0; fresh = replicate 32 0; helpers = replicate 256 0; stand_ins = replicate 256 5 }

abbrev both : Call
both = start (0 ∷ 1 ∷ []) (2 ∷ 3 ∷ []) []

abbrev calls : List ℕ → Call → Step
calls lent c = record { area = lent; event = call c }

-- four packets: of two bytes by helper 2 to board 0 and by helper 3 to board 1, then of one byte that each fresh board hears of the other
abbrev room : List ℕ
room = replicate 6 0xEE

abbrev packets1 : List ℕ
packets1 = 0x38 ∷ 0x29 ∷ 0xEE ∷ 0xEE ∷ 0xEE ∷ 0xEE ∷ []

abbrev packets3 : List ℕ
packets3 = 0x38 ∷ 0x29 ∷ 0x01 ∷ 0xEF ∷ 0x01 ∷ 0xEE ∷ []

abbrev packets4 : List ℕ
packets4 = 0x38 ∷ 0x29 ∷ 0x01 ∷ 0xEF ∷ 0x01 ∷ 0x38 ∷ []

abbrev pub steps : List Step
steps =
    calls blank (write (1 ∷ 2 ∷ 3 ∷ []))
    ∷ calls area (lose 0)
    ∷ calls area (lose 1)
    ∷ calls spoiled (read (1 ∷ []) (replicate 4 0x55))
    ∷ calls spoiled (repair (0 ∷ 1 ∷ []) (2 ∷ 3 ∷ []) [])
    ∷ calls area (lose 0)
    ∷ calls area (lose 1)
    ∷ calls spoiled both
    ∷ calls spoiled (step 3 room)
    ∷ calls spoiled (write [])
    ∷ record { area = spoiled; event = power_fails given }
    ∷ calls spoiled (step 9 room)
    ∷ calls spoiled both
    ∷ calls spoiled (step 1 room)
    ∷ calls spoiled (step 9 packets1)
    ∷ calls area (read (1 ∷ []) (replicate 4 0x55))
    ∷ []

-- an answer word and an output
abbrev says : ℕ → List ℕ → Told
says w output = record { answer = w; output = output }

-- DOWN; 6 bytes moved, which is 6 × 256; 3 packets, BUSY, IDLE; one packet, and the three that are left; the file, and a byte past its end
abbrev answers : List Told
answers =
    says 0 []
    ∷ says 0 []
    ∷ says 0 []
    ∷ says 9 (replicate 4 0x55)
    ∷ says 1536 []
    ∷ says 0 []
    ∷ says 0 []
    ∷ says 0 []
    ∷ says 768 []
    ∷ says 16 []
    ∷ says 17 []
    ∷ says 0 []
    ∷ says 256 []
    ∷ says 768 []
    ∷ says 0 (1 ∷ 2 ∷ 3 ∷ 0x55 ∷ [])
    ∷ []

-- the repair's words: none runs, as a call leaves them and as they are given; and so many packets are carried
abbrev pub idles : List ℕ
idles = replicate 71 0

abbrev gives : List ℕ
gives = 0 ∷ 7 ∷ replicate 37 0 ++ replicate 32 0x0505050505050505

abbrev runs : ℕ → List ℕ
runs carried = 1 ∷ 2 ∷ carried ∷ 0x0100 ∷ 0 ∷ 0 ∷ 0 ∷ 0x0302 ∷ replicate 63 0

-- answer, marks, the repair's words, area, output and packet area of a call; the other words are these after each
abbrev pub words4 : ℕ → List ℕ
words4 marks = 4 ∷ 1 ∷ 1 ∷ 2 ∷ 1 ∷ 1 ∷ 3 ∷ marks ∷ 0x1D800005 ∷ 0 ∷ 0 ∷ 0 ∷ []

abbrev after : ℕ → ℕ → List ℕ → List ℕ → List ℕ → List ℕ → Lent
after w marks ps area output packets = record { answer = w; words = words4 marks; repair = ps; area = area; output = output; packets = packets }

-- the words of seven boards with the points 11 to 17, in hexadecimal
abbrev seven : ℕ → ℕ → ℕ → List ℕ
seven written len marks = 7 ∷ 2 ∷ 4 ∷ 3 ∷ 5 ∷ written ∷ len ∷ marks ∷ 0x17161514131211 ∷ 0 ∷ 0 ∷ 0 ∷ []

-- a call that is lent no area; the words of a repair of board 1 by helpers 0, 2, 3 and 4 and stand-ins 5 and 6, of which four packets of six are carried
abbrev lent : ℕ → List ℕ → List ℕ → Lent
lent w ws ps = record { answer = w; words = ws; repair = ps; area = []; output = []; packets = [] }

abbrev named : List ℕ
named = 1 ∷ 1 ∷ 4 ∷ 0x01 ∷ 0 ∷ 0 ∷ 0 ∷ 0x04030200 ∷ replicate 31 0 ++ (0x0605 ∷ replicate 31 0)

abbrev points7 : List ℕ
points7 = 0x11 ∷ 0x12 ∷ 0x13 ∷ 0x14 ∷ 0x15 ∷ 0x16 ∷ 0x17 ∷ replicate 25 0

-- n=8, k=2, d=3, r=4, node=5, length=11, points=92a3b4c500e7f806, data=1a2b3c4d5e6f70819f, a line each: numbers that all differ
abbrev text : List ℕ
text =
    0x6E ∷ 0x3D ∷ 0x38 ∷ 0x0A
    ∷ 0x6B ∷ 0x3D ∷ 0x32 ∷ 0x0A
    ∷ 0x64 ∷ 0x3D ∷ 0x33 ∷ 0x0A
    ∷ 0x72 ∷ 0x3D ∷ 0x34 ∷ 0x0A
    ∷ 0x6E ∷ 0x6F ∷ 0x64 ∷ 0x65 ∷ 0x3D ∷ 0x35 ∷ 0x0A
    ∷ 0x6C ∷ 0x65 ∷ 0x6E ∷ 0x67 ∷ 0x74 ∷ 0x68 ∷ 0x3D ∷ 0x31 ∷ 0x31 ∷ 0x0A
    ∷ 0x70 ∷ 0x6F ∷ 0x69 ∷ 0x6E ∷ 0x74 ∷ 0x73 ∷ 0x3D
    ∷ 0x39 ∷ 0x32 ∷ 0x61 ∷ 0x33 ∷ 0x62 ∷ 0x34 ∷ 0x63 ∷ 0x35 ∷ 0x30 ∷ 0x30 ∷ 0x65 ∷ 0x37 ∷ 0x66 ∷ 0x38 ∷ 0x30 ∷ 0x36 ∷ 0x0A
    ∷ 0x64 ∷ 0x61 ∷ 0x74 ∷ 0x61 ∷ 0x3D
    ∷ 0x31 ∷ 0x61 ∷ 0x32 ∷ 0x62 ∷ 0x33 ∷ 0x63 ∷ 0x34 ∷ 0x64 ∷ 0x35 ∷ 0x65 ∷ 0x36 ∷ 0x66 ∷ 0x37 ∷ 0x30 ∷ 0x38 ∷ 0x31 ∷ 0x39 ∷ 0x66 ∷ 0x0A
    ∷ []

-- head, points and output as they came, with an answer
abbrev untold : ℕ → ℕ → ℕ → ℕ → TextLent
untold w h p m = record { answer = w; head = replicate h 7; points = replicate p 9; output = replicate m 0xEE }

pub record ArchiveFigures : Type 0 where
  -- over any words and points: the six words, the eight points, and 9 bytes, which is 9 × 256, before one that stays
  pub read-text : zbk_read_text text (replicate 6 7) (replicate 32 9) (replicate 10 0xEE)
      ≡ record {
        answer = 2304;
        head = 8 ∷ 2 ∷ 3 ∷ 4 ∷ 5 ∷ 11 ∷ [];
        points = 0x92 ∷ 0xA3 ∷ 0xB4 ∷ 0xC5 ∷ 0x00 ∷ 0xE7 ∷ 0xF8 ∷ 0x06 ∷ replicate 24 0;
        output = 0x1A ∷ 0x2B ∷ 0x3C ∷ 0x4D ∷ 0x5E ∷ 0x6F ∷ 0x70 ∷ 0x81 ∷ 0x9F ∷ 0xEE ∷ [];
      }
  -- heads of 5 and 7 words, 31 and 33 points, each before TEXT; no text; an output too short
  pub read-text-refused :
      zbk_read_text [] (replicate 5 7) (replicate 32 9) (replicate 10 0xEE)
      ∷ zbk_read_text text (replicate 7 7) (replicate 32 9) (replicate 10 0xEE)
      ∷ zbk_read_text [] (replicate 6 7) (replicate 31 9) (replicate 10 0xEE)
      ∷ zbk_read_text text (replicate 6 7) (replicate 33 9) (replicate 10 0xEE)
      ∷ zbk_read_text (take 80 text) (replicate 6 7) (replicate 32 9) (replicate 10 0xEE)
      ∷ zbk_read_text text (replicate 6 7) (replicate 32 9) (replicate 8 0xEE)
      ∷ [] ≡ untold 1 5 32 10 ∷ untold 1 7 32 10 ∷ untold 1 6 31 10 ∷ untold 1 6 33 10 ∷ untold 12 6 32 10 ∷ untold 7 6 32 8 ∷ []
  -- n = 7, k = 2, d = 4, r = 3, C = 5, over any twelve words and any 71
  pub set-up : zbk_set_up any beside (sizes_of 7 2 4 3) points7 5 ≡ lent 0 (seven 0 0 0) idles
  -- k above d is no legal size; a point repeated, one other than 00 from n up, 31 and 33 points: each is SIZE, and the words stay
  pub set-up-refused :
      zbk_set_up any beside (sizes_of 7 4 2 3) points7 5
      ∷ zbk_set_up any beside (sizes_of 7 2 4 3) (set points7 6 0x11) 5
      ∷ zbk_set_up any beside (sizes_of 7 2 4 3) (set points7 7 0x18) 5
      ∷ zbk_set_up any beside (sizes_of 7 2 4 3) (take 31 points7) 5
      ∷ zbk_set_up any beside (sizes_of 7 2 4 3) (points7 ++ (0 ∷ [])) 5
      ∷ [] ≡ replicate 5 (lent 1 any beside)
  -- eight words; 70 and 72 beside the twelve
  pub other-counts :
      zbk_set_up (replicate 8 8) beside (sizes_of 7 2 4 3) points7 5
      ∷ zbk_set_up any (replicate 70 9) (sizes_of 7 2 4 3) points7 5
      ∷ zbk_set_up any (replicate 72 9) (sizes_of 7 2 4 3) points7 5
      ∷ [] ≡ lent 1 (replicate 8 8) beside ∷ lent 1 any (replicate 70 9) ∷ lent 1 any (replicate 72 9) ∷ []
  -- boards 0, 3 and 4 are in service, and board 3 is lost; board 7 is none; a record of eight words, and those whose points repeat, are none
  pub lost : zbk (seven 1 6 25) idles [] (lose 3) ≡ lent 0 (seven 1 6 17) idles
  pub not-lost : zbk (seven 1 6 25) idles [] (lose 7) ≡ lent 5 (seven 1 6 25) idles
  pub no-records : map (λ ws. (zbk ws idles [] (lose 3)).answer) (take 8 (seven 1 6 25) ∷ set (seven 1 6 25) 8 0x11161514131211 ∷ set (seven 1 6 25) 11 1 ∷ []) ≡ replicate 3 1
  -- all boards but board 1 are in service, and it is being rebuilt: helper 3, stand-in 6 and board 1 itself are lost, each of which ends the repair; board 7
  -- is none, and it goes on
  pub lost-named : map (λ i. zbk (seven 1 6 125) named [] (lose i)) (3 ∷ 6 ∷ 1 ∷ 7 ∷ [])
      ≡ lent 0 (seven 1 6 117) idles ∷ lent 0 (seven 1 6 61) idles ∷ lent 0 (seven 1 6 125) idles ∷ lent 5 (seven 1 6 125) named ∷ []
  -- 70 and 72 words beside the record, a first word of 2, helper 3 out of service, board 1 in service, all 6 packets carried: SIZE, and nothing changes
  pub no-repairs : zbk (seven 1 6 125) (take 70 named) [] (lose 5)
      ∷ zbk (seven 1 6 125) (named ++ (0 ∷ [])) [] (lose 5)
      ∷ zbk (seven 1 6 125) (set named 0 2) [] (lose 5)
      ∷ zbk (seven 1 6 117) named [] (lose 5)
      ∷ zbk (seven 1 6 127) named [] (lose 5)
      ∷ zbk (seven 1 6 125) (set named 2 6) [] (lose 5)
      ∷ []
      ≡ lent 1 (seven 1 6 125) (take 70 named)
      ∷ lent 1 (seven 1 6 125) (named ++ (0 ∷ []))
      ∷ lent 1 (seven 1 6 125) (set named 0 2)
      ∷ lent 1 (seven 1 6 117) named
      ∷ lent 1 (seven 1 6 127) named
      ∷ lent 1 (seven 1 6 125) (set named 2 6)
      ∷ []
  -- shares of 01 02 03 with a record that says two bytes: no file of two bytes, padding included, has the share of board 0. DISAGREE, and all stays
  pub disagrees : zbk (4 ∷ 1 ∷ 1 ∷ 2 ∷ 1 ∷ 1 ∷ 2 ∷ 15 ∷ 0x1D800005 ∷ 0 ∷ 0 ∷ 0 ∷ []) gives area (read (0 ∷ []) (replicate 4 0x55))
      ≡ record {
        answer = 10;
        words = 4 ∷ 1 ∷ 1 ∷ 2 ∷ 1 ∷ 1 ∷ 2 ∷ 15 ∷ 0x1D800005 ∷ 0 ∷ 0 ∷ 0 ∷ [];
        repair = gives;
        area = area;
        output = replicate 4 0x55;
        packets = [];
      }
  -- a careful read of boards 2, 0 and 3: none is odd; board 2 is, by one byte, and 3 × 256 tells it; boards 2 and 0 are. Nothing but the output changes
  pub careful-reads : map (λ now. zbk (words4 15) gives now (careful (2 ∷ 0 ∷ 3 ∷ []) (replicate 4 0x55))) (area ∷ set area 7 0x00 ∷ set (set area 7 0x00) 0 0x00 ∷ [])
      ≡ after 0 15 gives area (1 ∷ 2 ∷ 3 ∷ 0x55 ∷ []) []
      ∷ after 768 15 gives (set area 7 0x00) (1 ∷ 2 ∷ 3 ∷ 0x55 ∷ []) []
      ∷ after 10 15 gives (set (set area 7 0x00) 0 0x00) (replicate 4 0x55) []
      ∷ []
  -- board 2 moves from 80 to 07, helper 0, partner 3: 3 bytes, which is 3 × 256, its new point among the words, and one byte afresh on each board that keeps a value
  -- at it; then its own point, another board's, a board out of service, and a repair that runs: REPEAT, REPEAT, DOWN, BUSY
  pub moves : zbk (words4 15) gives area (move 2 0x07 (0 ∷ []) (3 ∷ []))
      ≡ record {
        answer = 768;
        words = 4 ∷ 1 ∷ 1 ∷ 2 ∷ 1 ∷ 1 ∷ 3 ∷ 15 ∷ 0x1D070005 ∷ 0 ∷ 0 ∷ 0 ∷ [];
        repair = gives;
        area = 0x38 ∷ 0x01 ∷ 0x30 ∷ 0x01 ∷ 0x30 ∷ 0xEF ∷ 0x30 ∷ 0xEF ∷ 0x38 ∷ 0xEF ∷ 0x38 ∷ 0x01 ∷ [];
        output = [];
        packets = [];
      }
  pub moves-refused : zbk (words4 15) gives area (move 2 0x80 (0 ∷ []) (3 ∷ []))
      ∷ zbk (words4 15) gives area (move 2 0x1D (0 ∷ []) (3 ∷ []))
      ∷ zbk (words4 13) gives area (move 2 0x07 (0 ∷ []) (3 ∷ []))
      ∷ zbk (words4 12) (runs 1) area (move 2 0x07 (0 ∷ []) (3 ∷ []))
      ∷ []
      ≡ after 6 15 gives area [] [] ∷ after 6 15 gives area [] [] ∷ after 9 13 gives area [] [] ∷ after 16 12 (runs 1) area [] [] ∷ []
  -- what is compared: the calls' words and outputs, and the ledger's
  pub calls-say : map told (lents (first_held any beside four points 1 blank steps) steps) ≡ answers
  pub ledger-says : map in_word (book_replies (open_book four points 1 12) (events steps)) ≡ answers
  -- bytes of lost boards altered between the calls are allowed
  pub allowed : AllowedLents (first_held any beside four points 1 blank steps) (open_book four points 1 12) steps
  -- where it ends: all four boards in service, with the file
  pub last-held : end_held any beside four points 1 blank steps ≡ record { words = words4 15; repair = idles; area = area; packets = packets4 }
  pub last-book : end_book any beside four points 1 blank steps
      ≡ record { sizes = four; points = points; capacity = 1; area_length = 12; file = some (1 ∷ 2 ∷ 3 ∷ []); service = 0 ∷ 1 ∷ 2 ∷ 3 ∷ []; repairing = none }
  -- boards 0 to 3, then 1 to 3, then 2 and 3, are in service, so again after the repair, and all four after the last step
  pub listed : lents (record { words = 4 ∷ 1 ∷ 1 ∷ 2 ∷ 1 ∷ 0 ∷ 0 ∷ 0 ∷ 0x1D800005 ∷ 0 ∷ 0 ∷ 0 ∷ []; repair = idles; area = blank; packets = [] }) steps
      ≡ after 0 15 idles area [] []
      ∷ after 0 14 idles area [] []
      ∷ after 0 12 idles area [] []
      ∷ after 9 12 idles spoiled (replicate 4 0x55) []
      ∷ after 1536 15 idles area [] []
      ∷ after 0 14 idles area [] []
      ∷ after 0 12 idles area [] []
      ∷ after 0 12 (runs 0) spoiled [] []
      ∷ after 768 12 (runs 3) spoiled [] packets3
      ∷ after 16 12 (runs 3) spoiled [] []
      ∷ after 17 12 gives spoiled [] room
      ∷ after 0 12 (runs 0) spoiled [] []
      ∷ after 256 12 (runs 1) spoiled [] packets1
      ∷ after 768 15 idles area [] packets4
      ∷ after 0 15 idles area (1 ∷ 2 ∷ 3 ∷ 0x55 ∷ []) []
      ∷ []
