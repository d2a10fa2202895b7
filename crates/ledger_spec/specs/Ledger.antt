-- Document 01, 'The ledger': a plain book kept beside the store, and lists of calls.
-- Assumes nothing.
use Rattle.std.specs.Prelude.{ℕ, ◌+◌, ◌-◌, ◌*◌, ◌<◌, ◌≡◌, true, false, not, List, [], ◌∷◌, ◌++◌, leb, ltb, eqb, length, take, set, Ok, Err}
use Rattle.std.proofs.Math.Option.{Option, some, none}
use Rattle.lists.specs.Tests.{pick, every, alls, below, among, different, apart, given}
use Rattle.lists.specs.Lists.{Bytes, tabulate, piece, without, put, over}
use Rattle.sizes.specs.declared.Sizes.{Sizes}
use Rattle.sizes.specs.declared.Refusal.TheVariants.{Area, Long, Count, Node, Repeat, Short, Empty, Down, Serving, Range, Busy, Idle}
use Rattle.sizes.specs.Sizing.{max_boards, α, B, stripes}
use Rattle.sizes.specs.Refusals.{Said, said, Line, ◌when◌, first, store_order}
use Rattle.board_spec.specs.Calls.{file_of}
use Rattle.store_spec.specs.Record.{Record, part}
use Rattle.store_spec.specs.Calls.{settle}
use Rattle.beside_spec.specs.Running.{Running, idle, running_by, packet_count, packets_len}
use Rattle.beside_spec.specs.Lying.{place_of}
use Rattle.beside_spec.specs.Both.{Outcome}
use Rattle.beside_spec.specs.Acting.{Call, State, act, careful, edit, lose, move, output_of, read, repair, start, step, write}

-- what store and ledger have to agree in: "refused or not, the number, the bytes moved, and all bytes of a read's output after it"
pub record Reply : Type 0 where
  pub answer : Said
  pub output : List ℕ

-- ---- the ledger

-- request A.8, what the book keeps of a repair that runs: its lists, and how many packets are left
pub record Repairing : Type 0 where
  pub fresh : List ℕ
  pub helpers : List ℕ
  pub stand_ins : List ℕ
  pub left : ℕ

-- "It is fed the sizes", with them the points (request A.9), "C, the area's length .. It keeps the last file accepted and the boards in service"
pub record Book : Type 0 where
  pub sizes : Sizes
  pub points : List ℕ
  pub capacity : ℕ
  pub area_length : ℕ
  pub file : Option (List ℕ)
  pub service : List ℕ
  pub repairing : Option Repairing

-- "none of either at first"
abbrev pub open_book : Sizes → List ℕ → ℕ → ℕ → Book
open_book z xs c m = record { sizes = z; points = xs; capacity = c; area_length = m; file = none; service = []; repairing = none }

abbrev pub noted : Book → Option (List ℕ) → List ℕ → Book
noted b file service = record { sizes = b.sizes; points = b.points; capacity = b.capacity; area_length = b.area_length; file = file; service = service; repairing = b.repairing }

-- with other points (request A.10)
abbrev pub pointed_book : Book → List ℕ → Book
pointed_book b xs = record { sizes = b.sizes; points = xs; capacity = b.capacity; area_length = b.area_length; file = b.file; service = b.service; repairing = b.repairing }

-- the same file, with this repair running or none
abbrev pub going : Book → Option Repairing → List ℕ → Book
going b repairing service = record { sizes = b.sizes; points = b.points; capacity = b.capacity; area_length = b.area_length; file = b.file; service = service; repairing = repairing }

-- by the repair that runs, if one does
abbrev pub during : {A : Type 0} → Option Repairing → A → (Repairing → A) → A
during none a f = a
during (some r) a f = f r

-- "L and S are those of that file"
abbrev pub book_length : Book → ℕ
book_length b = length (file_of b.file)

-- what a repair is asked, and so is a start
unfoldable pub repair_asked : Book → List ℕ → List ℕ → List ℕ → List Line
repair_asked b fresh helpers stand_ins =
    Area when not (eqb b.area_length (b.sizes.n * (b.capacity * α b.sizes)))
    ∷ Empty when not (given b.file)
    ∷ Busy when given b.repairing
    ∷ Count when not (alls
    (leb 1 (length fresh)
    ∷ leb (length fresh) b.sizes.r
    ∷ eqb (length helpers) (length fresh * b.sizes.d)
    ∷ eqb (length stand_ins) (length fresh * (b.sizes.r - length fresh))
    ∷ []))
    ∷ Node when not (alls (below b.sizes.n fresh ∷ below b.sizes.n helpers ∷ below b.sizes.n stand_ins ∷ []))
    ∷ Repeat when not (alls
    (different fresh
    ∷ every different (tabulate (length fresh) (λ a. piece b.sizes.d a helpers ++ piece (b.sizes.r - length fresh) a stand_ins))
    ∷ apart fresh helpers
    ∷ apart fresh stand_ins
    ∷ []))
    ∷ Serving when not (apart b.service fresh)
    ∷ Down when not (alls (every (among b.service) helpers ∷ every (among b.service) stand_ins ∷ []))
    ∷ []

-- the lines by this book; 1 and 10 "never hold in it"; "for losing only 1 and 5, whatever the area's length"
unfoldable pub book_lines : Book → Call → List Line
book_lines b (write file) =
    Area when not (eqb b.area_length (b.sizes.n * (b.capacity * α b.sizes)))
    ∷ Long when ltb (b.capacity * B b.sizes) (length file)
    ∷ Busy when given b.repairing
    ∷ []
book_lines b (lose board) = Node when not (ltb board b.sizes.n) ∷ []
book_lines b (repair fresh helpers stand_ins) = repair_asked b fresh helpers stand_ins
book_lines b (read boards output) =
    Area when not (eqb b.area_length (b.sizes.n * (b.capacity * α b.sizes)))
    ∷ Empty when not (given b.file)
    ∷ Count when not (eqb (length boards) b.sizes.k)
    ∷ Node when not (below b.sizes.n boards)
    ∷ Repeat when not (different boards)
    ∷ Down when not (every (among b.service) boards)
    ∷ Short when ltb (length output) (book_length b)
    ∷ []
book_lines b (edit offset bytes boards) =
    Area when not (eqb b.area_length (b.sizes.n * (b.capacity * α b.sizes)))
    ∷ Empty when not (given b.file)
    ∷ Busy when given b.repairing
    ∷ Range when ltb (book_length b) (offset + length bytes)
    ∷ Count when not (eqb (length boards) b.sizes.k)
    ∷ Node when not (below b.sizes.n boards)
    ∷ Repeat when not (different boards)
    ∷ Down when not (every (among b.service) boards)
    ∷ []
book_lines b (start fresh helpers stand_ins) = repair_asked b fresh helpers stand_ins
book_lines b (step allowance packets) =
    Area when not (alls
    (eqb b.area_length (b.sizes.n * (b.capacity * α b.sizes))
    ∷ during b.repairing true (λ r. eqb (length packets) (stripes b.sizes (book_length b) * length r.fresh * α b.sizes))
    ∷ []))
    ∷ Empty when not (given b.file)
    ∷ Idle when not (given b.repairing)
    ∷ []
book_lines b (careful boards output) =
    Area when not (eqb b.area_length (b.sizes.n * (b.capacity * α b.sizes)))
    ∷ Empty when not (given b.file)
    ∷ Count when not (alls (leb (b.sizes.k + 2) b.sizes.n ∷ eqb (length boards) (b.sizes.k + 2) ∷ []))
    ∷ Node when not (below b.sizes.n boards)
    ∷ Repeat when not (different boards)
    ∷ Down when not (every (among b.service) boards)
    ∷ Short when ltb (length output) (book_length b)
    ∷ []
book_lines b (move board point helpers partners) =
    Area when not (eqb b.area_length (b.sizes.n * (b.capacity * α b.sizes)))
    ∷ Empty when not (given b.file)
    ∷ Busy when given b.repairing
    ∷ Count when not (alls (eqb (length helpers) b.sizes.d ∷ eqb (length partners) (b.sizes.r - 1) ∷ []))
    ∷ Node when not (alls (ltb board b.sizes.n ∷ below b.sizes.n helpers ∷ below b.sizes.n partners ∷ []))
    ∷ Repeat when not (alls (different (board ∷ (helpers ++ partners)) ∷ not (among (take b.sizes.n b.points) point) ∷ []))
    ∷ Down when not (every (among b.service) (tabulate b.sizes.n (λ i. i)))
    ∷ []

-- what the ledger replies, and the book after it
pub record Entry : Type 0 where
  pub reply : Reply
  pub book : Book

abbrev pub replied : Said → List ℕ → Book → Entry
replied a output b = record { reply = record { answer = a; output = output }; book = b }

-- "Losing a board named in the repair ends it"
abbrev pub kept_on : Repairing → ℕ → Option Repairing
kept_on r board = pick (among (r.fresh ++ (r.helpers ++ r.stand_ins)) board) none (some r)

-- "the fresh boards .. enter service only with the last"
abbrev pub ended : Book → Repairing → Entry
ended b r = replied (said (Ok r.left)) [] (going b none (r.fresh ++ b.service))

abbrev pub goes_on : Book → Repairing → ℕ → Entry
goes_on b r m =
    replied (said (Ok m)) []
    (going b (some (record { fresh = r.fresh; helpers = r.helpers; stand_ins = r.stand_ins; left = r.left - m })) b.service)

-- a call that is not refused
unfoldable pub accept : Book → Call → Entry
accept b (write file) = replied (said (Ok 0)) [] (noted b (some file) (tabulate b.sizes.n (λ i. i)))
accept b (lose board) = replied (said (Ok 0)) [] (going b (during b.repairing none (λ r. kept_on r board)) (without board b.service))
accept b (repair fresh helpers stand_ins) =
    replied (said (Ok (stripes b.sizes (book_length b) * length fresh * (2 * b.sizes.d + b.sizes.r - 1)))) []
    (noted b b.file (fresh ++ b.service))
accept b (read boards output) = replied (said (Ok 0)) (over (file_of b.file) output) b
-- "The file that reads must return is from then on the edited one."
accept b (edit offset bytes boards) = replied (said (Ok 0)) [] (noted b (some (put (file_of b.file) offset bytes)) b.service)
-- "It is finished after exactly t(d + r − 1) packets"
accept b (start fresh helpers stand_ins) =
    replied (said (Ok 0)) []
    (going b (some (record { fresh = fresh; helpers = helpers; stand_ins = stand_ins; left = length fresh * (b.sizes.d + b.sizes.r - 1) })) b.service)
accept b (step allowance packets) = during b.repairing (replied (said (Ok 0)) [] b) (λ r. pick (leb r.left allowance) (ended b r) (goes_on b r allowance))
accept b (careful boards output) = replied (said (Ok 0)) (over (file_of b.file) output) b
accept b (move board point helpers partners) =
    replied (said (Ok (stripes b.sizes (book_length b) * (2 * b.sizes.d + b.sizes.r - 1)))) [] (pointed_book b (set b.points board point))

-- "A call is refused with the first number, in the store's order, whose line holds by this book, and then changes nothing"
unfoldable pub enter : Book → Call → Entry
enter b call = settle (first store_order (book_lines b call)) (λ x. replied (said (Err x)) (output_of call) b) (accept b call)

-- the record that the book tells, and that of the repair beside it
abbrev pub book_record : Book → Record
book_record b =
    record { sizes = b.sizes; points = b.points; capacity = b.capacity; written = given b.file; length = book_length b; marks = tabulate max_boards (among b.service) }

-- packets carried
abbrev pub carried_by : Book → Repairing → ℕ
carried_by b r = packet_count b.sizes (length r.fresh) - r.left

abbrev pub book_running : Book → Running
book_running b = during b.repairing idle (λ r. running_by r.fresh r.helpers r.stand_ins (carried_by b r))

-- a record of a repair is one that the book tells: where none runs, any that is idle
abbrev pub Tells : Sizes → Option Repairing → Running → Type 0
Tells z none p = p.running ≡ false
Tells z (some r) p = p ≡ running_by r.fresh r.helpers r.stand_ins (packet_count z (length r.fresh) - r.left)

-- ---- the store

abbrev pub reply_of : Outcome → Reply
reply_of o = record { answer = o.answer; output = o.output }

-- the packet area after a call with this outcome: what an accepted step left
abbrev pub packets_after : List ℕ → Call → Outcome → List ℕ
packets_after before (step allowance packets) o = pick (eqb o.answer.refusal 0) o.packets before
packets_after before other o = before

-- ---- lists of calls

-- a call, or that the power fails: the calls after it are given this record of a repair
pub data Event : Type 0 where
  call : Call → Event
  power_fails : (given : Running) → Event

-- "the repair's own record and packets are gone"; "the calls after it are given an idle record beside the store's"
abbrev pub next : State → Event → State
next w (call c) = let o = act w c in record { kept = o.handed; running = o.running; area = o.area; packets = packets_after w.packets c o }
next w (power_fails p) = record { kept = w.kept; running = p; area = w.area; packets = [] }

-- a power failure has no reply
abbrev pub told : State → Event → List Reply
told w (call c) = reply_of (act w c) ∷ []
told w (power_fails p) = []

abbrev pub book_next : Book → Event → Book
book_next b (call c) = (enter b c).book
book_next b (power_fails p) = going b none b.service

abbrev pub book_told : Book → Event → List Reply
book_told b (call c) = (enter b c).reply ∷ []
book_told b (power_fails p) = []

-- what happens, and the area as it was altered before it
pub record Step : Type 0 where
  pub area : List ℕ
  pub event : Event

abbrev pub lent : State → Step → State
lent w t = record { kept = w.kept; running = w.running; area = t.area; packets = w.packets }

-- "altered since at most in bytes of boards out of service": of the same length, and the same in all bytes of boards that are in service by
-- the book
pub record Altered (b : Book) (s : Record) (old new : List ℕ) : Type 0 where
  pub as_long : length new ≡ length old
  pub in-service : (i : ℕ) → among b.service i ≡ true → part s new i ≡ part s old i

-- "the packet area unaltered": one of the right length, lent while a repair runs, has the bytes of all packets carried as the last accepted step left them;
-- its other bytes are free
abbrev pub Unaltered : Book → List ℕ → List ℕ → Type 0
Unaltered b old new =
    (r : Repairing) → b.repairing ≡ some r → length new ≡ packets_len (book_record b) (length r.fresh)
    → take (place_of (book_record b) (length r.fresh) (carried_by b r)) new ≡ take (place_of (book_record b) (length r.fresh) (carried_by b r)) old

-- a file to write is of bytes, so are an edit's, and a new point is one; after a power failure the record given is an idle one, whatever else it has
abbrev pub Fair : Book → List ℕ → Call → Type 0
Fair b old (write file) = Bytes file
Fair b old (lose board) = Unit
Fair b old (repair fresh helpers stand_ins) = Unit
Fair b old (read boards output) = Unit
Fair b old (edit offset bytes boards) = Bytes bytes
Fair b old (start fresh helpers stand_ins) = Unit
Fair b old (step allowance packets) = Unaltered b old packets
Fair b old (careful boards output) = Unit
Fair b old (move board point helpers partners) = point < 256

abbrev pub FairEvent : Book → List ℕ → Event → Type 0
FairEvent b old (call c) = Fair b old c
FairEvent b old (power_fails p) = p.running ≡ false

abbrev pub Allowed : State → Book → List Step → Type 0
Allowed w b [] = Unit
Allowed w b (t ∷ ts) =
    Altered b w.kept w.area t.area × FairEvent b w.packets t.event × Allowed (next (lent w t) t.event) (book_next b t.event) ts

-- the store's replies along the list, and where it ends
abbrev pub replies : State → List Step → List Reply
replies w [] = []
replies w (t ∷ ts) = told (lent w t) t.event ++ replies (next (lent w t) t.event) ts

abbrev pub final : State → List Step → State
final w [] = w
final w (t ∷ ts) = final (next (lent w t) t.event) ts

-- the ledger's, which sees what happens alone
abbrev pub book_replies : Book → List Event → List Reply
book_replies b [] = []
book_replies b (e ∷ es) = book_told b e ++ book_replies (book_next b e) es

abbrev pub book_final : Book → List Event → Book
book_final b [] = b
book_final b (e ∷ es) = book_final (book_next b e) es
