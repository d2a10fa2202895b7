-- Demand 3's premises can be met: which lists of calls are allowed, and which areas are altered in no more than bytes of boards out of service.
-- proofs/Premises.antt has `premises : Premises`.
-- Assumes nothing.
use Rattle.std.specs.Prelude.{◌≡◌, Bool, true, false, List, [], ◌∷◌, ◌++◌, map, ◌≢◌, ◌↔◌, ℕ, ◌+◌, ◌-◌, ◌*◌, ◌≤◌, ◌<◌, min, eqb, length, get_or}
use Rattle.std.proofs.Math.Option.{some}
use Rattle.lists.specs.Tests.{pick, among}
use Rattle.lists.specs.Lists.{All, Bytes}
use Rattle.sizes.specs.declared.Sizes.{Sizes}
use Rattle.sizes.specs.Sizing.{α, stripes}
use Rattle.store_spec.specs.Record.{Record}
use Rattle.beside_spec.specs.Running.{Running, packets_len}
use Rattle.beside_spec.specs.Acting.{Call, write, lose, repair, read, edit, start, step, careful, move}
use Rattle.ledger_spec.specs.Ledger.{Event, call, power_fails, Book, Repairing, during, book_length, book_record}
use Rattle.ledger_spec.specs.Ledger.{carried_by, Step, Altered, Unaltered, Fair, Allowed, lent, next, book_next, open_book}
use Rattle.beside_spec.specs.Acting.{State}
use Rattle.ledger_spec.specs.Demand3.{begun, events}

-- no repair runs, or it has carried no packet
abbrev pub none_carried : Book → Bool
none_carried b = during b.repairing true (λ r. eqb (carried_by b r) 0)

-- what is to be of bytes in a list: the files that it writes, the bytes that it edits, and the new points that it names, each as a list of one byte
abbrev pub files_of : Call → List (List ℕ)
files_of (write file) = file ∷ []
files_of (lose board) = []
files_of (repair fresh helpers stand_ins) = []
files_of (read boards output) = []
files_of (edit offset bytes boards) = bytes ∷ []
files_of (start fresh helpers stand_ins) = []
files_of (step allowance packets) = []
files_of (careful boards output) = []
files_of (move board point helpers partners) = (point ∷ []) ∷ []

abbrev pub files : List Event → List (List ℕ)
files [] = []
files (call c ∷ es) = files_of c ++ files es
files (power_fails p ∷ es) = files es

-- after each power failure an idle record is given
abbrev pub IdleGiven : List Event → Type 0
IdleGiven [] = Unit
IdleGiven (call c ∷ es) = IdleGiven es
IdleGiven (power_fails p ∷ es) = (p.running ≡ false) × IdleGiven es

-- a step is lent the packet area that the last accepted step left, once packets of a repair are carried; before that, whatever the list has
abbrev pub lent_again : State → Book → Event → Event
lent_again w b (call (write file)) = call (write file)
lent_again w b (call (lose board)) = call (lose board)
lent_again w b (call (repair fresh helpers stand_ins)) = call (repair fresh helpers stand_ins)
lent_again w b (call (read boards output)) = call (read boards output)
lent_again w b (call (edit offset bytes boards)) = call (edit offset bytes boards)
lent_again w b (call (start fresh helpers stand_ins)) = call (start fresh helpers stand_ins)
lent_again w b (call (step allowance packets)) = call (step allowance (pick (none_carried b) packets w.packets))
lent_again w b (call (careful boards output)) = call (careful boards output)
lent_again w b (call (move board point helpers partners)) = call (move board point helpers partners)
lent_again w b (power_fails p) = power_fails p

-- the steps of these events with nothing altered between them: each is given the area that the last one left
abbrev pub unaltered : State → Book → List Event → List Step
unaltered w b [] = []
unaltered w b (e ∷ es) =
    record { area = w.area; event = lent_again w b e } ∷ unaltered (next w (lent_again w b e)) (book_next b (lent_again w b e)) es

-- the two areas agree in each byte that lies in the C × α bytes of a board in service
abbrev pub AgreeInService : Book → Record → List ℕ → List ℕ → Type 0
AgreeInService b s old new =
    (i p : ℕ) → among b.service i ≡ true
    → i * (s.capacity * α s.sizes) ≤ p → p < i * (s.capacity * α s.sizes) + s.capacity * α s.sizes
    → get_or new p 0 ≡ get_or old p 0

-- what is asked of one entry of a list: of the area, of a file to write, of an edit's bytes and of a new point, of a step's packet area, of the record given
-- after a power failure
pub record Asked (w : State) (b : Book) (t : Step) : Type 0 where
  pub as_long : length t.area ≡ length w.area
  pub agrees : AgreeInService b w.kept w.area t.area
  pub writes_bytes : (file : List ℕ) → t.event ≡ call (write file) → Bytes file
  pub edits-bytes : (offset : ℕ) (bytes boards : List ℕ) → t.event ≡ call (edit offset bytes boards) → Bytes bytes
  pub moves-byte : (board point : ℕ) (helpers partners : List ℕ) → t.event ≡ call (move board point helpers partners) → point < 256
  pub packets-lent : (allowance : ℕ) (packets : List ℕ) → t.event ≡ call (step allowance packets) → Unaltered b w.packets packets
  pub idle-given : (given : Running) → t.event ≡ power_fails given → given.running ≡ false

-- an event but for the packet area lent
abbrev pub bare : Event → Event
bare (call (write file)) = call (write file)
bare (call (lose board)) = call (lose board)
bare (call (repair fresh helpers stand_ins)) = call (repair fresh helpers stand_ins)
bare (call (read boards output)) = call (read boards output)
bare (call (edit offset bytes boards)) = call (edit offset bytes boards)
bare (call (start fresh helpers stand_ins)) = call (start fresh helpers stand_ins)
bare (call (step allowance packets)) = call (step allowance [])
bare (call (careful boards output)) = call (careful boards output)
bare (call (move board point helpers partners)) = call (move board point helpers partners)
bare (power_fails p) = power_fails p

pub record Premises : Type 0 where
  -- every list whose files and new points are of bytes is allowed, with nothing altered, after a set-up of any sizes and points over any area
  pub all-allowed : (old : Record) (p : Running) (z : Sizes) (xs : List ℕ) (c : ℕ) (area : List ℕ) (es : List Event) → All Bytes (files es) → IdleGiven es
      → Allowed (begun old p z xs c area) (open_book z xs c (length area)) (unaltered (begun old p z xs c area) (open_book z xs c (length area)) es)
  -- and what is fair is of bytes
  pub fair-bytes : (b : Book) (old : List ℕ) (c : Call) → Fair b old c → All Bytes (files_of c)
  -- these steps are of these events, but for the packet areas lent
  pub same-events : (w : State) (b : Book) (es : List Event) → map bare (events (unaltered w b es)) ≡ map bare es
  pub whole-events : (w : State) (b : Book) (es : List Event) → All (λ e. (allowance : ℕ) (packets : List ℕ) → e ≢ call (step allowance packets)) es
      → events (unaltered w b es) ≡ es
  pub bare_step : (allowance : ℕ) (packets : List ℕ) → bare (call (step allowance packets)) ≡ call (step allowance [])
  pub bare-other : (e : Event) → ((allowance : ℕ) (packets : List ℕ) → e ≢ call (step allowance packets)) → bare e ≡ e
  -- and every longer list: nothing but this is asked of an entry that stands before an allowed list, whatever was altered in boards out of service
  pub none_allowed : (w : State) (b : Book) → Allowed w b []
  pub more-allowed : (w : State) (b : Book) (t : Step) (ts : List Step)
      → Allowed w b (t ∷ ts) ↔ (Asked w b t × Allowed (next (lent w t) t.event) (book_next b t.event) ts)
  -- while no packet of a repair is carried, any packet area may be lent; and so may any of another length at any time
  pub first-free : (b : Book) (old new : List ℕ) → ((r : Repairing) → b.repairing ≡ some r → length r.fresh * (b.sizes.d + b.sizes.r - 1) ≤ r.left) → Unaltered b old new
  pub wrong-free : (b : Book) (old new : List ℕ) → ((r : Repairing) → b.repairing ≡ some r → length new ≢ packets_len (book_record b) (length r.fresh)) → Unaltered b old new
  -- what the lists above have: in propositions, when no packet is carried; what is to be of bytes, and after what an idle record is given; and the entries that a list
  -- has with nothing altered
  pub none-carried-is : (b : Book)
      → (none_carried b ≡ true) ↔ ((r : Repairing) → b.repairing ≡ some r → length r.fresh * (b.sizes.d + b.sizes.r - 1) ≤ r.left)
  pub files-none : files [] ≡ []
  pub files-write : (file : List ℕ) (es : List Event) → files (call (write file) ∷ es) ≡ file ∷ files es
  pub files-edit : (offset : ℕ) (bytes boards : List ℕ) (es : List Event) → files (call (edit offset bytes boards) ∷ es) ≡ bytes ∷ files es
  pub files-move : (board point : ℕ) (helpers partners : List ℕ) (es : List Event) → files (call (move board point helpers partners) ∷ es) ≡ (point ∷ []) ∷ files es
  pub files-other : (e : Event) (es : List Event) → ((file : List ℕ) → e ≢ call (write file)) → ((offset : ℕ) (bytes boards : List ℕ) → e ≢ call (edit offset bytes boards))
      → ((board point : ℕ) (helpers partners : List ℕ) → e ≢ call (move board point helpers partners)) → files (e ∷ es) ≡ files es
  pub idle-none : IdleGiven []
  pub idle-more : (e : Event) (es : List Event) → IdleGiven (e ∷ es) ↔ (((p : Running) → e ≡ power_fails p → p.running ≡ false) × IdleGiven es)
  pub again-free : (w : State) (b : Book) (allowance : ℕ) (packets : List ℕ) → none_carried b ≡ true
      → lent_again w b (call (step allowance packets)) ≡ call (step allowance packets)
  pub again-left : (w : State) (b : Book) (allowance : ℕ) (packets : List ℕ) → none_carried b ≡ false
      → lent_again w b (call (step allowance packets)) ≡ call (step allowance w.packets)
  pub again-other : (w : State) (b : Book) (e : Event) → ((allowance : ℕ) (packets : List ℕ) → e ≢ call (step allowance packets)) → lent_again w b e ≡ e
  pub unaltered-none : (w : State) (b : Book) → unaltered w b [] ≡ []
  pub unaltered-more : (w : State) (b : Book) (e : Event) (es : List Event) → let a = lent_again w b e in
      unaltered w b (e ∷ es) ≡ record { area = w.area; event = a } ∷ unaltered (next w a) (book_next b a) es
  -- altered is an area exactly where it is as long and agrees in each byte of a board in service
  pub altered-is : (b : Book) (s : Record) (old new : List ℕ) → Altered b s old new ↔ ((length new ≡ length old) × AgreeInService b s old new)
  -- two packet areas of the right length, lent while a repair runs: unaltered exactly where they agree in each byte of the packets carried, t(d + r − 1) less
  -- those left; of these up to t × d have 2S bytes, the others S
  pub unaltered-is : (b : Book) (r : Repairing) (old new : List ℕ) → b.repairing ≡ some r → length new ≡ length old
      → length old ≡ stripes b.sizes (book_length b) * length r.fresh * α b.sizes
      → let q = length r.fresh * (b.sizes.d + b.sizes.r - 1) - r.left in
      Unaltered b old new ↔ ((x : ℕ) → x < (q + min q (length r.fresh * b.sizes.d)) * stripes b.sizes (book_length b) → get_or new x 0 ≡ get_or old x 0)
