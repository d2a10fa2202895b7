-- Request A.8, a repair from its start on, over any records and any bytes: what holds while it goes on, whatever is called meanwhile. For lists from a set-up
-- on, Demand3.antt says it by the ledger. proofs/Stepped.antt has `power : Power` and `stepped : Stepped`, proofs/SteppedLists.antt `stepped-lists : SteppedLists`.
-- Assumes nothing.
use Rattle.std.specs.Prelude.{◌≡◌, true, false, ◌≢◌, ◌↔◌, List, [], ◌∷◌, ◌++◌, ℕ, ◌+◌, ◌-◌, ◌*◌, ◌≤◌, ◌<◌, min, eqb, length, take, get_or}
use Rattle.lists.specs.Tests.{pick, among}
use Rattle.sizes.specs.Sizing.{α, stripes}
use Rattle.store_spec.specs.Record.{Record, in_service, with_marks, part}
use Rattle.beside_spec.specs.Running.{Running, running_by, packet_count, packets_len, fresh_of}
use Rattle.beside_spec.specs.Lying.{place_of}
use Rattle.ledger_spec.specs.Demand3.{WholeStep}
use Rattle.beside_spec.specs.Acting.{write, lose, repair, read, edit, start, step, careful, move, State, act}
use Rattle.ledger_spec.specs.Ledger.{Event, call, power_fails, Step, lent, next, final}

-- ---- what may not be altered meanwhile

-- "boards in service .. unaltered": those whose marks are on
abbrev pub SameBoards : Record → List ℕ → List ℕ → Type 0
SameBoards s old new = (length new ≡ length old) × ((i : ℕ) → in_service s i ≡ true → part s new i ≡ part s old i)

-- "and the packet area unaltered": of the right length, it has the bytes of all packets carried as they were left
abbrev pub SamePackets : Record → Running → List ℕ → List ℕ → Type 0
SamePackets s p old new =
    length new ≡ packets_len s (length (fresh_of p))
    → take (place_of s (length (fresh_of p)) p.carried) new ≡ take (place_of s (length (fresh_of p)) p.carried) old

abbrev pub SameLent : State → Event → Type 0
SameLent w (call (write file)) = Unit
SameLent w (call (lose board)) = Unit
SameLent w (call (repair fresh helpers stand_ins)) = Unit
SameLent w (call (read boards output)) = Unit
SameLent w (call (edit offset bytes boards)) = Unit
SameLent w (call (start fresh helpers stand_ins)) = Unit
SameLent w (call (step allowance packets)) = SamePackets w.kept w.running w.packets packets
SameLent w (call (careful boards output)) = Unit
SameLent w (call (move board point helpers partners)) = Unit
SameLent w (power_fails p) = Unit

-- along a list: of boards alone, and of packets
abbrev pub BoardsUntouched : State → List Step → Type 0
BoardsUntouched w [] = Unit
BoardsUntouched w (t ∷ ts) = SameBoards w.kept w.area t.area × BoardsUntouched (next (lent w t) t.event) ts

abbrev pub PacketsUntouched : State → List Step → Type 0
PacketsUntouched w [] = Unit
PacketsUntouched w (t ∷ ts) = SameLent w t.event × PacketsUntouched (next (lent w t) t.event) ts

abbrev pub IsCall : Event → Type 0
IsCall (call c) = Unit
IsCall (power_fails p) = ⊥

-- the repair goes on: no power failure, and after each call it still runs
abbrev pub GoesOn : State → List Step → Type 0
GoesOn w [] = Unit
GoesOn w (t ∷ ts) = IsCall t.event × ((next (lent w t) t.event).running.running ≡ true) × GoesOn (next (lent w t) t.event) ts

-- ---- what happened meanwhile

-- the boards lost, by accepted calls
abbrev pub lost_by : State → Event → List ℕ
lost_by w (call (write file)) = []
lost_by w (call (lose board)) = pick (eqb (act w (lose board)).answer.refusal 0) (board ∷ []) []
lost_by w (call (repair fresh helpers stand_ins)) = []
lost_by w (call (read boards output)) = []
lost_by w (call (edit offset bytes boards)) = []
lost_by w (call (start fresh helpers stand_ins)) = []
lost_by w (call (step allowance packets)) = []
lost_by w (call (careful boards output)) = []
lost_by w (call (move board point helpers partners)) = []
lost_by w (power_fails p) = []

abbrev pub lost : State → List Step → List ℕ
lost w [] = []
lost w (t ∷ ts) = lost_by (lent w t) t.event ++ lost (next (lent w t) t.event) ts

-- the packets that steps answered that they carried
abbrev pub carried_at : State → Event → ℕ
carried_at w (call (write file)) = 0
carried_at w (call (lose board)) = 0
carried_at w (call (repair fresh helpers stand_ins)) = 0
carried_at w (call (read boards output)) = 0
carried_at w (call (edit offset bytes boards)) = 0
carried_at w (call (start fresh helpers stand_ins)) = 0
carried_at w (call (step allowance packets)) = (act w (step allowance packets)).answer.reported
carried_at w (call (careful boards output)) = 0
carried_at w (call (move board point helpers partners)) = 0
carried_at w (power_fails p) = 0

abbrev pub carried_in : State → List Step → ℕ
carried_in w [] = 0
carried_in w (t ∷ ts) = carried_at (lent w t) t.event + carried_in (next (lent w t) t.event) ts

-- ---- what holds

-- "the store's record and boards in service are as before the start but for losses since": `w` is the state before the start, `e` any later one while it runs
pub record AsBefore (w e : State) (gone : List ℕ) : Type 0 where
  pub same-record : e.kept ≡ with_marks w.kept e.kept.marks
  pub marks-are : (i : ℕ) → in_service e.kept i ≡ pick (among gone i) false (in_service w.kept i)
  pub boards-are : (i : ℕ) → in_service e.kept i ≡ true → part e.kept e.area i ≡ part w.kept w.area i
  -- "If power fails .. the repair's own record and packets are gone", and nothing else
  pub power-fails : (given : Running) → next e (power_fails given) ≡ record { kept = e.kept; running = given; area = e.area; packets = [] }

module _ (w : State) (fresh helpers stand_ins : List ℕ) (steps : List Step) where
  -- just after the start, and after the list
  abbrev pub started : State
  started = next w (call (start fresh helpers stand_ins))

  abbrev pub reached : State
  reached = final started steps

  -- where power may fail: a started repair that goes on along this list, whatever becomes of its packets. Its record has counted the packets that its steps answered.
  pub record Interrupted : Type 0 where
    pub as_before : AsBefore w reached (lost started steps)
    pub counted : reached.running.carried ≡ carried_in started steps

  -- the same with its packets untouched
  pub record Underway : Type 0 where
    -- its record, and the packets that its steps answered: fewer than "exactly t(d + r − 1)"
    pub running-is : reached.running ≡ running_by fresh helpers stand_ins (carried_in started steps)
    pub some_left : carried_in started steps < packet_count reached.kept.sizes (length fresh)
    -- "it leaves what the whole repair, with none running, would leave in place of the last step": a step that allows all that is left carries these,
    -- t(d + r − 1) in all, and ends it
    pub whole : (now : List ℕ) → SameBoards reached.kept reached.area now
        → (packets : List ℕ) → length packets ≡ packets_len reached.kept (length fresh) → SamePackets reached.kept reached.running reached.packets packets
        → (allowance : ℕ) → packet_count reached.kept.sizes (length fresh) - carried_in started steps ≤ allowance
        → WholeStep reached.kept reached.running now packets allowance fresh helpers stand_ins
        (packet_count reached.kept.sizes (length fresh) - carried_in started steps)

-- "If power fails between any two packets"
abbrev pub Power : Type 0
Power =
    (w : State) (fresh helpers stand_ins : List ℕ) (steps : List Step)
    → (act w (start fresh helpers stand_ins)).answer.refusal ≡ 0
    → GoesOn (next w (call (start fresh helpers stand_ins))) steps
    → BoardsUntouched (next w (call (start fresh helpers stand_ins))) steps
    → Interrupted w fresh helpers stand_ins steps

-- "Stepped to its end with boards in service and the packet area unaltered"
abbrev pub Stepped : Type 0
Stepped =
    (w : State) (fresh helpers stand_ins : List ℕ) (steps : List Step)
    → (act w (start fresh helpers stand_ins)).answer.refusal ≡ 0
    → GoesOn (next w (call (start fresh helpers stand_ins))) steps
    → BoardsUntouched (next w (call (start fresh helpers stand_ins))) steps
    → PacketsUntouched (next w (call (start fresh helpers stand_ins))) steps
    → Underway w fresh helpers stand_ins steps

-- Lists however long: when boards and packets are untouched along them and the repair goes on, what was lost and what was carried meanwhile.
pub record SteppedLists : Type 0 where
  -- two areas have the same boards exactly where they are as long and agree in each byte that lies in the C × α bytes of a board whose mark is on
  pub same-boards : (s : Record) (old new : List ℕ)
      → SameBoards s old new
      ↔ ((length new ≡ length old)
      × ((i p : ℕ) → in_service s i ≡ true
      → i * (s.capacity * α s.sizes) ≤ p → p < i * (s.capacity * α s.sizes) + s.capacity * α s.sizes
      → get_or new p 0 ≡ get_or old p 0))
  -- two packet areas of the right length have the same packets exactly where they agree in each byte of those carried; one of another length is free
  pub same-packets : (s : Record) (p : Running) (old new : List ℕ) → length new ≡ length old
      → length old ≡ stripes s.sizes s.length * length (fresh_of p) * α s.sizes
      → SamePackets s p old new
      ↔ ((x : ℕ) → x < (p.carried + min p.carried (length (fresh_of p) * s.sizes.d)) * stripes s.sizes s.length → get_or new x 0 ≡ get_or old x 0)
  -- and so is any while no packet is carried
  pub first-packets : (s : Record) (p : Running) (old new : List ℕ) → p.carried ≡ 0 → SamePackets s p old new
  pub other-packets : (s : Record) (p : Running) (old new : List ℕ) → length new ≢ packets_len s (length (fresh_of p)) → SamePackets s p old new
  -- nothing, and one event before a list
  pub boards-none : (w : State) → BoardsUntouched w []
  pub boards-more : (w : State) (t : Step) (ts : List Step)
      → BoardsUntouched w (t ∷ ts) ↔ (SameBoards w.kept w.area t.area × BoardsUntouched (next (lent w t) t.event) ts)
  pub packets-none : (w : State) → PacketsUntouched w []
  pub packets-more : (w : State) (t : Step) (ts : List Step)
      → PacketsUntouched w (t ∷ ts)
      ↔ (((allowance : ℕ) (packets : List ℕ) → t.event ≡ call (step allowance packets) → SamePackets w.kept w.running w.packets packets)
      × PacketsUntouched (next (lent w t) t.event) ts)
  pub goes_none : (w : State) → GoesOn w []
  pub goes-more : (w : State) (t : Step) (ts : List Step)
      → GoesOn w (t ∷ ts)
      ↔ (((p : Running) → t.event ≢ power_fails p) × ((next (lent w t) t.event).running.running ≡ true) × GoesOn (next (lent w t) t.event) ts)
  -- lost are the boards of accepted losses
  pub lost-none : (w : State) → lost w [] ≡ []
  pub lost_one : (w : State) (board : ℕ) (t : Step) (ts : List Step) → t.event ≡ call (lose board) → (act (lent w t) (lose board)).answer.refusal ≡ 0
      → lost w (t ∷ ts) ≡ board ∷ lost (next (lent w t) t.event) ts
  pub lost-refused : (w : State) (board : ℕ) (t : Step) (ts : List Step) → t.event ≡ call (lose board) → (act (lent w t) (lose board)).answer.refusal ≢ 0
      → lost w (t ∷ ts) ≡ lost (next (lent w t) t.event) ts
  pub lost-other : (w : State) (t : Step) (ts : List Step) → ((board : ℕ) → t.event ≢ call (lose board)) → lost w (t ∷ ts) ≡ lost (next (lent w t) t.event) ts
  -- carried are the packets that steps answered, which is 0 where one is refused
  pub carried_none : (w : State) → carried_in w [] ≡ 0
  pub carried-one : (w : State) (allowance : ℕ) (packets : List ℕ) (t : Step) (ts : List Step) → t.event ≡ call (step allowance packets)
      → carried_in w (t ∷ ts) ≡ (act (lent w t) (step allowance packets)).answer.reported + carried_in (next (lent w t) t.event) ts
  pub carried_other : (w : State) (t : Step) (ts : List Step) → ((allowance : ℕ) (packets : List ℕ) → t.event ≢ call (step allowance packets))
      → carried_in w (t ∷ ts) ≡ carried_in (next (lent w t) t.event) ts
