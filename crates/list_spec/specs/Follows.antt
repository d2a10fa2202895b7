-- Demand 3 for whatever follows the definitions: methods on a struct, or calls on lent words. `X` holds both records, `kept` and `beside` tell them; each call
-- gives back what the definition of the call gives on them, and after a power failure it goes on from some X with the store's record and the record given.
-- proofs/Follows.antt has `follows : FollowsDemand3`, `follows-worn : FollowsWorn` and `follows-laws : FollowsLaws`.
-- Assumes nothing.
use Rattle.std.specs.Prelude.{◌≡◌, List, [], ◌∷◌, ◌++◌, ℕ, length}
use Rattle.sizes.specs.declared.Sizes.{Sizes}
use Rattle.sizes.specs.Refusals.{Said}
use Rattle.store_spec.specs.Record.{Record}
use Rattle.beside_spec.specs.Running.{Running}
use Rattle.beside_spec.specs.Both.{Outcome, set_up_both}
use Rattle.beside_spec.specs.Acting.{Call, State, act}
use Rattle.ledger_spec.specs.Ledger.{Event, call, power_fails, Step, Reply, reply_of, packets_after, Allowed, replies, final, open_book, book_replies, book_final}
use Rattle.ledger_spec.specs.Demand3.{Intact, begun, events}
use Rattle.list_spec.specs.WornLaws.{AnyBytes, Worn}

-- what one call gave back
pub record Given (X : Type 0) : Type 0 where
  pub handed : X
  pub answer : Said
  pub area : List ℕ
  pub output : List ℕ
  pub packets : List ℕ

-- what there was of one event: what a call gave back, or the X that goes on after a power failure
pub data Moment (X : Type 0) : Type 0 where
  gave : Given X → Moment X
  anew : X → Moment X

module _ (X : Type 0) (kept : X → Record) (beside : X → Running) where
  abbrev pub outcome_of : Given X → Outcome
  outcome_of g = record { answer = g.answer; handed = kept g.handed; running = beside g.handed; area = g.area; output = g.output; packets = g.packets }

  -- one event, on x and this area
  abbrev pub Meets : X → List ℕ → Event → Moment X → Type 0
  Meets x area (call c) (gave g) = outcome_of g ≡ act (record { kept = kept x; running = beside x; area = area; packets = [] }) c
  Meets x area (call c) (anew y) = ⊥
  Meets x area (power_fails p) (gave g) = ⊥
  Meets x area (power_fails p) (anew y) = (kept y ≡ kept x) × (beside y ≡ p)

  abbrev pub handed_on : Moment X → X
  handed_on (gave g) = g.handed
  handed_on (anew y) = y

  -- each event is on what the one before it handed on
  abbrev pub Follows : X → List Step → List (Moment X) → Type 0
  Follows x [] [] = Unit
  Follows x [] (h ∷ hs) = ⊥
  Follows x (t ∷ ts) [] = ⊥
  Follows x (t ∷ ts) (h ∷ hs) = Meets x t.area t.event h × Follows (handed_on h) ts hs

  -- the replies, one for each call
  abbrev pub reply_at : Moment X → List Reply
  reply_at (gave g) = reply_of (outcome_of g) ∷ []
  reply_at (anew y) = []

  abbrev pub replies_in : List (Moment X) → List Reply
  replies_in [] = []
  replies_in (h ∷ hs) = reply_at h ++ replies_in hs

  -- where it ends: the records that were handed on last, the area as the last call left it or as it was when the power failed, and the packet area that the last
  -- accepted step left
  abbrev pub area_at : List ℕ → Moment X → List ℕ
  area_at area (gave g) = g.area
  area_at area (anew y) = area

  abbrev pub packets_at : List ℕ → Event → Moment X → List ℕ
  packets_at packets (call c) (gave g) = packets_after packets c (outcome_of g)
  packets_at packets (call c) (anew y) = []
  packets_at packets (power_fails p) h = []

  abbrev pub ending : X → List ℕ → List ℕ → List Step → List (Moment X) → State
  ending x area packets [] hs = record { kept = kept x; running = beside x; area = area; packets = packets }
  ending x area packets (t ∷ ts) [] = record { kept = kept x; running = beside x; area = area; packets = packets }
  ending x area packets (t ∷ ts) (h ∷ hs) = ending (handed_on h) (area_at t.area h) (packets_at packets t.event h) ts hs

  -- the answers of such a run are the ledger's, and where it ends demand 3's ending holds of what was handed on last
  abbrev pub FollowsDemand3 : Type 0
  FollowsDemand3 =
      (old : Record) (p : Running) (z : Sizes) (xs : List ℕ) (c : ℕ) (x : X)
      → kept x ≡ (set_up_both old p z xs c).handed → beside x ≡ (set_up_both old p z xs c).running → (set_up_both old p z xs c).answer.refusal ≡ 0
      → (area : List ℕ) (steps : List Step) (run : List (Moment X)) → Allowed (begun old p z xs c area) (open_book z xs c (length area)) steps → Follows x steps run
      → (replies_in run ≡ book_replies (open_book z xs c (length area)) (events steps))
      × Intact (ending x area [] steps run) (book_final (open_book z xs c (length area)) (events steps))

  -- request A.11: so it is where any bytes are altered between calls, of boards in service too
  abbrev pub FollowsWorn : Type 0
  FollowsWorn =
      (old : Record) (p : Running) (z : Sizes) (xs : List ℕ) (c : ℕ) (x : X)
      → kept x ≡ (set_up_both old p z xs c).handed → beside x ≡ (set_up_both old p z xs c).running → (set_up_both old p z xs c).answer.refusal ≡ 0
      → (area : List ℕ) (steps : List Step) (run : List (Moment X)) → AnyBytes (length area) steps → Follows x steps run
      → Worn (ending x area [] steps run) (book_final (open_book z xs c (length area)) (events steps))

  -- runs however long: nothing but this is asked of a call that stands before a run, and of a power failure; where they end, and what is compared
  pub record FollowsLaws : Type 0 where
    pub none-follows : (x : X) → Follows x [] []
    pub call-follows : (x : X) (area : List ℕ) (c : Call) (g : Given X) (ts : List Step) (hs : List (Moment X))
        → outcome_of g ≡ act (record { kept = kept x; running = beside x; area = area; packets = [] }) c → Follows g.handed ts hs
        → Follows x (record { area = area; event = call c } ∷ ts) (gave g ∷ hs)
    pub fails-follows : (x y : X) (area : List ℕ) (p : Running) (ts : List Step) (hs : List (Moment X))
        → kept y ≡ kept x → beside y ≡ p → Follows y ts hs → Follows x (record { area = area; event = power_fails p } ∷ ts) (anew y ∷ hs)
    -- from any records and over any bytes a run goes as the definitions' list goes: its replies are theirs, and it ends where that ends. So what is said of such lists
    -- (Stepped.antt: Power, Stepped) holds of runs
    pub final-is : (x : X) (area packets : List ℕ) (steps : List Step) (run : List (Moment X)) → Follows x steps run
        → let w : State = record { kept = kept x; running = beside x; area = area; packets = packets } in
        (replies_in run ≡ replies w steps) × (ending x area packets steps run ≡ final w steps)
    pub outcome-is : (g : Given X)
        → outcome_of g ≡ record { answer = g.answer; handed = kept g.handed; running = beside g.handed; area = g.area; output = g.output; packets = g.packets }
    pub replies-none : replies_in [] ≡ []
    pub replies-call : (g : Given X) (hs : List (Moment X)) → replies_in (gave g ∷ hs) ≡ record { answer = g.answer; output = g.output } ∷ replies_in hs
    pub replies-fails : (y : X) (hs : List (Moment X)) → replies_in (anew y ∷ hs) ≡ replies_in hs
    pub ends-none : (x : X) (area packets : List ℕ) → ending x area packets [] [] ≡ record { kept = kept x; running = beside x; area = area; packets = packets }
    pub ends-call : (x : X) (area packets now : List ℕ) (c : Call) (g : Given X) (ts : List Step) (hs : List (Moment X))
        → ending x area packets (record { area = now; event = call c } ∷ ts) (gave g ∷ hs) ≡ ending g.handed g.area (packets_after packets c (outcome_of g)) ts hs
    pub ends-fails : (x y : X) (area packets now : List ℕ) (p : Running) (ts : List Step) (hs : List (Moment X))
        → ending x area packets (record { area = now; event = power_fails p } ∷ ts) (anew y ∷ hs) ≡ ending y now [] ts hs
