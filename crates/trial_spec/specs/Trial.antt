-- Request A.2, 'A load we can all repeat', the second program: what it reads, the calls that it draws, and what it prints.
-- Assumes nothing.
use Rattle.std.specs.Prelude.{Bool, List, [], ◌∷◌, ◌++◌, ℕ, zero, suc, ◌+◌, ◌%◌, leb, eqb, length, replicate}
use Rattle.std.proofs.Math.Option.{Option, some, none}
use Rattle.lists.specs.Tests.{pick, alls}
use Rattle.lists.specs.Lists.{tabulate, join}
use Rattle.number_lines.specs.Lines.{line}
use Rattle.sizes.specs.declared.Sizes.{Sizes}
use Rattle.sizes.specs.Refusals.{Said}
use Rattle.mbcr.specs.Share.{standard}
use Rattle.board_spec.specs.Text.{decimal}
use Rattle.printer.specs.Printer.{refused_line, max_file}
use Rattle.store_spec.specs.Record.{Record, new_record, area_len}
use Rattle.store_spec.specs.Calls.{set_up_call}
use Rattle.beside_spec.specs.Running.{Running, idle}
use Rattle.beside_spec.specs.Both.{Outcome}
use Rattle.beside_spec.specs.Acting.{Call, write, lose, repair, read, edit, start, step, careful, move, State, act}
use Rattle.ledger_spec.specs.Ledger.{Reply, reply_of}
use Rattle.ledger_spec.specs.Demand3.{begun}
use Rattle.generator.specs.Generator.{step as stepped, top_byte, after, emitted}

-- ---- what it reads

pub record Load : Type 0 where
  pub sizes : Sizes
  pub capacity : ℕ
  pub seed : ℕ
  pub length : ℕ
  pub calls : ℕ

-- "the lines n=, k=, d=, r=, C=, seed=, length= and calls=, in the share printer's form"
abbrev pub eight_lines : {A : Type 0} → A → List ℕ → (Load → List ℕ → A) → A
eight_lines bad input go =
    line bad (0x6E ∷ 0x3D ∷ []) input (λ n input.
    line bad (0x6B ∷ 0x3D ∷ []) input (λ k input.
    line bad (0x64 ∷ 0x3D ∷ []) input (λ d input.
    line bad (0x72 ∷ 0x3D ∷ []) input (λ r input.
    line bad (0x43 ∷ 0x3D ∷ []) input (λ C input.
    line bad (0x73 ∷ 0x65 ∷ 0x65 ∷ 0x64 ∷ 0x3D ∷ []) input (λ seed input.
    line bad (0x6C ∷ 0x65 ∷ 0x6E ∷ 0x67 ∷ 0x74 ∷ 0x68 ∷ 0x3D ∷ []) input (λ L input.
    line bad (0x63 ∷ 0x61 ∷ 0x6C ∷ 0x6C ∷ 0x73 ∷ 0x3D ∷ []) input (λ calls input.
    go (record { sizes = record { n = n; k = k; d = d; r = r }; capacity = C; seed = seed; length = L; calls = calls }) input))))))))

-- the store's record newly set up, at document 01's points: "The earlier programs keep points 0 to n − 1"
abbrev pub new_store : Load → Record
new_store l = new_record l.sizes (standard l.sizes) l.capacity

-- "a seed or calls above 4,294,967,295, a refused set-up, an area above 32,768 bytes or a length above 16,384": none of these
unfoldable pub taken : Load → Bool
taken l =
    alls
    (leb l.seed 4294967295
    ∷ leb l.calls 4294967295
    ∷ eqb (set_up_call (new_store l) l.sizes (standard l.sizes) l.capacity).answer.refusal 0
    ∷ leb (area_len (new_store l)) 32768
    ∷ leb l.length max_file
    ∷ [])

-- "reads just the lines": nothing is behind them
unfoldable pub loaded : List ℕ → Option Load
loaded input = eight_lines none input (λ l behind. pick (alls (taken l ∷ eqb (length behind) 0 ∷ [])) (some l) none)

-- ---- the calls that it draws

-- a call, and the generator's state after it
pub record Drawn : Type 0 where
  pub call : Call
  pub state : ℕ

-- "Lists count on from there modulo n"
abbrev pub counted : ℕ → ℕ → ℕ → List ℕ
counted n first m = tabulate m (λ i. (first + i) % n)

-- "lose, repair or read", counted from 1: "the r fresh before the d helpers, the same d for each fresh board"; "The trial load names t = r" (request A.3),
-- so no stand-ins; "a read's output has room for L"
abbrev pub board_call : Load → ℕ → ℕ → Call
board_call l op first =
    let z = l.sizes in
    pick (eqb op 1) (lose first)
    (pick (eqb op 2) (repair (counted z.n first z.r) (join z.r (λ _. counted z.n (first + z.r) z.d)) [])
    (read (counted z.n first z.k) (replicate l.length 0)))

-- "a byte modulo 4, counted from 0, picks write, lose, repair or read, and the next byte modulo n the first board"; "A write takes the next L bytes instead"
unfoldable pub drawn : Load → ℕ → Drawn
drawn l state =
    let picked = stepped state in
    let next = stepped picked in
    pick (eqb (top_byte picked % 4) 0)
    (record { call = write (emitted l.length picked); state = after l.length picked })
    (record { call = board_call l (top_byte picked % 4) (top_byte next % l.sizes.n); state = next })

-- m calls, one after another: "It draws each call from that stream", which begins with the seed
abbrev pub drawn_calls : Load → ℕ → ℕ → List Call
drawn_calls l zero state = []
drawn_calls l (suc m) state = let d = drawn l state in d.call ∷ drawn_calls l m d.state

-- ---- what it prints

-- "that word"; an edit (request A.6), a start and a step (A.8), a careful read (A.11) and a move (A.10) are never drawn
abbrev pub word : Call → List ℕ
word (write file) = 0x77 ∷ 0x72 ∷ 0x69 ∷ 0x74 ∷ 0x65 ∷ []
word (lose board) = 0x6C ∷ 0x6F ∷ 0x73 ∷ 0x65 ∷ []
word (repair fresh helpers stand_ins) = 0x72 ∷ 0x65 ∷ 0x70 ∷ 0x61 ∷ 0x69 ∷ 0x72 ∷ []
word (read boards output) = 0x72 ∷ 0x65 ∷ 0x61 ∷ 0x64 ∷ []
word (edit offset bytes boards) = 0x65 ∷ 0x64 ∷ 0x69 ∷ 0x74 ∷ []
word (start fresh helpers stand_ins) = 0x73 ∷ 0x74 ∷ 0x61 ∷ 0x72 ∷ 0x74 ∷ []
word (step allowance packets) = 0x73 ∷ 0x74 ∷ 0x65 ∷ 0x70 ∷ []
word (careful boards output) = 0x63 ∷ 0x61 ∷ 0x72 ∷ 0x65 ∷ 0x66 ∷ 0x75 ∷ 0x6C ∷ []
word (move board point helpers partners) = 0x6D ∷ 0x6F ∷ 0x76 ∷ 0x65 ∷ []

-- "a line op= answer= moved=, separated by single spaces: that word, the refusal or 0, the bytes reported or 0"
unfoldable pub call_line : Call → Said → List ℕ
call_line call a =
    (0x6F ∷ 0x70 ∷ 0x3D ∷ []) ++ word call
    ++ (0x20 ∷ 0x61 ∷ 0x6E ∷ 0x73 ∷ 0x77 ∷ 0x65 ∷ 0x72 ∷ 0x3D ∷ []) ++ decimal a.refusal
    ++ (0x20 ∷ 0x6D ∷ 0x6F ∷ 0x76 ∷ 0x65 ∷ 0x64 ∷ 0x3D ∷ []) ++ decimal a.reported
    ++ (0x0A ∷ [])

-- "After each call it prints a line": each call with its reply
abbrev pub printed : List Call → List Reply → List ℕ
printed [] replies = []
printed (call ∷ calls) [] = []
printed (call ∷ calls) (reply ∷ replies) = call_line call reply.answer ++ printed calls replies

-- what a call leaves to the next: both records, and the area; no packet area, as none of the calls drawn is a step
abbrev pub left : Outcome → State
left o = record { kept = o.handed; running = o.running; area = o.area; packets = [] }

-- the store's replies to calls one after another, with nothing altered between them
abbrev pub store_replies : State → List Call → List Reply
store_replies w [] = []
store_replies w (call ∷ calls) = let o = act w call in reply_of o ∷ store_replies (left o) calls

-- the whole load, over an area with these first bytes and whatever records were handed to the set-up: that of a repair, which it hands on idle, is beside
-- the store's in every call (request A.8)
unfoldable pub trial_over : Record → Running → List ℕ → Load → List ℕ
trial_over old p area l =
    let calls = drawn_calls l l.calls l.seed in
    printed calls (store_replies (begun old p l.sizes (standard l.sizes) l.capacity area) calls)

-- over an area of bytes 00
abbrev pub trial_of : Option Load → List ℕ
trial_of none = refused_line 1
trial_of (some l) = trial_over (new_store l) idle (replicate (area_len (new_store l)) 0) l

-- "Any other input .. prints just refused=1."
unfoldable pub trial_text : List ℕ → List ℕ
trial_text input = trial_of (loaded input)
