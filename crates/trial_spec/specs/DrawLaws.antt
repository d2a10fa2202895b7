-- What holds of each part of the trial, for all numbers and lists: what is read, what each draw picks, and what is printed. proofs/DrawLaws.antt has
-- `draw-laws : DrawLaws`.
-- Assumes nothing.
use Rattle.std.specs.Prelude.{◌≡◌, ◌⊎◌, List, [], ◌∷◌, ◌++◌, ℕ, zero, suc, ◌+◌, ◌*◌, ◌/◌, ◌%◌, ◌<◌, length, get_or, replicate}
use Rattle.std.proofs.Math.Option.{some, none}
use Rattle.lists.specs.Tests.{pick}
use Rattle.number_lines.specs.Laws.{Number}
use Rattle.sizes.specs.Refusals.{Said}
use Rattle.board_spec.specs.Demand1.{value}
use Rattle.board_spec.specs.Text.{decimal, text_line}
use Rattle.beside_spec.specs.Acting.{Call, write, lose, repair, read, State}
use Rattle.ledger_spec.specs.Ledger.{Reply}
use Rattle.generator.specs.Generator.{after, emitted}
use Rattle.trial_spec.specs.Trial.{Load, taken, loaded, drawn, drawn_calls, call_line, printed, store_replies}

-- ---- what is read

-- the digits of the eight numbers
pub record Eight : Type 0 where
  pub n : List ℕ
  pub k : List ℕ
  pub d : List ℕ
  pub r : List ℕ
  pub C : List ℕ
  pub seed : List ℕ
  pub L : List ℕ
  pub calls : List ℕ

-- each is a decimal with no leading zero
abbrev pub Numbers : Eight → Type 0
Numbers e = Number e.n × Number e.k × Number e.d × Number e.r × Number e.C × Number e.seed × Number e.L × Number e.calls

-- their lines, and what is behind them
abbrev pub asks : Eight → List ℕ → List ℕ
asks e behind =
    text_line (0x6E ∷ []) e.n
    ++ (text_line (0x6B ∷ []) e.k
    ++ (text_line (0x64 ∷ []) e.d
    ++ (text_line (0x72 ∷ []) e.r
    ++ (text_line (0x43 ∷ []) e.C
    ++ (text_line (0x73 ∷ 0x65 ∷ 0x65 ∷ 0x64 ∷ []) e.seed
    ++ (text_line (0x6C ∷ 0x65 ∷ 0x6E ∷ 0x67 ∷ 0x74 ∷ 0x68 ∷ []) e.L
    ++ (text_line (0x63 ∷ 0x61 ∷ 0x6C ∷ 0x6C ∷ 0x73 ∷ []) e.calls ++ behind)))))))

-- the load with the numbers that they spell
abbrev pub spelt : Eight → Load
spelt e = record {
  sizes = record { n = value e.n 0; k = value e.k 0; d = value e.d 0; r = value e.r 0 };
  capacity = value e.C 0;
  seed = value e.seed 0;
  length = value e.L 0;
  calls = value e.calls 0;
}

-- the input is these lines, and something behind them
pub record Asked (input : List ℕ) : Type 0 where
  pub digits : Eight
  pub numbers : Numbers digits
  pub behind : List ℕ
  pub whole : input ≡ asks digits behind

-- ---- what is drawn

-- the byte that is emitted by step m from a state, counted from 1
abbrev pub byte : ℕ → ℕ → ℕ
byte m state = after m state / 16777216

-- boards that count on from the first modulo n, so many
pub record CountsOn (n first count : ℕ) (boards : List ℕ) : Type 0 where
  pub as_many : length boards ≡ count
  pub each : (i : ℕ) → i < count → get_or boards i 0 ≡ (first + i) % n

-- "the same d for each fresh board"
pub record SameForEach (n first count each : ℕ) (boards : List ℕ) : Type 0 where
  pub as_many : length boards ≡ each * count
  pub all : (j i : ℕ) → j < each → i < count → get_or boards (j * count + i) 0 ≡ (first + i) % n

-- r fresh boards from the first on, then d helpers
pub record Repairs (l : Load) (first : ℕ) (call : Call) : Type 0 where
  pub fresh : List ℕ
  pub helpers : List ℕ
  pub is : call ≡ repair fresh helpers []
  pub fresh-are : CountsOn l.sizes.n first l.sizes.r fresh
  pub helpers-are : SameForEach l.sizes.n (first + l.sizes.r) l.sizes.d l.sizes.r helpers

-- k boards from the first on, and room for L
pub record Reads (l : Load) (first : ℕ) (call : Call) : Type 0 where
  pub boards : List ℕ
  pub is : call ≡ read boards (replicate l.length 0)
  pub boards-are : CountsOn l.sizes.n first l.sizes.k boards

-- the state before call i, counted from 0
abbrev pub before : Load → ℕ → ℕ → ℕ
before l zero state = state
before l (suc i) state = before l i (drawn l state).state

-- ---- what is printed behind the word: the refusal or 0, and the bytes reported or 0
abbrev pub numbers : Said → List ℕ
numbers a =
    0x20 ∷ 0x61 ∷ 0x6E ∷ 0x73 ∷ 0x77 ∷ 0x65 ∷ 0x72 ∷ 0x3D ∷ (decimal a.refusal
    ++ (0x20 ∷ 0x6D ∷ 0x6F ∷ 0x76 ∷ 0x65 ∷ 0x64 ∷ 0x3D ∷ (decimal a.reported ++ (0x0A ∷ []))))

pub record DrawLaws : Type 0 where
  -- "Any other input .. prints just refused=1": it has its form or is refused, and of its form it is loaded where it is taken and nothing is behind it
  pub all-else : (input : List ℕ) → Asked input ⊎ (loaded input ≡ none)
  pub bytes-behind : (e : Eight) → Numbers e → (b : ℕ) (behind : List ℕ) → loaded (asks e (b ∷ behind)) ≡ none
  pub asked-for : (e : Eight) → Numbers e → loaded (asks e []) ≡ pick (taken (spelt e)) (some (spelt e)) none
  -- "a byte modulo 4, counted from 0, picks write, lose, repair or read, and the next byte modulo n the first board"
  pub writes : (l : Load) (state : ℕ) → byte 1 state % 4 ≡ 0
      → drawn l state ≡ record { call = write (emitted l.length (after 1 state)); state = after (suc l.length) state }
  pub loses : (l : Load) (state : ℕ) → byte 1 state % 4 ≡ 1 → drawn l state ≡ record { call = lose (byte 2 state % l.sizes.n); state = after 2 state }
  pub repairs : (l : Load) (state : ℕ) → byte 1 state % 4 ≡ 2 → Repairs l (byte 2 state % l.sizes.n) (drawn l state).call × ((drawn l state).state ≡ after 2 state)
  pub reads : (l : Load) (state : ℕ) → byte 1 state % 4 ≡ 3 → Reads l (byte 2 state % l.sizes.n) (drawn l state).call × ((drawn l state).state ≡ after 2 state)
  -- "It draws each call from that stream", however many there are
  pub call_at : (l : Load) (m state i : ℕ) (other : Call) → i < m → get_or (drawn_calls l m state) i other ≡ (drawn l (before l i state)).call
  -- "After each call it prints a line", however many there were before it
  pub next-line : (calls : List Call) (replies : List Reply) (call : Call) (reply : Reply) → length calls ≡ length replies
      → printed (calls ++ (call ∷ [])) (replies ++ (reply ∷ [])) ≡ printed calls replies ++ call_line call reply.answer
  pub a-reply-each : (w : State) (calls : List Call) → length (store_replies w calls) ≡ length calls
  pub write-line : (file : List ℕ) (a : Said) → call_line (write file) a
      ≡ 0x6F ∷ 0x70 ∷ 0x3D ∷ 0x77 ∷ 0x72 ∷ 0x69 ∷ 0x74 ∷ 0x65 ∷ numbers a
  pub lose-line : (board : ℕ) (a : Said) → call_line (lose board) a
      ≡ 0x6F ∷ 0x70 ∷ 0x3D ∷ 0x6C ∷ 0x6F ∷ 0x73 ∷ 0x65 ∷ numbers a
  pub repair-line : (fresh helpers stand_ins : List ℕ) (a : Said) → call_line (repair fresh helpers stand_ins) a
      ≡ 0x6F ∷ 0x70 ∷ 0x3D ∷ 0x72 ∷ 0x65 ∷ 0x70 ∷ 0x61 ∷ 0x69 ∷ 0x72 ∷ numbers a
  pub read-line : (boards output : List ℕ) (a : Said) → call_line (read boards output) a
      ≡ 0x6F ∷ 0x70 ∷ 0x3D ∷ 0x72 ∷ 0x65 ∷ 0x61 ∷ 0x64 ∷ numbers a
