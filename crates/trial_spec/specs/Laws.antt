-- What holds of the trial: it prints what the ledger replies, so that bench and field print the same from one number. proofs/Laws.antt has
-- `trial-laws : TrialLaws`.
-- Assumes nothing.
use Rattle.std.specs.Prelude.{◌≡◌, true, false, ◌↔◌, List, map, ℕ, ◌*◌, ◌≤◌, length, replicate}
use Rattle.std.proofs.Math.Option.{some, none}
use Rattle.lists.specs.Lists.{All, Bytes}
use Rattle.sizes.specs.Sizing.{α}
use Rattle.mbcr.specs.Share.{standard}
use Rattle.printer.specs.Printer.{refused_line}
use Rattle.store_spec.specs.Record.{Record, area_len}
use Rattle.beside_spec.specs.Running.{Running}
use Rattle.beside_spec.specs.Both.{set_up_both}
use Rattle.beside_spec.specs.Acting.{Call, write, lose, repair, read, edit, start, step, careful, move, State, act}
use Rattle.ledger_spec.specs.Ledger.{call, open_book, book_replies}
use Rattle.ledger_spec.specs.Demand3.{begun}
use Rattle.trial_spec.specs.Trial.{Load, new_store, taken, loaded, drawn_calls, printed, store_replies, trial_over, trial_text}

-- what the ledger replies to the calls drawn
abbrev pub book_text : Load → List ℕ
book_text l =
    let calls = drawn_calls l l.calls l.seed in
    printed calls (book_replies (open_book l.sizes (standard l.sizes) l.capacity (area_len (new_store l))) (map call calls))

-- the call with bytes 00 in a read's output, as many as it has
abbrev pub cleared : Call → Call
cleared (write file) = write file
cleared (lose board) = lose board
cleared (repair fresh helpers stand_ins) = repair fresh helpers stand_ins
cleared (read boards output) = read boards (replicate (length output) 0)
cleared (edit offset bytes boards) = edit offset bytes boards
cleared (start fresh helpers stand_ins) = start fresh helpers stand_ins
cleared (step allowance packets) = step allowance packets
cleared (careful boards output) = careful boards output
cleared (move board point helpers partners) = move board point helpers partners

-- "picks write, lose, repair or read": one of these calls, and the file of a write is of bytes
abbrev pub Drawable : Call → Type 0
Drawable (write file) = Bytes file
Drawable (lose board) = Unit
Drawable (repair fresh helpers stand_ins) = Unit
Drawable (read boards output) = Unit
Drawable (edit offset bytes boards) = ⊥
Drawable (start fresh helpers stand_ins) = ⊥
Drawable (step allowance packets) = ⊥
Drawable (careful boards output) = ⊥
Drawable (move board point helpers partners) = ⊥

pub record TrialLaws : Type 0 where
  -- the bytes of the area: C stripes of each of n boards
  pub area-is : (l : Load) → area_len (new_store l) ≡ l.sizes.n * (l.capacity * α l.sizes)
  -- which loads are taken, whatever records the set-up is handed
  pub taken_is : (l : Load) → (taken l ≡ true) ↔ ((l.seed ≤ 4294967295) × (l.calls ≤ 4294967295)
      × ((old : Record) (p : Running) → (set_up_both old p l.sizes (standard l.sizes) l.capacity).answer.refusal ≡ 0)
      × (area_len (new_store l) ≤ 32768) × (l.length ≤ 16384))
  -- the text is the ledger's, for any records handed to the set-up and any first bytes of the area
  pub by-ledger : (l : Load) → taken l ≡ true → (old : Record) (p : Running) (area : List ℕ) → length area ≡ area_len (new_store l) → trial_over old p area l ≡ book_text l
  -- and whatever bytes the outputs of reads hold: what is printed goes by their length
  pub any-output : (l : Load) → taken l ≡ true → (old : Record) (p : Running) (area : List ℕ) → length area ≡ area_len (new_store l)
      → (calls : List Call) → map cleared calls ≡ drawn_calls l l.calls l.seed
      → printed calls (store_replies (begun old p l.sizes (standard l.sizes) l.capacity area) calls) ≡ book_text l
  pub text-is : (input : List ℕ) (l : Load) → loaded input ≡ some l → (taken l ≡ true) × (trial_text input ≡ book_text l)
  pub refused : (input : List ℕ) → loaded input ≡ none → trial_text input ≡ refused_line 1
  -- "calls=": so many calls are drawn, each a write, loss, repair or read, and each file drawn is of bytes
  pub as_many : (l : Load) (m state : ℕ) → length (drawn_calls l m state) ≡ m
  pub fair : (l : Load) (m state : ℕ) → All Drawable (drawn_calls l m state)
  -- request A.8: no call drawn starts a repair, so that each is given the record that the set-up handed on beside, idle, and hands it on
  pub stays-idle : (w : State) (c : Call) → Drawable c → w.running.running ≡ false → (act w c).running ≡ w.running
