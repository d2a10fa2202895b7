-- The contracts of the archive's eighteen calls are what the definitions say: `zbk` and `zbk_set_up` for the store, `zbk_read_text`, `longest`, `emitted` and
-- `after`, and board level's calls.
-- A contract is taken as the checker hands it to a caller: `Asked` is its `requires`, `Learnt` its `ensures`. So a call that ensures less, or requires
-- something, is refused here.
-- Assumes nothing.
use mathlib.Core.Path.{◌≡◌}
use mathlib.Core.List.{List, []}
use Prim.Native.Nat.{ℕ}
use lib.ListN.{length}
use contract.Lifetimes.{Lfts}
use denote.Triple.Clauses.{AtExit}
use borrow.Fn.Kinds.{Dens, ended_of}
use Rattle.std.specs.Prelude.{Ok}
use Rattle.sizes.specs.Refusals.{said}
use Rattle.board_spec.specs.Calls.{BoardOutcome, share_call, file_call, helper_call, exchange_call, finished_call, text_call}
use Rattle.beside_spec.specs.Acting.{write, lose, repair, read, careful, edit, move, start, step}
use Rattle.text_spec.specs.Calls.{gather_call}
use Rattle.prefix_spec.specs.Prefix.{longest}
use Rattle.generator.specs.Generator.{after, emitted}
use Rattle.answer_word.specs.Answers.{word_of}
use Rattle.archive_spec.specs.Archive.{sizes_of}
use Rattle.archive_spec.specs.Lent.{Lent, zbk_set_up, zbk}
use Rattle.archive_spec.specs.Texts.{TextLent, zbk_read_text}
use Rattle.zebrankai.proofs.zbk_set_up.Reads as set-ups
use Rattle.zebrankai.proofs.zbk_set_up.Kinds as set-up-kinds
use Rattle.zebrankai.proofs.zbk_write.Reads as writes
use Rattle.zebrankai.proofs.zbk_write.Kinds as write-kinds
use Rattle.zebrankai.proofs.zbk_lose.Reads as loses
use Rattle.zebrankai.proofs.zbk_lose.Kinds as lose-kinds
use Rattle.zebrankai.proofs.zbk_repair.Reads as repairs
use Rattle.zebrankai.proofs.zbk_repair.Kinds as repair-kinds
use Rattle.zebrankai.proofs.zbk_read.Reads as reads
use Rattle.zebrankai.proofs.zbk_read.Kinds as read-kinds
use Rattle.zebrankai.proofs.zbk_read_careful.Reads as carefuls
use Rattle.zebrankai.proofs.zbk_read_careful.Kinds as careful-kinds
use Rattle.zebrankai.proofs.zbk_edit.Reads as edits
use Rattle.zebrankai.proofs.zbk_edit.Kinds as edit-kinds
use Rattle.zebrankai.proofs.zbk_move.Reads as moves
use Rattle.zebrankai.proofs.zbk_move.Kinds as move-kinds
use Rattle.zebrankai.proofs.zbk_start.Reads as starts
use Rattle.zebrankai.proofs.zbk_start.Kinds as start-kinds
use Rattle.zebrankai.proofs.zbk_step.Reads as steps
use Rattle.zebrankai.proofs.zbk_step.Kinds as step-kinds
use Rattle.zebrankai.proofs.zbk_share.Reads as share-reads
use Rattle.zebrankai.proofs.zbk_share.Kinds as share-kinds
use Rattle.zebrankai.proofs.zbk_file.Reads as file-reads
use Rattle.zebrankai.proofs.zbk_file.Kinds as file-kinds
use Rattle.zebrankai.proofs.zbk_helper_packet.Reads as helper-reads
use Rattle.zebrankai.proofs.zbk_helper_packet.Kinds as helper-kinds
use Rattle.zebrankai.proofs.zbk_exchange_packet.Reads as exchange-reads
use Rattle.zebrankai.proofs.zbk_exchange_packet.Kinds as exchange-kinds
use Rattle.zebrankai.proofs.zbk_finished_share.Reads as finished-reads
use Rattle.zebrankai.proofs.zbk_finished_share.Kinds as finished-kinds
use Rattle.zebrankai.proofs.zbk_share_text.Reads as text-reads
use Rattle.zebrankai.proofs.zbk_share_text.Kinds as text-kinds
use Rattle.zebrankai.proofs.zbk_read_text.Reads as read-text-reads
use Rattle.zebrankai.proofs.zbk_read_text.Kinds as read-text-kinds
use Rattle.zebrankai.proofs.zbk_gather.Reads as gather-reads
use Rattle.zebrankai.proofs.zbk_gather.Kinds as gather-kinds
use Rattle.zebrankai.proofs.zbk_text_prefix.Reads as prefix-reads
use Rattle.zebrankai.proofs.zbk_text_prefix.Kinds as prefix-kinds
use Rattle.zebrankai.proofs.zbk_trial_file.Reads as trial-reads
use Rattle.zebrankai.proofs.zbk_trial_file.Kinds as trial-kinds

-- ---- the store

abbrev lent : ℕ → List ℕ → List ℕ → List ℕ → List ℕ → List ℕ → Lent
lent w ws ps area output packets = record { answer = w; words = ws; repair = ps; area = area; output = output; packets = packets }

pub set-up-gives : (κs : Lfts 3) (a : Dens κs set-up-kinds.ps) (w : ℕ) (e : AtExit (ended_of 3 set-up-kinds.ps set-up-kinds.r) κs)
    → set-ups.Asked κs a
    × (set-ups.Learnt κs a w e
    → let b = a.1.1 in
    lent w e.0.now e.1.0.now [] [] []
    ≡ zbk_set_up a.0.now a.1.0.now (sizes_of b.0 b.1.0 b.1.1.0 b.1.1.1.0) b.1.1.1.1.0.now b.1.1.1.1.1.0)
set-up-gives κs a w e = (tt, λ h. h)

pub write-gives : (κs : Lfts 4) (a : Dens κs write-kinds.ps) (w : ℕ) (e : AtExit (ended_of 4 write-kinds.ps write-kinds.r) κs)
    → writes.Asked κs a
    × (writes.Learnt κs a w e
    → lent w e.0.now e.1.0.now e.1.1.0.now [] [] ≡ zbk a.0.now a.1.0.now a.1.1.0.now (write a.1.1.1.0.now))
write-gives κs a w e = (tt, λ h. h)

-- whatever the area, which it is not lent
pub lose-gives : (κs : Lfts 2) (a : Dens κs lose-kinds.ps) (w : ℕ) (e : AtExit (ended_of 2 lose-kinds.ps lose-kinds.r) κs)
    → loses.Asked κs a
    × (loses.Learnt κs a w e
    → (area : List ℕ) → lent w e.0.now e.1.0.now area [] [] ≡ zbk a.0.now a.1.0.now area (lose a.1.1.0))
lose-gives κs a w e = (tt, λ h. h)

pub repair-gives : (κs : Lfts 6) (a : Dens κs repair-kinds.ps) (w : ℕ) (e : AtExit (ended_of 6 repair-kinds.ps repair-kinds.r) κs)
    → repairs.Asked κs a
    × (repairs.Learnt κs a w e
    → let b = a.1.1 in
    lent w e.0.now e.1.0.now e.1.1.0.now [] []
    ≡ zbk a.0.now a.1.0.now b.0.now (repair b.1.0.now b.1.1.0.now b.1.1.1.0.now))
repair-gives κs a w e = (tt, λ h. h)

pub read-gives : (κs : Lfts 5) (a : Dens κs read-kinds.ps) (w : ℕ) (e : AtExit (ended_of 5 read-kinds.ps read-kinds.r) κs)
    → reads.Asked κs a
    × (reads.Learnt κs a w e
    → let b = a.1.1 in
    lent w e.0.now e.1.0.now b.0.now e.1.1.1.1.0.now []
    ≡ zbk a.0.now a.1.0.now b.0.now (read b.1.0.now b.1.1.0.now))
read-gives κs a w e = (tt, λ h. h)

pub read-careful-gives : (κs : Lfts 5) (a : Dens κs careful-kinds.ps) (w : ℕ) (e : AtExit (ended_of 5 careful-kinds.ps careful-kinds.r) κs)
    → carefuls.Asked κs a
    × (carefuls.Learnt κs a w e
    → let b = a.1.1 in
    lent w e.0.now e.1.0.now b.0.now e.1.1.1.1.0.now []
    ≡ zbk a.0.now a.1.0.now b.0.now (careful b.1.0.now b.1.1.0.now))
read-careful-gives κs a w e = (tt, λ h. h)

pub edit-gives : (κs : Lfts 5) (a : Dens κs edit-kinds.ps) (w : ℕ) (e : AtExit (ended_of 5 edit-kinds.ps edit-kinds.r) κs)
    → edits.Asked κs a
    × (edits.Learnt κs a w e
    → let b = a.1.1 in
    lent w e.0.now e.1.0.now e.1.1.0.now [] []
    ≡ zbk a.0.now a.1.0.now b.0.now (edit b.1.0 b.1.1.0.now b.1.1.1.0.now))
edit-gives κs a w e = (tt, λ h. h)

pub move_gives : (κs : Lfts 5) (a : Dens κs move-kinds.ps) (w : ℕ) (e : AtExit (ended_of 5 move-kinds.ps move-kinds.r) κs)
    → moves.Asked κs a
    × (moves.Learnt κs a w e
    → let b = a.1.1 in
    lent w e.0.now e.1.0.now e.1.1.0.now [] []
    ≡ zbk a.0.now a.1.0.now b.0.now (move b.1.0 b.1.1.0 b.1.1.1.0.now b.1.1.1.1.0.now))
move_gives κs a w e = (tt, λ h. h)

pub start_gives : (κs : Lfts 6) (a : Dens κs start-kinds.ps) (w : ℕ) (e : AtExit (ended_of 6 start-kinds.ps start-kinds.r) κs)
    → starts.Asked κs a
    × (starts.Learnt κs a w e
    → let b = a.1.1 in
    lent w e.0.now e.1.0.now b.0.now [] []
    ≡ zbk a.0.now a.1.0.now b.0.now (start b.1.0.now b.1.1.0.now b.1.1.1.0.now))
start_gives κs a w e = (tt, λ h. h)

pub step_gives : (κs : Lfts 4) (a : Dens κs step-kinds.ps) (w : ℕ) (e : AtExit (ended_of 4 step-kinds.ps step-kinds.r) κs)
    → steps.Asked κs a
    × (steps.Learnt κs a w e
    → let b = a.1.1 in
    lent w e.0.now e.1.0.now e.1.1.0.now [] e.1.1.1.0.now
    ≡ zbk a.0.now a.1.0.now b.0.now (step b.1.1.0 b.1.0.now))
step_gives κs a w e = (tt, λ h. h)

-- ---- board level: the word of the answer, and all bytes of the output; the points stand behind the four sizes, and the arguments behind them are b

abbrev Gives : ℕ → List ℕ → BoardOutcome → Type 0
Gives w output o = (w ≡ word_of o.answer) × (output ≡ o.output)

pub share-gives : (κs : Lfts 3) (a : Dens κs share-kinds.ps) (w : ℕ) (e : AtExit (ended_of 3 share-kinds.ps share-kinds.r) κs)
    → share-reads.Asked κs a
    × (share-reads.Learnt κs a w e
    → let b = a.1.1.1.1.1 in
    Gives w e.1.1.1.1.1.1.1.0.now
    (share_call (sizes_of a.0 a.1.0 a.1.1.0 a.1.1.1.0) a.1.1.1.1.0.now b.0 b.1.0.now b.1.1.0.now))
share-gives κs a w e = (tt, λ h. h)

pub file-gives : (κs : Lfts 4) (a : Dens κs file-kinds.ps) (w : ℕ) (e : AtExit (ended_of 4 file-kinds.ps file-kinds.r) κs)
    → file-reads.Asked κs a
    × (file-reads.Learnt κs a w e
    → let b = a.1.1.1.1.1 in
    Gives w e.1.1.1.1.1.1.1.1.0.now
    (file_call (sizes_of a.0 a.1.0 a.1.1.0 a.1.1.1.0) a.1.1.1.1.0.now b.0 b.1.0.now b.1.1.0.now b.1.1.1.0.now))
file-gives κs a w e = (tt, λ h. h)

pub helper-gives : (κs : Lfts 3) (a : Dens κs helper-kinds.ps) (w : ℕ) (e : AtExit (ended_of 3 helper-kinds.ps helper-kinds.r) κs)
    → helper-reads.Asked κs a
    × (helper-reads.Learnt κs a w e
    → let b = a.1.1.1.1.1 in
    Gives w e.1.1.1.1.1.1.1.1.1.0.now
    (helper_call (sizes_of a.0 a.1.0 a.1.1.0 a.1.1.1.0) a.1.1.1.1.0.now b.0 b.1.0 b.1.1.0 b.1.1.1.0.now b.1.1.1.1.0.now))
helper-gives κs a w e = (tt, λ h. h)

pub exchange-gives : (κs : Lfts 4) (a : Dens κs exchange-kinds.ps) (w : ℕ) (e : AtExit (ended_of 4 exchange-kinds.ps exchange-kinds.r) κs)
    → exchange-reads.Asked κs a
    × (exchange-reads.Learnt κs a w e
    → let b = a.1.1.1.1.1 in
    Gives w e.1.1.1.1.1.1.1.1.1.1.0.now
    (exchange_call (sizes_of a.0 a.1.0 a.1.1.0 a.1.1.1.0) a.1.1.1.1.0.now
    b.0 b.1.0 b.1.1.0.now b.1.1.1.0.now b.1.1.1.1.0 b.1.1.1.1.1.0.now))
exchange-gives κs a w e = (tt, λ h. h)

pub finished-gives : (κs : Lfts 6) (a : Dens κs finished-kinds.ps) (w : ℕ) (e : AtExit (ended_of 6 finished-kinds.ps finished-kinds.r) κs)
    → finished-reads.Asked κs a
    × (finished-reads.Learnt κs a w e
    → let b = a.1.1.1.1.1 in
    Gives w e.1.1.1.1.1.1.1.1.1.1.1.0.now
    (finished_call (sizes_of a.0 a.1.0 a.1.1.0 a.1.1.1.0) a.1.1.1.1.0.now b.0 b.1.0 b.1.1.0.now b.1.1.1.0.now
    b.1.1.1.1.0.now b.1.1.1.1.1.0.now b.1.1.1.1.1.1.0.now))
finished-gives κs a w e = (tt, λ h. h)

pub text-gives : (κs : Lfts 3) (a : Dens κs text-kinds.ps) (w : ℕ) (e : AtExit (ended_of 3 text-kinds.ps text-kinds.r) κs)
    → text-reads.Asked κs a
    × (text-reads.Learnt κs a w e
    → let b = a.1.1.1.1.1 in
    Gives w e.1.1.1.1.1.1.1.1.0.now
    (text_call (sizes_of a.0 a.1.0 a.1.1.0 a.1.1.1.0) a.1.1.1.1.0.now b.0 b.1.0 b.1.1.0.now b.1.1.1.0.now))
text-gives κs a w e = (tt, λ h. h)

-- ---- texts, which tell their sizes and points

abbrev text-lent : ℕ → List ℕ → List ℕ → List ℕ → TextLent
text-lent w head points output = record { answer = w; head = head; points = points; output = output }

pub read-text-gives : (κs : Lfts 4) (a : Dens κs read-text-kinds.ps) (w : ℕ) (e : AtExit (ended_of 4 read-text-kinds.ps read-text-kinds.r) κs)
    → read-text-reads.Asked κs a
    × (read-text-reads.Learnt κs a w e
    → text-lent w e.1.0.now e.1.1.0.now e.1.1.1.0.now ≡ zbk_read_text a.0.now a.1.0.now a.1.1.0.now a.1.1.1.0.now)
read-text-gives κs a w e = (tt, λ h. h)

pub gather-gives : (κs : Lfts 2) (a : Dens κs gather-kinds.ps) (w : ℕ) (e : AtExit (ended_of 2 gather-kinds.ps gather-kinds.r) κs)
    → gather-reads.Asked κs a
    × (gather-reads.Learnt κs a w e → Gives w e.1.0.now (gather_call a.0.now a.1.0.now))
gather-gives κs a w e = (tt, λ h. h)

pub prefix-gives : (κs : Lfts 1) (a : Dens κs prefix-kinds.ps) (w : ℕ) (e : AtExit (ended_of 1 prefix-kinds.ps prefix-kinds.r) κs)
    → prefix-reads.Asked κs a
    × (prefix-reads.Learnt κs a w e → w ≡ word_of (said (Ok (longest a.0.now))))
prefix-gives κs a w e = (tt, λ h. h)

-- ---- the trial file: the state after it, and all bytes of the output

pub trial-gives : (κs : Lfts 1) (a : Dens κs trial-kinds.ps) (state : ℕ) (e : AtExit (ended_of 1 trial-kinds.ps trial-kinds.r) κs)
    → trial-reads.Asked κs a
    × (trial-reads.Learnt κs a state e
    → (state ≡ after (length a.1.0.now) a.0) × (e.1.0.now ≡ emitted (length a.1.0.now) a.0))
trial-gives κs a state e = (tt, λ h. h)
