-- Request A.11, 'A board that answers wrongly': what a careful read answers over any area. proofs/CarefulLaws.antt has `careful-laws : CarefulLaws`; beside the
-- record of a repair, and that a worn board costs no file: crates beside_spec and list_spec.
-- Assumes nothing.
use Rattle.std.specs.Prelude.{◌≡◌, true, false, ◌≢◌, ◌↔◌, ◌⊎◌, List, ℕ, suc, ◌+◌, ◌≤◌, ◌<◌, length}
use Rattle.std.proofs.Math.Option.{some}
use Rattle.lists.specs.Tests.{among, different}
use Rattle.lists.specs.Lists.{All, Bytes, over}
use Rattle.sizes.specs.declared.Refusal.TheVariants.{Count, Disagree}
use Rattle.sizes.specs.Refusals.{applies_in, store_order}
use Rattle.mbcr.specs.Demand2.{Named}
use Rattle.mbcr.specs.Share.{share}
use Rattle.store_spec.specs.Record.{Record, sound, area_len, held}
use Rattle.store_spec.specs.Calls.{accepted, refused, file_held}
use Rattle.store_spec.specs.Careful.{leaving, agreeing, careful_lines, careful_call}

-- board i holds its share of the file
abbrev pub Holds : Record → List ℕ → List ℕ → ℕ → Type 0
Holds s area file i = held s area i ≡ share s.sizes s.points file i

-- "the odd board's number or none", as it is reported: all of the boards hold their shares of the file, and 0 tells it; or all but this one do, and its
-- number plus 1 tells it
abbrev pub OddTold : Record → List ℕ → List ℕ → List ℕ → ℕ → Type 0
OddTold s area file boards v =
    ((v ≡ 0) × All (Holds s area file) boards)
    ⊎ ((i : ℕ) × (v ≡ suc i) × (among boards i ≡ true) × (Holds s area file i → ⊥) × All (λ j. j ≢ i → Holds s area file j) boards)

pub record CarefulLaws : Type 0 where
  -- those that agree are the boards of the list that hold their shares
  pub agreeing-is : (s : Record) (area file boards : List ℕ) (i : ℕ)
      → (among (agreeing s area file boards) i ≡ true) ↔ ((among boards i ≡ true) × Holds s area file i)
  -- at least k + 1 of k + 2 boards agree just where all do, or all but one; and then one number tells which
  pub at_least : (s : Record) (area file boards : List ℕ) → length boards ≡ s.sizes.k + 2 → different boards ≡ true
      → (s.sizes.k + 1 ≤ length (agreeing s area file boards)) ↔ ((v : ℕ) × OddTold s area file boards v)
  pub tells-one : (s : Record) (area file boards : List ℕ) → different boards ≡ true → (v v' : ℕ)
      → OddTold s area file boards v → OddTold s area file boards v' → v ≡ v'
  -- 0 tells that all of them hold their shares; a number plus 1, that this one of them does not, and that all others do
  pub odd-none : (s : Record) (area file boards : List ℕ) → OddTold s area file boards 0 ↔ All (Holds s area file) boards
  pub odd-one : (s : Record) (area file boards : List ℕ) (i : ℕ)
      → OddTold s area file boards (suc i) ↔ ((among boards i ≡ true) × (Holds s area file i → ⊥) × All (λ j. j ≢ i → Holds s area file j) boards)
  -- "two files never both qualify"
  pub two-never : (s : Record) (area boards file file' : List ℕ) → sound s ≡ true → length area ≡ area_len s → Named s.sizes (s.sizes.k + 2) boards
      → length file ≡ s.length → length file' ≡ s.length → Bytes file → Bytes file'
      → s.sizes.k + 1 ≤ length (agreeing s area file boards) → s.sizes.k + 1 ≤ length (agreeing s area file' boards) → file ≡ file'
  -- one wrong board among k + 1 always shows: where of k + 1 boards all but one hold their shares of a file, and that one does not, there is no file of
  -- length L whose shares they all hold
  pub one-shows : (s : Record) (area boards file : List ℕ) (i : ℕ) → sound s ≡ true → length area ≡ area_len s → Named s.sizes (s.sizes.k + 1) boards
      → length file ≡ s.length → Bytes file
      → among boards i ≡ true → (Holds s area file i → ⊥) → All (λ j. j ≢ i → Holds s area file j) boards
      → (file' : List ℕ) → length file' ≡ s.length → Bytes file' → All (Holds s area file') boards → ⊥
  -- so that two reads of k of them that leave out different boards do not both give the same file
  pub two-reads : (s : Record) (area boards file : List ℕ) (i : ℕ) → sound s ≡ true → length area ≡ area_len s → Bytes area → Named s.sizes (s.sizes.k + 1) boards
      → length file ≡ s.length → Bytes file
      → among boards i ≡ true → (Holds s area file i → ⊥) → All (λ j. j ≢ i → Holds s area file j) boards
      → (t u : ℕ) → t < length boards → u < length boards → t ≢ u
      → (file' : List ℕ) → file_held s area (leaving t boards) ≡ some file' → file_held s area (leaving u boards) ≡ some file' → ⊥
  -- over any area, where no line but DISAGREE holds: "it gives the file of length L whose shares agree with at least k + 1 of them, and the odd board's
  -- number or none. It refuses with DISAGREE just where no file does so"
  pub careful-exact : (s : Record) (area boards output : List ℕ) → Bytes area
      → All (λ x. (x ≡ Disagree) ⊎ (applies_in (careful_lines s area boards output) x ≡ false)) store_order
      → ((file : List ℕ) → length file ≡ s.length → Bytes file → (v : ℕ)
      → (careful_call s area boards output ≡ accepted v s area (over file output)) ↔ OddTold s area file boards v)
      × ((careful_call s area boards output ≡ refused s area output Disagree)
      ↔ ((file : List ℕ) → length file ≡ s.length → Bytes file → s.sizes.k + 1 ≤ length (agreeing s area file boards) → ⊥))
  -- "Where k + 2 exceeds n, COUNT.", whatever the list and the output
  pub few-boards : (s : Record) (area boards output : List ℕ) → sound s ≡ true → length area ≡ area_len s → s.written ≡ true
      → s.sizes.n < s.sizes.k + 2 → careful_call s area boards output ≡ refused s area output Count
