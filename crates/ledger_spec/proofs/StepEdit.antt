-- An edit: store and ledger reply alike, and boards in service then hold their shares of the edited file.
-- Assumes nothing.
use Prim.Native.Nat.{ℕ, ◌+◌, ◌*◌, ◌≤◌, ◌<◌}
use mathlib.Core.Path.{◌≡◌, refl, sym, ◌∙◌, ap, ap₂}
use mathlib.Core.Bool.{Bool, true, false, not}
use mathlib.Core.List.{List, [], ◌++◌}
use mathlib.Core.Option.{Option, some}
use native.Mathlib.Omega.{arith}
use lib.ListN.{length, drop, take}
use borrow.Author.Tests.{eqb-true}
use Rattle.lists.specs.Lists.{All, Bytes, put}
use Rattle.lists.specs.Tests.{among, given}
use Rattle.lists.proofs.Alls.{append-all, take-alls, drop-alls}
use Rattle.lists.proofs.Boards.{all_among}
use Rattle.lists.proofs.Put.{length-put}
use Rattle.lists.proofs.Tests.{not-no}
use Rattle.sizes.specs.Refusals.{first, store_order}
use Rattle.sizes.specs.Sizing.{α, stripes}
use Rattle.std.specs.Prelude.{Ok}
use Rattle.sizes.specs.declared.Refusal.TheVariants.{Count, Node, Repeat, Down}
use Rattle.polynomial.specs.Polynomial.{plus}
use Rattle.polynomial.proofs.Linear.{length-plus}
use Rattle.mbcr.specs.Share.{share}
use Rattle.board_spec.specs.Calls.{file_of}
use Rattle.store_spec.specs.Calls.{file_held}
use Rattle.store_spec.specs.Edit.{edit_lines, edited_share}
use Rattle.beside_spec.specs.Running.{Running}
use Rattle.beside_spec.specs.Both.{edit_lines_both, edit_both}
use Rattle.beside_spec.specs.BothCalls.{store_lines}
use Rattle.beside_spec.specs.Acting.{edit, act}
use Rattle.ledger_spec.specs.Ledger.{Book, book_record, book_length, Tells, book_lines, noted, packets_after, enter, accept}
use Rattle.store_spec.specs.Record.{Record, sound, area_len, held, used_len, part_len, in_service, serving, put_shares}
use Rattle.store_spec.proofs.Asked.{every-same}
use Rattle.store_spec.proofs.Area.{length-shares, shares-same}
use Rattle.store_spec.proofs.Records.{Sound, Reads, edit-facts, used-fits}
use Rattle.store_spec.proofs.Seam.{AllLaws}
use Rattle.ledger_spec.proofs.Step.{Inv, Runs, runs_none, facts, lawful, up, at, same_check, none_runs, Good, good-both, refusal-good}
use Rattle.beside_spec.proofs.Beside.{alone-busy}
use Rattle.ledger_spec.proofs.StepRead.{reading}
use Rattle.store_spec.proofs.Sums.{plus-twice, length-plus-short, take_short, serving-low, serving-has}

pub put-bytes : (l : List ℕ) (at : ℕ) (bytes : List ℕ) → Bytes l → Bytes bytes → Bytes (put l at bytes)
unfolding put
put-bytes l at bytes hl hb =
    append-all (λ a. a < 256) (take at l ++ bytes) (drop (at + length bytes) l) (append-all (λ a. a < 256) (take at l) bytes (take-alls (λ a. a < 256) at l hl) hb)
    (drop-alls (λ a. a < 256) (at + length bytes) l hl)

module _ (laws : AllLaws) (b : Book) (area : List ℕ) (v : Inv b area) where
  known : Sound (book_record b)
  known = facts laws b area v

  module _ (offset : ℕ) (bytes boards : List ℕ) (ok : Bytes bytes) (f : Reads (book_record b) (length area) b.sizes.k boards)
      (in-range : offset + length bytes ≤ book_length b) where
    abbrev old : List ℕ
    old = file_of b.file

    abbrev new : List ℕ
    new = put (file_of b.file) offset bytes

    abbrev next : Book
    next = noted b (some (put (file_of b.file) offset bytes)) b.service

    abbrev made : ℕ → List ℕ
    made = edited_share (book_record b) area (file_of b.file) offset bytes

    long : length new ≡ length old
    long = length-put (file_of b.file) offset bytes in-range

    -- the record stays
    pub same : book_record next ≡ book_record b
    same =
        ap₂ {C = Record} (λ (w : Bool) (L : ℕ). record { sizes = b.sizes; points = b.points; capacity = b.capacity; written = w; length = L; marks = (book_record b).marks })
        (sym f.is-written) long

    pub is_held : file_held (book_record b) area boards ≡ some old
    is_held =
        reading laws b area v boards f.count f.named-below f.all-different
        (sym (every-same (in_service (book_record b)) (among b.service) boards (up laws b area v)) ∙ f.all_up)

    old-long : (i : ℕ) → length (share b.sizes b.points old i) ≡ used_len (book_record b)
    old-long i = (lawful laws b area v).lengths.share-length old i

    new-long : (i : ℕ) → length (share b.sizes b.points new i) ≡ used_len (book_record b)
    new-long i = (lawful laws b area v).lengths.share-length new i ∙ ap (λ (m : ℕ). stripes b.sizes m * α b.sizes) long

    -- a board that held its share of the old file is given that of the new one
    given-new : (i : ℕ) → among b.service i ≡ true → made i ≡ share b.sizes b.points new i
    given-new i e =
        let a = (lawful laws b area v).adds old new (sym long) i in
        ap₂ plus (v.holds i e) a ∙ plus-twice (share b.sizes b.points old i) (share b.sizes b.points new i) (old-long i ∙ sym (new-long i))

    made-long : (i : ℕ) → length (made i) ≡ used_len (book_record b)
    made-long i =
        let d : length (plus old new) ≡ length old = length-plus old new (sym long) in
        let e : length (share b.sizes b.points (plus old new) i) ≡ used_len (book_record b) =
        (lawful laws b area v).lengths.share-length (plus old new) i ∙ ap (λ (m : ℕ). stripes b.sizes m * α b.sizes) d in
        length-plus-short (held (book_record b) area i) (share b.sizes b.points (plus old new) i)
        (omega (arith, e, take_short (used_len (book_record b)) (drop (i * part_len (book_record b)) area))) ∙ e

    low : All (λ i. i < b.sizes.n) (serving (book_record b))
    low = serving-low (book_record b)

    abbrev after : List ℕ
    after = put_shares (book_record b) made (serving (book_record b)) area

    after_holds : (i : ℕ) → among b.service i ≡ true → held (book_record b) after i ≡ share b.sizes b.points new i
    after_holds i e =
        shares-same (book_record b) made (used_len (book_record b)) made-long (used-fits (book_record b) known) (serving (book_record b)) area f.area-is low i
        (serving-has (book_record b) i (all_among (λ x. x < b.sizes.n) b.service i v.serving e) (up laws b area v i ∙ e))
        ∙ given-new i e

    pub edit-inv : Inv next after
    edit-inv = record {
      as_long = length-shares (book_record b) made (used_len (book_record b)) made-long (used-fits (book_record b) known) (serving (book_record b)) area f.area-is low ∙ v.as_long;
      is-sound = ap sound same ∙ v.is-sound;
      bytes = put-bytes old offset bytes v.bytes ok;
      serving = v.serving;
      room = λ e. v.room f.is-written ∙ ap area_len (sym same);
      holds = λ i e. ap (λ (s : Record). held s after i) same ∙ after_holds i e;
    }

module _ (laws : AllLaws) (b : Book) (area : List ℕ) (v : Inv b area) (packets : List ℕ) (g : Runs b b.repairing area packets) (p : Running) (tells : Tells b.sizes b.repairing p) where
  edit-same : (offset : ℕ) (bytes boards : List ℕ)
      → first store_order (edit_lines_both (book_record b) p area offset bytes boards) ≡ first store_order (book_lines b (edit offset bytes boards))
  unfolding store_lines edit_lines_both edit_lines book_lines
  edit-same offset bytes boards =
      same_check laws b area v packets g p tells (edit offset bytes boards) (λ off.
      ap (λ (o : Option (List ℕ)). not (given o))
      (reading laws b area v boards (eqb-true _ _ (not-no _ (off Count refl))) (not-no _ (off Node refl)) (not-no _ (off Repeat refl)) (not-no _ (off Down refl))))

  edit-alone : (offset : ℕ) (bytes boards : List ℕ) → first store_order (edit_lines_both (book_record b) p area offset bytes boards) ≡ Ok tt
      → (first store_order (edit_lines (book_record b) area offset bytes boards) ≡ Ok tt) × (given b.repairing ≡ false)
  unfolding edit_lines_both edit_lines
  edit-alone offset bytes boards e =
      let a = alone-busy (book_record b) p p.running (drop 1 (edit_lines (book_record b) area offset bytes boards)) refl e in
      (a.0, none_runs laws b area v packets g p tells a.1)

  pub edit-good : (offset : ℕ) (bytes boards : List ℕ) → Bytes bytes
      → Good (packets_after packets (edit offset bytes boards)) (act (at laws b area v packets g p tells) (edit offset bytes boards)) (enter b (edit offset bytes boards))
  unfolding act enter accept edit_both
  edit-good offset bytes boards ok =
      good-both (packets_after packets (edit offset bytes boards)) _ _ _ _ _ _ (edit-same offset bytes boards)
      (λ x. refusal-good laws b area v packets g p tells (packets_after packets (edit offset bytes boards)) [] [] x refl)
      (λ e. let a = edit-alone offset bytes boards e in
      let f = edit-facts (book_record b) area offset bytes boards a.0 in
      rw (is_held laws b area v offset bytes boards ok f.0 f.1)
      (record {
        alike = refl;
        same-record = sym (same laws b area v offset bytes boards ok f.0 f.1);
        same-running = tells;
        inv = edit-inv laws b area v offset bytes boards ok f.0 f.1;
        runs = runs_none _ b.repairing _ _ a.1;
      }))
