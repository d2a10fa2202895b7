-- One call: store and ledger reply alike, and what holds between them before it holds after it.
-- Assumes nothing.
use Prim.Native.Nat.{ℕ, ◌*◌, ◌≤◌, ◌<◌}
use mathlib.Core.Path.{◌≡◌, refl, sym, ◌∙◌, ap, ap₂, subst}
use mathlib.Core.Bool.{Bool, true, false, not}
use mathlib.Core.List.{List, [], ◌∷◌, ◌++◌}
use mathlib.Core.Option.{Option, some, none}
use native.Mathlib.Omega.{arith}
use lib.ListN.{length, take, drop, get_or}
use lib.Seq.{take-take}
use lib.Dec.{eqb}
use borrow.Author.Tests.{eqb-true}
use Rattle.lists.specs.Lists.{Bytes, All, tabulate, without}
use Rattle.lists.specs.Tests.{given, among, alls, pick}
use Rattle.lists.proofs.Alls.{all-imp}
use Rattle.lists.proofs.Boards.{all_among, among-all, all_without, among-without}
use Rattle.lists.proofs.Tests.{true-false, hold-alls, every-all, all-every}
use Rattle.sizes.specs.Refusals.{said, applies_in, first, store_order, Check}
use Rattle.sizes.specs.Sizing.{max_boards, B}
use Rattle.std.specs.Prelude.{Ok, Err}
use Rattle.sizes.specs.declared.Refusal.{Refusal}
use Rattle.sizes.specs.declared.Refusal.TheVariants.{Area, Count, Node, Repeat, Empty, Disagree}
use Rattle.sizes.proofs.Legal.{legal-facts}
use Rattle.sizes.proofs.Orders.{◌also◌, ahead, clear-off, off-pass}
use Rattle.sizes.proofs.Alike.{alike-first}
use Rattle.mbcr.specs.Share.{share, pointed}
use Rattle.board_spec.specs.Calls.{file_of}
use Rattle.store_spec.specs.Calls.{settle, repair_lines, list_lines, write_lines, write_done, lose_lines}
use Rattle.beside_spec.specs.Running.{Running, idle, running_by, fresh_of, named_in, packet_count, sound_beside}
use Rattle.beside_spec.specs.Both.{Outcome, lost_beside, write_lines_both, write_both, lose_lines_both, lose_both}
use Rattle.beside_spec.specs.BothCalls.{store_lines}
use Rattle.beside_spec.specs.Acting.{Call, write, lose, State, act}
use Rattle.ledger_spec.specs.Ledger.{replied, Book, Repairing, during, kept_on, book_record, Tells, carried_by, Entry, reply_of, packets_after, Altered, book_lines, noted, pointed_book, going, enter}
use Rattle.ledger_spec.specs.Ledger.{accept}
use Rattle.store_spec.specs.Packets.{contents, helper_packets, stand_in_packets, exchange_packets, partner_packets, repair_packets}
use Rattle.store_spec.specs.Record.{sound, area_len, held, used_len, part_len, in_service, Record, written_record, with_marks}
use Rattle.ledger_spec.proofs.Agree.{Tallies, tallies-running, serves, alike, size_same}
use Rattle.store_spec.proofs.Area.{length-shares, shares-same}
use Rattle.store_spec.proofs.Marks.{mark-at, off-from, marks_of, first_below, marks-all, off-above, off-none, marks-lose}
use Rattle.store_spec.proofs.Records.{sound-facts, sound-points, used-fits, Sound, Writes, Repairs, repair-facts, facts-sound, write-facts, blank-if, blank-off}
use Rattle.beside_spec.proofs.Beside.{alone-busy, beside-sound, fresh-back, helpers-back, stand-ins-back}
use Rattle.beside_spec.proofs.Carried.{Begins}
use Rattle.store_spec.proofs.Sums.{among-append-right}
use Rattle.store_spec.proofs.Seam.{Laws, AllLaws}

-- ---- what holds between book and area, the record being the one that the book tells

pub record Inv (b : Book) (area : List ℕ) : Type 0 where
  pub as_long : length area ≡ b.area_length
  pub is-sound : sound (book_record b) ≡ true
  pub bytes : Bytes (file_of b.file)
  pub serving : All (λ i. i < b.sizes.n) b.service
  pub room : given b.file ≡ true → b.area_length ≡ area_len (book_record b)
  pub holds : (i : ℕ) → among b.service i ≡ true → held (book_record b) area i ≡ share b.sizes b.points (file_of b.file) i

-- what holds of a repair that runs by the book: its lists pass, packets are left, and those carried lie as the whole repair's
pub record Going (b : Book) (r : Repairing) (area packets : List ℕ) : Type 0 where
  pub pass : first store_order (repair_lines (book_record b) (length area) r.fresh r.helpers r.stand_ins) ≡ Ok tt
  pub some_left : 1 ≤ r.left
  pub within : r.left ≤ packet_count b.sizes (length r.fresh)
  pub lies : Begins packets (contents (take (carried_by b r) (repair_packets (book_record b) area r.fresh r.helpers r.stand_ins)))

abbrev pub Runs : Book → Option Repairing → List ℕ → List ℕ → Type 0
Runs b none area packets = Unit
Runs b (some r) area packets = Going b r area packets

pub runs_none : (b : Book) (o : Option Repairing) (area packets : List ℕ) → given o ≡ false → Runs b o area packets
runs_none b none area packets e = tt
runs_none b (some r) area packets e = absurd (true-false refl e)

-- what a call's outcome and its entry have to be; the packet area that is kept by the outcome
pub record Good (keep : Outcome → List ℕ) (o : Outcome) (e : Entry) : Type 0 where
  pub alike : reply_of o ≡ e.reply
  pub same-record : o.handed ≡ book_record e.book
  pub same-running : Tells e.book.sizes e.book.repairing o.running
  pub inv : Inv e.book o.area
  pub runs : Runs e.book e.book.repairing o.area (keep o)

-- bytes of boards out of service do not matter
pub altered : (b : Book) (old new : List ℕ) → Inv b old → Altered b (book_record b) old new → Inv b new
altered b old new v a =
    let f = sound-facts (book_record b) v.is-sound in
    record {
      as_long = a.as_long ∙ v.as_long;
      is-sound = v.is-sound;
      bytes = v.bytes;
      serving = v.serving;
      room = v.room;
      holds = λ i e.
          sym (take-take (used_len (book_record b)) (part_len (book_record b)) (drop (i * part_len (book_record b)) new) (used-fits (book_record b) f))
          ∙ ap (take (used_len (book_record b))) (a.in-service i e)
          ∙ take-take (used_len (book_record b)) (part_len (book_record b)) (drop (i * part_len (book_record b)) old) (used-fits (book_record b) f)
          ∙ v.holds i e;
    }

-- two outcomes picked by one check
pub good-both : (keep : Outcome → List ℕ) (c1 c2 : Check) (rs : Refusal → Outcome) (gs : Outcome) (re : Refusal → Entry) (ge : Entry) → c1 ≡ c2
    → ((x : Refusal) → Good keep (rs x) (re x)) → (c1 ≡ Ok tt → Good keep gs ge) → Good keep (settle c1 rs gs) (settle c2 re ge)
good-both keep c1 c2 rs gs re ge e r g = subst (λ (c : Check). Good keep (settle c1 rs gs) (settle c re ge)) e (go c1 g)
  where
    go : (c : Check) → (c ≡ Ok tt → Good keep gs ge) → Good keep (settle c rs gs) (settle c re ge)
    go (Ok tt) k = k refl
    go (Err x) k = r x

-- with other points, another file and other boards in service a book tells a sound record, where the points are allowed, the file fits, the boards are below n,
-- and none is in service without a file
pub noted-sound : (b : Book) → Sound (book_record b) → (xs : List ℕ) (file : Option (List ℕ)) (service : List ℕ)
    → pointed b.sizes xs ≡ true → length (file_of file) ≤ b.capacity * B b.sizes → All (λ i. i < b.sizes.n) service
    → (given file ≡ false → (i : ℕ) → among service i ≡ true → ⊥) → Sound (book_record (pointed_book (noted b file service) xs))
noted-sound b known xs file service points fits low none-serve = record {
  is-legal = known.is-legal;
  is-pointed = points;
  cap-low = known.cap-low;
  cap-high = known.cap-high;
  fits = fits;
  beyond = off-from b.sizes.n (marks_of service) (λ i e. all_among (λ x. x < b.sizes.n) service i low (serves-at i e));
  blank = blank-if (book_record (pointed_book (noted b file service) xs)) (λ w. (empty file w, off-above (marks_of service) (λ i e. none-serve w i (serves-at i e))));
}
  where
    low-32 : All (λ x. x < max_boards) service
    low-32 = all-imp (λ x. x < b.sizes.n) (λ x. x < max_boards) (λ x h. let k = (legal-facts b.sizes known.is-legal).few in omega arith) service low

    serves-at : (i : ℕ) → get_or (marks_of service) i false ≡ true → among service i ≡ true
    serves-at i e = sym (mark-at service i low-32) ∙ e

    empty : (o : Option (List ℕ)) → given o ≡ false → length (file_of o) ≡ 0
    empty none w = refl
    empty (some l) w = absurd (true-false refl w)

module _ (laws : AllLaws) (b : Book) (area : List ℕ) (v : Inv b area) where
  pub facts : Sound (book_record b)
  facts = sound-facts (book_record b) v.is-sound

  pub lawful : Laws b.points b.sizes
  lawful = laws b.points b.sizes facts.is-legal (sound-points (book_record b) facts)

  pub up : (i : ℕ) → in_service (book_record b) i ≡ among b.service i
  up = serves b area facts.is-legal v.serving v.as_long

  -- without a file no board is in service
  pub none-serve : given b.file ≡ false → (i : ℕ) → among b.service i ≡ true → ⊥
  none-serve w i e = off-none (marks_of b.service) i (blank-off (book_record b) facts.blank w) (up i ∙ e)

  write-inv : (file : List ℕ) → Bytes file → Writes (book_record b) (length area) file
      → Inv (noted b (some file) (tabulate b.sizes.n (λ i. i))) (write_done (book_record b) area file).area
  write-inv file ok w =
      let all : List ℕ = tabulate b.sizes.n (λ i. i) in
      let new : Record = book_record (noted b (some file) all) in
      let is : Sound new = noted-sound b facts b.points (some file) all facts.is-pointed w.file-fits low (λ e. absurd (true-false refl e)) in
      record {
        as_long =
            length-shares (written_record (book_record b) (length file)) (share b.sizes b.points file) (used_len new) (lawful.lengths.share-length file) (used-fits new is) all area
            w.area-is low ∙ v.as_long;
        is-sound = facts-sound new is;
        bytes = ok;
        serving = low;
        room = λ e. sym v.as_long ∙ w.area-is;
        holds = λ i e.
            shares-same (written_record (book_record b) (length file)) (share b.sizes b.points file) (used_len new)
            (lawful.lengths.share-length file) (used-fits new is) all area w.area-is low i e;
      }
    where
      low : All (λ x. x < b.sizes.n) (tabulate b.sizes.n (λ i. i))
      low = first_below b.sizes.n b.sizes.n (omega arith)

  lose-inv : (board : ℕ) (o : Option Repairing) → Inv (going b o (without board b.service)) area
  lose-inv board o =
      record {
        as_long = v.as_long;
        is-sound = facts-sound new (noted-sound b facts b.points b.file rest facts.is-pointed facts.fits low (λ w i e. none-serve w i (before i e)));
        bytes = v.bytes;
        serving = low;
        room = v.room;
        holds = λ i e. v.holds i (before i e);
      }
    where
      rest : List ℕ
      rest = without board b.service

      new : Record
      new = book_record (going b o rest)

      low : All (λ x. x < b.sizes.n) (without board b.service)
      low = all_without (λ x. x < b.sizes.n) board b.service v.serving

      before : (i : ℕ) → among (without board b.service) i ≡ true → among b.service i ≡ true
      before i e = go (eqb board i) (sym (among-without board b.service i) ∙ e)
        where
          go : (t : Bool) → pick t false (among b.service i) ≡ true → among b.service i ≡ true
          go true k = absurd (true-false k refl)
          go false k = k

-- ---- with the record of a repair beside

module _ (laws : AllLaws) (b : Book) (area : List ℕ) (v : Inv b area) (packets : List ℕ) (g : Runs b b.repairing area packets) (p : Running) (tells : Tells b.sizes b.repairing p) where
  abbrev pub at : State
  at = record { kept = book_record b; running = p; area = area; packets = packets }

  -- the record beside runs just where the book says so, and then tells its fresh boards
  tallies : Tallies b.repairing p
  tallies = go b.repairing g tells
    where
      go : (o : Option Repairing) → Runs b o area packets → Tells b.sizes o p → Tallies o p
      go none k l = l
      go (some r) k l = (
        ap (λ (x : Running). x.running) l,
        ap fresh_of l ∙ fresh-back (book_record b) (length area) r.fresh r.helpers r.stand_ins k.pass (carried_by b r),
      )

  pub running-is : p.running ≡ given b.repairing
  running-is = tallies-running b.repairing p tallies

  pub beside-is : sound_beside (book_record b) p ≡ true
  unfolding sound_beside
  beside-is = go b.repairing g tells
    where
      go : (o : Option Repairing) → Runs b o area packets → Tells b.sizes o p → sound_beside (book_record b) p ≡ true
      go none k l = rw l refl
      go (some r) k l =
          ap (sound_beside (book_record b)) l
          ∙ beside-sound (book_record b) (length area) r.fresh r.helpers r.stand_ins k.pass (carried_by b r)
          (let x = k.some_left in let y = k.within in omega arith)

  pub both-off : not (alls (sound (book_record b) ∷ sound_beside (book_record b) p ∷ [])) ≡ false
  both-off = ap not (hold-alls (sound (book_record b) ∷ sound_beside (book_record b) p ∷ []) (v.is-sound, (beside-is, tt)))

  -- store and ledger give the same refusal, where DISAGREE is off once those ahead of it are
  pub same_check : (call : Call)
      → (((y : Refusal) → ahead store_order y Disagree ≡ true → applies_in (book_lines b call) y ≡ false)
      → applies_in (store_lines (book_record b) p area call) Disagree ≡ applies_in (book_lines b call) Disagree)
      → first store_order (store_lines (book_record b) p area call) ≡ first store_order (book_lines b call)
  same_check call d =
      alike-first store_order (alike b area (facts laws b area v).is-legal v.serving v.as_long p tallies call) (size_same b p area both-off call) d

  -- a refusal leaves all as it was
  pub refusal-good : (keep : Outcome → List ℕ) (output lent : List ℕ) (x : Refusal)
      → keep (record { answer = said (Err x); handed = book_record b; running = p; area = area; output = output; packets = lent }) ≡ packets
      → Good keep (record { answer = said (Err x); handed = book_record b; running = p; area = area; output = output; packets = lent })
      (replied (said (Err x)) output b)
  refusal-good keep output lent x e = record { alike = refl; same-record = refl; same-running = tells; inv = v; runs = subst (Runs b b.repairing area) (sym e) g }

  -- a call that is BUSY while a repair runs, and was not: none runs
  pub none_runs : p.running ≡ false → given b.repairing ≡ false
  none_runs e = sym running-is ∙ e

  -- ---- write

  write_same : (file : List ℕ) → first store_order (write_lines_both (book_record b) p (length area) file) ≡ first store_order (book_lines b (write file))
  unfolding store_lines write_lines_both write_lines book_lines
  write_same file = same_check (write file) (λ _. refl)

  pub write-good : (file : List ℕ) → Bytes file → Good (packets_after packets (write file)) (act at (write file)) (enter b (write file))
  unfolding act enter accept write_both write_lines_both write_lines
  write-good file ok =
      good-both (packets_after packets (write file)) _ _ _ _ _ _ (write_same file) (λ x. refusal-good (packets_after packets (write file)) [] [] x refl)
      (λ e. let a = alone-busy (book_record b) p p.running (drop 1 (write_lines (book_record b) (length area) file)) refl e in
      record {
        alike = refl;
        same-record = ap (with_marks (written_record (book_record b) (length file))) (marks-all b.sizes.n);
        same-running = tells;
        inv = write-inv laws b area v file ok (write-facts (book_record b) (length area) file a.0);
        runs = runs_none _ b.repairing _ _ (none_runs a.1);
      })

  -- ---- lose

  lose-same : (board : ℕ) → first store_order (lose_lines_both (book_record b) p board) ≡ first store_order (book_lines b (lose board))
  unfolding store_lines lose_lines_both lose_lines book_lines
  lose-same board = same_check (lose board) (λ _. refl)

  -- a repair goes on where none of its boards is lost
  module _ (board : ℕ) (r : Repairing) (k : Going b r area packets) (out : among (r.fresh ++ (r.helpers ++ r.stand_ins)) board ≡ false) where
    abbrev less : Book
    less = going b (some r) (without board b.service)

    f : Repairs (book_record b) (length area) r.fresh r.helpers r.stand_ins
    f = repair-facts (book_record b) (length area) r.fresh r.helpers r.stand_ins k.pass

    w : Inv less area
    w = lose-inv laws b area v board (some r)

    up-less : (i : ℕ) → in_service (book_record less) i ≡ pick (eqb board i) false (among b.service i)
    up-less i = up laws less area w i ∙ among-without board b.service i

    fresh-out : All (λ i. not (in_service (book_record less) i) ≡ true) r.fresh
    fresh-out =
        all-imp (λ i. not (in_service (book_record b) i) ≡ true) _
        (λ i e. ap not (up-less i) ∙ off i (eqb board i) (ap not (sym (up laws b area v i)) ∙ e)) r.fresh
        (every-all (λ i. not (in_service (book_record b) i)) r.fresh f.fresh-out)
      where
        off : (i : ℕ) (t : Bool) → not (among b.service i) ≡ true → not (pick t false (among b.service i)) ≡ true
        off i true e = refl
        off i false e = e

    named-up : All (λ i. in_service (book_record less) i ≡ true) (r.helpers ++ r.stand_ins)
    named-up =
        among-all (λ i. in_service (book_record less) i ≡ true) (r.helpers ++ r.stand_ins)
        (λ i e. up-less i ∙ on i (eqb board i) refl e
        (sym (up laws b area v i) ∙ all_among (λ i. in_service (book_record b) i ≡ true) (r.helpers ++ r.stand_ins) i
        (every-all (in_service (book_record b)) (r.helpers ++ r.stand_ins) f.all_up) e))
      where
        on : (i : ℕ) (t : Bool) → eqb board i ≡ t → among (r.helpers ++ r.stand_ins) i ≡ true → among b.service i ≡ true → pick t false (among b.service i) ≡ true
        on i false q e u = u
        on i true q e u =
            absurd (true-false (subst (λ (x : ℕ). among (r.fresh ++ (r.helpers ++ r.stand_ins)) x ≡ true) (sym (eqb-true board i q))
            (among-append-right r.fresh (r.helpers ++ r.stand_ins) i e)) out)

    still-passes : first store_order (repair_lines (book_record less) (length area) r.fresh r.helpers r.stand_ins) ≡ Ok tt
    unfolding repair_lines list_lines
    still-passes =
        let off = clear-off (repair_lines (book_record b) (length area) r.fresh r.helpers r.stand_ins) store_order k.pass in
        off-pass (repair_lines (book_record less) (length area) r.fresh r.helpers r.stand_ins) store_order
        (ap not w.is-sound
        also off Area refl
        also off Empty refl
        also off Count refl
        also off Node refl
        also off Repeat refl
        also ap not (all-every (λ i. not (in_service (book_record less) i)) r.fresh fresh-out)
        also ap not (all-every (in_service (book_record less)) (r.helpers ++ r.stand_ins) named-up)
        also tt)

    still-goes : Going less r area packets
    unfolding repair_packets helper_packets partner_packets stand_in_packets exchange_packets
    still-goes = record { pass = still-passes; some_left = k.some_left; within = k.within; lies = k.lies }

  -- the repair that the book keeps, after a loss
  abbrev kept-on : Option Repairing → ℕ → Option Repairing
  kept-on o board = during o none (λ r. kept_on r board)

  lost-by : (board : ℕ) (o : Option Repairing) → Runs b o area packets → Tells b.sizes o p
      → Tells b.sizes (kept-on o board) (lost_beside (book_record b) p board)
      × Runs (going b (kept-on o board) (without board b.service)) (kept-on o board) area packets
  lost-by board none k l = (ap (λ (t : Bool). (pick (alls (t ∷ among (named_in b.sizes p) board ∷ [])) idle p).running) l ∙ l, tt)
  lost-by board (some r) k l = (
    subst (Tells b.sizes (pick (among named board) none (some r)))
        (sym (ap (λ (x : Running). lost_beside (book_record b) x board) l ∙ ap (λ (l : List ℕ). pick (alls (true ∷ among l board ∷ [])) idle run) named_back))
        (either (among named board)),
    goes (among named board) refl,
  )
    where
      named : List ℕ
      named = r.fresh ++ (r.helpers ++ r.stand_ins)

      run : Running
      run = running_by r.fresh r.helpers r.stand_ins (carried_by b r)

      named_back : named_in b.sizes (running_by r.fresh r.helpers r.stand_ins (carried_by b r)) ≡ named
      named_back =
          ap₂ {C = List ℕ} (λ (x y : List ℕ). x ++ y) (fresh-back (book_record b) (length area) r.fresh r.helpers r.stand_ins k.pass (carried_by b r))
          (ap₂ {C = List ℕ} (λ (x y : List ℕ). x ++ y) (helpers-back (book_record b) (length area) r.fresh r.helpers r.stand_ins k.pass (carried_by b r))
          (stand-ins-back (book_record b) (length area) r.fresh r.helpers r.stand_ins k.pass (carried_by b r)))

      either : (t : Bool) → Tells b.sizes (pick t none (some r)) (pick (alls (true ∷ t ∷ [])) idle run)
      either true = refl
      either false = refl

      goes : (t : Bool) → among named board ≡ t → Runs (going b (pick t none (some r)) (without board b.service)) (pick t none (some r)) area packets
      goes true e = tt
      goes false e = still-goes board r k e

  pub lose-good : (board : ℕ) → Good (packets_after packets (lose board)) (act at (lose board)) (enter b (lose board))
  unfolding act enter accept lose_both
  lose-good board =
      good-both (packets_after packets (lose board)) _ _ _ _ _ _ (lose-same board) (λ x. refusal-good (packets_after packets (lose board)) [] [] x refl)
      (λ e. record {
        alike = refl;
        same-record = ap (with_marks (book_record b)) (marks-lose b.service board);
        same-running = (lost-by board b.repairing g tells).0;
        inv = lose-inv laws b area v board (kept-on b.repairing board);
        runs = (lost-by board b.repairing g tells).1;
      })
