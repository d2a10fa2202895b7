-- Demand 1 of the store holds.
-- Assumes nothing.
use Prim.Native.Nat.{ℕ, suc, ◌+◌, ◌*◌, ◌≤◌, ◌<◌}
use mathlib.Core.Path.{◌≡◌, refl, sym, ◌∙◌, ap, subst}
use mathlib.Core.Bool.{Bool, true, false, not}
use mathlib.Core.Logic.{◌↔◌, ◌⊎◌, inl, inr}
use mathlib.Core.List.{List, [], ◌∷◌, ◌++◌}
use native.Mathlib.Omega.{arith}
use lib.ListN.{length, drop, take, get_or}
use lib.Dec.{leb, eqb}
use borrow.Author.Tests.{leb-true, le-leb, lt-ltb, eqb-true, eq-eqb, not-true, ltb-true}
use Rattle.lists.specs.Lists.{piece, All, tabulate}
use Rattle.lists.specs.Tests.{pick, among, alls, different, apart, every}
use Rattle.lists.proofs.Alls.{all_left}
use Rattle.lists.proofs.Boards.{below_all, all_among, among-head, among-tail}
use Rattle.lists.proofs.Pieces.{piece-join}
use Rattle.lists.proofs.Tests.{true-false, is_false, alls-hold, hold-alls, every-all}
use Rattle.sizes.specs.Refusals.{Line, first, store_order, Check}
use Rattle.sizes.specs.Sizing.{legal, max_stripes, B, α, stripes}
use Rattle.std.specs.Prelude.{Ok, Err}
use Rattle.sizes.specs.declared.Refusal.{Refusal}
use Rattle.sizes.specs.declared.Sizes.{Sizes}
use Rattle.sizes.proofs.Legal.{legal-facts}
use Rattle.sizes.proofs.Lines.{one-or-none, refuse-first, clear_first, says-not, says-differ, says_less, says-no-file, says_two}
use Rattle.mbcr.specs.Share.{pointed, share, stripe, kept}
use Rattle.mbcr.proofs.Repair.{length-kept}
use Rattle.store_spec.specs.Calls.{StoreOutcome, settle, accepted, refused, record_line, set_up_call, write_lines, write_done, write_call, lose_lines, lose_done, lose_call}
use Rattle.store_spec.specs.Calls.{list_lines, repair_lines, repair_done, repair_call, read_lines, read_done, read_call}
use Rattle.board_spec.specs.Calls.{file_of}
use Rattle.board_spec.specs.Claims.{LinesSay}
use Rattle.board_spec.proofs.Claims.{EachSays, ◌and◌, end, lines-say}
use Rattle.store_spec.specs.Edit.{edit_lines, edit_done, edit_call}
use Rattle.store_spec.specs.Careful.{careful_file, careful_lines, careful_done, careful_call}
use Rattle.store_spec.specs.Demand1.{StoreEnds, Stays, StoreCalls, write_claims, lose_claims, list_claims, repair_claims, read_claims, edit_claims, careful_claims, move_claims}
use Rattle.store_spec.specs.Packets.{fresh_share, hear_named, stand_ins_each}
use Rattle.store_spec.specs.Record.{Record, new_record, sound, in_service, stripe_count, held, written_record, used_len, part_len}
use Rattle.store_spec.specs.Move.{move_lines, move_done, move_call}
use Rattle.store_spec.proofs.Area.{held-stripe, length-shares, byte-stays, shares-same}
use Rattle.store_spec.proofs.Careful.{odd-named}
use Rattle.store_spec.proofs.Passed.{set-up-sound, set-up-taken, passes}
use Rattle.store_spec.proofs.Exact.{read-exact}
use Rattle.store_spec.proofs.Marks.{off-from, off-none, on_below, off-above, first_below, among_first}
use Rattle.store_spec.proofs.Packets.{runs-different}
use Rattle.store_spec.proofs.Real.{code-lengths}
use Rattle.store_spec.proofs.Records.{facts-sound, sound-facts, blank-length, blank-off, blank-if, Writes, write-facts, Sound, used-least, repair-facts, used-fits}
use Rattle.store_spec.proofs.Repair.{fresh-length}
use Rattle.store_spec.proofs.Passed.{settle-pass}

-- ---- every call ends

ends : (lines : List Line) (s : Record) (area output : List ℕ) (done : StoreOutcome) → done.answer.refusal ≡ 0
    → StoreEnds lines s area output done (settle (first store_order lines) (refused s area output) done)
ends lines s area output done z = record {
  one = one-or-none lines store_order;
  refuses = λ x h. ap (λ (c : Check). settle c (refused s area output) done) (refuse-first lines store_order x h);
  works = λ h.
      let e : settle (first store_order lines) (refused s area output) done ≡ done = settle-pass _ _ _ (clear_first lines store_order h) in
      (e, ap (λ (o : StoreOutcome). o.answer.refusal) e ∙ z);
}

set-up-ends : (old : Record) (z : Sizes) (xs : List ℕ) (c : ℕ)
    → StoreEnds (record_line (new_record z xs c) ∷ []) old [] [] (accepted 0 (new_record z xs c) [] []) (set_up_call old z xs c)
unfolding set_up_call
set-up-ends old z xs c = ends _ old [] [] _ refl

write-ends : (s : Record) (area file : List ℕ) → StoreEnds (write_lines s (length area) file) s area [] (write_done s area file) (write_call s area file)
unfolding write_call
write-ends s area file = ends _ s area [] _ refl

lose-ends : (s : Record) (area : List ℕ) (board : ℕ) → StoreEnds (lose_lines s board) s area [] (lose_done s area board) (lose_call s area board)
unfolding lose_call
lose-ends s area board = ends _ s area [] _ refl

repair-ends : (s : Record) (area fresh helpers stand_ins : List ℕ)
    → StoreEnds (repair_lines s (length area) fresh helpers stand_ins) s area [] (repair_done s area fresh helpers stand_ins)
    (repair_call s area fresh helpers stand_ins)
unfolding repair_call
repair-ends s area fresh helpers stand_ins = ends _ s area [] _ refl

read-ends : (s : Record) (area boards output : List ℕ)
    → StoreEnds (read_lines s area boards output) s area output (read_done s area boards output) (read_call s area boards output)
unfolding read_call
read-ends s area boards output = ends _ s area output _ refl

edit-ends : (s : Record) (area : List ℕ) (offset : ℕ) (bytes boards : List ℕ)
    → StoreEnds (edit_lines s area offset bytes boards) s area [] (edit_done s area offset bytes boards) (edit_call s area offset bytes boards)
unfolding edit_call
edit-ends s area offset bytes boards = ends _ s area [] _ refl

careful-ends : (s : Record) (area boards output : List ℕ)
    → StoreEnds (careful_lines s area boards output) s area output (careful_done s area boards output) (careful_call s area boards output)
unfolding careful_call
careful-ends s area boards output = ends _ s area output _ refl

move-ends : (s : Record) (area : List ℕ) (board point : ℕ) (helpers partners : List ℕ)
    → StoreEnds (move_lines s (length area) board point helpers partners) s area [] (move_done s area board point helpers partners)
    (move_call s area board point helpers partners)
unfolding move_call
move-ends s area board point helpers partners = ends _ s area [] _ refl

-- ---- records

set-up-accepted : (old : Record) (z : Sizes) (xs : List ℕ) (c : ℕ)
    → ((set_up_call old z xs c).answer.refusal ≡ 0) ↔ ((legal z ≡ true) × (pointed z xs ≡ true) × (1 ≤ c) × (c ≤ max_stripes))
set-up-accepted old z xs c = (
  λ h. let f = sound-facts (new_record z xs c) (set-up-sound old z xs c h) in (f.is-legal, f.is-pointed, f.cap-low, f.cap-high),
  λ p. set-up-taken old z xs c p.0 p.1 p.2 p.3,
)

sound-there : (s : Record) → sound s ≡ true
    → (legal s.sizes ≡ true) × (pointed s.sizes s.points ≡ true) × (1 ≤ s.capacity) × (s.capacity ≤ max_stripes) × (s.length ≤ s.capacity * B s.sizes)
    × ((i : ℕ) → in_service s i ≡ true → i < s.sizes.n) × (s.written ≡ false → (s.length ≡ 0) × ((i : ℕ) → in_service s i ≡ true → ⊥))
sound-there s h =
    let f = sound-facts s h in (
      f.is-legal,
      f.is-pointed,
      f.cap-low,
      f.cap-high,
      f.fits,
      (λ i e. on_below s.sizes.n s.marks i f.beyond e),
      (λ w. (blank-length s f.blank w, λ i e. off-none s.marks i (blank-off s f.blank w) e)),
    )

sound_back : (s : Record)
    → (legal s.sizes ≡ true) × (pointed s.sizes s.points ≡ true) × (1 ≤ s.capacity) × (s.capacity ≤ max_stripes) × (s.length ≤ s.capacity * B s.sizes)
    × ((i : ℕ) → in_service s i ≡ true → i < s.sizes.n) × (s.written ≡ false → (s.length ≡ 0) × ((i : ℕ) → in_service s i ≡ true → ⊥))
    → sound s ≡ true
sound_back s p =
    facts-sound s (record {
      is-legal = p.0;
      is-pointed = p.1;
      cap-low = p.2;
      cap-high = p.3;
      fits = p.4;
      beyond = off-from s.sizes.n s.marks p.5;
      blank = blank-if s (λ w. ((p.6 w).0, off-above s.marks (p.6 w).1));
    })

-- ---- the area

held_place : (s : Record) (area : List ℕ) (i t : ℕ) → t < stripe_count s
    → piece (α s.sizes) t (held s area i) ≡ take (α s.sizes) (drop ((i * s.capacity + t) * α s.sizes) area)
unfolding piece
held_place s area i t h = held-stripe (α s.sizes) s.capacity (stripe_count s) area i t h

module _ (s : Record) (area file : List ℕ) (h : (write_call s area file).answer.refusal ≡ 0) where
  write-pass : first store_order (write_lines s (length area) file) ≡ Ok tt
  unfolding write_call
  write-pass = passes (first store_order (write_lines s (length area) file)) s area [] (write_done s area file) h

  write-is : write_call s area file ≡ write_done s area file
  unfolding write_call
  write-is = settle-pass _ _ _ write-pass

  w : Writes s (length area) file
  w = write-facts s (length area) file write-pass

  g : Sound s
  g = sound-facts s w.is-sound

  new : Record
  new = written_record s (length file)

  fits-new : used_len new ≤ part_len new
  unfolding new
  fits-new = used-least s.sizes (length file) s.capacity g.is-legal w.file-fits

  all-low : All (λ i. i < s.sizes.n) (tabulate s.sizes.n (λ i. i))
  all-low = first_below s.sizes.n s.sizes.n (omega arith)

  long : (i : ℕ) → length (share s.sizes s.points file i) ≡ used_len new
  unfolding new
  long i = (code-lengths s.points s.sizes g.is-legal).share-length file i

  write-stays : Stays (written_record s (length file)) (tabulate s.sizes.n (λ i. i)) area (write_call s area file).area
  unfolding new
  write-stays =
      let e = ap (λ (o : StoreOutcome). o.area) write-is in
      record {
        as_long = ap length e ∙ length-shares new (share s.sizes s.points file) (used_len new) long fits-new (tabulate s.sizes.n (λ i. i)) area w.area-is all-low;
        same_byte = λ p out. ap (λ (a : List ℕ). get_or a p 0) e
            ∙ byte-stays new (share s.sizes s.points file) (used_len new) long fits-new (tabulate s.sizes.n (λ i. i)) area w.area-is all-low p out;
      }

  write-place : (i t : ℕ) → i < s.sizes.n → t < stripes s.sizes (length file)
      → take (α s.sizes) (drop ((i * s.capacity + t) * α s.sizes) (write_call s area file).area) ≡ kept s.sizes s.points (stripe s.sizes file t) i
  unfolding new share
  write-place i t hi ht =
      sym (held_place new (write_call s area file).area i t ht)
      ∙ ap (λ (a : List ℕ). piece (α s.sizes) t (held new a i)) (ap (λ (o : StoreOutcome). o.area) write-is)
      ∙ ap (piece (α s.sizes) t)
      (shares-same new (share s.sizes s.points file) (used_len new) long fits-new (tabulate s.sizes.n (λ i. i)) area w.area-is all-low i
      (among_first s.sizes.n i ∙ lt-ltb i s.sizes.n hi))
      ∙ piece-join (stripes s.sizes (length file)) (α s.sizes) (λ s₂. kept s.sizes s.points (stripe s.sizes file s₂) i)
      (λ s₂ l. length-kept s.sizes s.points (legal-facts s.sizes g.is-legal) (stripe s.sizes file s₂) i) t ht

repair-stays : (s : Record) (area fresh helpers stand_ins : List ℕ) → (repair_call s area fresh helpers stand_ins).answer.refusal ≡ 0
    → Stays s fresh area (repair_call s area fresh helpers stand_ins).area
unfolding repair_call
repair-stays s area fresh helpers stand_ins h =
    let p = passes (first store_order (repair_lines s (length area) fresh helpers stand_ins)) s area [] (repair_done s area fresh helpers stand_ins) h in
    let f = repair-facts s (length area) fresh helpers stand_ins p in
    let g = sound-facts s f.is-sound in
    let l = code-lengths s.points s.sizes g.is-legal in
    let long = fresh-length s area fresh helpers stand_ins (length area) l f in
    let low = all_left (λ x. x < s.sizes.n) fresh (helpers ++ stand_ins) (below_all s.sizes.n (fresh ++ (helpers ++ stand_ins)) f.named-below) in
    let e : settle (first store_order (repair_lines s (length area) fresh helpers stand_ins)) (refused s area []) (repair_done s area fresh helpers stand_ins)
    ≡ repair_done s area fresh helpers stand_ins = settle-pass _ _ _ p in
    let q = ap (λ (o : StoreOutcome). o.area) e in
    record {
      as_long = ap length q ∙ length-shares s (fresh_share s area fresh helpers stand_ins) (used_len s) long (used-fits s g) fresh area f.area-is low;
      same_byte = λ p out.
          ap (λ (a : List ℕ). get_or a p 0) q
          ∙ byte-stays s (fresh_share s area fresh helpers stand_ins) (used_len s) long (used-fits s g) fresh area f.area-is low p out;
    }

-- ---- what the lines say

write-lines : (s : Record) (m : ℕ) (file : List ℕ) → LinesSay (write_lines s m file) (write_claims s m file)
unfolding write_lines
write-lines s m file =
    lines-say (write_lines s m file) (write_claims s m file) (says-not _ and says-differ _ _ and says_less _ _ and end)

lose-lines : (s : Record) (board : ℕ) → LinesSay (lose_lines s board) (lose_claims s board)
unfolding lose_lines
lose-lines s board = lines-say (lose_lines s board) (lose_claims s board) (says-not _ and says-not _ and end)

-- COUNT by four tests
says-counts : (t r h d m e : ℕ)
    → (not (alls (leb 1 t ∷ leb t r ∷ eqb h (t * d) ∷ eqb m (t * e) ∷ [])) ≡ true) ↔ ((1 ≤ t) × (t ≤ r) × (h ≡ t * d) × (m ≡ t * e) → ⊥)
says-counts t r h d m e = (
  (λ q p. true-false (hold-alls tests (le-leb 1 t p.0, (le-leb t r p.1, (eq-eqb h (t * d) p.2, (eq-eqb m (t * e) p.3, tt))))) ((says-not (alls tests)).0 q)),
  (λ no. (says-not (alls tests)).1 (is_false (alls tests) (λ q.
      let p = alls-hold tests q in
      no (leb-true 1 t p.0, leb-true t r p.1.0, eqb-true h (t * d) p.1.1.0, eqb-true m (t * e) p.1.1.1.0)))),
)
  where
    tests : List Bool
    tests = leb 1 t ∷ leb t r ∷ eqb h (t * d) ∷ eqb m (t * e) ∷ []

-- SERVING by some fresh board that is in service
says_some : (p : ℕ → Bool) (l : List ℕ) → (not (every (λ i. not (p i)) l) ≡ true) ↔ ((i : ℕ) × (among l i ≡ true) × (p i ≡ true))
says_some p l = (
  found l,
  (λ q. (says-not (every (λ i. not (p i)) l)).1 (is_false (every (λ i. not (p i)) l)
      (λ e. true-false q.2 (not-true (p q.0) (all_among (λ i. not (p i) ≡ true) l q.0 (every-all (λ i. not (p i)) l e) q.1))))),
)
  where
    found : (l : List ℕ) → not (every (λ i. not (p i)) l) ≡ true → (i : ℕ) × (among l i ≡ true) × (p i ≡ true)
    found [] e = absurd (true-false e refl)
    found (x ∷ l) e = go (p x) refl e (found l)
      where
        go : (t : Bool) → p x ≡ t → not (pick (not t) (every (λ i. not (p i)) l) false) ≡ true
            → (not (every (λ i. not (p i)) l) ≡ true → (i : ℕ) × (among l i ≡ true) × (p i ≡ true)) → (i : ℕ) × (among (x ∷ l) i ≡ true) × (p i ≡ true)
        go true q k ih = (x, among-head x l, q)
        go false q k ih = let r = ih k in (r.0, among-tail x r.0 l r.1, r.2)

-- REPEAT by the runs of helpers and of stand-ins, as the ledger has them
repeat-says : (d e : ℕ) (fresh hs ss named : List ℕ)
    → (not (alls (different fresh ∷ every (λ h. different h.senders) (hear_named d e fresh hs ss) ∷ apart fresh named ∷ [])) ≡ true)
    ↔ (alls (different fresh ∷ every different (tabulate (length fresh) (λ a. piece d a hs ++ piece e a ss)) ∷ apart fresh named ∷ []) ≡ false)
repeat-says d e fresh hs ss named =
    subst
    (λ (t : Bool).
    (not (alls (different fresh ∷ every (λ h. different h.senders) (hear_named d e fresh hs ss) ∷ apart fresh named ∷ [])) ≡ true)
    ↔ (alls (different fresh ∷ t ∷ apart fresh named ∷ []) ≡ false))
    (runs-different d e fresh hs ss) (says-not _)

pub list-each : (s : Record) (fresh helpers stand_ins : List ℕ) → EachSays (list_lines s fresh helpers stand_ins) (list_claims s fresh helpers stand_ins)
unfolding list_lines
list-each s fresh helpers stand_ins =
    (says-counts (length fresh) s.sizes.r (length helpers) s.sizes.d (length stand_ins) (stand_ins_each s fresh)
    and says-not _
    and repeat-says s.sizes.d (stand_ins_each s fresh) fresh helpers stand_ins (helpers ++ stand_ins)
    and says_some (in_service s) fresh
    and says-not _
    and end)

list-lines : (s : Record) (fresh helpers stand_ins : List ℕ) → LinesSay (list_lines s fresh helpers stand_ins) (list_claims s fresh helpers stand_ins)
list-lines s fresh helpers stand_ins = lines-say (list_lines s fresh helpers stand_ins) (list_claims s fresh helpers stand_ins) (list-each s fresh helpers stand_ins)

repair-lines : (s : Record) (m : ℕ) (fresh helpers stand_ins : List ℕ)
    → LinesSay (repair_lines s m fresh helpers stand_ins) (repair_claims s m fresh helpers stand_ins)
unfolding repair_lines
repair-lines s m fresh helpers stand_ins =
    lines-say (repair_lines s m fresh helpers stand_ins) (repair_claims s m fresh helpers stand_ins)
    (says-not _ and says-differ _ _ and says-not _ and list-each s fresh helpers stand_ins)

read-lines : (s : Record) (area boards output : List ℕ)
    → LinesSay (read_lines s area boards output) (read_claims s area boards output)
unfolding read_lines
read-lines s area boards output =
    lines-say (read_lines s area boards output) (read_claims s area boards output)
    (says-not _
    and says-differ _ _
    and says-not _
    and says-differ _ _
    and says-not _
    and says-not _
    and says-not _
    and says_less _ _
    and says-no-file _
    and end)

edit-lines : (s : Record) (area : List ℕ) (offset : ℕ) (bytes boards : List ℕ)
    → LinesSay (edit_lines s area offset bytes boards) (edit_claims s area offset bytes boards)
unfolding edit_lines
edit-lines s area offset bytes boards =
    lines-say (edit_lines s area offset bytes boards) (edit_claims s area offset bytes boards)
    (says-not _
    and says-differ _ _
    and says-not _
    and says_less _ _
    and says-differ _ _
    and says-not _
    and says-not _
    and says-not _
    and says-no-file _
    and end)

-- COUNT by two tests
pub says_both : (a b c d : ℕ) → (not (alls (leb a b ∷ eqb c d ∷ [])) ≡ true) ↔ ((a ≤ b) × (c ≡ d) → ⊥)
says_both a b c d = (
  (λ q p. true-false (hold-alls tests (le-leb a b p.0, (eq-eqb c d p.1, tt))) ((says-not (alls tests)).0 q)),
  (λ no. (says-not (alls tests)).1 (is_false (alls tests) (λ q. let p = alls-hold tests q in no (leb-true a b p.0, eqb-true c d p.1.0)))),
)
  where
    tests : List Bool
    tests = leb a b ∷ eqb c d ∷ []

careful-lines : (s : Record) (area boards output : List ℕ)
    → LinesSay (careful_lines s area boards output) (careful_claims s area boards output)
unfolding careful_lines
careful-lines s area boards output =
    lines-say (careful_lines s area boards output) (careful_claims s area boards output)
    (says-not _
    and says-differ _ _
    and says-not _
    and says_both _ _ _ _
    and says-not _
    and says-not _
    and says-not _
    and says_less _ _
    and says-no-file _
    and end)

-- ---- what is reported, and what losing and reading leave

-- what holds of a refusal and of the work holds of the call
either : (P : StoreOutcome → Type 0) (check : Check) (s : Record) (area output : List ℕ) (done : StoreOutcome)
    → ((x : Refusal) → P (refused s area output x)) → P done → P (settle check (refused s area output) done)
either P (Ok tt) s area output done f g = g
either P (Err x) s area output done f g = f x

abbrev Reports0 : StoreOutcome → Type 0
Reports0 o = o.answer.reported ≡ 0

set-up-reports : (old : Record) (z : Sizes) (xs : List ℕ) (c : ℕ) → (set_up_call old z xs c).answer.reported ≡ 0
unfolding set_up_call
set-up-reports old z xs c = either Reports0 (first store_order (record_line (new_record z xs c) ∷ [])) old [] [] _ (λ x. refl) refl

write-reports : (s : Record) (area file : List ℕ) → (write_call s area file).answer.reported ≡ 0
unfolding write_call
write-reports s area file = either Reports0 (first store_order (write_lines s (length area) file)) s area [] _ (λ x. refl) refl

lose-reports : (s : Record) (area : List ℕ) (board : ℕ) → ((lose_call s area board).answer.reported ≡ 0) × ((lose_call s area board).area ≡ area)
unfolding lose_call
lose-reports s area board = either (λ o. Reports0 o × (o.area ≡ area)) (first store_order (lose_lines s board)) s area [] _ (λ x. (refl, refl)) (refl, refl)

read-reports : (s : Record) (area boards output : List ℕ) → ((read_call s area boards output).answer.reported ≡ 0) × ((read_call s area boards output).area ≡ area)
unfolding read_call
read-reports s area boards output =
    either (λ o. Reports0 o × (o.area ≡ area)) (first store_order (read_lines s area boards output)) s area output _ (λ x. (refl, refl)) (refl, refl)

edit-reports : (s : Record) (area : List ℕ) (offset : ℕ) (bytes boards : List ℕ)
    → ((edit_call s area offset bytes boards).answer.reported ≡ 0) × ((edit_call s area offset bytes boards).output ≡ [])
unfolding edit_call
edit-reports s area offset bytes boards =
    either (λ o. Reports0 o × (o.output ≡ [])) (first store_order (edit_lines s area offset bytes boards)) s area [] _ (λ x. (refl, refl)) (refl, refl)

careful-reports : (s : Record) (area boards output : List ℕ)
    → (((careful_call s area boards output).answer.reported ≡ 0)
    ⊎ ((i : ℕ) × ((careful_call s area boards output).answer.reported ≡ suc i) × (among boards i ≡ true)))
    × ((careful_call s area boards output).area ≡ area)
unfolding careful_call
careful-reports s area boards output =
    either (λ o. ((o.answer.reported ≡ 0) ⊎ ((i : ℕ) × (o.answer.reported ≡ suc i) × (among boards i ≡ true))) × (o.area ≡ area))
    (first store_order (careful_lines s area boards output)) s area output _ (λ x. (inl refl, refl)) (odd-named s area (file_of (careful_file s area boards)) boards, refl)

move-output : (s : Record) (area : List ℕ) (board point : ℕ) (helpers partners : List ℕ) → (move_call s area board point helpers partners).output ≡ []
unfolding move_call
move-output s area board point helpers partners =
    either (λ o. o.output ≡ []) (first store_order (move_lines s (length area) board point helpers partners)) s area [] _ (λ x. refl) refl

-- a new byte that some board has
pub says-repeat : (a b : Bool) → (not (alls (a ∷ not b ∷ [])) ≡ true) ↔ ((a ≡ false) ⊎ (b ≡ true))
says-repeat true true = (λ e. inr refl, λ e. refl)
says-repeat true false = (λ e. absurd (true-false e refl), no)
  where
    no : (true ≡ false) ⊎ (false ≡ true) → not (alls (true ∷ not false ∷ [])) ≡ true
    no (inl e) = absurd (true-false refl e)
    no (inr e) = absurd (true-false e refl)
says-repeat false b = (λ e. inl refl, λ e. refl)

-- DOWN by some board that is out of service
pub says-down : (p : ℕ → Bool) (n : ℕ) → (not (every p (tabulate n (λ i. i))) ≡ true) ↔ ((i : ℕ) × (i < n) × (p i ≡ false))
says-down p n = (
  (λ e. let q = found (tabulate n (λ i. i)) e in (q.0, ltb-true q.0 n (sym (among_first n q.0) ∙ q.1), q.2)),
  (λ q. (says-not (every p (tabulate n (λ i. i)))).1 (is_false (every p (tabulate n (λ i. i)))
      (λ e. true-false (all_among (λ i. p i ≡ true) (tabulate n (λ i. i)) q.0 (every-all p (tabulate n (λ i. i)) e) (among_first n q.0 ∙ lt-ltb q.0 n q.1)) q.2))),
)
  where
    found : (l : List ℕ) → not (every p l) ≡ true → (i : ℕ) × (among l i ≡ true) × (p i ≡ false)
    found [] e = absurd (true-false e refl)
    found (x ∷ l) e = go (p x) refl e (found l)
      where
        go : (t : Bool) → p x ≡ t → not (pick t (every p l) false) ≡ true
            → (not (every p l) ≡ true → (i : ℕ) × (among l i ≡ true) × (p i ≡ false)) → (i : ℕ) × (among (x ∷ l) i ≡ true) × (p i ≡ false)
        go false q k ih = (x, among-head x l, q)
        go true q k ih = let r = ih k in (r.0, among-tail x r.0 l r.1, r.2)

move-lines : (s : Record) (m board point : ℕ) (helpers partners : List ℕ)
    → LinesSay (move_lines s m board point helpers partners) (move_claims s m board point helpers partners)
unfolding move_lines
move-lines s m board point helpers partners =
    lines-say (move_lines s m board point helpers partners) (move_claims s m board point helpers partners)
    (says-not _
    and says-differ _ _
    and says-not _
    and says_two _ _ _ _
    and says-not _
    and says-repeat _ _
    and says-down _ _
    and end)

pub demand-1 : StoreCalls
demand-1 = record {
  accepted-is = λ v s area output. refl;
  refused-is = λ s area output x. refl;
  set-up-reports = set-up-reports;
  write-reports = write-reports;
  lose-reports = lose-reports;
  read-reports = read-reports;
  edit-reports = edit-reports;
  careful-reports = careful-reports;
  move-output = move-output;
  new_is = λ z xs c. refl;
  in-service-is = λ s i. refl;
  written_is = λ s L. refl;
  lengths-are = λ s. (refl, refl, refl);
  held-is = λ s area i. refl;
  write-lines = write-lines;
  lose-lines = lose-lines;
  list-lines = list-lines;
  repair-lines = repair-lines;
  read-lines = read-lines;
  edit-lines = edit-lines;
  careful-lines = careful-lines;
  move-lines = move-lines;
  set-up-ends = set-up-ends;
  write-ends = write-ends;
  lose-ends = lose-ends;
  repair-ends = repair-ends;
  read-ends = read-ends;
  edit-ends = edit-ends;
  careful-ends = careful-ends;
  move-ends = move-ends;
  set-up-accepted = set-up-accepted;
  sound-is = λ s. (sound-there s, sound_back s);
  held_place = held_place;
  write-place = write-place;
  write-stays = write-stays;
  repair-stays = repair-stays;
  read-exact = read-exact;
}
