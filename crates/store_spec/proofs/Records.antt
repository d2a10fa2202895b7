-- What it says of a record that it is sound, and of a call that no line holds.
-- Assumes nothing.
use Prim.Native.Nat.{ℕ, ◌+◌, ◌-◌, ◌*◌, ◌≤◌, ◌<◌}
use mathlib.Core.Path.{◌≡◌, refl, ap}
use mathlib.Core.Bool.{Bool, true, false, not}
use mathlib.Core.List.{List, [], ◌∷◌, ◌++◌}
use native.Mathlib.Nat.{mul-le-mul_right}
use lib.Dec.{leb, eqb}
use lib.ListN.{length, take, drop}
use borrow.Author.Tests.{leb-true, le-leb, ltb-false, le-ltb, eqb-true, eq-eqb, not-true}
use Rattle.lists.specs.Tests.{pick, alls, below, among, different, every, apart, given}
use Rattle.lists.proofs.Tests.{alls-hold, hold-alls, not-no}
use Rattle.lists.proofs.Boards.{below_all}
use Rattle.sizes.specs.Refusals.{first, store_order}
use Rattle.sizes.specs.Sizing.{legal, max_stripes, B, α, stripes}
use Rattle.std.specs.Prelude.{Ok}
use Rattle.sizes.specs.declared.Refusal.TheVariants.{Size, Area, Long, Count, Node, Repeat, Short, Empty, Down, Disagree, Serving, Range}
use Rattle.sizes.specs.declared.Sizes.{Sizes}
use Rattle.sizes.proofs.Legal.{stripes-least, legal-facts}
use Rattle.sizes.proofs.Orders.{◌also◌, clear-off, off-pass}
use Rattle.mbcr.specs.Share.{pointed, DifferentPoints}
use Rattle.mbcr.proofs.PointLaws.{pointed-differ}
use Rattle.store_spec.specs.Calls.{write_lines, lose_lines, list_lines, repair_lines, read_lines, file_held}
use Rattle.store_spec.specs.Edit.{edit_lines}
use Rattle.store_spec.specs.Careful.{careful_lines, careful_file}
use Rattle.store_spec.specs.Move.{all_boards, move_lines}
use Rattle.store_spec.specs.Packets.{hear_named, stand_ins_each}
use Rattle.store_spec.specs.Record.{Record, all_off, sound, used_len, part_len, area_len, in_service}

-- nothing stored and no mark on, or a file was accepted
abbrev pub unwritten : Record → Bool
unwritten s = pick s.written true (alls (eqb s.length 0 ∷ all_off s.marks ∷ []))

pub record Sound (s : Record) : Type 0 where
  pub is-legal : legal s.sizes ≡ true
  pub is-pointed : pointed s.sizes s.points ≡ true
  pub cap-low : 1 ≤ s.capacity
  pub cap-high : s.capacity ≤ max_stripes
  pub fits : s.length ≤ s.capacity * B s.sizes
  pub beyond : all_off (drop s.sizes.n s.marks) ≡ true
  pub blank : unwritten s ≡ true

sound_tests : Record → List Bool
sound_tests s =
    legal s.sizes
    ∷ pointed s.sizes s.points
    ∷ leb 1 s.capacity
    ∷ leb s.capacity max_stripes
    ∷ leb s.length (s.capacity * B s.sizes)
    ∷ all_off (drop s.sizes.n s.marks)
    ∷ unwritten s
    ∷ []

pub sound-facts : (s : Record) → sound s ≡ true → Sound s
unfolding sound sound_tests
sound-facts s h =
    let e = alls-hold (sound_tests s) h in
    record {
      is-legal = e.0;
      is-pointed = e.1.0;
      cap-low = leb-true _ _ e.1.1.0;
      cap-high = leb-true _ _ e.1.1.1.0;
      fits = leb-true _ _ e.1.1.1.1.0;
      beyond = e.1.1.1.1.1.0;
      blank = e.1.1.1.1.1.1.0;
    }

pub facts-sound : (s : Record) → Sound s → sound s ≡ true
unfolding sound sound_tests
facts-sound s f =
    hold-alls (sound_tests s)
    (f.is-legal also f.is-pointed also le-leb _ _ f.cap-low also le-leb _ _ f.cap-high also le-leb _ _ f.fits also f.beyond also f.blank also tt)

-- the points of a sound record differ
pub sound-points : (s : Record) → Sound s → DifferentPoints s.sizes s.points
sound-points s f = pointed-differ s.sizes s.points f.is-legal f.is-pointed

pub blank-off : (s : Record) → unwritten s ≡ true → s.written ≡ false → all_off s.marks ≡ true
blank-off s h w =
    let k : alls (eqb s.length 0 ∷ all_off s.marks ∷ []) ≡ true = rw w at h in
    (alls-hold (eqb s.length 0 ∷ all_off s.marks ∷ []) k).1.0

pub blank-length : (s : Record) → unwritten s ≡ true → s.written ≡ false → s.length ≡ 0
blank-length s h w =
    let k : alls (eqb s.length 0 ∷ all_off s.marks ∷ []) ≡ true = rw w at h in
    eqb-true _ _ (alls-hold (eqb s.length 0 ∷ all_off s.marks ∷ []) k).0

pub blank-if : (s : Record) → (s.written ≡ false → (s.length ≡ 0) × (all_off s.marks ≡ true)) → unwritten s ≡ true
blank-if s h = go s.written refl
  where
    go : (t : Bool) → s.written ≡ t → pick t true (alls (eqb s.length 0 ∷ all_off s.marks ∷ [])) ≡ true
    go true e = refl
    go false e = let p = h e in hold-alls (eqb s.length 0 ∷ all_off s.marks ∷ []) (eq-eqb _ _ p.0, (p.1, tt))

-- the stripes of a file that fits lie in its boards' parts
pub used-least : (z : Sizes) (L c : ℕ) → legal z ≡ true → L ≤ c * B z → stripes z L * α z ≤ c * α z
used-least z L c ok h = mul-le-mul_right (α z) (stripes-least z (legal-facts z ok) L c h)

pub used-fits : (s : Record) → Sound s → used_len s ≤ part_len s
used-fits s f = used-least s.sizes s.length s.capacity f.is-legal f.fits

-- ---- no line holds

pub record Writes (s : Record) (m : ℕ) (file : List ℕ) : Type 0 where
  pub is-sound : sound s ≡ true
  pub area-is : m ≡ area_len s
  pub file-fits : length file ≤ s.capacity * B s.sizes

pub write-facts : (s : Record) (m : ℕ) (file : List ℕ) → first store_order (write_lines s m file) ≡ Ok tt → Writes s m file
unfolding write_lines
write-facts s m file h =
    let off = clear-off (write_lines s m file) store_order h in
    record { is-sound = not-no _ (off Size refl); area-is = eqb-true _ _ (not-no _ (off Area refl)); file-fits = ltb-false _ _ (off Long refl) }

pub record Loses (s : Record) (board : ℕ) : Type 0 where
  pub is-sound : sound s ≡ true
  pub known : board < s.sizes.n

pub lose-facts : (s : Record) (board : ℕ) → first store_order (lose_lines s board) ≡ Ok tt → Loses s board
unfolding lose_lines
lose-facts s board h =
    let off = clear-off (lose_lines s board) store_order h in
    record { is-sound = not-no _ (off Size refl); known = (below_all s.sizes.n (board ∷ []) (not-no _ (off Node refl))).0 }

pub record Repairs (s : Record) (m : ℕ) (fresh helpers stand_ins : List ℕ) : Type 0 where
  pub is-sound : sound s ≡ true
  pub area-is : m ≡ area_len s
  pub is-written : s.written ≡ true
  pub some-fresh : 1 ≤ length fresh
  pub few-fresh : length fresh ≤ s.sizes.r
  pub helper-count : length helpers ≡ length fresh * s.sizes.d
  pub stand-in-count : length stand_ins ≡ length fresh * stand_ins_each s fresh
  pub named-below : below s.sizes.n (fresh ++ (helpers ++ stand_ins)) ≡ true
  pub fresh-different : different fresh ≡ true
  pub named-different : every (λ h. different h.senders) (hear_named s.sizes.d (stand_ins_each s fresh) fresh helpers stand_ins) ≡ true
  pub none-fresh : apart fresh (helpers ++ stand_ins) ≡ true
  pub fresh-out : every (λ i. not (in_service s i)) fresh ≡ true
  pub all_up : every (in_service s) (helpers ++ stand_ins) ≡ true

-- the tests of COUNT and of REPEAT
abbrev pub count_tests : Record → List ℕ → List ℕ → List ℕ → List Bool
count_tests s fresh helpers stand_ins =
    leb 1 (length fresh)
    ∷ leb (length fresh) s.sizes.r
    ∷ eqb (length helpers) (length fresh * s.sizes.d)
    ∷ eqb (length stand_ins) (length fresh * stand_ins_each s fresh)
    ∷ []

abbrev pub repeat_tests : Record → List ℕ → List ℕ → List ℕ → List Bool
repeat_tests s fresh helpers stand_ins =
    different fresh
    ∷ every (λ h. different h.senders) (hear_named s.sizes.d (stand_ins_each s fresh) fresh helpers stand_ins)
    ∷ apart fresh (helpers ++ stand_ins)
    ∷ []

pub repair-facts : (s : Record) (m : ℕ) (fresh helpers stand_ins : List ℕ) → first store_order (repair_lines s m fresh helpers stand_ins) ≡ Ok tt
    → Repairs s m fresh helpers stand_ins
unfolding repair_lines list_lines
repair-facts s m fresh helpers stand_ins h =
    let off = clear-off (repair_lines s m fresh helpers stand_ins) store_order h in
    let c = alls-hold (count_tests s fresh helpers stand_ins) (not-no _ (off Count refl)) in
    let d = alls-hold (repeat_tests s fresh helpers stand_ins) (not-no _ (off Repeat refl)) in
    record {
      is-sound = not-no _ (off Size refl);
      area-is = eqb-true _ _ (not-no _ (off Area refl));
      is-written = not-no _ (off Empty refl);
      some-fresh = leb-true _ _ c.0;
      few-fresh = leb-true _ _ c.1.0;
      helper-count = eqb-true _ _ c.1.1.0;
      stand-in-count = eqb-true _ _ c.1.1.1.0;
      named-below = not-no _ (off Node refl);
      fresh-different = d.0;
      named-different = d.1.0;
      none-fresh = d.1.1.0;
      fresh-out = not-no _ (off Serving refl);
      all_up = not-no _ (off Down refl);
    }

-- of a call that reads from so many boards: SIZE, AREA, EMPTY, COUNT, NODE, REPEAT and DOWN
pub record Reads (s : Record) (m many : ℕ) (boards : List ℕ) : Type 0 where
  pub is-sound : sound s ≡ true
  pub area-is : m ≡ area_len s
  pub is-written : s.written ≡ true
  pub count : length boards ≡ many
  pub named-below : below s.sizes.n boards ≡ true
  pub all-different : different boards ≡ true
  pub all_up : every (in_service s) boards ≡ true

pub reads-by : (s : Record) (m many : ℕ) (boards : List ℕ) → sound s ≡ true → not (eqb m (area_len s)) ≡ false → not s.written ≡ false → length boards ≡ many
    → not (below s.sizes.n boards) ≡ false → not (different boards) ≡ false → not (every (in_service s) boards) ≡ false → Reads s m many boards
reads-by s m many boards is area written count low unlike up = record {
  is-sound = is;
  area-is = eqb-true _ _ (not-no _ area);
  is-written = not-no _ written;
  count = count;
  named-below = not-no _ low;
  all-different = not-no _ unlike;
  all_up = not-no _ up;
}

pub read-facts : (s : Record) (area boards output : List ℕ) → first store_order (read_lines s area boards output) ≡ Ok tt
    → Reads s (length area) s.sizes.k boards × (s.length ≤ length output) × (given (file_held s area boards) ≡ true)
unfolding read_lines
read-facts s area boards output h =
    let off = clear-off (read_lines s area boards output) store_order h in (
      reads-by s (length area) s.sizes.k boards (not-no _ (off Size refl)) (off Area refl) (off Empty refl) (eqb-true _ _ (not-no _ (off Count refl))) (off Node refl)
          (off Repeat refl) (off Down refl),
      ltb-false _ _ (off Short refl),
      not-no _ (off Disagree refl),
    )

pub reads-pass : (s : Record) (area boards output : List ℕ) → Reads s (length area) s.sizes.k boards → s.length ≤ length output
    → given (file_held s area boards) ≡ true → first store_order (read_lines s area boards output) ≡ Ok tt
unfolding read_lines
reads-pass s area boards output f room g =
    off-pass (read_lines s area boards output) store_order
    (ap not f.is-sound
    also ap not (eq-eqb _ _ f.area-is)
    also ap not f.is-written
    also ap not (eq-eqb _ _ f.count)
    also ap not f.named-below
    also ap not f.all-different
    also ap not f.all_up
    also le-ltb _ _ room
    also ap not g
    also tt)

pub edit-facts : (s : Record) (area : List ℕ) (offset : ℕ) (bytes boards : List ℕ) → first store_order (edit_lines s area offset bytes boards) ≡ Ok tt
    → Reads s (length area) s.sizes.k boards × (offset + length bytes ≤ s.length) × (given (file_held s area boards) ≡ true)
unfolding edit_lines
edit-facts s area offset bytes boards h =
    let off = clear-off (edit_lines s area offset bytes boards) store_order h in (
      reads-by s (length area) s.sizes.k boards (not-no _ (off Size refl)) (off Area refl) (off Empty refl) (eqb-true _ _ (not-no _ (off Count refl))) (off Node refl)
          (off Repeat refl) (off Down refl),
      ltb-false _ _ (off Range refl),
      not-no _ (off Disagree refl),
    )

-- COUNT of a careful read
abbrev pub care_tests : Record → List ℕ → List Bool
care_tests s boards = leb (s.sizes.k + 2) s.sizes.n ∷ eqb (length boards) (s.sizes.k + 2) ∷ []

pub careful-facts : (s : Record) (area boards output : List ℕ) → first store_order (careful_lines s area boards output) ≡ Ok tt → Reads s (length area) (s.sizes.k + 2) boards
unfolding careful_lines
careful-facts s area boards output h =
    let off = clear-off (careful_lines s area boards output) store_order h in
    reads-by s (length area) (s.sizes.k + 2) boards (not-no _ (off Size refl)) (off Area refl) (off Empty refl)
    (eqb-true _ _ (alls-hold (care_tests s boards) (not-no _ (off Count refl))).1.0) (off Node refl) (off Repeat refl) (off Down refl)

pub cares-pass : (s : Record) (area boards output : List ℕ) → Reads s (length area) (s.sizes.k + 2) boards → s.sizes.k + 2 ≤ s.sizes.n → s.length ≤ length output
    → given (careful_file s area boards) ≡ true → first store_order (careful_lines s area boards output) ≡ Ok tt
unfolding careful_lines
cares-pass s area boards output f enough room g =
    off-pass (careful_lines s area boards output) store_order
    (ap not f.is-sound
    also ap not (eq-eqb _ _ f.area-is)
    also ap not f.is-written
    also ap not (hold-alls (care_tests s boards) (le-leb _ _ enough, (eq-eqb _ _ f.count, tt)))
    also ap not f.named-below
    also ap not f.all-different
    also ap not f.all_up
    also le-ltb _ _ room
    also ap not g
    also tt)

pub record Moves (s : Record) (m board point : ℕ) (helpers partners : List ℕ) : Type 0 where
  pub is-sound : sound s ≡ true
  pub area-is : m ≡ area_len s
  pub is-written : s.written ≡ true
  pub helper-count : length helpers ≡ s.sizes.d
  pub partner-count : length partners ≡ s.sizes.r - 1
  pub named-below : below s.sizes.n (board ∷ (helpers ++ partners)) ≡ true
  pub named-different : different (board ∷ (helpers ++ partners)) ≡ true
  pub point-free : among (take s.sizes.n s.points) point ≡ false
  pub all_up : every (in_service s) (all_boards s) ≡ true

-- COUNT and REPEAT of a move
abbrev pub move_counts : Record → List ℕ → List ℕ → List Bool
move_counts s helpers partners = eqb (length helpers) s.sizes.d ∷ eqb (length partners) (s.sizes.r - 1) ∷ []

abbrev pub move_repeats : Record → ℕ → ℕ → List ℕ → List ℕ → List Bool
move_repeats s board point helpers partners =
    different (board ∷ (helpers ++ partners)) ∷ not (among (take s.sizes.n s.points) point) ∷ []

pub move-facts : (s : Record) (m board point : ℕ) (helpers partners : List ℕ) → first store_order (move_lines s m board point helpers partners) ≡ Ok tt
    → Moves s m board point helpers partners
unfolding move_lines
move-facts s m board point helpers partners h =
    let off = clear-off (move_lines s m board point helpers partners) store_order h in
    let c = alls-hold (move_counts s helpers partners) (not-no _ (off Count refl)) in
    let d = alls-hold (move_repeats s board point helpers partners) (not-no _ (off Repeat refl)) in
    record {
      is-sound = not-no _ (off Size refl);
      area-is = eqb-true _ _ (not-no _ (off Area refl));
      is-written = not-no _ (off Empty refl);
      helper-count = eqb-true _ _ c.0;
      partner-count = eqb-true _ _ c.1.0;
      named-below = not-no _ (off Node refl);
      named-different = d.0;
      point-free = not-true _ d.1.0;
      all_up = not-no _ (off Down refl);
    }

pub moves-pass : (s : Record) (m board point : ℕ) (helpers partners : List ℕ) → Moves s m board point helpers partners
    → first store_order (move_lines s m board point helpers partners) ≡ Ok tt
unfolding move_lines
moves-pass s m board point helpers partners f =
    off-pass (move_lines s m board point helpers partners) store_order
    (ap not f.is-sound
    also ap not (eq-eqb _ _ f.area-is)
    also ap not f.is-written
    also ap not (hold-alls (move_counts s helpers partners) (eq-eqb _ _ f.helper-count, (eq-eqb _ _ f.partner-count, tt)))
    also ap not f.named-below
    also ap not (hold-alls (move_repeats s board point helpers partners) (f.named-different, (ap not f.point-free, tt)))
    also ap not f.all_up
    also tt)
