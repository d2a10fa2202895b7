-- Board after board, all but the one that moves: the area is that of the definition.
-- Assumes nothing.
use mathlib.Core.Path.{◌≡◌, refl, sym, ap, ◌∙◌}
use mathlib.Core.Bool.{Bool, true, false}
use mathlib.Core.Logic.{◌≢◌}
use mathlib.Core.List.{List, [], ◌∷◌, ◌++◌, append_assoc, append-nil}
use Prim.Native.Nat.{ℕ, zero, suc, ◌+◌, ◌*◌, ◌-◌, ◌%◌, ◌<◌, ◌≤◌}
use native.Mathlib.Decide.{dec_lt}
use native.Mathlib.Nat.{mul-le-mul_right, mod-eq_of_lt}
use native.Mathlib.Omega.{arith}
use lib.Dec.{eqb}
use lib.ListN.{length, take, drop, set, length-drop}
use lib.Seq.{length-take-le}
use borrow.Author.Tests.{eqb-false}
use borrow.Rule.Slice.PartMut.{put_mid}
use Rattle.lists.specs.Lists.{All, Bytes, tabulate, without, put}
use Rattle.lists.specs.Tests.{pick, among}
use Rattle.lists.proofs.Alls.{take-alls, drop-alls}
use Rattle.lists.proofs.Boards.{all_without, among-not, not-among-without}
use Rattle.lists.proofs.Pieces.{tabulate-suc, tabulate-all}
use Rattle.lists.proofs.Put.{part_end}
use Rattle.sizes.specs.declared.Sizes.{Sizes}
use Rattle.sizes.specs.Sizing.{α}
use Rattle.sizes.proofs.Legal.{Legal, legal-facts, stripes-least}
use Rattle.mbcr.proofs.AfreshLaws.{length-afresh}
use Rattle.mbcr.proofs.PointLaws.{pointed-facts}
use Rattle.store_spec.specs.Record.{Record, stripe_count, part_len, used_len, area_len, held, put_shares}
use Rattle.store_spec.specs.Move.{afresh, afresh_area}
use Rattle.store_spec.proofs.Area.{shares-other}
use Rattle.store_spec.proofs.Records.{Sound, sound-points, used-fits}
use Rattle.decode_laws.specs.Steps.{offset}
use Rattle.decode_laws.proofs.Values.{offset-below, offset-there}
use Rattle.area_puts.proofs.Puts.{puts-turn}
use Rattle.rekeep_stripes.specs.Steps.{share_patched}
use Rattle.rekeep.specs.Steps.{board_patched, rekept}
use Rattle.rekeep_stripes.proofs.Shares.{share-afresh}

-- the area is at most 32 parts
pub area-few : (n part i : ℕ) → n ≤ 32 → part ≤ 253952 → i < n → (i * part + part ≤ n * part) × (n * part ≤ 8126464)
area-few n part i hn hp hi = let p : n * part ≤ 32 * part = mul-le-mul_right part hn in (part_end i part n hi, omega arith)

-- the stripes of a file are at most those of the record
pub stripes-most : (s : Record) → Sound s → stripe_count s ≤ 4096
stripes-most s g = omega (arith, g.cap-high, stripes-least s.sizes (legal-facts s.sizes g.is-legal) s.length s.capacity g.fits)

-- ---- one board in its place

pub board-stays : (z : Sizes) (xs : List ℕ) (part S board y i : ℕ) (area : List ℕ) → eqb i board ≡ true → area ≡ board_patched z xs part S board y i area
unfolding board_patched
board-stays z xs part S board y i area e = rw e refl

pub board-put : (z : Sizes) (xs : List ℕ) (part S board y i t : ℕ) (area new : List ℕ) → eqb i board ≡ false → t ≡ offset z.n i board
    → length new ≡ S * α z → new ≡ share_patched z xs t y S i (take (i * part + S * α z - i * part) (drop (i * part) area))
    → put_mid (i * part) (i * part + S * α z - i * part) area new ≡ board_patched z xs part S board y i area
unfolding board_patched
board-put z xs part S board y i t area new e et l en =
    let k : i * part + S * α z - i * part ≡ S * α z = omega arith in
    puts-turn (λ a. i * part) (λ a. new) (S * α z) 0 (i * part) area area new refl l refl refl
    ∙ ap (put area (i * part)) (en ∙ ap (λ (v : ℕ). share_patched z xs t y S i (take v (drop (i * part) area))) k
    ∙ ap (λ (q : ℕ). share_patched z xs q y S i (take (S * α z) (drop (i * part) area))) et)
    ∙ sym (ap (λ (c : Bool). pick c area (put area (i * part) (share_patched z xs (offset z.n i board) y S i (take (S * α z) (drop (i * part) area))))) e)

-- another board comes after this one by at least one
offset-none : (n a b : ℕ) → a < n → b < n → offset n a b ≡ 0 → a ≡ b
offset-none n a b ha hb q =
    let e : a ≡ a + offset n a b = omega (arith, q) in
    sym (mod-eq_of_lt ha) ∙ ap (λ (x : ℕ). x % n) e ∙ offset-there n a b ha hb

pub offset-some : (n a b : ℕ) → a < n → b < n → (a ≡ b → ⊥) → 1 ≤ offset n a b
offset-some n a b ha hb ne = elim (dec_lt 0 (offset n a b)) [ yes h ↦ h | no h ↦ absurd (ne (offset-none n a b ha hb (omega (arith, h)))) ]

-- ---- the list of the other boards

last-share : (s : Record) (f : ℕ → List ℕ) (boards : List ℕ) (i : ℕ) (area : List ℕ)
    → put_shares s f (boards ++ (i ∷ [])) area ≡ put (put_shares s f boards area) (i * part_len s) (f i)
last-share s f [] i area = refl
last-share s f (b ∷ boards) i area = last-share s f boards i (put area (b * part_len s) (f b))

without-append : (b : ℕ) (l : List ℕ) (x : ℕ) → without b (l ++ (x ∷ [])) ≡ without b l ++ pick (eqb x b) [] (x ∷ [])
without-append b [] x = append-nil (pick (eqb x b) [] (x ∷ []))
without-append b (y ∷ l) x =
    ap (λ (q : List ℕ). pick (eqb y b) [] (y ∷ []) ++ q) (without-append b l x)
    ∙ sym (append_assoc (pick (eqb y b) [] (y ∷ [])) (without b l) (pick (eqb x b) [] (x ∷ [])))

-- the others of the first m boards
abbrev others : ℕ → ℕ → List ℕ
others b m = without b (tabulate m (λ i. i))

others-next : (b m : ℕ) → others b (suc m) ≡ others b m ++ pick (eqb m b) [] (m ∷ [])
others-next b m = ap (without b) (tabulate-suc m (λ i. i)) ∙ without-append b (tabulate m (λ i. i)) m

-- ---- the area

module _ (s : Record) (g : Sound s) (area : List ℕ) (bytes : Bytes area) (la : length area ≡ area_len s) (board y : ℕ) (hb : board < s.sizes.n) where
  open s.sizes use {n}

  abbrev f : ℕ → List ℕ
  f = afresh s area board y

  ok : Legal s.sizes
  ok = legal-facts s.sizes g.is-legal

  long : (i : ℕ) → length (f i) ≡ used_len s
  unfolding afresh
  long i = length-afresh s.sizes s.points (set s.points board y) ok (stripe_count s) i (held s area i)

  -- the area with what the others of the first m boards keep
  abbrev up_to : ℕ → List ℕ
  up_to m = put_shares s f (others board m) area

  low : (m : ℕ) → m ≤ n → All (λ i. i < n) (others board m)
  low m h = all_without (λ i. i < n) board (tabulate m (λ i. i)) (tabulate-all (λ i. i < n) m (λ i. i) (λ i k. omega (arith, k, h)))

  none : (m : ℕ) → among (others board m) m ≡ false
  none m = not-among-without board (tabulate m (λ i. i)) m (among-not (tabulate m (λ i. i)) m (tabulate-all (λ q. q ≢ m) m (λ i. i) (λ i k e. omega (arith, k, e))))

  -- what a board holds is not changed by those before it
  held_stays : (m : ℕ) → m < n → take (used_len s) (drop (m * part_len s) (up_to m)) ≡ held s area m
  held_stays m h = shares-other s f (used_len s) long (used-fits s g) (others board m) area la (low m (omega (arith, h))) m (used_len s) h (none m) (used-fits s g)

  held-long : (m : ℕ) → m < n → length (held s area m) ≡ used_len s
  held-long m h =
      length-take-le (used_len s) (drop (m * part_len s) area) (omega (arith, la, length-drop (m * part_len s) area, part_end m (part_len s) n h, used-fits s g))

  held_bytes : (m : ℕ) → Bytes (held s area m)
  held_bytes m = take-alls (λ a. a < 256) (used_len s) (drop (m * part_len s) area) (drop-alls (λ a. a < 256) (m * part_len s) area bytes)

  share-is : (m : ℕ) → m < n → eqb m board ≡ false
      → share_patched s.sizes s.points (offset n m board) y (stripe_count s) m (take (used_len s) (drop (m * part_len s) (up_to m))) ≡ f m
  unfolding afresh
  share-is m h e =
      let points-long : length s.points ≡ 32 = (pointed-facts s.sizes s.points ok.few g.is-pointed).long in
      ap (share_patched s.sizes s.points (offset n m board) y (stripe_count s) m) (held_stays m h)
      ∙ share-afresh s.sizes s.points board y m (offset n m board) (stripe_count s) (held s area m) g.is-legal (sound-points s g)
      (omega (arith, points-long, hb, ok.few)) h (eqb-false m board e) (offset-below n m board h hb) (offset-there n m board h hb) (held-long m h) (held_bytes m)

  next : (m : ℕ) → m < n → board_patched s.sizes s.points (part_len s) (stripe_count s) board y m (up_to m) ≡ up_to (suc m)
  unfolding board_patched
  next m h = go (eqb m board) refl
    where
      list : (c : Bool) → eqb m board ≡ c → others board (suc m) ≡ others board m ++ pick c [] (m ∷ [])
      list c e = others-next board m ∙ ap (λ (q : Bool). others board m ++ pick q [] (m ∷ [])) e

      go : (c : Bool) → eqb m board ≡ c
          → pick c (up_to m) (put (up_to m) (m * part_len s)
          (share_patched s.sizes s.points (offset n m board) y (stripe_count s) m (take (used_len s) (drop (m * part_len s) (up_to m))))) ≡ up_to (suc m)
      go true e = sym (ap (λ (l : List ℕ). put_shares s f l area) (list true e ∙ append-nil (others board m)))
      go false e =
          ap (put (up_to m) (m * part_len s)) (share-is m h e)
          ∙ sym (ap (λ (l : List ℕ). put_shares s f l area) (list false e) ∙ last-share s f (others board m) m area)

  up-to : (m : ℕ) → m ≤ n → rekept s.sizes s.points (part_len s) (stripe_count s) board y m area ≡ up_to m
  up-to zero h = refl
  up-to (suc m) h =
      ap (board_patched s.sizes s.points (part_len s) (stripe_count s) board y m) (up-to m (omega (arith, h))) ∙ next m (omega (arith, h))

  pub rekept-all : rekept s.sizes s.points (part_len s) (stripe_count s) board y n area ≡ afresh_area s area board y
  unfolding afresh_area
  rekept-all = up-to n (omega arith)
