-- An accepted move, over any record and any area: the other boards' shares afresh, then the repair of the one board at the new points. In the repair's
-- own facts the board is out of service; none of its packets or shares looks at a mark.
-- Assumes nothing.
use Prim.Native.Nat.{ℕ, ◌+◌, ◌-◌, ◌*◌, ◌≤◌, ◌<◌}
use mathlib.Core.Path.{◌≡◌, refl, sym, ◌∙◌, ap, ap₂, subst}
use mathlib.Core.Bool.{Bool, true, false, not}
use mathlib.Core.List.{List, [], ◌∷◌, ◌++◌}
use mathlib.Core.Logic.{◌≢◌}
use native.Mathlib.Nat.{mul-one}
use native.Mathlib.Omega.{arith}
use lib.Dec.{eqb}
use lib.ListN.{length, take, set}
use lib.Seq.{take_all}
use borrow.Author.Tests.{eq-eqb, ne_eqb, eqb-false, lt-ltb}
use Rattle.lists.specs.Tests.{pick, among, different}
use Rattle.lists.specs.Lists.{All, Bytes, without}
use Rattle.lists.proofs.Alls.{all-imp}
use Rattle.lists.proofs.Boards.{below_all, all_among, among-without, different-cons, not-among, all_without, among-head}
use Rattle.lists.proofs.Tests.{true-false, every-all, all-every}
use Rattle.sizes.specs.Sizing.{stripes}
use Rattle.sizes.proofs.Legal.{legal-facts}
use Rattle.mbcr.specs.Afresh.{share_afresh}
use Rattle.mbcr.specs.AfreshLaws.{AfreshLaws}
use Rattle.mbcr.specs.Share.{DifferentPoints, pointed, point, share}
use Rattle.mbcr.proofs.AfreshLaws.{length-afresh, afresh-laws}
use Rattle.mbcr.proofs.PointLaws.{pointed-differ, pointed-facts}
use Rattle.mbcr.proofs.TurnLaws.{turn-laws, dec_same}
use Rattle.store_spec.specs.Move.{all_boards, moved_record, afresh, afresh_area, move_packets, moved_share}
use Rattle.store_spec.specs.Packets.{total, helper_packets, stand_in_packets, exchange_packets, partner_packets, fresh_share}
use Rattle.store_spec.specs.Record.{Record, sound, with_marks, stripe_count, used_len, part_len, area_len, held, in_service, put_shares}
use Rattle.store_spec.proofs.Area.{length-shares, shares-same, shares-other}
use Rattle.store_spec.proofs.Marks.{off, off-from, on_below, among_first, first_below}
use Rattle.store_spec.proofs.Real.{code_laws, code-lengths}
use Rattle.store_spec.proofs.Records.{Moves, Repairs, Sound, sound-facts, facts-sound, sound-points, used-fits}
use Rattle.store_spec.proofs.Repair.{total-is as of-repair, fresh-length, true-share}
use Rattle.store_spec.proofs.Seam.{Lengths}

-- the bytes that are sent, whatever the new point is
pub total-is : (s : Record) (area : List ℕ) (board new : ℕ) (helpers partners : List ℕ) → Moves s (length area) board new helpers partners
    → total (move_packets s area board new helpers partners) ≡ stripe_count s * (2 * s.sizes.d + s.sizes.r - 1)
unfolding move_packets
total-is s area board new helpers partners f =
    let legal = (sound-facts s f.is-sound).is-legal in
    of-repair (moved_record s board new) (afresh_area s area board new) (board ∷ []) helpers partners (code-lengths (set s.points board new) s.sizes legal)
    (omega arith) (legal-facts s.sizes legal).some-fresh (omega (arith, f.helper-count)) (omega (arith, f.partner-count)) refl
    ∙ ap (λ (m : ℕ). m * (2 * s.sizes.d + s.sizes.r - 1)) (mul-one (stripe_count s))

module _ (s : Record) (area : List ℕ) (board new : ℕ) (helpers partners : List ℕ) (f : Moves s (length area) board new helpers partners) (byte : new < 256) where
  -- ---- points and boards

  abbrev pub ys : List ℕ
  ys = set s.points board new

  pub g : Sound s
  g = sound-facts s f.is-sound

  named : All (λ i. i < s.sizes.n) (board ∷ (helpers ++ partners))
  named = below_all s.sizes.n (board ∷ (helpers ++ partners)) f.named-below

  once : (among (helpers ++ partners) board ≡ false) × (different (helpers ++ partners) ≡ true)
  once = different-cons board (helpers ++ partners) f.named-different

  pub new-pointed : pointed s.sizes ys ≡ true
  new-pointed = turn-laws.moved-pointed s.sizes s.points board new g.is-legal g.is-pointed named.0 byte f.point-free

  pub new-points : DifferentPoints s.sizes ys
  new-points = pointed-differ s.sizes ys g.is-legal new-pointed

  pub new-point : point ys board ≡ new
  new-point =
      let p = pointed-facts s.sizes s.points (legal-facts s.sizes g.is-legal).few g.is-pointed in
      turn-laws.moved-point s.points board new (omega (arith, p.long, (legal-facts s.sizes g.is-legal).few, named.0))

  -- the boards named are others
  pub named_other : All (λ j. (j < s.sizes.n) × (j ≢ board)) (helpers ++ partners)
  named_other = pairs (helpers ++ partners) named.1 (not-among (helpers ++ partners) board once.0)
    where
      pairs : (l : List ℕ) → All (λ i. i < s.sizes.n) l → All (λ y. y ≢ board) l → All (λ j. (j < s.sizes.n) × (j ≢ board)) l
      pairs [] a b = tt
      pairs (x ∷ l) a b = ((a.0, b.0), pairs l a.1 b.1)

  abbrev others : List ℕ
  others = without board (all_boards s)

  pub others-low : All (λ i. i < s.sizes.n) (without board (all_boards s))
  others-low = all_without (λ i. i < s.sizes.n) board (all_boards s) (first_below s.sizes.n s.sizes.n (omega arith))

  is-other : (i : ℕ) → i < s.sizes.n → i ≢ board → among (without board (all_boards s)) i ≡ true
  is-other i h e =
      among-without board (all_boards s) i ∙ rw (ne_eqb board i (λ q. e (sym q))) (among_first s.sizes.n i ∙ lt-ltb i s.sizes.n h)

  not-other : among (without board (all_boards s)) board ≡ false
  not-other = among-without board (all_boards s) board ∙ rw (eq-eqb board board refl) refl

  -- ---- the others afresh

  abbrev small : used_len s ≤ part_len s
  small = used-fits s g

  pub afresh-long : (i : ℕ) → length (afresh s area board new i) ≡ used_len s
  unfolding afresh
  afresh-long i = length-afresh s.sizes s.points ys (legal-facts s.sizes g.is-legal) (stripe_count s) i (held s area i)

  pub as_long : length (afresh_area s area board new) ≡ length area
  unfolding afresh_area
  as_long = length-shares s (afresh s area board new) (used_len s) afresh-long small (without board (all_boards s)) area f.area-is others-low

  pub afresh-area-is : length (afresh_area s area board new) ≡ area_len s
  afresh-area-is = as_long ∙ f.area-is

  pub other-held : (i : ℕ) → i < s.sizes.n → i ≢ board → held s (afresh_area s area board new) i ≡ afresh s area board new i
  unfolding afresh_area
  other-held i h e =
      shares-same s (afresh s area board new) (used_len s) afresh-long small (without board (all_boards s)) area f.area-is others-low i (is-other i h e)

  pub laws-of : (i : ℕ) → i < s.sizes.n → i ≢ board → AfreshLaws s.sizes s.points ys i
  laws-of i h e =
      afresh-laws s.sizes s.points ys i g.is-legal (sound-points s g) new-points h (turn-laws.other-point s.points board new i e)

  -- ---- the repair

  -- the record at the new points, the board out of service
  abbrev pub lost : Record
  lost = with_marks (moved_record s board new) (set s.marks board false)

  up-in-lost : (i : ℕ) → in_service lost i ≡ true → (i < s.sizes.n) × (i ≢ board)
  up-in-lost i e = go (eqb board i) refl (sym (off s.marks board i) ∙ e)
    where
      go : (t : Bool) → eqb board i ≡ t → pick t false (in_service s i) ≡ true → (i < s.sizes.n) × (i ≢ board)
      go true q k = absurd (true-false k refl)
      go false q k = (on_below s.sizes.n s.marks i g.beyond k, λ x. eqb-false board i q (sym x))

  pub in-service : (i : ℕ) → i < s.sizes.n → in_service s i ≡ true
  in-service i h = all_among (λ x. in_service s x ≡ true) (all_boards s) i (every-all (in_service s) (all_boards s) f.all_up) (among_first s.sizes.n i ∙ lt-ltb i s.sizes.n h)

  up-lost : (i : ℕ) → i < s.sizes.n → i ≢ board → in_service lost i ≡ true
  up-lost i h e = off s.marks board i ∙ rw (ne_eqb board i (λ q. e (sym q))) (in-service i h)

  lost-sound : sound lost ≡ true
  lost-sound = facts-sound lost (record {
    is-legal = g.is-legal;
    is-pointed = new-pointed;
    cap-low = g.cap-low;
    cap-high = g.cap-high;
    fits = g.fits;
    beyond = off-from s.sizes.n (set s.marks board false) (λ i e. (up-in-lost i e).0);
    blank = rw f.is-written refl;
  })

  pub whole-helpers : take s.sizes.d helpers ≡ helpers
  whole-helpers = take_all s.sizes.d helpers (omega (arith, f.helper-count))

  pub whole-partners : take (s.sizes.r - 1) partners ≡ partners
  whole-partners = take_all (s.sizes.r - 1) partners (omega (arith, f.partner-count))

  pub repairs : Repairs lost (length (afresh_area s area board new)) (board ∷ []) helpers partners
  repairs = record {
    is-sound = lost-sound;
    area-is = afresh-area-is;
    is-written = f.is-written;
    some-fresh = omega arith;
    few-fresh = (legal-facts s.sizes g.is-legal).some-fresh;
    helper-count = omega (arith, f.helper-count);
    stand-in-count = omega (arith, f.partner-count);
    named-below = f.named-below;
    fresh-different = refl;
    named-different = rw (whole-helpers, whole-partners, once.1) refl;
    none-fresh = all-every (λ x. not (among (board ∷ []) x)) (helpers ++ partners)
        (all-imp (λ j. (j < s.sizes.n) × (j ≢ board)) (λ x. not (among (board ∷ []) x) ≡ true) (λ x p. rw (ne_eqb board x (λ q. p.1 (sym q))) refl) (helpers ++ partners) named_other);
    fresh-out = rw (off s.marks board board, eq-eqb board board refl) refl;
    all_up = all-every (in_service lost) (helpers ++ partners)
        (all-imp (λ j. (j < s.sizes.n) × (j ≢ board)) (λ j. in_service lost j ≡ true) (λ j p. up-lost j p.0 p.1) (helpers ++ partners) named_other);
  }

  pub lengths : Lengths ys s.sizes
  lengths = code-lengths ys s.sizes g.is-legal

  abbrev made : ℕ → List ℕ
  made = moved_share s area board new helpers partners

  -- no mark is looked at
  pub made-is : (i : ℕ) → moved_share s area board new helpers partners i ≡ fresh_share lost (afresh_area s area board new) (board ∷ []) helpers partners i
  unfolding moved_share fresh_share partner_packets helper_packets stand_in_packets exchange_packets
  made-is i = refl

  pub made-long : (i : ℕ) → length (moved_share s area board new helpers partners i) ≡ used_len s
  made-long i = ap length (made-is i) ∙ fresh-length lost (afresh_area s area board new) (board ∷ []) helpers partners (length (afresh_area s area board new)) lengths repairs i

  -- ---- the area after the move

  abbrev pub result : List ℕ
  result = put_shares s (moved_share s area board new helpers partners) (board ∷ []) (afresh_area s area board new)

  pub board-low : All (λ i. i < s.sizes.n) (board ∷ [])
  board-low = (named.0, tt)

  pub result-long : length result ≡ length area
  result-long = length-shares s made (used_len s) made-long small (board ∷ []) (afresh_area s area board new) afresh-area-is board-low ∙ as_long

  pub board-has : held s result board ≡ moved_share s area board new helpers partners board
  board-has = shares-same s made (used_len s) made-long small (board ∷ []) (afresh_area s area board new) afresh-area-is board-low board (among-head board [])

  pub other-has : (i : ℕ) → i < s.sizes.n → i ≢ board → held s result i ≡ afresh s area board new i
  other-has i h e =
      shares-other s made (used_len s) made-long small (board ∷ []) (afresh_area s area board new) afresh-area-is board-low i (used_len s) h
      (rw (ne_eqb board i (λ q. e (sym q))) refl) small
      ∙ other-held i h e

  -- ---- true shares

  module _ (file : List ℕ) (len : s.length ≡ length file) (bf : Bytes file) (truth : (i : ℕ) → i < s.sizes.n → held s area i ≡ share s.sizes s.points file i) where
    afresh-is : (i : ℕ) → i < s.sizes.n → i ≢ board → afresh s area board new i ≡ share s.sizes ys file i
    unfolding afresh
    afresh-is i h e =
        ap₂ (λ (m : ℕ) (w : List ℕ). share_afresh s.sizes s.points ys (stripes s.sizes m) i w) len (truth i h) ∙ (laws-of i h e).afresh-true file bf

    pub move-true : (i : ℕ) → i < s.sizes.n → held s result i ≡ share s.sizes ys file i
    move-true i h = go (dec_same i board)
      where
        go : Dec (i ≡ board) → held s result i ≡ share s.sizes ys file i
        go (yes e) =
            subst (λ (j : ℕ). held s result j ≡ share s.sizes ys file j) (sym e)
            (board-has ∙ made-is board
            ∙ true-share lost (afresh_area s area board new) (board ∷ []) helpers partners (length (afresh_area s area board new)) lengths repairs
            (code_laws ys s.sizes g.is-legal new-points) file bf len
            (λ j u. let p = up-in-lost j u in other-held j p.0 p.1 ∙ afresh-is j p.0 p.1) board (among-head board []))
        go (no e) = other-has i h e ∙ afresh-is i h e
