-- What an accepted move does over any record and any area, and a move of the turn of all boards.
-- Assumes nothing.
use Prim.Native.Nat.{ℕ, suc, ◌+◌, ◌-◌, ◌*◌, ◌≤◌, ◌<◌}
use mathlib.Core.Path.{◌≡◌, refl, sym, ◌∙◌, ap, ap₂, subst}
use mathlib.Core.Bool.{Bool, true, false, not}
use mathlib.Core.List.{List, [], ◌∷◌, ◌++◌, map, append-nil}
use mathlib.Core.Logic.{◌≢◌, ◌↔◌, ◌⊎◌, inl, inr}
use native.Mathlib.Nat.{zero-mul}
use native.Mathlib.Omega.{arith}
use lib.Dec.{eqb}
use lib.ListN.{length, take, drop, set, get_or}
use lib.Seq.{take_all}
use borrow.Author.Tests.{eq-eqb, ne_eqb, eqb-true, eqb-false, lt-ltb, le-leb, le-ltb}
use Rattle.lists.specs.Tests.{pick, alls, among, apart, below, different, every}
use Rattle.lists.specs.Lists.{All, Bytes, tabulate, without, joined}
use Rattle.lists.proofs.Alls.{all-imp, all_left, all_right}
use Rattle.lists.proofs.Boards.{joined-all, all_among, below_all, among-head, among-without}
use Rattle.lists.proofs.Tests.{true-false, alls-hold, not-no}
use Rattle.sizes.specs.Refusals.{first, store_order, applies_in}
use Rattle.sizes.specs.declared.Refusal.TheVariants.{Count, Node, Repeat}
use Rattle.sizes.proofs.Legal.{legal-facts}
use Rattle.sizes.proofs.Orders.{◌also◌, off-pass}
use Rattle.sizes.specs.Sizing.{legal, α, B, stripes}
use Rattle.std.specs.Prelude.{Ok}
use Rattle.mbcr.specs.Afresh.{share_afresh}
use Rattle.mbcr.specs.AfreshLaws.{pairs_at}
use Rattle.mbcr.specs.Rebuild.{seconds, helper_packet, stand_in_packet, exchange_packet, finished_share}
use Rattle.mbcr.specs.Share.{point, standard, share}
use Rattle.mbcr.specs.TurnLaws.{turned}
use Rattle.mbcr.proofs.AfreshLaws.{afresh-laws}
use Rattle.mbcr.proofs.TurnLaws.{turn-laws}
use Rattle.mbcr.proofs.PointLaws.{point-laws}
use Rattle.store_spec.specs.Calls.{StoreOutcome, list_lines, write_lines, write_done, write_call}
use Rattle.store_spec.specs.Demand1.{Stays}
use Rattle.store_spec.specs.Move.{all_boards, moved_record, afresh, afresh_area, move_packets, moved_share, move_lines, move_done, move_call}
use Rattle.store_spec.specs.MoveLaws.{Moved, MoveLaws}
use Rattle.store_spec.specs.Packets.{Packet, helper_packets, stand_in_packets, exchange_packets, partner_packets, repair_packets}
use Rattle.store_spec.specs.Record.{Record, in_service, sound, stripe_count, used_len, part_len, area_len, held, written_record, new_record}
use Rattle.store_spec.proofs.Area.{shares-same, byte-stays, length-shares}
use Rattle.store_spec.proofs.Passed.{passes, new-sound, settle-pass}
use Rattle.store_spec.proofs.Held.{held-long, held_bytes}
use Rattle.store_spec.proofs.Marks.{among_first, first_below}
use Rattle.store_spec.proofs.Move.{g, named_other, new-point, others-low, afresh-long, afresh-area-is, other-held, laws-of, lost, repairs, lengths, made-is, whole-helpers}
use Rattle.store_spec.proofs.Move.{whole-partners, total-is, made-long, result, board-low, result-long, board-has, other-has, move-true, new-pointed, new-points}
use Rattle.store_spec.proofs.Packets.{heard-run}
use Rattle.store_spec.proofs.Real.{code-lengths}
use Rattle.store_spec.proofs.Records.{Moves, move-facts, moves-pass, move_counts, repeat_tests, sound-facts, sound-points, used-fits, used-least, Sound, facts-sound}
use Rattle.store_spec.proofs.Repair.{heard_by, stood_by, fresh-by}

-- ---- packets to one board

abbrev mail : (ℕ → List ℕ) → ℕ → List ℕ → List Packet
mail f m l = map (λ j. record { sender = j; receiver = m; bytes = f j }) l

mail-all : (f e : ℕ → List ℕ) (m : ℕ) (l : List ℕ) → All (λ j. f j ≡ e j) l → mail f m l ≡ mail e m l
mail-all f e m [] h = refl
mail-all f e m (x ∷ l) h =
    ap₂ {C = List Packet} (λ (b : List ℕ) (t : List Packet). record { sender = x; receiver = m; bytes = b } ∷ t) h.0 (mail-all f e m l h.1)

-- ---- a move

module _ (s : Record) (area : List ℕ) (board new : ℕ) (helpers partners : List ℕ) (f : Moves s (length area) board new helpers partners) (byte : new < 256) where
  abbrev zs : List ℕ
  zs = set s.points board new

  abbrev S : ℕ
  S = stripe_count s

  abbrev A : List ℕ
  A = afresh_area s area board new

  -- what helpers and partners send, of what they hold afresh
  abbrev sent : ℕ → List ℕ
  sent j = helper_packet s.sizes zs S j board (held s A j)

  abbrev stood : ℕ → List ℕ
  stood j = stand_in_packet s.sizes zs S j board (held s A j)

  no-partner : without board (board ∷ []) ≡ []
  no-partner = rw (eq-eqb board board refl) refl

  packets-plain : move_packets s area board new helpers partners ≡ mail sent board helpers ++ mail stood board partners
  unfolding move_packets repair_packets partner_packets helper_packets stand_in_packets exchange_packets
  packets-plain =
      rw (whole-helpers s area board new helpers partners f byte, whole-partners s area board new helpers partners f byte, no-partner)
      (ap₂ {C = List Packet} (λ a b. a ++ b) (append-nil (mail sent board helpers))
      (append-nil (mail stood board partners ++ []) ∙ append-nil (mail stood board partners)))

  of-helpers : All (λ j. (j < s.sizes.n) × (j ≢ board)) helpers
  of-helpers = all_left _ helpers partners (named_other s area board new helpers partners f byte)

  of-partners : All (λ j. (j < s.sizes.n) × (j ≢ board)) partners
  of-partners = all_right _ helpers partners (named_other s area board new helpers partners f byte)

  -- what they hold afresh is what they worked out
  abbrev sends : ℕ → List ℕ
  sends j = helper_packet s.sizes zs S j board (afresh s area board new j)

  abbrev stands : ℕ → List ℕ
  stands j = stand_in_packet s.sizes zs S j board (afresh s area board new j)

  each-sent : All (λ j. sent j ≡ sends j) helpers
  each-sent =
      all-imp (λ j. (j < s.sizes.n) × (j ≢ board)) (λ j. sent j ≡ sends j)
      (λ j p. ap (helper_packet s.sizes zs S j board) (other-held s area board new helpers partners f byte j p.0 p.1)) helpers of-helpers

  each-stood : All (λ j. stood j ≡ stands j) partners
  each-stood =
      all-imp (λ j. (j < s.sizes.n) × (j ≢ board)) (λ j. stood j ≡ stands j)
      (λ j p. ap (stand_in_packet s.sizes zs S j board) (other-held s area board new helpers partners f byte j p.0 p.1)) partners of-partners

  sent_is : joined sent helpers ≡ joined sends helpers
  sent_is = joined-all sent sends helpers each-sent

  stood-is : joined stood partners ≡ joined stands partners
  stood-is = joined-all stood stands partners each-stood

  packets-are : move_packets s area board new helpers partners ≡ mail sends board helpers ++ mail stands board partners
  packets-are =
      packets-plain ∙ ap₂ {C = List Packet} (λ a b. a ++ b) (mail-all sent sends board helpers each-sent) (mail-all stood stands board partners each-stood)

  abbrev out : Record
  out = lost s area board new helpers partners f byte

  -- who is heard
  heard-helpers : heard_by out A (board ∷ []) helpers partners (length A) (lengths s area board new helpers partners f byte) (repairs s area board new helpers partners f byte) board ≡ helpers
  unfolding heard_by helper_packets
  heard-helpers =
      heard-run (λ j i. helper_packet s.sizes zs S j i (held s A j)) s.sizes.d (board ∷ []) helpers refl 0 (omega arith)
      ∙ ap (λ (m : ℕ). take s.sizes.d (drop m helpers)) (zero-mul s.sizes.d) ∙ whole-helpers s area board new helpers partners f byte

  heard-partners : stood_by out A (board ∷ []) helpers partners (length A) (lengths s area board new helpers partners f byte) (repairs s area board new helpers partners f byte) board ≡ partners
  unfolding stood_by stand_in_packets
  heard-partners =
      heard-run (λ j i. stand_in_packet s.sizes zs S j i (held s A j)) (s.sizes.r - 1) (board ∷ []) partners refl 0 (omega arith)
      ∙ ap (λ (m : ℕ). take (s.sizes.r - 1) (drop m partners)) (zero-mul (s.sizes.r - 1)) ∙ whole-partners s area board new helpers partners f byte

  -- the finished share of packets from these, and of what other fresh boards exchange
  abbrev finished : (ℕ → List ℕ) → List ℕ → List ℕ → List ℕ → List ℕ
  finished exchange hs ps ws =
      finished_share s.sizes zs S board hs (joined sent hs) (ps ++ ws) (joined stood ps ++ joined exchange ws)

  finished-plain : (exchange : ℕ → List ℕ) → finished exchange helpers partners [] ≡ finished_share s.sizes zs S board helpers (joined sent helpers) partners (joined stood partners)
  finished-plain exchange =
      ap₂ (λ (a b : List ℕ). finished_share s.sizes zs S board helpers (joined sent helpers) a b) (append-nil partners) (append-nil (joined stood partners))

  made_plain : moved_share s area board new helpers partners board
      ≡ finished_share s.sizes zs S board helpers (joined sent helpers) partners (joined stood partners)
  made_plain =
      let l = lengths s area board new helpers partners f byte in
      let r = repairs s area board new helpers partners f byte in
      let hb = heard_by out A (board ∷ []) helpers partners (length A) l r in
      let sb = stood_by out A (board ∷ []) helpers partners (length A) l r in
      let ex : ℕ → List ℕ = λ m. exchange_packet s.sizes zs S (hb m) (joined (λ j. helper_packet s.sizes zs S j m (held s A j)) (hb m)) board in
      let e1 : hb board ≡ helpers = heard-helpers in
      let e2 : sb board ≡ partners = heard-partners in
      made-is s area board new helpers partners f byte board
      ∙ fresh-by out A (board ∷ []) helpers partners (length A) l r board (among-head board [])
      ∙ ap₂ (λ (h p : List ℕ). finished ex h p (without board (board ∷ []))) e1 e2
      ∙ ap (λ (w : List ℕ). finished ex helpers partners w) no-partner
      ∙ finished-plain ex

  has : held s (result s area board new helpers partners f byte) board
      ≡ finished_share s.sizes zs S board
      helpers (joined (λ j. helper_packet s.sizes zs S j board (afresh s area board new j)) helpers)
      partners (joined (λ j. stand_in_packet s.sizes zs S j board (afresh s area board new j)) partners)
  has =
      board-has s area board new helpers partners f byte ∙ made_plain
      ∙ ap₂ (λ (a b : List ℕ). finished_share s.sizes zs S board helpers a partners b) sent_is stood-is

  -- ---- the packets by old values

  module _ (ba : Bytes area) where
    long-j : (j : ℕ) → j < s.sizes.n → length (held s area j) ≡ S * α s.sizes
    long-j j h = held-long s area (g s area board new helpers partners f byte) f.area-is j h

    bytes-j : (j : ℕ) → Bytes (held s area j)
    bytes-j j = held_bytes s area (g s area board new helpers partners f byte) f.area-is ba j

    packet-at : (j : ℕ) → j < s.sizes.n → j ≢ board
        → helper_packet s.sizes zs S j board (afresh s area board new j) ≡ pairs_at s.sizes s.points S j new (held s area j)
    unfolding afresh
    packet-at j h e =
        (laws-of s area board new helpers partners f byte j h e).packet-at S board (held s area j) (long-j j h) (bytes-j j)
        ∙ ap (λ (x : ℕ). pairs_at s.sizes s.points S j x (held s area j)) (new-point s area board new helpers partners f byte)

    stand-in-at : (j : ℕ) → j < s.sizes.n → j ≢ board
        → stand_in_packet s.sizes zs S j board (afresh s area board new j) ≡ seconds S (pairs_at s.sizes s.points S j new (held s area j))
    unfolding afresh
    stand-in-at j h e =
        (laws-of s area board new helpers partners f byte j h e).stand-in-at S board (held s area j) (long-j j h) (bytes-j j)
        ∙ ap (λ (x : ℕ). seconds S (pairs_at s.sizes s.points S j x (held s area j))) (new-point s area board new helpers partners f byte)

    packets-at : (joined (λ j. helper_packet s.sizes zs S j board (afresh s area board new j)) helpers
        ≡ joined (λ j. pairs_at s.sizes s.points S j new (held s area j)) helpers)
        × (joined (λ j. stand_in_packet s.sizes zs S j board (afresh s area board new j)) partners
        ≡ joined (λ j. seconds S (pairs_at s.sizes s.points S j new (held s area j))) partners)
    packets-at = (
      joined-all _ _ helpers (all-imp (λ j. (j < s.sizes.n) × (j ≢ board)) _ (λ j p. packet-at j p.0 p.1) helpers of-helpers),
      joined-all _ _ partners (all-imp (λ j. (j < s.sizes.n) × (j ≢ board)) _ (λ j p. stand-in-at j p.0 p.1) partners of-partners),
    )

  -- ---- other bytes

  among-all-boards : (i : ℕ) → among (without board (all_boards s)) i ≡ true → among (all_boards s) i ≡ true
  among-all-boards i e = go (eqb board i) (sym (among-without board (all_boards s) i) ∙ e)
    where
      go : (t : Bool) → pick t false (among (all_boards s) i) ≡ true → among (all_boards s) i ≡ true
      go true k = absurd (true-false k refl)
      go false k = k

  board-among : (i : ℕ) → among (board ∷ []) i ≡ true → among (all_boards s) i ≡ true
  board-among i e =
      among_first s.sizes.n i
      ∙ lt-ltb i s.sizes.n (all_among (λ x. x < s.sizes.n) (board ∷ []) i (board-low s area board new helpers partners f byte) e)

  other_byte : (p : ℕ) → ((i : ℕ) → among (all_boards s) i ≡ true → (p < i * part_len s) ⊎ (i * part_len s + used_len s ≤ p)) → get_or A p 0 ≡ get_or area p 0
  unfolding afresh_area
  other_byte p out =
      byte-stays s (afresh s area board new) (used_len s) (afresh-long s area board new helpers partners f byte) (used-fits s (g s area board new helpers partners f byte))
      (without board (all_boards s)) area f.area-is (others-low s area board new helpers partners f byte) p (λ i e. out i (among-all-boards i e))

  stays : Stays s (all_boards s) area (result s area board new helpers partners f byte)
  stays = record {
    as_long = result-long s area board new helpers partners f byte;
    same_byte = λ p out.
        byte-stays s (moved_share s area board new helpers partners) (used_len s) (made-long s area board new helpers partners f byte)
        (used-fits s (g s area board new helpers partners f byte)) (board ∷ []) A (afresh-area-is s area board new helpers partners f byte)
        (board-low s area board new helpers partners f byte) p (λ i e. out i (board-among i e))
        ∙ other_byte p out;
  }

-- ---- a write

-- a file that fits is written over whatever area, and each board then holds its share
module _ (t : Record) (any file : List ℕ) (ok : sound t ≡ true) (long : length any ≡ area_len t) (fits : length file ≤ t.capacity * B t.sizes) where
  write-pass : first store_order (write_lines t (length any) file) ≡ Ok tt
  unfolding write_lines
  write-pass = off-pass (write_lines t (length any) file) store_order (ap not ok also ap not (eq-eqb _ _ long) also le-ltb _ _ fits also tt)

  write-is : write_call t any file ≡ write_done t any file
  unfolding write_call
  write-is = settle-pass _ _ _ write-pass

  write-has : (i : ℕ) → i < t.sizes.n → held (written_record t (length file)) (write_call t any file).area i ≡ share t.sizes t.points file i
  write-has i h =
      let w = written_record t (length file) in
      let legal = (sound-facts t ok).is-legal in
      ap (λ (o : StoreOutcome). held w o.area i) write-is
      ∙ shares-same w (share t.sizes t.points file) (used_len w) ((code-lengths t.points t.sizes legal).share-length file)
      (used-least t.sizes (length file) t.capacity legal fits)
      (tabulate t.sizes.n (λ i. i)) any long (first_below t.sizes.n t.sizes.n (omega arith)) i (among_first t.sizes.n i ∙ lt-ltb i t.sizes.n h)

  write-long : length (write_call t any file).area ≡ length any
  write-long =
      let w = written_record t (length file) in
      let legal = (sound-facts t ok).is-legal in
      ap (λ (o : StoreOutcome). length o.area) write-is
      ∙ length-shares w (share t.sizes t.points file) (used_len w) ((code-lengths t.points t.sizes legal).share-length file)
      (used-least t.sizes (length file) t.capacity legal fits)
      (tabulate t.sizes.n (λ i. i)) any long (first_below t.sizes.n t.sizes.n (omega arith))

-- ---- an accepted move

module _ (s : Record) (area : List ℕ) (board new : ℕ) (helpers partners : List ℕ) (ok : (move_call s area board new helpers partners).answer.refusal ≡ 0) where
  pass : first store_order (move_lines s (length area) board new helpers partners) ≡ Ok tt
  unfolding move_call
  pass = passes (first store_order (move_lines s (length area) board new helpers partners)) s area [] (move_done s area board new helpers partners) ok

  facts : Moves s (length area) board new helpers partners
  facts = move-facts s (length area) board new helpers partners pass

  is-done : move_call s area board new helpers partners ≡ move_done s area board new helpers partners
  unfolding move_call
  is-done = settle-pass _ _ _ pass

module _ (s : Record) (area : List ℕ) (board new : ℕ) (helpers partners : List ℕ) (byte : new < 256) (ok : (move_call s area board new helpers partners).answer.refusal ≡ 0) where
  known : Moves s (length area) board new helpers partners
  known = facts s area board new helpers partners ok

  done : move_call s area board new helpers partners ≡ move_done s area board new helpers partners
  done = is-done s area board new helpers partners ok

  after : (P : List ℕ → Type 0) → P (result s area board new helpers partners known byte) → P (move_call s area board new helpers partners).area
  after P p = subst P (sym (ap (λ (o : StoreOutcome). o.area) done)) p

  at : (i : ℕ) → held s (move_call s area board new helpers partners).area i ≡ held s (result s area board new helpers partners known byte) i
  at i = ap (λ (o : StoreOutcome). held s o.area i) done

  afresh-is : (i : ℕ) → afresh s area board new i ≡ share_afresh s.sizes s.points (set s.points board new) (stripe_count s) i (held s area i)
  unfolding afresh
  afresh-is i = refl

  moved : Moved s area board new helpers partners (set s.points board new)
  moved = record {
    points-are = refl;
    record_is = ap (λ (o : StoreOutcome). o.handed) done;
    moved = ap (λ (o : StoreOutcome). o.answer) done;
    moved-is = total-is s area board new helpers partners known;
    packets-are = packets-are s area board new helpers partners known byte;
    has = at board ∙ has s area board new helpers partners known byte;
    afresh-is = afresh-is;
    others-have = λ i h e. at i ∙ other-has s area board new helpers partners known byte i h e;
    packets-at = packets-at s area board new helpers partners known byte;
    stays = after (λ a. Stays s (all_boards s) area a) (stays s area board new helpers partners known byte);
  }

  module _ (file : List ℕ) (l : length file ≡ s.length) (bf : Bytes file) (truth : (i : ℕ) → i < s.sizes.n → held s area i ≡ share s.sizes s.points file i) where
    moved-true : (i : ℕ) → i < s.sizes.n → held s (move_call s area board new helpers partners).area i ≡ share s.sizes (set s.points board new) file i
    moved-true i h =
        after (λ a. held s a i ≡ share s.sizes (set s.points board new) file i)
        (move-true s area board new helpers partners known byte file (sym l) bf truth i h)

    -- the record that is handed on
    moved-sound : sound (moved_record s board new) ≡ true
    moved-sound =
        let g = sound-facts s known.is-sound in
        facts-sound (moved_record s board new) (record {
          is-legal = g.is-legal;
          is-pointed = new-pointed s area board new helpers partners known byte;
          cap-low = g.cap-low;
          cap-high = g.cap-high;
          fits = g.fits;
          beyond = g.beyond;
          blank = g.blank;
        })

    fits : length file ≤ s.capacity * B s.sizes
    fits = omega (arith, l, (sound-facts s known.is-sound).fits)

    as_written : (any : List ℕ) → length any ≡ area_len s
        → ((write_call (moved_record s board new) any file).answer.refusal ≡ 0)
        × ((i : ℕ) → i < s.sizes.n
        → held s (move_call s area board new helpers partners).area i
        ≡ held (written_record (moved_record s board new) (length file)) (write_call (moved_record s board new) any file).area i)
    as_written any long = (
      ap (λ (o : StoreOutcome). o.answer.refusal) (write-is (moved_record s board new) any file moved-sound long fits),
      λ i h. moved-true i h ∙ sym (write-has (moved_record s board new) any file moved-sound long fits i h),
    )

-- ---- each board by itself

module _ (s : Record) (area : List ℕ) (board new : ℕ) (helpers partners : List ℕ) (byte : new < 256) (ok : (move_call s area board new helpers partners).answer.refusal ≡ 0)
    (file : List ℕ) (l : length file ≡ s.length) (bf : Bytes file) where
  abbrev k : Moves s (length area) board new helpers partners
  k = known s area board new helpers partners byte ok

  after-true : (i : ℕ) → i < s.sizes.n → i ≢ board → held s area i ≡ share s.sizes s.points file i
      → share_afresh s.sizes s.points (set s.points board new) (stripe_count s) i (held s area i) ≡ share s.sizes (set s.points board new) file i
  after-true i h e t =
      ap₂ (λ (m : ℕ) (w : List ℕ). share_afresh s.sizes s.points (set s.points board new) (stripes s.sizes m) i w) (sym l) t
      ∙ (laws-of s area board new helpers partners k byte i h e).afresh-true file bf

  other-is : (i : ℕ) → i < s.sizes.n → i ≢ board
      → held s (move_call s area board new helpers partners).area i ≡ share_afresh s.sizes s.points (set s.points board new) (stripe_count s) i (held s area i)
  other-is i h e = (moved s area board new helpers partners byte ok).others-have i h e ∙ (moved s area board new helpers partners byte ok).afresh-is i

  -- back to the points before
  back-true : Bytes area → (i : ℕ) → i < s.sizes.n → i ≢ board
      → share_afresh s.sizes s.points (set s.points board new) (stripe_count s) i (held s area i) ≡ share s.sizes (set s.points board new) file i
      → held s area i ≡ share s.sizes s.points file i
  back-true ba i h e t =
      let g = sound-facts s k.is-sound in
      let zs = set s.points board new in
      let back = (laws-of s area board new helpers partners k byte i h e).afresh-back (stripe_count s) (held s area i)
      (held-long s area g k.area-is i h) (held_bytes s area g k.area-is ba i) in
      sym back
      ∙ ap₂ (λ (m : ℕ) (w : List ℕ). share_afresh s.sizes zs s.points (stripes s.sizes m) i w) (sym l) t
      ∙ (afresh-laws s.sizes zs s.points i g.is-legal (new-points s area board new helpers partners k byte) (sound-points s g) h
      (sym (turn-laws.other-point s.points board new i e))).afresh-true file bf

  other-true : Bytes area → (i : ℕ) → i < s.sizes.n → i ≢ board
      → (held s (move_call s area board new helpers partners).area i ≡ share s.sizes (set s.points board new) file i)
      ↔ (held s area i ≡ share s.sizes s.points file i)
  other-true ba i h e = (λ t. back-true ba i h e (sym (other-is i h e) ∙ t), λ t. other-is i h e ∙ after-true i h e t)

  -- the area in which every board holds its share: as far as the named ones go it is the same
  low-length : length file ≤ s.capacity * B s.sizes
  low-length = omega (arith, l, (sound-facts s k.is-sound).fits)

  abbrev whole : List ℕ
  whole = (write_call s area file).area

  whole_long : length whole ≡ length area
  whole_long = write-long s area file k.is-sound k.area-is low-length

  whole-held : (i : ℕ) → i < s.sizes.n → held s whole i ≡ share s.sizes s.points file i
  whole-held i h =
      ap (λ (m : ℕ). take (stripes s.sizes m * α s.sizes) (drop (i * part_len s) whole)) (sym l) ∙ write-has s area file k.is-sound k.area-is low-length i h

  whole-taken : (move_call s whole board new helpers partners).answer.refusal ≡ 0
  unfolding move_call
  whole-taken =
      ap (λ (o : StoreOutcome). o.answer.refusal)
      (settle-pass _ _ _ (subst (λ (m : ℕ). first store_order (move_lines s m board new helpers partners) ≡ Ok tt) (sym whole_long) (pass s area board new helpers partners ok)))

  same-afresh : (j : ℕ) → j < s.sizes.n → held s area j ≡ share s.sizes s.points file j → afresh s area board new j ≡ afresh s whole board new j
  same-afresh j h t =
      (moved s area board new helpers partners byte ok).afresh-is j
      ∙ ap (λ (w : List ℕ). share_afresh s.sizes s.points (set s.points board new) (stripe_count s) j w) (t ∙ sym (whole-held j h))
      ∙ sym ((moved s whole board new helpers partners byte whole-taken).afresh-is j)

  abbrev Right : ℕ → Type 0
  Right j = held s area j ≡ share s.sizes s.points file j

  both_of : (hs : List ℕ) → All (λ j. (j < s.sizes.n) × (j ≢ board)) hs → All Right hs → All (λ j. afresh s area board new j ≡ afresh s whole board new j) hs
  both_of [] p t = tt
  both_of (j ∷ hs) p t = (same-afresh j p.0.0 t.0, both_of hs p.1 t.1)

  named-true : All Right (helpers ++ partners)
      → held s (move_call s area board new helpers partners).area board ≡ share s.sizes (set s.points board new) file board
  named-true t =
      let zs = set s.points board new in
      let S = stripe_count s in
      let send : List ℕ → ℕ → List ℕ = λ a j. helper_packet s.sizes zs S j board (afresh s a board new j) in
      let stand : List ℕ → ℕ → List ℕ = λ a j. stand_in_packet s.sizes zs S j board (afresh s a board new j) in
      let hs = both_of helpers (of-helpers s area board new helpers partners k byte) (all_left Right helpers partners t) in
      let ps = both_of partners (of-partners s area board new helpers partners k byte) (all_right Right helpers partners t) in
      (moved s area board new helpers partners byte ok).has
      ∙ ap₂ (λ (a b : List ℕ). finished_share s.sizes zs S board helpers a partners b)
      (joined-all (send area) (send whole) helpers (all-imp _ (λ j. send area j ≡ send whole j) (λ j e. ap (helper_packet s.sizes zs S j board) e) helpers hs))
      (joined-all (stand area) (stand whole) partners (all-imp _ (λ j. stand area j ≡ stand whole j) (λ j e. ap (stand_in_packet s.sizes zs S j board) e) partners ps))
      ∙ sym (moved s whole board new helpers partners byte whole-taken).has
      ∙ moved-true s whole board new helpers partners byte whole-taken file l bf whole-held board (below_all s.sizes.n (board ∷ (helpers ++ partners)) k.named-below).0

-- ---- a move of the turn

module _ (s : Record) (area : List ℕ) (i : ℕ) (helpers partners : List ℕ) (ok : sound s ≡ true) (pts : s.points ≡ turned s.sizes i)
    (area-is : length area ≡ area_len s) (w : s.written ≡ true) (ch : length helpers ≡ s.sizes.d) (cp : length partners ≡ s.sizes.r - 1)
    (low : below s.sizes.n (i ∷ (helpers ++ partners)) ≡ true) (once : different (i ∷ (helpers ++ partners)) ≡ true) (up : every (in_service s) (all_boards s) ≡ true) where
  is-legal : legal s.sizes ≡ true
  is-legal = (sound-facts s ok).is-legal

  is-board : i < s.sizes.n
  is-board = (below_all s.sizes.n (i ∷ (helpers ++ partners)) low).0

  turn-pass : first store_order (move_lines s (length area) i i helpers partners) ≡ Ok tt
  turn-pass = moves-pass s (length area) i i helpers partners (record {
    is-sound = ok;
    area-is = area-is;
    is-written = w;
    helper-count = ch;
    partner-count = cp;
    named-below = low;
    named-different = once;
    point-free = ap (λ (xs : List ℕ). among (take s.sizes.n xs) i) pts ∙ turn-laws.turn-free s.sizes i is-legal is-board;
    all_up = up;
  })

  turn-done : move_call s area i i helpers partners ≡ move_done s area i i helpers partners
  unfolding move_call
  turn-done = settle-pass _ _ _ turn-pass

  turn-taken : ((move_call s area i i helpers partners).answer.refusal ≡ 0) × ((move_call s area i i helpers partners).handed.points ≡ turned s.sizes (suc i))
  turn-taken = (
    ap (λ (o : StoreOutcome). o.answer.refusal) turn-done,
    ap (λ (o : StoreOutcome). o.handed.points) turn-done ∙ ap (λ (xs : List ℕ). set xs i i) pts ∙ turn-laws.turn_step s.sizes i is-legal is-board,
  )

-- ---- the last move of the turn

module _ (s : Record) (area : List ℕ) (i : ℕ) (helpers partners : List ℕ) (pts : s.points ≡ turned s.sizes i) (last : suc i ≡ s.sizes.n)
    (ok : (move_call s area i i helpers partners).answer.refusal ≡ 0) where
  sure : Sound s
  sure = sound-facts s (facts s area i i helpers partners ok).is-sound

  low_byte : i < 256
  low_byte = omega (arith, last, (legal-facts s.sizes sure.is-legal).few)

  -- the points after it
  at_last : set s.points i i ≡ standard s.sizes
  at_last =
      ap (λ (xs : List ℕ). set xs i i) pts ∙ turn-laws.turn_step s.sizes i sure.is-legal (omega (arith, last))
      ∙ ap (turned s.sizes) last ∙ turn-laws.turn_last s.sizes

  abbrev fresh : Record
  fresh = new_record s.sizes (standard s.sizes) s.capacity

  fresh-sound : sound fresh ≡ true
  fresh-sound =
      new-sound s.sizes (standard s.sizes) s.capacity sure.is-legal (point-laws.standard-pointed s.sizes sure.is-legal) sure.cap-low sure.cap-high

  turn-written : (file any : List ℕ) → length file ≡ s.length → Bytes file
      → ((j : ℕ) → j < s.sizes.n → held s area j ≡ share s.sizes s.points file j)
      → length any ≡ area_len s
      → ((write_call fresh any file).answer.refusal ≡ 0)
      × ((j : ℕ) → j < s.sizes.n
      → held s (move_call s area i i helpers partners).area j ≡ held (written_record fresh (length file)) (write_call fresh any file).area j)
  turn-written file any l bf truth long =
      let fits : length file ≤ s.capacity * B s.sizes = omega (arith, l, sure.fits) in (
        ap (λ (o : StoreOutcome). o.answer.refusal) (write-is fresh any file fresh-sound long fits),
        λ j h. moved-true s area i i helpers partners low_byte ok file l bf truth j h
            ∙ ap (λ (xs : List ℕ). share s.sizes xs file j) at_last
            ∙ sym (write-has fresh any file fresh-sound long fits j h),
      )

-- ---- as in a repair of one board

module _ (s : Record) (m board point : ℕ) (helpers partners : List ℕ) (ok : legal s.sizes ≡ true) where
  one : (x : ℕ) → x ≡ 1 * x
  one x = omega arith

  count_same : applies_in (move_lines s m board point helpers partners) Count ≡ applies_in (list_lines s (board ∷ []) helpers partners) Count
  unfolding move_lines list_lines
  count_same =
      rw (le-leb 1 s.sizes.r (legal-facts s.sizes ok).some-fresh)
      (ap₂ (λ (x y : ℕ). not (alls (eqb (length helpers) x ∷ eqb (length partners) y ∷ []))) (one s.sizes.d) (one (s.sizes.r - 1)))

  node_alike : applies_in (move_lines s m board point helpers partners) Node ≡ applies_in (list_lines s (board ∷ []) helpers partners) Node
  unfolding move_lines list_lines
  node_alike = refl

  -- none of the others is the board
  apart-one : (l : List ℕ) → apart (board ∷ []) l ≡ not (among l board)
  apart-one [] = refl
  apart-one (x ∷ l) = go (eqb x board) (eqb board x) (eqb-sym x board) (apart-one l)
    where
      go : (t u : Bool) → t ≡ u → apart (board ∷ []) l ≡ not (among l board)
          → pick (not (pick u true false)) (apart (board ∷ []) l) false ≡ not (pick t true (among l board))
      go true true e ih = refl
      go false false e ih = ih
      go true false e ih = absurd (true-false refl e)
      go false true e ih = absurd (true-false refl (sym e))

      eqb-sym : (a b : ℕ) → eqb a b ≡ eqb b a
      eqb-sym a b = by (eqb a b) refl
        where
          by : (t : Bool) → eqb a b ≡ t → eqb a b ≡ eqb b a
          by true e = e ∙ sym (eq-eqb b a (sym (eqb-true a b e)))
          by false e = e ∙ sym (ne_eqb b a (λ q. eqb-false a b e (sym q)))

  tests : (a b : Bool) → alls (true ∷ pick a true false ∷ not b ∷ []) ≡ pick b false a
  tests true true = refl
  tests true false = refl
  tests false true = refl
  tests false false = refl

  repeat-as : length helpers ≡ s.sizes.d → length partners ≡ s.sizes.r - 1
      → alls (repeat_tests s (board ∷ []) helpers partners) ≡ different (board ∷ (helpers ++ partners))
  repeat-as h p =
      rw (take_all s.sizes.d helpers (omega (arith, h)), take_all (s.sizes.r - 1) partners (omega (arith, p)), apart-one (helpers ++ partners))
      (tests (different (helpers ++ partners)) (among (helpers ++ partners) board))

  repeat-says : (a b : Bool) → (not (alls (a ∷ not b ∷ [])) ≡ true) ↔ ((not a ≡ true) ⊎ (b ≡ true))
  repeat-says true true = (λ e. inr refl, λ e. refl)
  repeat-says true false = (λ e. absurd (true-false e refl), no)
    where
      no : (not true ≡ true) ⊎ (false ≡ true) → not (alls (true ∷ not false ∷ [])) ≡ true
      no (inl e) = absurd (true-false e refl)
      no (inr e) = absurd (true-false e refl)
  repeat-says false b = (λ e. inl refl, λ e. refl)

  repeat-alike : applies_in (move_lines s m board point helpers partners) Count ≡ false
      → (applies_in (move_lines s m board point helpers partners) Repeat ≡ true)
      ↔ ((applies_in (list_lines s (board ∷ []) helpers partners) Repeat ≡ true) ⊎ (among (take s.sizes.n s.points) point ≡ true))
  unfolding move_lines list_lines
  repeat-alike e =
      let c = alls-hold (move_counts s helpers partners) (not-no _ e) in
      subst
      (λ (t : Bool).
      (not (alls (different (board ∷ (helpers ++ partners)) ∷ not (among (take s.sizes.n s.points) point) ∷ [])) ≡ true)
      ↔ ((not t ≡ true) ⊎ (among (take s.sizes.n s.points) point ≡ true)))
      (sym (repeat-as (eqb-true _ _ c.0) (eqb-true _ _ c.1.0)))
      (repeat-says (different (board ∷ (helpers ++ partners))) (among (take s.sizes.n s.points) point))

pub move-laws : MoveLaws
move-laws = record {
  as-in-a-repair = λ s m board point helpers partners ok. (
    count_same s m board point helpers partners ok,
    node_alike s m board point helpers partners ok,
    repeat-alike s m board point helpers partners ok,
  );
  moved = λ s area board point helpers partners byte ok. moved s area board point helpers partners byte ok;
  move-true = λ s area board point helpers partners file byte ok l bf truth. moved-true s area board point helpers partners byte ok file l bf truth;
  other-true = λ s area board point helpers partners file byte ok l bf ba i h e. other-true s area board point helpers partners byte ok file l bf ba i h e;
  named-true = λ s area board point helpers partners file byte ok l bf t. named-true s area board point helpers partners byte ok file l bf t;
  as_written = λ s area board point helpers partners file any byte ok l bf truth long. as_written s area board point helpers partners byte ok file l bf truth any long;
  turn-taken = λ s area i helpers partners ok pts area-is w ch cp low once up. turn-taken s area i helpers partners ok pts area-is w ch cp low once up;
  turn-ends = turn-laws.turn_last;
  turn-written = λ s area i helpers partners file any pts last ok l bf truth long. turn-written s area i helpers partners pts last ok file any l bf truth long;
}
