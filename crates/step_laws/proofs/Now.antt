-- The packet that comes next, by its number, and what a step carries.
-- Assumes nothing.
use Prim.Native.Nat.{ℕ, zero, suc, ◌+◌, ◌-◌, ◌*◌, ◌/◌, ◌%◌, ◌≤◌, ◌<◌}
use mathlib.Core.Path.{◌≡◌, refl, sym, ◌∙◌, ap, ap₂, subst}
use mathlib.Core.Bool.{Bool, true, false}
use mathlib.Core.List.{List, ◌++◌}
use native.Mathlib.Numerals.{add-one}
use native.Mathlib.Omega.{arith}
use lib.Dec.{ltb}
use lib.ListN.{length, get_or, get_or-append}
use lib.Seq.{get_or-append-add}
use borrow.Author.Tests.{ltb-true, ltb-false, lt-ltb, le-ltb}
use Rattle.lists.specs.Tests.{pick}
use Rattle.lists.specs.Lists.{put, without}
use Rattle.lists.proofs.Pieces.{tabulate-at}
use Rattle.sizes.specs.declared.Sizes.{Sizes}
use Rattle.mbcr.specs.Rebuild.{helper_packet, stand_in_packet, exchange_packet}
use Rattle.store_spec.specs.Record.{Record, stripe_count, held}
use Rattle.store_spec.specs.Packets.{Packet, packets_of, contents, senders_of, sent_to, hear_helpers, hear_partners, stand_ins_each, helper_packets, stand_in_packets}
use Rattle.beside_spec.specs.Running.{packet_count}
use Rattle.beside_spec.specs.Lying.{laid, helpers_lying, exchanges_made, packets_now, carry, blank}
use Rattle.store_spec.proofs.Packets.{packet-count, length-helpers, helpers-count}
use Rattle.repair_rows.specs.Steps.{past}
use Rattle.repair_rows.proofs.Others.{past-below}
use Rattle.repair_rows.proofs.Without.{without-place}
use Rattle.step_laws.specs.Steps.{Listed, place_at, helper_at, stand_in_at, exchange_at, packet_at, carry_at}
use Rattle.step_laws.proofs.Runs.{run-packet, run-senders, run-contents, others-packet, in-part, of_part}

-- the packets of a run of c boards for each of t fresh ones
run-count : (f : ℕ → ℕ → List ℕ) (c : ℕ) (fresh boards : List ℕ) → length boards ≡ length fresh * c
    → length (packets_of f (hear_helpers c fresh boards)) ≡ length fresh * c
run-count f c fresh boards n =
    packet-count f c (hear_helpers c fresh boards) (helpers-count c fresh boards n) ∙ ap (λ (x : ℕ). x * c) (length-helpers c fresh boards)

-- the p-th of them
run_at : (f : ℕ → ℕ → List ℕ) (c : ℕ) (fresh boards : List ℕ) → length boards ≡ length fresh * c → (p : ℕ) → p < length fresh * c
    → (get_or (packets_of f (hear_helpers c fresh boards)) p blank).bytes ≡ f (get_or boards p 0) (get_or fresh (p / c) 0)
run_at f c fresh boards n p h =
    let i = in-part p (length fresh) c h in
    let e = of_part p c in
    ap (λ (m : ℕ). (get_or (packets_of f (hear_helpers c fresh boards)) m blank).bytes) (sym e)
    ∙ run-packet f c fresh boards n (p / c) (p % c) i.0 i.1
    ∙ ap (λ (m : ℕ). f (get_or boards m 0) (get_or fresh (p / c) 0)) e

-- the three kinds, one after another
three : (H T X : List Packet) (q h e : ℕ) (a b c : List ℕ) → length H ≡ h → length T ≡ e
    → (q < h → (get_or H q blank).bytes ≡ a) → (h ≤ q → q - h < e → (get_or T (q - h) blank).bytes ≡ b) → (h ≤ q → e ≤ q - h → (get_or X (q - h - e) blank).bytes ≡ c)
    → (get_or (H ++ (T ++ X)) q blank).bytes ≡ pick (ltb q h) a (pick (ltb (q - h) e) b c)
three H T X q h e a b c nh ne ea eb ec = go (ltb q h) refl
  where
    next : h ≤ q → (t : Bool) → ltb (q - h) e ≡ t → (get_or (T ++ X) (q - h) blank).bytes ≡ pick t b c
    next k true l =
        let m = ltb-true (q - h) e l in
        ap (λ (p : Packet). p.bytes) (get_or-append T X blank (q - h) (omega (arith, ne, m))) ∙ eb k m
    next k false l =
        let m = ltb-false (q - h) e l in
        let j : q - h ≡ length T + (q - h - e) = omega (arith, ne, m) in
        ap (λ (x : ℕ). (get_or (T ++ X) x blank).bytes) j ∙ ap (λ (p : Packet). p.bytes) (get_or-append-add T X (q - h - e) blank) ∙ ec k m

    go : (t : Bool) → ltb q h ≡ t → (get_or (H ++ (T ++ X)) q blank).bytes ≡ pick t a (pick (ltb (q - h) e) b c)
    go true l = let m = ltb-true q h l in ap (λ (p : Packet). p.bytes) (get_or-append H (T ++ X) blank q (omega (arith, nh, m))) ∙ ea m
    go false l =
        let m = ltb-false q h l in
        let j : q ≡ length H + (q - h) = omega (arith, nh, m) in
        ap (λ (x : ℕ). (get_or (H ++ (T ++ X)) x blank).bytes) j ∙ ap (λ (p : Packet). p.bytes) (get_or-append-add H (T ++ X) (q - h) blank)
        ∙ next m (ltb (q - h) e) refl

all-count : (t d r : ℕ) → 1 ≤ t → t ≤ r → t * d + (t * (r - t) + t * (t - 1)) ≡ t * (d + r - 1)
all-count t d r a b = let x : d + r - 1 ≡ d + ((r - t) + (t - 1)) = omega arith in rw x (spread t d (r - t) (t - 1))
  where
    spread : (t d a b : ℕ) → t * d + (t * a + t * b) ≡ t * (d + (a + b))
    spread t d a b = omega arith

-- what is left behind the first two kinds is below the third's count
pub third-count : (t d r q : ℕ) → 1 ≤ t → t ≤ r → q < t * (d + r - 1) → t * d ≤ q → t * (r - t) ≤ q - t * d → q - t * d - t * (r - t) < t * (t - 1)
third-count t d r q a b h k m = let e = all-count t d r a b in omega arith

module _ (s : Record) (fresh helpers stand_ins area : List ℕ) (f : Listed s.sizes fresh helpers stand_ins) where
  abbrev S : ℕ
  S = stripe_count s

  abbrev t : ℕ
  t = length fresh

  abbrev d : ℕ
  d = s.sizes.d

  abbrev e : ℕ
  e = stand_ins_each s fresh

  -- an exchange
  made_at : (packets : List ℕ) (p : ℕ) → p < t * (t - 1) → (get_or (exchanges_made s fresh helpers packets) p blank).bytes ≡ exchange_at s.sizes s.points S fresh helpers packets p
  unfolding exchanges_made helpers_lying exchange_at
  made_at packets p h =
      let i = in-part p t (t - 1) h in
      let a : ℕ = p / (t - 1) in
      let u : ℕ = p % (t - 1) in
      let b : ℕ = past a u in
      let lying : List Packet = laid (2 * S) (hear_helpers d fresh helpers) packets in
      let g : ℕ → ℕ → List ℕ = λ i m. exchange_packet s.sizes s.points S (senders_of (sent_to i lying)) (contents (sent_to i lying)) m in
      let hb : b < t = past-below a u t i.1 in
      let w : get_or (without (get_or fresh a 0) fresh) u 0 ≡ get_or fresh b 0 =
      ap (λ (l : List ℕ). get_or l u 0) (without-place fresh a (t - 1) f.fresh-different i.0 (let k = f.some-fresh in omega arith))
      ∙ tabulate-at (t - 1) (λ u. get_or fresh (past a u) 0) 0 u i.1 in
      ap (λ (m : ℕ). (get_or (packets_of g (hear_partners fresh)) m blank).bytes) (sym (of_part p (t - 1)))
      ∙ others-packet fresh f.fresh-different g a u i.0 i.1
      ∙ ap (λ (m : ℕ). g m (get_or fresh a 0)) w
      ∙ ap₂ (λ (hs bytes : List ℕ). exchange_packet s.sizes s.points S hs bytes (get_or fresh a 0))
      (run-senders fresh f.fresh-different (2 * S) d helpers packets f.helper-count b hb)
      (run-contents fresh f.fresh-different (2 * S) d helpers packets f.helper-count b hb)

  pub now-at : (packets : List ℕ) (q : ℕ) → q < packet_count s.sizes t
      → (get_or (packets_now s fresh helpers stand_ins area packets) q blank).bytes
      ≡ packet_at s.sizes s.points s.capacity S fresh helpers stand_ins area q packets
  unfolding packets_now helper_packets stand_in_packets packet_at helper_at stand_in_at
  now-at packets q h =
      three (helper_packets s area fresh helpers) (stand_in_packets s area fresh stand_ins) (exchanges_made s fresh helpers packets) q (t * d) (t * e) _ _ _
      (run-count _ d fresh helpers f.helper-count) (run-count _ e fresh stand_ins f.stand-in-count)
      (λ k. run_at (λ j i. helper_packet s.sizes s.points S j i (held s area j)) d fresh helpers f.helper-count q k)
      (λ k m. run_at (λ j i. stand_in_packet s.sizes s.points S j i (held s area j)) e fresh stand_ins f.stand-in-count (q - t * d) m)
      (λ k m. made_at packets (q - t * d - t * e) (third-count t d s.sizes.r q f.some-fresh f.few-fresh h k m))

  carry-at : (m q : ℕ) (packets : List ℕ) → q + m ≤ packet_count s.sizes t
      → carry_at s.sizes s.points s.capacity S fresh helpers stand_ins area q m packets ≡ carry s fresh helpers stand_ins area q m packets
  carry-at zero q packets h = refl
  carry-at (suc m) q packets h =
      let b = now-at packets q (omega arith) in
      let at : ℕ = place_at s.sizes S t q in
      ap (λ (x : List ℕ). carry_at s.sizes s.points s.capacity S fresh helpers stand_ins area (suc q) m (put packets at x)) (sym b)
      ∙ carry-at m (suc q) (put packets at (get_or (packets_now s fresh helpers stand_ins area packets) q blank).bytes) (omega arith)

-- over every record with these sizes, points, capacity and stripes
pub carry-every : (z : Sizes) (pts : List ℕ) (C S : ℕ) (fresh helpers stand_ins area : List ℕ) → Listed z fresh helpers stand_ins → (m q : ℕ) (packets : List ℕ)
    → q + m ≤ length fresh * (z.d + z.r - 1) → (s : Record) → s.sizes ≡ z → s.points ≡ pts → s.capacity ≡ C → stripe_count s ≡ S
    → carry_at z pts C S fresh helpers stand_ins area q m packets ≡ carry s fresh helpers stand_ins area q m packets
carry-every z pts C S fresh helpers stand_ins area f m q packets h s ez ep ec es =
    sym (ap₂ (λ (y : Sizes) (l : List ℕ). carry_at y l s.capacity (stripe_count s) fresh helpers stand_ins area q m packets) ez ep
    ∙ ap₂ (λ (c n : ℕ). carry_at z pts c n fresh helpers stand_ins area q m packets) ec es)
    ∙ carry-at s fresh helpers stand_ins area (subst (λ (y : Sizes). Listed y fresh helpers stand_ins) (sym ez) f) m q packets
    (subst (λ (y : Sizes). q + m ≤ length fresh * (y.d + y.r - 1)) (sym ez) h)

-- ---- packet q by its kind, and a turn of the loop over packets

module _ (z : Sizes) (pts : List ℕ) (C S : ℕ) (fresh helpers stand_ins area : List ℕ) where
  pub packet-first : (q : ℕ) (packets : List ℕ) → q < length fresh * z.d
      → helper_at z pts C S fresh helpers area q ≡ packet_at z pts C S fresh helpers stand_ins area q packets
  unfolding packet_at
  packet-first q packets h = rw (lt-ltb q (length fresh * z.d) h) refl

  pub packet-second : (q h : ℕ) (packets : List ℕ) → h ≡ length fresh * z.d → h ≤ q → q - h < length fresh * (z.r - length fresh)
      → stand_in_at z pts C S fresh stand_ins area (q - h) ≡ packet_at z pts C S fresh helpers stand_ins area q packets
  unfolding packet_at
  packet-second q h packets eh k m =
      ap (λ (x : ℕ). stand_in_at z pts C S fresh stand_ins area (q - x)) eh
      ∙ rw (le-ltb q (length fresh * z.d) (omega arith), lt-ltb (q - length fresh * z.d) (length fresh * (z.r - length fresh)) (omega arith)) refl

  pub packet-third : (q h e : ℕ) (packets : List ℕ) → h ≡ length fresh * z.d → e ≡ length fresh * (z.r - length fresh) → h ≤ q → e ≤ q - h
      → exchange_at z pts S fresh helpers packets (q - h - e) ≡ packet_at z pts C S fresh helpers stand_ins area q packets
  unfolding packet_at
  packet-third q h e packets eh ee k m =
      ap₂ (λ (x y : ℕ). exchange_at z pts S fresh helpers packets (q - x - y)) eh ee
      ∙ rw (le-ltb q (length fresh * z.d) (omega arith), le-ltb (q - length fresh * z.d) (length fresh * (z.r - length fresh)) (omega arith)) refl

  abbrev left : ℕ → ℕ → List ℕ → List ℕ
  left q m packets = carry_at z pts C S fresh helpers stand_ins area q m packets

  pub carry-start : (q m : ℕ) (packets : List ℕ) → left q (q + m - q) packets ≡ left q m packets
  carry-start q m packets = let e : q + m - q ≡ m = omega arith in ap (λ (x : ℕ). left q x packets) e

  pub carry-turn : (q end at : ℕ) (packets now all : List ℕ) → q < end → at ≡ place_at z S (length fresh) q
      → now ≡ put packets at (packet_at z pts C S fresh helpers stand_ins area q packets) → left q (end - q) packets ≡ all
      → left (q + 1) (end - (q + 1)) now ≡ all
  carry-turn q end at packets now all h ea en e =
      let m : end - q ≡ suc (end - (q + 1)) = omega arith in
      ap₂ (λ (x : ℕ) (l : List ℕ). left x (end - (q + 1)) l) (add-one q)
      (en ∙ ap (λ (x : ℕ). put packets x (packet_at z pts C S fresh helpers stand_ins area q packets)) ea)
      ∙ sym (ap (λ (x : ℕ). left q x packets) m) ∙ e

  pub carry-end : (q end : ℕ) (packets all : List ℕ) → end ≤ q → left q (end - q) packets ≡ all → packets ≡ all
  carry-end q end packets all h e = let m : end - q ≡ zero = omega arith in sym (ap (λ (x : ℕ). left q x packets) m) ∙ e
