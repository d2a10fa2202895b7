-- One step over any records and any bytes in both areas.
-- Assumes nothing.
use Prim.Native.Nat.{ℕ, zero, suc, ◌+◌, ◌-◌, ◌*◌, ◌≤◌, ◌<◌, min}
use mathlib.Core.Path.{◌≡◌, refl, sym, ◌∙◌, ap, ap₂, subst}
use mathlib.Core.Bool.{Bool, true, false, not}
use mathlib.Core.Logic.{◌⊎◌, inl, inr}
use mathlib.Core.List.{List, [], ◌∷◌, ◌++◌}
use native.Mathlib.Omega.{arith}
use native.Mathlib.Nat.{mul-le-mul_right, min-eq_left, min-eq_right}
use native.Mathlib.Decide.{dec_lt}
use lib.Dec.{leb, ltb, eqb}
use lib.ListN.{length, take, drop, get_or, length-append, length-map, get_or-append}
use lib.Seq.{take-take, take-suc, take_all, get_or-take, get_or-drop}
use borrow.Author.Tests.{leb-true, leb-false, lt-leb, le-leb, eqb-true, eq-eqb}
use Rattle.lists.specs.Lists.{All, without, put}
use Rattle.lists.specs.Tests.{pick, alls, every, among, different}
use Rattle.lists.proofs.Alls.{all-imp, all_left}
use Rattle.lists.proofs.Boards.{below_all}
use Rattle.lists.proofs.Put.{part_end, length-put, put_same, put-before, put-after, within}
use Rattle.lists.proofs.Tests.{true-false, not-no, alls-hold, hold-alls, every-all}
use Rattle.std.specs.Prelude.{Ok, Err}
use Rattle.sizes.specs.declared.Refusal.TheVariants.{Size, Area, Empty, Serving, Idle}
use Rattle.sizes.specs.Refusals.{said, first, store_order, Check}
use Rattle.sizes.proofs.Lines.{first-clear}
use Rattle.sizes.proofs.Orders.{◌also◌, clear-off, off-pass}
use Rattle.mbcr.specs.Rebuild.{helper_packet, stand_in_packet, exchange_packet}
use Rattle.store_spec.specs.Record.{Record, sound, in_service, stripe_count, used_len, area_len, held, put_shares, with_marks, turn_on}
use Rattle.store_spec.specs.Packets.{Packet, packets_of, contents, total, senders_of, sent_to, hear_helpers, hear_partners, stand_ins_each, helper_packets, stand_in_packets}
use Rattle.store_spec.specs.Calls.{settle, repair_lines, list_lines}
use Rattle.beside_spec.specs.Running.{Running, idle, with_carried, fresh_of, helpers_of, stand_ins_of, named_in, packet_count, packets_len, sound_beside}
use Rattle.beside_spec.specs.Lying.{laid_to, laid, place_of, helpers_lying, exchanges_made, partners_lying, share_lying, packets_now, carry, blank}
use Rattle.beside_spec.specs.Both.{Outcome, left_of, carried_on, step_last, step_on, step_done, step_lines, step_call, lose_lines_both, lose_both, lost_beside}
use Rattle.beside_spec.specs.StepLaws.{Lain, StepTaken, StepLaws}
use Rattle.store_spec.proofs.Area.{length-shares, shares-same, byte-stays}
use Rattle.beside_spec.proofs.Beside.{sound-beside, lists-taken, both_facts}
use Rattle.beside_spec.proofs.BothCalls.{both-calls}
use Rattle.beside_spec.proofs.Carried.{before, wide_both, wide_of, H-wide, T-wide, H-count, T-count, R-count, R-total}
use Rattle.beside_spec.proofs.Beside.{both-done}
use Rattle.beside_spec.proofs.Laid.{no-hearing, laid-senders, laid-contents, sent-laid, helper-at, partner-at, behind, packet-at, other_at, laid-front}
use Rattle.store_spec.proofs.Marks.{off}
use Rattle.store_spec.proofs.Packets.{EachHears, Wide, packet-count, total-append, receivers-helpers, receivers-partners, length-helpers, helpers-count, partners-each, run_length}
use Rattle.store_spec.proofs.Packets.{senders-append, contents-append}
use Rattle.store_spec.proofs.Real.{code-lengths}
use Rattle.store_spec.proofs.Records.{Repairs, repair-facts, sound-facts, used-fits}
use Rattle.store_spec.proofs.Repair.{partners-counted, partner-count}
use Rattle.store_spec.proofs.Seam.{Lengths}
use Rattle.store_spec.proofs.Passed.{settle-pass}

-- ---- what lies there, by lists that a start takes

module _ (s : Record) (area fresh helpers stand_ins : List ℕ) (laws : Lengths s.points s.sizes) (f : Repairs s (length area) fresh helpers stand_ins) where
  abbrev S : ℕ
  S = stripe_count s

  abbrev d : ℕ
  d = s.sizes.d

  abbrev t : ℕ
  t = length fresh

  abbrev e : ℕ
  e = stand_ins_each s fresh

  -- a run of a list of boards for each fresh one
  sent-run : (w c : ℕ) (boards bytes : List ℕ) → length boards ≡ t * c → (a : ℕ) → a < t
      → sent_to (get_or fresh a 0) (laid w (hear_helpers c fresh boards) bytes) ≡ laid_to w (get_or fresh a 0) (take c (drop (a * c) boards)) (drop (a * (c * w)) bytes)
  sent-run w c boards bytes n a h =
      let k = helper-at c fresh boards a h in
      let x = sent-laid w c (hear_helpers c fresh boards) bytes (helpers-count c fresh boards n) (ap different (receivers-helpers c fresh boards) ∙ f.fresh-different) a
      (omega (arith, length-helpers c fresh boards, h)) in
      ap (λ (i : ℕ). sent_to i (laid w (hear_helpers c fresh boards) bytes)) (sym k.0) ∙ x ∙ ap₂ (λ (i : ℕ) (l : List ℕ). laid_to w i l (drop (a * (c * w)) bytes)) k.0 k.1

  run-senders : (w c : ℕ) (boards bytes : List ℕ) → length boards ≡ t * c → (a : ℕ) → a < t
      → senders_of (sent_to (get_or fresh a 0) (laid w (hear_helpers c fresh boards) bytes)) ≡ take c (drop (a * c) boards)
  run-senders w c boards bytes n a h =
      ap senders_of (sent-run w c boards bytes n a h) ∙ laid-senders w (get_or fresh a 0) (take c (drop (a * c) boards)) (drop (a * (c * w)) bytes)

  run-contents : (w c : ℕ) (boards bytes : List ℕ) → length boards ≡ t * c → (a : ℕ) → a < t
      → contents (sent_to (get_or fresh a 0) (laid w (hear_helpers c fresh boards) bytes)) ≡ take (c * w) (drop (a * (c * w)) bytes)
  run-contents w c boards bytes n a h =
      ap contents (sent-run w c boards bytes n a h) ∙ laid-contents w (get_or fresh a 0) (take c (drop (a * c) boards)) (drop (a * (c * w)) bytes)
      ∙ ap (λ (x : ℕ). take (x * w) (drop (a * (c * w)) bytes)) (run_length c a t boards n h)

  others-each : EachHears (λ i l. length l ≡ t - 1) (hear_partners fresh)
  others-each =
      partners-each (λ i l. length l ≡ t - 1) fresh
      (all-imp (λ i. suc (length (without i fresh)) ≡ length fresh) (λ i. length (without i fresh) ≡ t - 1) (λ i q. omega arith) fresh
      (partners-counted s area fresh helpers stand_ins (length area) laws f))

  others-count : length (hear_partners fresh) ≡ t
  others-count = length-map fresh (λ i. record { receiver = i; senders = without i fresh })

  sent-others : (bytes : List ℕ) (a : ℕ) → a < t
      → sent_to (get_or fresh a 0) (laid S (hear_partners fresh) bytes) ≡ laid_to S (get_or fresh a 0) (without (get_or fresh a 0) fresh) (drop (a * ((t - 1) * S)) bytes)
  sent-others bytes a h =
      let k = partner-at fresh a h in
      let x = sent-laid S (t - 1) (hear_partners fresh) bytes others-each (ap different (receivers-partners fresh) ∙ f.fresh-different) a (omega (arith, others-count, h)) in
      ap (λ (i : ℕ). sent_to i (laid S (hear_partners fresh) bytes)) (sym k.0) ∙ x ∙ ap₂ (λ (i : ℕ) (l : List ℕ). laid_to S i l (drop (a * ((t - 1) * S)) bytes)) k.0 k.1

  others-contents : (bytes : List ℕ) (a : ℕ) → a < t → contents (sent_to (get_or fresh a 0) (laid S (hear_partners fresh) bytes)) ≡ take ((t - 1) * S) (drop (a * ((t - 1) * S)) bytes)
  others-contents bytes a h =
      let i : ℕ = get_or fresh a 0 in
      let n : length (without i fresh) ≡ t - 1 =
      omega (arith, partner-count s area fresh helpers stand_ins (length area) laws f i (Rattle.lists.proofs.Boards.get_d-among fresh a h)) in
      ap contents (sent-others bytes a h) ∙ laid-contents S i (without i fresh) (drop (a * ((t - 1) * S)) bytes)
      ∙ ap (λ (x : ℕ). take (x * S) (drop (a * ((t - 1) * S)) bytes)) n

  place-h : place_of s t (t * d) ≡ t * d * (2 * S)
  place-h = let k : t * d ≤ t * d = omega arith in ap (λ (x : ℕ). (t * d + x) * S) (min-eq_left k) ∙ twice (t * d) S
    where
      twice : (a S : ℕ) → (a + a) * S ≡ a * (2 * S)
      twice a S = omega arith

  place-t : place_of s t (t * d + t * e) ≡ t * d * (2 * S) + t * e * S
  place-t = let k : t * d ≤ t * d + t * e = omega arith in ap (λ (x : ℕ). (t * d + t * e + x) * S) (min-eq_right k) ∙ thrice (t * d) (t * e) S
    where
      thrice : (a b S : ℕ) → (a + b + a) * S ≡ a * (2 * S) + b * S
      thrice a b S = omega arith

  -- ---- the packets as they would be made now

  abbrev N : List ℕ → List Packet
  N packets = packets_now s fresh helpers stand_ins area packets

  abbrev H : List Packet
  H = helper_packets s area fresh helpers

  abbrev T : List Packet
  T = stand_in_packets s area fresh stand_ins

  X-wide : (packets : List ℕ) → Wide S (exchanges_made s fresh helpers packets)
  unfolding exchanges_made
  X-wide packets =
      wide_of (λ m i. exchange_packet s.sizes s.points S (senders_of (sent_to m (helpers_lying s fresh helpers packets))) (contents (sent_to m (helpers_lying s fresh helpers packets))) i) S
      (λ m i. laws.exchange-length S (senders_of (sent_to m (helpers_lying s fresh helpers packets))) (contents (sent_to m (helpers_lying s fresh helpers packets))) i) (hear_partners fresh)

  X-count : (packets : List ℕ) → length (exchanges_made s fresh helpers packets) ≡ t * (t - 1)
  unfolding exchanges_made
  X-count packets = packet-count _ (t - 1) (hear_partners fresh) others-each ∙ ap (λ (x : ℕ). x * (t - 1)) others-count

  pub N-count : (packets : List ℕ) → length (N packets) ≡ packet_count s.sizes t
  unfolding packets_now
  N-count packets =
      length-append H (T ++ exchanges_made s fresh helpers packets) ∙ ap (λ (x : ℕ). length H + x) (length-append T (exchanges_made s fresh helpers packets))
      ∙ rw (H-count s area fresh helpers stand_ins (length area) laws f, T-count s area fresh helpers stand_ins (length area) laws f, X-count packets)
      (sum t d s.sizes.r f.some-fresh f.few-fresh)
    where
      spread : (t d a b : ℕ) → t * d + (t * a + t * b) ≡ t * (d + (a + b))
      spread t d a b = omega arith

      sum : (t d r : ℕ) → 1 ≤ t → t ≤ r → t * d + (t * (r - t) + t * (t - 1)) ≡ t * (d + r - 1)
      sum t d r a b = let x : d + r - 1 ≡ d + ((r - t) + (t - 1)) = omega arith in rw x (spread t d (r - t) (t - 1))

  pub N-place : (packets : List ℕ) (q : ℕ) → q ≤ packet_count s.sizes t → place_of s t q ≡ total (take q (N packets))
  unfolding packets_now
  N-place packets q h =
      sym (before S H (T ++ exchanges_made s fresh helpers packets) (H-wide s area fresh helpers stand_ins (length area) laws f)
      (wide_both S T (exchanges_made s fresh helpers packets) (T-wide s area fresh helpers stand_ins (length area) laws f) (X-wide packets)) q
      (omega (arith, N-count packets, h))
      ∙ ap (λ (x : ℕ). (q + min q x) * S) (H-count s area fresh helpers stand_ins (length area) laws f))

  place_end : place_of s t (packet_count s.sizes t) ≡ packets_len s t
  place_end =
      let c : ℕ = packet_count s.sizes t in
      let R-len = R-count s area fresh helpers stand_ins (length area) laws f in
      Rattle.beside_spec.proofs.Carried.place_is s area fresh helpers stand_ins (length area) laws f c (omega (arith, R-len))
      ∙ Rattle.beside_spec.proofs.Carried.contents-long (take c (Rattle.store_spec.specs.Packets.repair_packets s area fresh helpers stand_ins))
      ∙ ap total (take_all c (Rattle.store_spec.specs.Packets.repair_packets s area fresh helpers stand_ins) (omega (arith, R-len)))
      ∙ R-total s area fresh helpers stand_ins (length area) laws f

  -- the next place is behind the packet
  next_place : (packets : List ℕ) (q : ℕ) → q < packet_count s.sizes t → place_of s t (suc q) ≡ place_of s t q + length (get_or (N packets) q blank).bytes
  next_place packets q h =
      N-place packets (suc q) h
      ∙ ap total (take-suc (N packets) q blank (omega (arith, N-count packets, h)))
      ∙ total-append (take q (N packets)) (get_or (N packets) q blank ∷ [])
      ∙ ap₂ ◌+◌ (sym (N-place packets q (omega arith))) (let k : length (get_or (N packets) q blank).bytes + 0 ≡ length (get_or (N packets) q blank).bytes = omega arith in k)

  rises : (q r : ℕ) → q ≤ r → place_of s t q ≤ place_of s t r
  rises q r h = mul-le-mul_right S (let k : q + min q (t * d) ≤ r + min r (t * d) = omega arith in k)

  -- ---- packets by their places

  -- a board of a run, by its place in the list
  in-run : (c a j : ℕ) (l : List ℕ) → j < c → get_or (take c (drop (a * c) l)) j 0 ≡ get_or l (a * c + j) 0
  in-run c a j l h = get_or-take c (drop (a * c) l) j 0 h ∙ get_or-drop (a * c) l j 0

  run_at : (g : ℕ → ℕ → List ℕ) (c : ℕ) (boards : List ℕ) → length boards ≡ t * c → (a j : ℕ) → a < t → j < c
      → get_or (packets_of g (hear_helpers c fresh boards)) (a * c + j) blank
      ≡ record { sender = get_or boards (a * c + j) 0; receiver = get_or fresh a 0; bytes = g (get_or boards (a * c + j) 0) (get_or fresh a 0) }
  run_at g c boards n a j h k =
      let r = helper-at c fresh boards a h in
      packet-at g c (hear_helpers c fresh boards) (helpers-count c fresh boards n) a j (omega (arith, length-helpers c fresh boards, h)) k
      ∙ ap₂ {C = Packet} (λ (x i : ℕ). record { sender = x; receiver = i; bytes = g x i }) (ap (λ (l : List ℕ). get_or l j 0) r.1 ∙ in-run c a j boards k) r.0

  -- the places of a run lie before the end of all runs
  in-runs : (c a j : ℕ) → a < t → j < c → a * c + j < t * c
  in-runs c a j h k = omega (arith, part_end a c t h, k)

  H-long : length H ≡ t * d
  H-long = H-count s area fresh helpers stand_ins (length area) laws f

  T-long : length T ≡ t * e
  T-long = T-count s area fresh helpers stand_ins (length area) laws f

  now-helper : (now : List ℕ) (a j : ℕ) → a < t → j < d → let h = get_or helpers (a * d + j) 0 in
      get_or (N now) (a * d + j) blank ≡ record { sender = h; receiver = get_or fresh a 0; bytes = helper_packet s.sizes s.points S h (get_or fresh a 0) (held s area h) }
  unfolding packets_now helper_packets
  now-helper now a j h k =
      get_or-append H (T ++ exchanges_made s fresh helpers now) blank (a * d + j) (omega (arith, in-runs d a j h k, H-long))
      ∙ run_at (λ j i. helper_packet s.sizes s.points S j i (held s area j)) d helpers f.helper-count a j h k

  now-stand-in : (now : List ℕ) (a j : ℕ) → a < t → j < e → let h = get_or stand_ins (a * e + j) 0 in
      get_or (N now) (t * d + (a * e + j)) blank ≡ record { sender = h; receiver = get_or fresh a 0; bytes = stand_in_packet s.sizes s.points S h (get_or fresh a 0) (held s area h) }
  unfolding packets_now stand_in_packets
  now-stand-in now a j h k =
      behind H (T ++ exchanges_made s fresh helpers now) (t * d) (a * e + j) H-long
      ∙ get_or-append T (exchanges_made s fresh helpers now) blank (a * e + j) (omega (arith, in-runs e a j h k, T-long))
      ∙ run_at (λ j i. stand_in_packet s.sizes s.points S j i (held s area j)) e stand_ins f.stand-in-count a j h k

  now-exchange : (now : List ℕ) (a j : ℕ) → a < t → suc j < t → let b = pick (ltb j a) j (suc j) in
      get_or (N now) (t * d + (t * e + (a * (t - 1) + j))) blank
      ≡ record {
        sender = get_or fresh b 0;
        receiver = get_or fresh a 0;
        bytes = exchange_packet s.sizes s.points S (take d (drop (b * d) helpers)) (take (d * (2 * S)) (drop (b * (d * (2 * S))) now)) (get_or fresh a 0);
      }
  unfolding packets_now exchanges_made helpers_lying
  now-exchange now a j h k =
      let b : ℕ = pick (ltb j a) j (suc j) in
      let lying : List Packet = helpers_lying s fresh helpers now in
      let g : ℕ → ℕ → List ℕ = λ m i. exchange_packet s.sizes s.points S (senders_of (sent_to m lying)) (contents (sent_to m lying)) i in
      let r = partner-at fresh a h in
      let who : get_or (get_or (hear_partners fresh) a no-hearing).senders j 0 ≡ get_or fresh b 0 = ap (λ (l : List ℕ). get_or l j 0) r.1 ∙ other_at fresh a j f.fresh-different h k in
      let low : b < t = below-all-places (ltb j a) in
      behind H (T ++ exchanges_made s fresh helpers now) (t * d) (t * e + (a * (t - 1) + j)) H-long
      ∙ behind T (exchanges_made s fresh helpers now) (t * e) (a * (t - 1) + j) T-long
      ∙ packet-at g (t - 1) (hear_partners fresh) others-each a j (omega (arith, others-count, h)) (omega (arith, k))
      ∙ ap₂ {C = Packet} (λ (x i : ℕ). record { sender = x; receiver = i; bytes = g x i }) who r.0
      ∙ ap₂ {C = Packet} (λ (l m : List ℕ). record { sender = get_or fresh b 0; receiver = get_or fresh a 0; bytes = exchange_packet s.sizes s.points S l m (get_or fresh a 0) })
      (run-senders (2 * S) d helpers now f.helper-count b low) (run-contents (2 * S) d helpers now f.helper-count b low)
    where
      below-all-places : (q : Bool) → pick q j (suc j) < t
      below-all-places true = omega (arith, k)
      below-all-places false = k

  lain : (now : List ℕ) → Lain s fresh helpers stand_ins area now
  unfolding helpers_lying partners_lying share_lying packets_now helper_packets stand_in_packets exchanges_made
  lain now = record {
    helpers-are = λ a h. run-senders (2 * S) d helpers now f.helper-count a h;
    helpers-sent = λ a h. run-contents (2 * S) d helpers now f.helper-count a h;
    partners-are = λ a h.
        senders-append (get_or fresh a 0) (laid S (hear_helpers e fresh stand_ins) (drop (place_of s t (t * d)) now)) (laid S (hear_partners fresh) (drop (place_of s t (t * d + t * e)) now))
        ∙ ap₂ {C = List ℕ} (λ (x y : List ℕ). x ++ y) (run-senders S e stand_ins (drop (place_of s t (t * d)) now) f.stand-in-count a h)
        (ap senders_of (sent-others (drop (place_of s t (t * d + t * e)) now) a h)
        ∙ laid-senders S (get_or fresh a 0) (without (get_or fresh a 0) fresh) (drop (a * ((t - 1) * S)) (drop (place_of s t (t * d + t * e)) now)));
    partners-sent = λ a h.
        contents-append (get_or fresh a 0) (laid S (hear_helpers e fresh stand_ins) (drop (place_of s t (t * d)) now)) (laid S (hear_partners fresh) (drop (place_of s t (t * d + t * e)) now))
        ∙ ap₂ {C = List ℕ} (λ (x y : List ℕ). x ++ y)
        (run-contents S e stand_ins (drop (place_of s t (t * d)) now) f.stand-in-count a h ∙ ap (λ (m : ℕ). take (e * S) (drop (a * (e * S)) (drop m now))) place-h)
        (others-contents (drop (place_of s t (t * d + t * e)) now) a h ∙ ap (λ (m : ℕ). take ((t - 1) * S) (drop (a * ((t - 1) * S)) (drop m now))) place-t);
    shares-are = λ i. refl;
    now-are = refl;
    helper-at = now-helper now;
    stand-in-at = now-stand-in now;
    exchange-at = now-exchange now;
    now-count = N-count now;
    now-place = N-place now;
    now-end = place_end;
  }

  -- ---- what is carried

  abbrev byte_of : List ℕ → ℕ → List ℕ
  byte_of packets q = (get_or (N packets) q blank).bytes

  abbrev put_one : List ℕ → ℕ → List ℕ
  put_one packets q = put packets (place_of s t q) (byte_of packets q)

  one-fits : (packets : List ℕ) (q : ℕ) → q < packet_count s.sizes t → length packets ≡ packets_len s t → place_of s t q + length (byte_of packets q) ≤ length packets
  one-fits packets q h l = omega (arith, next_place packets q h, rises (suc q) (packet_count s.sizes t) h, place_end, l)

  one-long : (packets : List ℕ) (q : ℕ) → q < packet_count s.sizes t → length packets ≡ packets_len s t → length (put_one packets q) ≡ length packets
  one-long packets q h l = length-put packets (place_of s t q) (byte_of packets q) (one-fits packets q h l)

  carry-long : (m q : ℕ) (packets : List ℕ) → q + m ≤ packet_count s.sizes t → length packets ≡ packets_len s t
      → length (carry s fresh helpers stand_ins area q m packets) ≡ length packets
  carry-long zero q packets h l = refl
  carry-long (suc m) q packets h l =
      let k = one-long packets q (omega arith) l in carry-long m (suc q) (put_one packets q) (omega arith) (k ∙ l) ∙ k

  carry-front : (m q : ℕ) (packets : List ℕ) → q + m ≤ packet_count s.sizes t → length packets ≡ packets_len s t
      → take (place_of s t q) (carry s fresh helpers stand_ins area q m packets) ≡ take (place_of s t q) packets
  carry-front zero q packets h l = refl
  carry-front (suc m) q packets h l =
      let k = one-long packets q (omega arith) l in
      let x = carry-front m (suc q) (put_one packets q) (omega arith) (k ∙ l) in
      let r = rises q (suc q) (omega arith) in
      sym (take-take (place_of s t q) (place_of s t (suc q)) _ r) ∙ ap (take (place_of s t q)) x ∙ take-take (place_of s t q) (place_of s t (suc q)) (put_one packets q) r
      ∙ put-before packets (place_of s t q) (byte_of packets q) (one-fits packets q (omega arith) l) 0 (place_of s t q) (omega arith)

  carry_back : (m q : ℕ) (packets : List ℕ) → q + m ≤ packet_count s.sizes t → length packets ≡ packets_len s t
      → drop (place_of s t (q + m)) (carry s fresh helpers stand_ins area q m packets) ≡ drop (place_of s t (q + m)) packets
  carry_back zero q packets h l = refl
  carry_back (suc m) q packets h l =
      let k = one-long packets q (omega arith) l in
      let e : suc q + m ≡ q + suc m = omega arith in
      let x : drop (place_of s t (q + suc m)) (carry s fresh helpers stand_ins area (suc q) m (put_one packets q)) ≡ drop (place_of s t (q + suc m)) (put_one packets q) =
      subst (λ (n : ℕ). drop (place_of s t n) (carry s fresh helpers stand_ins area (suc q) m (put_one packets q)) ≡ drop (place_of s t n) (put_one packets q)) e
      (carry_back m (suc q) (put_one packets q) (omega arith) (k ∙ l)) in
      x ∙ put-after packets (place_of s t q) (byte_of packets q) (one-fits packets q (omega arith) l) (place_of s t (q + suc m))
      (omega (arith, next_place packets q (omega arith), rises (suc q) (q + suc m) (omega arith)))

  -- a packet that was carried would be made so again: those that it is made of stay
  same-now : (q : ℕ) (old new : List ℕ) → take (place_of s t q) new ≡ take (place_of s t q) old → get_or (N new) q blank ≡ get_or (N old) q blank
  unfolding packets_now exchanges_made helpers_lying
  same-now q old new h = go (dec_lt q (length H))
    where
      go : Dec (q < length H) → get_or (H ++ (T ++ exchanges_made s fresh helpers new)) q blank ≡ get_or (H ++ (T ++ exchanges_made s fresh helpers old)) q blank
      go (yes l) = get_or-append H (T ++ exchanges_made s fresh helpers new) blank q l ∙ sym (get_or-append H (T ++ exchanges_made s fresh helpers old) blank q l)
      go (no l) =
          let c = H-count s area fresh helpers stand_ins (length area) laws f in
          let r = rises (t * d) q (omega (arith, c)) in
          let n : place_of s t (t * d) ≡ length (hear_helpers d fresh helpers) * (d * (2 * S)) =
          place-h ∙ shift t d S ∙ ap (λ (x : ℕ). x * (d * (2 * S))) (sym (length-helpers d fresh helpers)) in
          let k : take (place_of s t (t * d)) new ≡ take (place_of s t (t * d)) old =
          sym (take-take (place_of s t (t * d)) (place_of s t q) new r) ∙ ap (take (place_of s t (t * d))) h ∙ take-take (place_of s t (t * d)) (place_of s t q) old r in
          ap (λ (hs : List Packet). get_or (H ++ (T
          ++ packets_of (λ m i. exchange_packet s.sizes s.points (stripe_count s) (senders_of (sent_to m hs)) (contents (sent_to m hs)) i) (hear_partners fresh))) q blank)
          (laid-front (2 * S) d (hear_helpers d fresh helpers) new old (helpers-count d fresh helpers f.helper-count)
          (ap (λ (m : ℕ). take m new) (sym n) ∙ k ∙ ap (λ (m : ℕ). take m old) n))
        where
          shift : (t d S : ℕ) → t * d * (2 * S) ≡ t * (d * (2 * S))
          shift t d S = omega arith

  carry-written : (m q : ℕ) (packets : List ℕ) → q + m ≤ packet_count s.sizes t → length packets ≡ packets_len s t
      → (r : ℕ) → q ≤ r → r < q + m
      → let new = carry s fresh helpers stand_ins area q m packets in take (length (byte_of new r)) (drop (place_of s t r) new) ≡ byte_of new r
  carry-written zero q packets h l r a b = absurd (omega arith)
  carry-written (suc m) q packets h l r a b =
      go (dec_lt q r) (λ c. carry-written m (suc q) (put_one packets q) (omega arith) (one-long packets q (omega arith) l ∙ l) r c (omega arith))
    where
      new : List ℕ
      new = carry s fresh helpers stand_ins area q (suc m) packets

      k : length (put_one packets q) ≡ length packets
      k = one-long packets q (omega arith) l

      first_one : take (length (byte_of new q)) (drop (place_of s t q) new) ≡ byte_of new q
      first_one =
          let n : byte_of new q ≡ byte_of packets q = ap (λ (p : Packet). p.bytes) (same-now q packets new (carry-front (suc m) q packets h l)) in
          let w : ℕ = length (byte_of packets q) in
          let p : place_of s t (suc q) ≡ place_of s t q + w = next_place packets q (omega arith) in
          let x = carry-front m (suc q) (put_one packets q) (omega arith) (k ∙ l) in
          ap (λ (b : List ℕ). take (length b) (drop (place_of s t q) new)) n
          ∙ sym (within w (place_of s t (suc q)) (place_of s t q) new (omega (arith, p)))
          ∙ ap (λ (y : List ℕ). take w (drop (place_of s t q) y)) x
          ∙ within w (place_of s t (suc q)) (place_of s t q) (put_one packets q) (omega (arith, p))
          ∙ put_same packets (place_of s t q) (byte_of packets q) (one-fits packets q (omega arith) l)
          ∙ sym n

      go : Dec (q < r) → (q < r → take (length (byte_of new r)) (drop (place_of s t r) new) ≡ byte_of new r) → take (length (byte_of new r)) (drop (place_of s t r) new) ≡ byte_of new r
      go (yes c) ih = ih c
      go (no c) ih = let e : q ≡ r = omega arith in subst (λ (x : ℕ). take (length (byte_of new x)) (drop (place_of s t x) new) ≡ byte_of new x) e first_one

-- ---- an accepted step

module _ (s : Record) (p : Running) (area packets : List ℕ) (allowance : ℕ) (ok : (step_call s p area packets allowance).answer.refusal ≡ 0) where
  pass : first store_order (step_lines s p (length area) (length packets)) ≡ Ok tt
  unfolding step_call
  pass = both-done (first store_order (step_lines s p (length area) (length packets))) s p area [] packets (step_done s p area packets allowance) ok

  is-done : step_call s p area packets allowance ≡ step_done s p area packets allowance
  unfolding step_call
  is-done = settle-pass _ _ _ pass

  record Facts : Type 0 where
    runs : p.running ≡ true
    both : (sound s ≡ true) × (sound_beside s p ≡ true)
    area-is : eqb (length area) (area_len s) ≡ true
    long : length packets ≡ packets_len s (length (fresh_of p))
    written : s.written ≡ true

  known : Facts
  unfolding step_lines
  known =
      let off = clear-off (step_lines s p (length area) (length packets)) store_order pass in
      let runs : p.running ≡ true = not-no _ (off Idle refl) in
      let two : List Bool = eqb (length area) (area_len s) ∷ pick p.running (eqb (length packets) (packets_len s (length (fresh_of p)))) true ∷ [] in
      let lengths = alls-hold two (not-no _ (off Area refl)) in
      record {
        runs = runs;
        both = both_facts s p (off Size refl);
        area-is = lengths.0;
        long = eqb-true _ _ (ap (λ (x : Bool). pick x (eqb (length packets) (packets_len s (length (fresh_of p)))) true) (sym runs) ∙ lengths.1.0);
        written = not-no _ (off Empty refl);
      }

  abbrev fresh : List ℕ
  fresh = fresh_of p

  abbrev helpers : List ℕ
  helpers = helpers_of s.sizes p

  abbrev stand_ins : List ℕ
  stand_ins = stand_ins_of s.sizes p

  less : p.carried < packet_count s.sizes (length fresh)
  less = (sound-beside s p known.both.1 known.runs).1

  lists : first store_order (repair_lines s (length area) fresh helpers stand_ins) ≡ Ok tt
  lists = lists-taken s (length area) fresh helpers stand_ins known.both.0 (ap not known.area-is) known.written (sound-beside s p known.both.1 known.runs).0

  f : Repairs s (length area) fresh helpers stand_ins
  f = repair-facts s (length area) fresh helpers stand_ins lists

  laws : Lengths s.points s.sizes
  laws = code-lengths s.points s.sizes (sound-facts s f.is-sound).is-legal

  abbrev left : ℕ
  left = left_of s p area packets

  -- so many are carried
  count-last : left ≤ allowance → min allowance left ≡ left
  count-last h = min-eq_right h

  count-on : allowance < left → min allowance left ≡ allowance
  count-on h = min-eq_left (omega arith)

  outcome : (x : Bool) → leb left allowance ≡ x → step_call s p area packets allowance ≡ pick x (step_last s p area packets) (step_on s p area packets allowance)
  outcome x e = is-done ∙ ap (λ (y : Bool). pick y (step_last s p area packets) (step_on s p area packets allowance)) e

  abbrev m : ℕ
  m = min allowance left

  record Carried : Type 0 where
    answer-is : (step_call s p area packets allowance).answer ≡ said (Ok m)
    packets-are : (step_call s p area packets allowance).packets ≡ carry s fresh helpers stand_ins area p.carried m packets
    all : p.carried + m ≤ packet_count s.sizes (length fresh)

  carried : Carried
  carried = go (leb left allowance) refl
    where
      go : (x : Bool) → leb left allowance ≡ x → Carried
      go true e =
          let n = count-last (leb-true left allowance e) in
          let o = outcome true e in
          record {
            answer-is = ap (λ (y : Outcome). y.answer) o ∙ ap (λ (y : ℕ). said (Ok y)) (sym n);
            packets-are = ap (λ (y : Outcome). y.packets) o ∙ ap (λ (y : ℕ). carry s fresh helpers stand_ins area p.carried y packets) (sym n);
            all = omega (arith, n, less);
          }
      go false e =
          let k = leb-false left allowance e in
          let n = count-on k in
          let o = outcome false e in
          record {
            answer-is = ap (λ (y : Outcome). y.answer) o ∙ ap (λ (y : ℕ). said (Ok y)) (sym n);
            packets-are = ap (λ (y : Outcome). y.packets) o ∙ ap (λ (y : ℕ). carry s fresh helpers stand_ins area p.carried y packets) (sym n);
            all = omega (arith, n, less, k);
          }

  abbrev new : List ℕ
  new = carry s fresh helpers stand_ins area p.carried m packets

  bytes-stay : (x : ℕ) → (x < place_of s (length fresh) p.carried) ⊎ (place_of s (length fresh) (p.carried + m) ≤ x) → get_or new x 0 ≡ get_or packets x 0
  bytes-stay x (inl h) =
      let e = carry-front s area fresh helpers stand_ins laws f m p.carried packets carried.all known.long in
      sym (get_or-take (place_of s (length fresh) p.carried) new x 0 h) ∙ ap (λ (l : List ℕ). get_or l x 0) e ∙ get_or-take (place_of s (length fresh) p.carried) packets x 0 h
  bytes-stay x (inr h) =
      let a : ℕ = place_of s (length fresh) (p.carried + m) in
      let e = carry_back s area fresh helpers stand_ins laws f m p.carried packets carried.all known.long in
      let j : a + (x - a) ≡ x = omega arith in
      ap (λ (n : ℕ). get_or new n 0) (sym j) ∙ sym (get_or-drop a new (x - a) 0) ∙ ap (λ (l : List ℕ). get_or l (x - a) 0) e ∙ get_or-drop a packets (x - a) 0
      ∙ ap (λ (n : ℕ). get_or packets n 0) j

  -- the fresh shares
  share-long : (now : List ℕ) (i : ℕ) → length (share_lying s fresh helpers stand_ins now i) ≡ used_len s
  unfolding share_lying
  share-long now i = laws.finished-length _ _ _ _ _ _

  low : All (λ i. i < s.sizes.n) fresh
  low = all_left (λ i. i < s.sizes.n) fresh (helpers ++ stand_ins) (below_all s.sizes.n (fresh ++ (helpers ++ stand_ins)) f.named-below)

  fits : used_len s ≤ Rattle.store_spec.specs.Record.part_len s
  fits = used-fits s (sound-facts s f.is-sound)

  last-is : p.carried + m ≡ packet_count s.sizes (length fresh) → step_call s p area packets allowance ≡ step_last s p area packets
  last-is h = go (leb left allowance) refl
    where
      go : (x : Bool) → leb left allowance ≡ x → step_call s p area packets allowance ≡ step_last s p area packets
      go true e = outcome true e
      go false e = let k = leb-false left allowance e in absurd (omega (arith, count-on k, less, h, k))

  on-is : p.carried + m < packet_count s.sizes (length fresh) → step_call s p area packets allowance ≡ step_on s p area packets allowance
  on-is h = go (leb left allowance) refl
    where
      go : (x : Bool) → leb left allowance ≡ x → step_call s p area packets allowance ≡ step_on s p area packets allowance
      go false e = outcome false e
      go true e = absurd (omega (arith, count-last (leb-true left allowance e), less, h))

  on-count : p.carried + m < packet_count s.sizes (length fresh) → allowance ≡ m
  on-count h = go (dec_lt allowance left)
    where
      go : Dec (allowance < left) → allowance ≡ m
      go (yes k) = sym (count-on k)
      go (no k) = absurd (omega (arith, count-last (let x : left ≤ allowance = omega arith in x), less, h))

  taken : StepTaken s p area packets allowance
  taken = record {
    lain = lain s area fresh helpers stand_ins laws f;
    answers = carried.answer-is;
    written = λ q a b.
        subst
        (λ (now : List ℕ). take (length (get_or (packets_now s fresh helpers stand_ins area now) q blank).bytes) (drop (place_of s (length fresh) q) now)
        ≡ (get_or (packets_now s fresh helpers stand_ins area now) q blank).bytes)
        (sym carried.packets-are)
        (carry-written s area fresh helpers stand_ins laws f m p.carried packets carried.all known.long q a b);
    as_long = ap length carried.packets-are ∙ carry-long s area fresh helpers stand_ins laws f m p.carried packets carried.all known.long;
    stay = λ x h. ap (λ (l : List ℕ). get_or l x 0) carried.packets-are ∙ bytes-stay x h;
    before = λ h.
        let o = on-is h in (
          ap (λ (y : Outcome). y.handed) o,
          ap (λ (y : Outcome). y.area) o,
          ap (λ (y : Outcome). y.running) o ∙ ap (λ (n : ℕ). with_carried p (p.carried + n)) (on-count h),
        );
    last = λ h.
        let o = last-is h in
        let now : List ℕ = (step_call s p area packets allowance).packets in
        let e : now ≡ carried_on s p area packets (left_of s p area packets) = ap (λ (y : Outcome). y.packets) o in
        let made : ℕ → List ℕ = share_lying s fresh helpers stand_ins (carried_on s p area packets (left_of s p area packets)) in
        let long : (i : ℕ) → length (made i) ≡ used_len s = share-long (carried_on s p area packets (left_of s p area packets)) in
        let a : (step_call s p area packets allowance).area ≡ put_shares s made fresh area = ap (λ (y : Outcome). y.area) o in (
          ap (λ (y : Outcome). y.running) o,
          ap (λ (y : Outcome). y.handed) o,
          λ i k. ap (λ (l : List ℕ). held s l i) a ∙ shares-same s made (used_len s) long fits fresh area f.area-is low i k
              ∙ ap (λ (l : List ℕ). share_lying s fresh helpers stand_ins l i) (sym e),
          record {
            as_long = ap length a ∙ length-shares s made (used_len s) long fits fresh area f.area-is low;
            same_byte = λ x out. ap (λ (l : List ℕ). get_or l x 0) a ∙ byte-stays s made (used_len s) long fits fresh area f.area-is low x out;
          },
        );
  }

-- ---- an allowance of 0, and losses

not-all : (l : ℕ) → 0 < l → leb l 0 ≡ false
not-all l h = lt-leb l 0 h

none-moved : (s : Record) (p : Running) (area packets : List ℕ) → (step_call s p area packets 0).answer.refusal ≡ 0
    → step_call s p area packets 0 ≡ record { answer = said (Ok 0); handed = s; running = p; area = area; output = []; packets = packets }
none-moved s p area packets ok =
    let l = less s p area packets 0 ok in
    outcome s p area packets 0 ok false (not-all (left_of s p area packets) (omega arith))
    ∙ ap (λ (n : ℕ). record { answer = said (Ok 0); handed = s; running = with_carried p n; area = area; output = []; packets = packets })
    (let z : p.carried + 0 ≡ p.carried = omega arith in z)

-- ---- a step in parts

carry-parts : (s : Record) (fresh helpers stand_ins area : List ℕ) (a b q : ℕ) (packets : List ℕ)
    → carry s fresh helpers stand_ins area q (a + b) packets ≡ carry s fresh helpers stand_ins area (q + a) b (carry s fresh helpers stand_ins area q a packets)
carry-parts s fresh helpers stand_ins area zero b q packets =
    let e : zero + b ≡ b = omega arith in
    let d : q ≡ q + zero = omega arith in
    ap₂ (λ (m n : ℕ). carry s fresh helpers stand_ins area n m packets) e d
carry-parts s fresh helpers stand_ins area (suc a) b q packets =
    let e : suc a + b ≡ suc (a + b) = omega arith in
    let d : suc q + a ≡ q + suc a = omega arith in
    let now : List ℕ = put packets (place_of s (length fresh) q) (get_or (packets_now s fresh helpers stand_ins area packets) q blank).bytes in
    ap (λ (m : ℕ). carry s fresh helpers stand_ins area q m packets) e
    ∙ carry-parts s fresh helpers stand_ins area a b (suc q) now
    ∙ ap (λ (n : ℕ). carry s fresh helpers stand_ins area n b (carry s fresh helpers stand_ins area (suc q) a now)) d

module _ (s : Record) (p : Running) (area packets : List ℕ) (a b : ℕ) (ok : (step_call s p area packets a).answer.refusal ≡ 0)
    (h : p.carried + a < packet_count s.sizes (length (fresh_of p))) where
  abbrev more : ℕ
  more = packet_count s.sizes (length (fresh_of p)) - (p.carried + a)

  first_part : step_call s p area packets a ≡ step_on s p area packets a
  first_part = outcome s p area packets a ok false (lt-leb (left_of s p area packets) a (omega (arith, h)))

  on-sound : sound_beside s (with_carried p (p.carried + a)) ≡ true
  on-sound =
      (both-calls.beside-is s (with_carried p (p.carried + a))).1
      (λ e. (
        first-clear (list_lines s (fresh_of p) (helpers_of s.sizes p) (stand_ins_of s.sizes p)) store_order
            (sound-beside s p (known s p area packets a ok).both.1 (known s p area packets a ok).runs).0,
        h,
      ))

  mid-long : length (carried_on s p area packets a) ≡ packets_len s (length (fresh_of p))
  mid-long =
      carry-long s area (fresh_of p) (helpers_of s.sizes p) (stand_ins_of s.sizes p) (laws s p area packets a ok) (f s p area packets a ok) a p.carried packets
      (omega (arith, h)) (known s p area packets a ok).long
      ∙ (known s p area packets a ok).long

  on-pass : first store_order (step_lines s (with_carried p (p.carried + a)) (length area) (length (carried_on s p area packets a))) ≡ Ok tt
  unfolding step_lines
  on-pass =
      let k = known s p area packets a ok in
      let two : List Bool = eqb (length area) (area_len s) ∷ pick p.running (eqb (length (carried_on s p area packets a)) (packets_len s (length (fresh_of p)))) true ∷ [] in
      off-pass (step_lines s (with_carried p (p.carried + a)) (length area) (length (carried_on s p area packets a))) store_order
      (ap not (hold-alls (sound s ∷ sound_beside s (with_carried p (p.carried + a)) ∷ []) (k.both.0, (on-sound, tt)))
      also ap not (hold-alls two (
        k.area-is,
        (ap (λ (x : Bool). pick x (eqb (length (carried_on s p area packets a)) (packets_len s (length (fresh_of p)))) true) k.runs ∙ eq-eqb _ _ mid-long, tt),
      ))
      also ap not k.written also ap not k.runs also tt)

  abbrev second : Outcome
  second = step_call s (with_carried p (p.carried + a)) area (carried_on s p area packets a) b

  second_is : second ≡ step_done s (with_carried p (p.carried + a)) area (carried_on s p area packets a) b
  unfolding step_call
  second_is = settle-pass _ _ _ on-pass

  whole_is : step_call s p area packets (a + b) ≡ step_done s p area packets (a + b)
  unfolding step_call
  whole_is = settle-pass _ _ _ (pass s p area packets a ok)

  -- both outcomes, whichever it is
  abbrev joined-up : Outcome → Outcome
  joined-up q = record { answer = said (Ok (a + q.answer.reported)); handed = q.handed; running = q.running; area = q.area; output = []; packets = q.packets }

  same-done : (x : Bool) → leb more b ≡ x → step_done s p area packets (a + b) ≡ joined-up (step_done s (with_carried p (p.carried + a)) area (carried_on s p area packets a) b)
  same-done true e =
      let l : left_of s p area packets ≡ a + more = omega (arith, h) in
      let w : leb (left_of s p area packets) (a + b) ≡ true = le-leb (left_of s p area packets) (a + b) (omega (arith, leb-true more b e, h)) in
      let c : carried_on s p area packets (left_of s p area packets) ≡ carried_on s (with_carried p (p.carried + a)) area (carried_on s p area packets a) more =
      ap (carried_on s p area packets) l
      ∙ carry-parts s (fresh_of p) (helpers_of s.sizes p) (stand_ins_of s.sizes p) area a more p.carried packets in
      ap (λ (t : Bool). pick t (step_last s p area packets) (step_on s p area packets (a + b))) w
      ∙ ap₂ {C = Outcome} (λ (n : ℕ) (now : List ℕ). record {
        answer = said (Ok n);
        handed = with_marks s (turn_on (fresh_of p) s.marks);
        running = idle;
        area = put_shares s (share_lying s (fresh_of p) (helpers_of s.sizes p) (stand_ins_of s.sizes p) now) (fresh_of p) area;
        output = [];
        packets = now;
      }) l c
      ∙ sym (ap (λ (t : Bool). joined-up (pick t (step_last s (with_carried p (p.carried + a)) area (carried_on s p area packets a))
      (step_on s (with_carried p (p.carried + a)) area (carried_on s p area packets a) b))) e)
  same-done false e =
      let k = leb-false more b e in
      let w : leb (left_of s p area packets) (a + b) ≡ false = lt-leb (left_of s p area packets) (a + b) (omega (arith, k, h)) in
      let n : p.carried + (a + b) ≡ p.carried + a + b = omega arith in
      ap (λ (t : Bool). pick t (step_last s p area packets) (step_on s p area packets (a + b))) w
      ∙ ap₂ {C = Outcome} (λ (c : ℕ) (now : List ℕ). record { answer = said (Ok (a + b)); handed = s; running = with_carried p c; area = area; output = []; packets = now }) n
      (carry-parts s (fresh_of p) (helpers_of s.sizes p) (stand_ins_of s.sizes p) area a b p.carried packets)
      ∙ sym (ap (λ (t : Bool). joined-up (pick t (step_last s (with_carried p (p.carried + a)) area (carried_on s p area packets a))
      (step_on s (with_carried p (p.carried + a)) area (carried_on s p area packets a) b))) e)

  in_parts : let o = step_call s p area packets a in let q = step_call s o.running o.area o.packets b in
      step_call s p area packets (a + b)
      ≡ record { answer = said (Ok (a + q.answer.reported)); handed = q.handed; running = q.running; area = q.area; output = []; packets = q.packets }
  in_parts =
      subst (λ (o : Outcome). step_call s p area packets (a + b) ≡ joined-up (step_call s o.running o.area o.packets b)) (sym first_part)
      (whole_is ∙ same-done (leb more b) refl ∙ ap joined-up (sym second_is))

-- what a loss does to the record beside
module _ (s : Record) (p : Running) (area : List ℕ) (board : ℕ) (r : p.running ≡ true) where
  abbrev lost : Running
  lost = lost_beside s p board

  loss-goes-on : among (named_in s.sizes p) board ≡ false → (lose_both s p area board).running ≡ p
  unfolding lose_both
  loss-goes-on q = go (first store_order (lose_lines_both s p board))
    where
      go : (c : Check) → (settle c (λ x. record { answer = said (Err x); handed = s; running = p; area = area; output = []; packets = [] })
          (Rattle.beside_spec.specs.Both.beside lost (Rattle.store_spec.specs.Calls.lose_done s area board))).running ≡ p
      go (Ok tt) = ap₂ (λ (x y : Bool). pick (alls (x ∷ y ∷ [])) idle p) r q
      go (Err x) = refl

  loss-ends : among (named_in s.sizes p) board ≡ true → (lose_both s p area board).answer.refusal ≡ 0
      → ((lose_both s p area board).running ≡ idle) × All (λ i. in_service (lose_both s p area board).handed i ≡ false) (fresh_of p)
  unfolding lose_both lose_lines_both list_lines
  loss-ends q ok =
      let pass = both-done (first store_order (lose_lines_both s p board)) s p area [] []
      (Rattle.beside_spec.specs.Both.beside lost (Rattle.store_spec.specs.Calls.lose_done s area board)) ok in
      let d = settle-pass (first store_order (lose_lines_both s p board)) (λ x. record { answer = said (Err x); handed = s; running = p; area = area; output = []; packets = [] })
      (Rattle.beside_spec.specs.Both.beside lost (Rattle.store_spec.specs.Calls.lose_done s area board)) pass in
      let b = (both_facts s p (clear-off (lose_lines_both s p board) store_order pass Size refl)).1 in
      let lists = clear-off (list_lines s (fresh_of p) (helpers_of s.sizes p) (stand_ins_of s.sizes p)) store_order (sound-beside s p b r).0 in
      let out : every (λ i. not (in_service s i)) (fresh_of p) ≡ true = not-no _ (lists Serving refl) in (
        ap (λ (y : Outcome). y.running) d ∙ ap₂ (λ (x y : Bool). pick (alls (x ∷ y ∷ [])) idle p) r q,
        all-imp (λ i. not (in_service s i) ≡ true) _
            (λ i e. ap (λ (y : Outcome). in_service y.handed i) d ∙ off s.marks board i ∙ still-off (eqb board i) (in_service s i) e) (fresh_of p)
            (every-all (λ i. not (in_service s i)) (fresh_of p) out),
      )
    where
      still-off : (t u : Bool) → not u ≡ true → pick t false u ≡ false
      still-off true u e = refl
      still-off false true e = absurd (true-false e refl)
      still-off false false e = refl

pub step-laws : StepLaws
step-laws = record {
  step-taken = taken;
  none-moved = none-moved;
  in_parts = in_parts;
  loss-ends = λ s p area board r q ok. loss-ends s p area board r q ok;
  loss-goes-on = λ s p area board r q. loss-goes-on s p area board r q;
}
