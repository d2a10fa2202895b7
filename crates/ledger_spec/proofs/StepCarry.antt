-- A start and a step: store and ledger reply alike; packets carried go on lying as the whole repair's; and the last step is the whole repair.
-- Assumes nothing.
use Prim.Native.Nat.{ℕ, ◌+◌, ◌-◌, ◌*◌, ◌≤◌, ◌<◌}
use mathlib.Core.Path.{◌≡◌, refl, sym, ◌∙◌, ap, ap₂, subst, fun_ext}
use mathlib.Core.Bool.{Bool, true, false}
use mathlib.Core.List.{List, [], ◌∷◌, ◌++◌, map}
use mathlib.Core.Option.{Option, some, none}
use native.Mathlib.Omega.{arith}
use native.Mathlib.Nat.{mul-le-mul}
use lib.Dec.{leb, eqb}
use lib.ListN.{length, take, drop}
use lib.Seq.{take-take}
use borrow.Author.Tests.{leb-false, eqb-true, ne_eqb}
use Rattle.lists.specs.Lists.{All}
use Rattle.lists.specs.Tests.{pick}
use Rattle.lists.proofs.Alls.{all-imp, all_left, all_right}
use Rattle.lists.proofs.Tests.{true-false, every-all, alls-hold, not-no}
use Rattle.std.specs.Prelude.{Ok}
use Rattle.sizes.specs.declared.Refusal.{Refusal}
use Rattle.sizes.specs.declared.Refusal.TheVariants.{Area, Idle}
use Rattle.sizes.specs.Refusals.{said, number, first, store_order}
use Rattle.sizes.proofs.Laws.{number-low}
use Rattle.sizes.proofs.Legal.{legal-facts}
use Rattle.sizes.proofs.Orders.{clear-off}
use Rattle.mbcr.specs.Rebuild.{helper_packet, stand_in_packet, exchange_packet}
use Rattle.store_spec.specs.Record.{Record, in_service, with_marks, turn_on, stripe_count, used_len, part_len, area_len, held, put_shares}
use Rattle.store_spec.specs.Packets.{Packet, Hearing, packets_of, contents, senders_of, sent_to, hear_helpers, hear_partners, stand_ins_each, helper_packets, stand_in_packets, exchange_packets}
use Rattle.store_spec.specs.Packets.{partner_packets, repair_packets, fresh_share}
use Rattle.store_spec.specs.Calls.{repair_lines}
use Rattle.beside_spec.specs.Running.{Running, idle, running_by, with_carried, fresh_of, helpers_of, stand_ins_of, packet_count, packets_len}
use Rattle.beside_spec.specs.Lying.{place_of, share_lying, carry}
use Rattle.beside_spec.specs.Both.{Outcome, start_call, step_lines, left_of, step_done, step_call}
use Rattle.beside_spec.specs.BothCalls.{store_lines}
use Rattle.beside_spec.specs.Acting.{start, step}
use Rattle.ledger_spec.specs.Ledger.{Book, Repairing, during, going, ended, goes_on, book_record, Tells}
use Rattle.ledger_spec.specs.Ledger.{book_lines, carried_by, packets_after, Altered, Unaltered, enter}
use Rattle.beside_spec.specs.Acting.{act}
use Rattle.ledger_spec.specs.Ledger.{accept, replied}
use Rattle.beside_spec.proofs.Beside.{fresh-back, helpers-back, stand-ins-back}
use Rattle.beside_spec.proofs.Carried.{Begins, Lies, R-count, place_is, carried-on, all_lie, shares-lie}
use Rattle.store_spec.proofs.Marks.{marks-on}
use Rattle.store_spec.proofs.Packets.{EachHears, helpers-each}
use Rattle.store_spec.proofs.Records.{Repairs, repair-facts, used-fits}
use Rattle.store_spec.proofs.Seam.{AllLaws, Lengths}
use Rattle.ledger_spec.proofs.Step.{Inv, Going, Runs, lawful, facts, up, at, same_check, Good, good-both, refusal-good}
use Rattle.ledger_spec.proofs.StepRepair.{asked-same, asked-alone, repair-inv}

-- ---- packets by what the boards named hold

map_same : (f g : ℕ → ℕ → List ℕ) (i : ℕ) (js : List ℕ) → All (λ j. (k : ℕ) → f j k ≡ g j k) js
    → map {B = Packet} (λ j. record { sender = j; receiver = i; bytes = f j i }) js ≡ map {B = Packet} (λ j. record { sender = j; receiver = i; bytes = g j i }) js
map_same f g i [] h = refl
map_same f g i (j ∷ js) h =
    ap₂ {C = List Packet} (λ (x : List ℕ) (l : List Packet). record { sender = j; receiver = i; bytes = x } ∷ l) (h.0 i) (map_same f g i js h.1)

packets-same : (f g : ℕ → ℕ → List ℕ) (hs : List Hearing) → EachHears (λ i l. All (λ j. (k : ℕ) → f j k ≡ g j k) l) hs → packets_of f hs ≡ packets_of g hs
packets-same f g [] h = refl
packets-same f g (x ∷ hs) h = ap₂ {C = List Packet} (λ (a c : List Packet). a ++ c) (map_same f g x.receiver x.senders h.0) (packets-same f g hs h.1)

module _ (s : Record) (old new fresh helpers stand_ins : List ℕ) (same : All (λ j. held s new j ≡ held s old j) (helpers ++ stand_ins)) where
  helpers-same : helper_packets s new fresh helpers ≡ helper_packets s old fresh helpers
  unfolding helper_packets
  helpers-same =
      packets-same _ _ (hear_helpers s.sizes.d fresh helpers)
      (helpers-each (λ j. (k : ℕ) → helper_packet s.sizes s.points (stripe_count s) j k (held s new j) ≡ helper_packet s.sizes s.points (stripe_count s) j k (held s old j))
      s.sizes.d fresh helpers
      (all-imp (λ j. held s new j ≡ held s old j) _ (λ j e k. ap (helper_packet s.sizes s.points (stripe_count s) j k) e) helpers (all_left _ helpers stand_ins same)))

  stand-ins-same : stand_in_packets s new fresh stand_ins ≡ stand_in_packets s old fresh stand_ins
  unfolding stand_in_packets
  stand-ins-same =
      packets-same _ _ (hear_helpers (stand_ins_each s fresh) fresh stand_ins)
      (helpers-each (λ j. (k : ℕ) → stand_in_packet s.sizes s.points (stripe_count s) j k (held s new j) ≡ stand_in_packet s.sizes s.points (stripe_count s) j k (held s old j))
      (stand_ins_each s fresh) fresh stand_ins
      (all-imp (λ j. held s new j ≡ held s old j) _ (λ j e k. ap (stand_in_packet s.sizes s.points (stripe_count s) j k) e) stand_ins (all_right _ helpers stand_ins same)))

  pub repair-same : repair_packets s new fresh helpers stand_ins ≡ repair_packets s old fresh helpers stand_ins
  unfolding repair_packets partner_packets exchange_packets
  repair-same =
      ap₂ {C = List Packet} (λ (hs ts : List Packet). hs ++ (ts
      ++ packets_of (λ i m. exchange_packet s.sizes s.points (stripe_count s) (senders_of (sent_to i hs)) (contents (sent_to i hs)) m) (hear_partners fresh)))
      helpers-same stand-ins-same

-- ---- what may be altered

-- the repair that a book keeps is no part of what holds of its store
pub inv-going : (b : Book) (o : Option Repairing) (service area : List ℕ) → Inv (going b b.repairing service) area → Inv (going b o service) area
inv-going b o service area v =
    record { as_long = v.as_long; is-sound = v.is-sound; bytes = v.bytes; serving = v.serving; room = v.room; holds = v.holds }

module _ (laws : AllLaws) (b : Book) (old new : List ℕ) (v : Inv b old) (a : Altered b (book_record b) old new) where
  abbrev s : Record
  s = book_record b

  held_same : (j : ℕ) → in_service s j ≡ true → held s new j ≡ held s old j
  held_same j e =
      let f = used-fits s (facts laws b old v) in
      sym (take-take (used_len s) (part_len s) (drop (j * part_len s) new) f)
      ∙ ap (take (used_len s)) (a.in-service j (sym (up laws b old v j) ∙ e))
      ∙ take-take (used_len s) (part_len s) (drop (j * part_len s) old) f

  -- bytes of boards out of service do not matter to packets carried
  pub altered-runs : (o : Option Repairing) (packets : List ℕ) → Runs b o old packets → Runs b o new packets
  altered-runs none packets g = tt
  altered-runs (some r) packets g =
      let f = repair-facts s (length old) r.fresh r.helpers r.stand_ins g.pass in
      let e = repair-same s old new r.fresh r.helpers r.stand_ins
      (all-imp (λ j. in_service s j ≡ true) _ held_same (r.helpers ++ r.stand_ins) (every-all (in_service s) (r.helpers ++ r.stand_ins) f.all_up)) in
      record {
        pass = ap (λ (m : ℕ). first store_order (repair_lines s m r.fresh r.helpers r.stand_ins)) a.as_long ∙ g.pass;
        some_left = g.some_left;
        within = g.within;
        lies = subst (λ (ps : List Packet). Begins packets (contents (take (carried_by b r) ps))) (sym e) g.lies;
      }

-- ---- start

module _ (laws : AllLaws) (b : Book) (area : List ℕ) (v : Inv b area) (packets : List ℕ) (g : Runs b b.repairing area packets) (p : Running) (tells : Tells b.sizes b.repairing p) where
  pub start-good : (fresh helpers stand_ins : List ℕ)
      → Good (packets_after packets (start fresh helpers stand_ins)) (act (at laws b area v packets g p tells) (start fresh helpers stand_ins)) (enter b (start fresh helpers stand_ins))
  unfolding act enter accept start_call book_lines
  start-good fresh helpers stand_ins =
      good-both (packets_after packets (start fresh helpers stand_ins)) _ _ _ _ _ _ (asked-same laws b area v packets g p tells fresh helpers stand_ins)
      (λ x. refusal-good laws b area v packets g p tells (packets_after packets (start fresh helpers stand_ins)) [] [] x refl)
      (λ e. let a = asked-alone laws b area v packets g p tells fresh helpers stand_ins e in
      let f = repair-facts (book_record b) (length area) fresh helpers stand_ins a.0 in
      let l = legal-facts b.sizes (facts laws b area v).is-legal in
      let T : ℕ = packet_count b.sizes (length fresh) in
      let z : T - T ≡ 0 = omega arith in
      record {
        alike = refl;
        same-record = refl;
        same-running = ap (running_by fresh helpers stand_ins) (sym z);
        inv = inv-going b _ b.service area v;
        runs = record {
          pass = a.0;
          some_left = mul-le-mul f.some-fresh (let k : 1 ≤ b.sizes.d + b.sizes.r - 1 = omega (arith, l.some_read, l.read-helpers, l.some-fresh) in k);
          within = omega arith;
          lies = ap (λ (c : ℕ). take (length (contents (take c (repair_packets (book_record b) area fresh helpers stand_ins)))) packets) z
              ∙ sym (ap (λ (c : ℕ). contents (take c (repair_packets (book_record b) area fresh helpers stand_ins))) z);
        };
      })

  -- ---- step

  step_same : (allowance : ℕ) (lent : List ℕ)
      → first store_order (step_lines (book_record b) p (length area) (length lent)) ≡ first store_order (book_lines b (step allowance lent))
  unfolding store_lines step_lines book_lines
  step_same allowance lent = same_check laws b area v packets g p tells (step allowance lent) (λ _. refl)

-- ---- a step while a repair runs

module _ (s : Record) (p : Running) (area lent : List ℕ) (allowance : ℕ) where
  -- a step by these lists, with so many packets left
  abbrev pub step_by : List ℕ → List ℕ → List ℕ → ℕ → Outcome
  step_by fresh helpers stand_ins left =
      pick (leb left allowance)
      (record {
        answer = said (Ok left);
        handed = with_marks s (turn_on fresh s.marks);
        running = idle;
        area = put_shares s (share_lying s fresh helpers stand_ins (carry s fresh helpers stand_ins area p.carried left lent)) fresh area;
        output = [];
        packets = carry s fresh helpers stand_ins area p.carried left lent;
      })
      (record {
        answer = said (Ok allowance);
        handed = s;
        running = with_carried p (p.carried + allowance);
        area = area;
        output = [];
        packets = carry s fresh helpers stand_ins area p.carried allowance lent;
      })

  pub step-by : (fresh helpers stand_ins : List ℕ) (left : ℕ)
      → fresh_of p ≡ fresh → helpers_of s.sizes p ≡ helpers → stand_ins_of s.sizes p ≡ stand_ins → left_of s p area lent ≡ left
      → step_done s p area lent allowance ≡ step_by fresh helpers stand_ins left
  step-by fresh helpers stand_ins left a c d e =
      ap (λ (x : List ℕ). step_by x (helpers_of s.sizes p) (stand_ins_of s.sizes p) (left_of s p area lent)) a
      ∙ ap (λ (x : List ℕ). step_by fresh x (stand_ins_of s.sizes p) (left_of s p area lent)) c
      ∙ ap (λ (x : List ℕ). step_by fresh helpers x (left_of s p area lent)) d
      ∙ ap (step_by fresh helpers stand_ins) e

-- the last packets: what then lies there, and what the fresh boards get, are the whole repair's
module _ (s : Record) (area fresh helpers stand_ins : List ℕ) (laws : Lengths s.points s.sizes) (f : Repairs s (length area) fresh helpers stand_ins) where
  pub last-packets : (c left : ℕ) (lent : List ℕ) → c + left ≡ packet_count s.sizes (length fresh) → Lies s area fresh helpers stand_ins (length area) laws f c lent
      → carry s fresh helpers stand_ins area c left lent ≡ contents (repair_packets s area fresh helpers stand_ins)
  last-packets c left lent e l =
      let n : c + left ≡ length (repair_packets s area fresh helpers stand_ins) = e ∙ sym (R-count s area fresh helpers stand_ins (length area) laws f) in
      all_lie s area fresh helpers stand_ins (length area) laws f (carry s fresh helpers stand_ins area c left lent)
      (subst (λ (x : ℕ). Lies s area fresh helpers stand_ins (length area) laws f x (carry s fresh helpers stand_ins area c left lent)) n
      (carried-on s area fresh helpers stand_ins (length area) laws f left c lent (omega (arith, n)) l))

  pub last-area : (c left : ℕ) (lent : List ℕ) → c + left ≡ packet_count s.sizes (length fresh) → Lies s area fresh helpers stand_ins (length area) laws f c lent
      → put_shares s (share_lying s fresh helpers stand_ins (carry s fresh helpers stand_ins area c left lent)) fresh area
      ≡ put_shares s (fresh_share s area fresh helpers stand_ins) fresh area
  last-area c left lent e l =
      ap (λ (x : List ℕ). put_shares s (share_lying s fresh helpers stand_ins x) fresh area) (last-packets c left lent e l)
      ∙ ap (λ (x : ℕ → List ℕ). put_shares s x fresh area) (fun_ext (shares-lie s area fresh helpers stand_ins (length area) laws f))

module _ (laws : AllLaws) (b : Book) (area : List ℕ) (v : Inv b area) (packets : List ℕ) (r : Repairing) (k : Going b r area packets)
    (lent : List ℕ) (long : length lent ≡ packets_len (book_record b) (length r.fresh))
    (same : take (place_of (book_record b) (length r.fresh) (carried_by b r)) lent ≡ take (place_of (book_record b) (length r.fresh) (carried_by b r)) packets) where
  abbrev rec : Record
  rec = book_record b

  abbrev run : Running
  run = running_by r.fresh r.helpers r.stand_ins (carried_by b r)

  abbrev pub rf : Repairs rec (length area) r.fresh r.helpers r.stand_ins
  rf = repair-facts rec (length area) r.fresh r.helpers r.stand_ins k.pass

  abbrev pub ls : Lengths rec.points rec.sizes
  ls = (lawful laws b area v).lengths

  pub left_is : left_of rec run area lent ≡ r.left
  left_is =
      ap (λ (x : List ℕ). packet_count b.sizes (length x) - carried_by b r) (fresh-back rec (length area) r.fresh r.helpers r.stand_ins k.pass (carried_by b r))
      ∙ (let y = k.within in omega arith)

  pub all-is : carried_by b r + r.left ≡ packet_count b.sizes (length r.fresh)
  all-is = let y = k.within in omega arith

  pub lent-lies : Lies rec area r.fresh r.helpers r.stand_ins (length area) ls rf (carried_by b r) lent
  lent-lies =
      let e = place_is rec area r.fresh r.helpers r.stand_ins (length area) ls rf (carried_by b r)
      (omega (arith, R-count rec area r.fresh r.helpers r.stand_ins (length area) ls rf, all-is)) in
      record {
        long = long;
        begins = ap (λ (m : ℕ). take m lent) (sym e) ∙ same ∙ ap (λ (m : ℕ). take m packets) e ∙ k.lies;
      }

  pub step_is : (allowance : ℕ) → step_done rec run area lent allowance ≡ step_by rec run area lent allowance r.fresh r.helpers r.stand_ins r.left
  step_is allowance =
      step-by rec run area lent allowance r.fresh r.helpers r.stand_ins r.left
      (fresh-back rec (length area) r.fresh r.helpers r.stand_ins k.pass (carried_by b r))
      (helpers-back rec (length area) r.fresh r.helpers r.stand_ins k.pass (carried_by b r))
      (stand-ins-back rec (length area) r.fresh r.helpers r.stand_ins k.pass (carried_by b r))
      left_is

  -- the packet area that a step keeps
  abbrev keeping : ℕ → Outcome → List ℕ
  keeping allowance = packets_after packets (step allowance lent)

  step-taken : (allowance : ℕ) (t : Bool) → leb r.left allowance ≡ t
      → Good (keeping allowance)
      (pick t (record {
        answer = said (Ok r.left);
        handed = with_marks rec (turn_on r.fresh rec.marks);
        running = idle;
        area = put_shares rec (share_lying rec r.fresh r.helpers r.stand_ins (carry rec r.fresh r.helpers r.stand_ins area (carried_by b r) r.left lent)) r.fresh area;
        output = [];
        packets = carry rec r.fresh r.helpers r.stand_ins area (carried_by b r) r.left lent;
      })
      (record {
        answer = said (Ok allowance);
        handed = rec;
        running = with_carried run (carried_by b r + allowance);
        area = area;
        output = [];
        packets = carry rec r.fresh r.helpers r.stand_ins area (carried_by b r) allowance lent;
      }))
      (pick t (ended b r) (goes_on b r allowance))
  step-taken allowance true e =
      record {
        alike = refl;
        same-record = ap (with_marks (book_record b)) (marks-on r.fresh b.service);
        same-running = refl;
        inv = subst (Inv (going b none (r.fresh ++ b.service)))
            (sym (last-area rec area r.fresh r.helpers r.stand_ins ls rf (carried_by b r) r.left lent all-is lent-lies))
            (inv-going b none (r.fresh ++ b.service) _ (repair-inv laws b area v r.fresh r.helpers r.stand_ins rf));
        runs = tt;
      }
  step-taken allowance false e =
      let x : allowance < r.left = omega (arith, leb-false r.left allowance e) in
      let y = k.within in
      let c : carried_by b r + allowance ≡ packet_count b.sizes (length r.fresh) - (r.left - allowance) = omega arith in
      record {
        alike = refl;
        same-record = refl;
        same-running = ap (running_by r.fresh r.helpers r.stand_ins) c;
        inv = inv-going b _ b.service area v;
        runs = record {
          pass = k.pass;
          some_left = omega arith;
          within = omega arith;
          lies = subst
              (λ (n : ℕ). Begins (carry rec r.fresh r.helpers r.stand_ins area (carried_by b r) allowance lent)
              (contents (take n (repair_packets rec area r.fresh r.helpers r.stand_ins))))
              c
              (carried-on rec area r.fresh r.helpers r.stand_ins (length area) ls rf allowance (carried_by b r) lent
              (omega (arith, R-count rec area r.fresh r.helpers r.stand_ins (length area) ls rf, all-is, x)) lent-lies).begins;
        };
      }

-- ---- a step

module _ (laws : AllLaws) (b : Book) (area : List ℕ) (v : Inv b area) (packets : List ℕ) (g : Runs b b.repairing area packets) (p : Running) (tells : Tells b.sizes b.repairing p) where
  refused-keeps : (allowance : ℕ) (lent : List ℕ) (x : Refusal) → pick (eqb (number x) 0) lent packets ≡ packets
  refused-keeps allowance lent x = ap (λ (t : Bool). pick t lent packets) (ne_eqb (number x) 0 (λ e. omega (arith, e, number-low x)))

  step-done : (allowance : ℕ) (lent : List ℕ) (o : Option Repairing) → Runs b o area packets → Tells b.sizes o p
      → ((r : Repairing) → o ≡ some r → length lent ≡ packets_len (book_record b) (length r.fresh)
      → take (place_of (book_record b) (length r.fresh) (carried_by b r)) lent ≡ take (place_of (book_record b) (length r.fresh) (carried_by b r)) packets)
      → p.running ≡ true
      → pick p.running (eqb (length lent) (packets_len (book_record b) (length (fresh_of p)))) true ≡ true
      → Good (packets_after packets (step allowance lent)) (step_done (book_record b) p area lent allowance)
      (during o (replied (said (Ok 0)) [] b) (λ r. pick (leb r.left allowance) (ended b r) (goes_on b r allowance)))
  step-done allowance lent none h is u q l = absurd (true-false q is)
  step-done allowance lent (some r) h is u q l =
      let long : length lent ≡ packets_len (book_record b) (length r.fresh) =
      eqb-true _ _ (ap (λ (x : Running). pick x.running (eqb (length lent) (packets_len (book_record b) (length (fresh_of x)))) true) (sym is) ∙ l)
      ∙ ap (λ (x : List ℕ). packets_len (book_record b) (length x)) (fresh-back (book_record b) (length area) r.fresh r.helpers r.stand_ins h.pass (carried_by b r)) in
      let same = u r refl long in
      subst
      (λ (x : Outcome). Good (packets_after packets (step allowance lent)) x (pick (leb r.left allowance) (ended b r) (goes_on b r allowance)))
      (sym (ap (λ (x : Running). step_done (book_record b) x area lent allowance) is ∙ step_is laws b area v packets r h lent long same allowance))
      (step-taken laws b area v packets r h lent long same allowance (leb r.left allowance) refl)

  pub step-good : (allowance : ℕ) (lent : List ℕ) → Unaltered b packets lent
      → Good (packets_after packets (step allowance lent)) (act (at laws b area v packets g p tells) (step allowance lent)) (enter b (step allowance lent))
  unfolding act enter accept step_call step_lines
  step-good allowance lent u =
      good-both (packets_after packets (step allowance lent)) _ _ _ _ _ _ (step_same laws b area v packets g p tells allowance lent)
      (λ x. refusal-good laws b area v packets g p tells (packets_after packets (step allowance lent)) [] lent x (refused-keeps allowance lent x))
      (λ e. let off = clear-off (step_lines (book_record b) p (length area) (length lent)) store_order e in
      let two : List Bool = eqb (length area) (area_len (book_record b)) ∷ pick p.running (eqb (length lent) (packets_len (book_record b) (length (fresh_of p)))) true ∷ [] in
      step-done allowance lent b.repairing g tells u (not-no _ (off Idle refl)) (alls-hold two (not-no _ (off Area refl))).1.0)
