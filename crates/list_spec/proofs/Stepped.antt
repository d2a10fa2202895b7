-- A started repair that goes on, whatever is called meanwhile: the store is as before it but for losses, and its last step is the whole repair.
-- Assumes nothing.
use Prim.Native.Nat.{ℕ, ◌+◌, ◌-◌, ◌*◌, ◌≤◌, ◌<◌}
use mathlib.Core.Path.{◌≡◌, refl, sym, ◌∙◌, ap, ap₂, subst}
use mathlib.Core.Bool.{Bool, true, false, not}
use mathlib.Core.List.{List, [], ◌∷◌, ◌++◌, append-nil, append_assoc}
use native.Mathlib.Omega.{arith}
use native.Mathlib.Nat.{mul-le-mul}
use lib.Dec.{eqb}
use lib.ListN.{length, take, drop, set}
use lib.Seq.{take-take}
use borrow.Author.Tests.{eqb-true}
use Rattle.lists.specs.Lists.{All}
use Rattle.lists.specs.Tests.{pick, among}
use Rattle.lists.proofs.Alls.{all-imp}
use Rattle.lists.proofs.Boards.{all_among, among-all, among-append-left, among-append-none}
use Rattle.lists.proofs.Tests.{true-false, every-all, all-every, alls-hold, not-no}
use Rattle.std.specs.Prelude.{Ok}
use Rattle.sizes.specs.declared.Refusal.TheVariants.{Area, Empty, Count, Node, Repeat}
use Rattle.sizes.specs.Refusals.{first, store_order}
use Rattle.sizes.proofs.Legal.{legal-facts}
use Rattle.sizes.proofs.Orders.{◌also◌, clear-off, off-pass}
use Rattle.store_spec.specs.Record.{Record, sound, in_service, with_marks, part_len, used_len, area_len}
use Rattle.store_spec.specs.Packets.{Packet, contents, helper_packets, stand_in_packets, exchange_packets, partner_packets, repair_packets}
use Rattle.store_spec.specs.Calls.{repair_lines, list_lines, accepted}
use Rattle.beside_spec.specs.Running.{Running, idle, running_by, with_carried, fresh_of, helpers_of, stand_ins_of, named_in, packet_count, packets_len}
use Rattle.beside_spec.specs.Lying.{place_of, carry}
use Rattle.beside_spec.specs.Both.{Outcome, beside, repair_lines_both, start_call, step_lines, left_of, carried_on}
use Rattle.ledger_spec.specs.Demand3.{WholeStep}
use Rattle.list_spec.specs.Stepped.{SameBoards, SamePackets, SameLent, BoardsUntouched, PacketsUntouched, IsCall, GoesOn, lost_by, lost, carried_at, carried_in, AsBefore, Power, Stepped}
use Rattle.beside_spec.specs.Acting.{start, step, State, act}
use Rattle.ledger_spec.specs.Ledger.{Event, call, power_fails, Step, lent, next, final}
use Rattle.beside_spec.proofs.Beside.{alone-busy, fresh-back, helpers-back, stand-ins-back}
use Rattle.beside_spec.proofs.Carried.{Begins, Lies, R-count, place_is, carried-on}
use Rattle.beside_spec.proofs.Beside.{both-done}
use Rattle.store_spec.proofs.Marks.{off, off-from, on_below}
use Rattle.store_spec.proofs.Real.{code-lengths}
use Rattle.store_spec.proofs.Records.{Repairs, repair-facts, Sound, sound-facts, facts-sound, used-fits}
use Rattle.store_spec.proofs.Seam.{Lengths}
use Rattle.store_spec.proofs.Passed.{settle-pass}
use Rattle.ledger_spec.proofs.StepCarry.{repair-same}
use Rattle.list_spec.proofs.Still.{Still, still}
use Rattle.store_spec.proofs.Sums.{among-append-right}
use Rattle.ledger_spec.proofs.Whole.{whole-step}

-- ---- lists that pass, with a board lost that they do not name

module _ (s : Record) (m : ℕ) (fresh helpers stand_ins : List ℕ) (pass : first store_order (repair_lines s m fresh helpers stand_ins) ≡ Ok tt)
    (board : ℕ) (out : among (fresh ++ (helpers ++ stand_ins)) board ≡ false) where
  abbrev fewer : Record
  fewer = with_marks s (set s.marks board false)

  f : Repairs s m fresh helpers stand_ins
  f = repair-facts s m fresh helpers stand_ins pass

  g : Sound s
  g = sound-facts s f.is-sound

  -- a mark that is on was on
  on-before : (i : ℕ) → in_service fewer i ≡ true → in_service s i ≡ true
  on-before i e = go (eqb board i) (sym (off s.marks board i) ∙ e)
    where
      go : (t : Bool) → pick t false (in_service s i) ≡ true → in_service s i ≡ true
      go true k = absurd (true-false k refl)
      go false k = k

  fewer-sound : sound fewer ≡ true
  fewer-sound =
      facts-sound fewer (record {
        is-legal = g.is-legal;
        is-pointed = g.is-pointed;
        cap-low = g.cap-low;
        cap-high = g.cap-high;
        fits = g.fits;
        beyond = off-from s.sizes.n (set s.marks board false) (λ i e. on_below s.sizes.n s.marks i g.beyond (on-before i e));
        blank = rw f.is-written refl;
      })

  fresh-out : All (λ i. not (in_service fewer i) ≡ true) fresh
  fresh-out =
      all-imp (λ i. not (in_service s i) ≡ true) _ (λ i e. ap not (off s.marks board i) ∙ go (eqb board i) i e) fresh (every-all (λ i. not (in_service s i)) fresh f.fresh-out)
    where
      go : (t : Bool) (i : ℕ) → not (in_service s i) ≡ true → not (pick t false (in_service s i)) ≡ true
      go true i e = refl
      go false i e = e

  named-up : All (λ i. in_service fewer i ≡ true) (helpers ++ stand_ins)
  named-up =
      among-all (λ i. in_service fewer i ≡ true) (helpers ++ stand_ins)
      (λ i e. off s.marks board i ∙ go (eqb board i) i refl e (all_among (λ i. in_service s i ≡ true) (helpers ++ stand_ins) i (every-all (in_service s) (helpers ++ stand_ins) f.all_up) e))
    where
      go : (t : Bool) (i : ℕ) → eqb board i ≡ t → among (helpers ++ stand_ins) i ≡ true → in_service s i ≡ true → pick t false (in_service s i) ≡ true
      go false i q e u = u
      go true i q e u =
          absurd (true-false (subst (λ (x : ℕ). among (fresh ++ (helpers ++ stand_ins)) x ≡ true) (sym (eqb-true board i q)) (among-append-right fresh (helpers ++ stand_ins) i e)) out)

  pub still-passes : first store_order (repair_lines fewer m fresh helpers stand_ins) ≡ Ok tt
  unfolding repair_lines list_lines
  still-passes =
      let off = clear-off (repair_lines s m fresh helpers stand_ins) store_order pass in
      off-pass (repair_lines fewer m fresh helpers stand_ins) store_order
      (ap not fewer-sound
      also off Area refl
      also off Empty refl
      also off Count refl
      also off Node refl
      also off Repeat refl
      also ap not (all-every (λ i. not (in_service fewer i)) fresh fresh-out)
      also ap not (all-every (in_service fewer) (helpers ++ stand_ins) named-up)
      also tt)

-- ---- the way from the start on

module _ (w : State) (fresh helpers stand_ins : List ℕ) where
  record Mid (v : State) (gone : List ℕ) (c : ℕ) : Type 0 where
    running-is : v.running ≡ running_by fresh helpers stand_ins c
    pass : first store_order (repair_lines v.kept (length v.area) fresh helpers stand_ins) ≡ Ok tt
    some_left : c < packet_count v.kept.sizes (length fresh)
    lies : Begins v.packets (contents (take c (repair_packets v.kept v.area fresh helpers stand_ins)))

  named_back : (v : State) (gone : List ℕ) (c : ℕ) → Mid v gone c → named_in v.kept.sizes v.running ≡ fresh ++ (helpers ++ stand_ins)
  named_back v gone c h =
      ap (named_in v.kept.sizes) h.running-is
      ∙ ap₂ {C = List ℕ} (λ (x y : List ℕ). x ++ y) (fresh-back v.kept (length v.area) fresh helpers stand_ins h.pass c)
      (ap₂ {C = List ℕ} (λ (x y : List ℕ). x ++ y) (helpers-back v.kept (length v.area) fresh helpers stand_ins h.pass c)
      (stand-ins-back v.kept (length v.area) fresh helpers stand_ins h.pass c))

  -- the area is altered, but for boards in service
  altered : (v : State) (gone : List ℕ) (c : ℕ) (t : Step) → Mid v gone c → SameBoards v.kept v.area t.area → Mid (lent v t) gone c
  altered v gone c t h a =
      let s : Record = v.kept in
      let f = repair-facts s (length v.area) fresh helpers stand_ins h.pass in
      let fits = used-fits s (sound-facts s f.is-sound) in
      let e = repair-same s v.area t.area fresh helpers stand_ins
      (all-imp (λ j. in_service s j ≡ true) _
      (λ j u. sym (take-take (used_len s) (part_len s) (drop (j * part_len s) t.area) fits) ∙ ap (take (used_len s)) (a.1 j u)
      ∙ take-take (used_len s) (part_len s) (drop (j * part_len s) v.area) fits)
      (helpers ++ stand_ins) (every-all (in_service s) (helpers ++ stand_ins) f.all_up)) in
      record {
        running-is = h.running-is;
        pass = ap (λ (m : ℕ). first store_order (repair_lines s m fresh helpers stand_ins)) a.0 ∙ h.pass;
        some_left = h.some_left;
        lies = subst (λ (ps : List Packet). Begins v.packets (contents (take c ps))) (sym e) h.lies;
      }

  -- a board that is not named is lost
  fewer-mid : (v : State) (gone : List ℕ) (c board : ℕ) → Mid v gone c → among (named_in v.kept.sizes v.running) board ≡ false
      → Mid (record { kept = with_marks v.kept (set v.kept.marks board false); running = v.running; area = v.area; packets = v.packets }) (gone ++ (board ∷ [])) c
  unfolding repair_packets helper_packets partner_packets stand_in_packets exchange_packets
  fewer-mid v gone c board h out =
      record {
        running-is = h.running-is;
        pass = still-passes v.kept (length v.area) fresh helpers stand_ins h.pass board (ap (λ (l : List ℕ). among l board) (sym (named_back v gone c h)) ∙ out);
        some_left = h.some_left;
        lies = h.lies;
      }

  -- what a step lends is as it was left
  module _ (v : State) (gone : List ℕ) (c : ℕ) (h : Mid v gone c) where
    abbrev s : Record
    s = v.kept

    abbrev known : Repairs s (length v.area) fresh helpers stand_ins
    known = repair-facts s (length v.area) fresh helpers stand_ins h.pass

    abbrev lengths-at : Lengths s.points s.sizes
    lengths-at = code-lengths s.points s.sizes (sound-facts s (repair-facts s (length v.area) fresh helpers stand_ins h.pass).is-sound).is-legal

    fresh-is : fresh_of v.running ≡ fresh
    fresh-is = ap fresh_of h.running-is ∙ fresh-back s (length v.area) fresh helpers stand_ins h.pass c

    carried-is : v.running.carried ≡ c
    carried-is = ap (λ (p : Running). p.carried) h.running-is

    lent-lies : (packets : List ℕ) → length packets ≡ packets_len s (length fresh) → SamePackets s v.running v.packets packets
        → Lies s v.area fresh helpers stand_ins (length v.area) lengths-at known c packets
    lent-lies packets long same =
        let e = place_is s v.area fresh helpers stand_ins (length v.area) lengths-at known c
        (omega (arith, R-count s v.area fresh helpers stand_ins (length v.area) lengths-at known, h.some_left)) in
        let p : place_of s (length (fresh_of v.running)) v.running.carried ≡ length (contents (take c (repair_packets s v.area fresh helpers stand_ins))) =
        ap₂ (λ (l : List ℕ) (n : ℕ). place_of s (length l) n) fresh-is carried-is ∙ e in
        record {
          long = long;
          begins =
              ap (λ (m : ℕ). take m packets) (sym p) ∙ same (long ∙ ap (λ (l : List ℕ). packets_len s (length l)) (sym fresh-is))
              ∙ ap (λ (m : ℕ). take m v.packets) p ∙ h.lies;
        }

    -- packets are carried, and not the last
    more-mid : (allowance : ℕ) (packets : List ℕ) → SamePackets s v.running v.packets packets
        → first store_order (step_lines s v.running (length v.area) (length packets)) ≡ Ok tt → allowance < left_of s v.running v.area packets
        → Mid (record { kept = s; running = with_carried v.running (v.running.carried + allowance); area = v.area; packets = carried_on s v.running v.area packets allowance })
        gone (c + allowance)
    unfolding step_lines
    more-mid allowance packets same pass x =
        let off = clear-off (step_lines s v.running (length v.area) (length packets)) store_order pass in
        let two : List Bool = eqb (length v.area) (area_len s) ∷ pick v.running.running (eqb (length packets) (packets_len s (length (fresh_of v.running)))) true ∷ [] in
        let runs : v.running.running ≡ true = ap (λ (p : Running). p.running) h.running-is in
        let l : eqb (length packets) (packets_len s (length (fresh_of v.running))) ≡ true =
        ap (λ (t : Bool). pick t (eqb (length packets) (packets_len s (length (fresh_of v.running)))) true) (sym runs) ∙ (alls-hold two (not-no _ (off Area refl))).1.0 in
        let long : length packets ≡ packets_len s (length fresh) = eqb-true _ _ l ∙ ap (λ (l : List ℕ). packets_len s (length l)) fresh-is in
        let left : left_of s v.running v.area packets ≡ packet_count s.sizes (length fresh) - c =
        ap₂ (λ (l : List ℕ) (n : ℕ). packet_count s.sizes (length l) - n) fresh-is carried-is in
        record {
          running-is = ap (λ (p : Running). with_carried p (p.carried + allowance)) h.running-is;
          pass = h.pass;
          some_left = omega (arith, left, x, h.some_left);
          lies = subst (λ (l : List ℕ). Begins l (contents (take (c + allowance) (repair_packets s v.area fresh helpers stand_ins)))) (sym (carry-is allowance packets))
              (carried-on s v.area fresh helpers stand_ins (length v.area) lengths-at known allowance c packets
              (omega (arith, R-count s v.area fresh helpers stand_ins (length v.area) lengths-at known, left, x, h.some_left)) (lent-lies packets long same)).begins;
        }
      where
        carry-is : (m : ℕ) (packets : List ℕ) → carried_on s v.running v.area packets m ≡ carry s fresh helpers stand_ins v.area c m packets
        carry-is m packets =
            ap (λ (p : Running). carried_on s p v.area packets m) h.running-is
            ∙ ap (λ (x : List ℕ). carry s x (helpers_of s.sizes (running_by fresh helpers stand_ins c)) (stand_ins_of s.sizes (running_by fresh helpers stand_ins c)) v.area c m packets)
            (fresh-back s (length v.area) fresh helpers stand_ins h.pass c)
            ∙ ap (λ (x : List ℕ). carry s fresh x (stand_ins_of s.sizes (running_by fresh helpers stand_ins c)) v.area c m packets)
            (helpers-back s (length v.area) fresh helpers stand_ins h.pass c)
            ∙ ap (λ (x : List ℕ). carry s fresh helpers x v.area c m packets) (stand-ins-back s (length v.area) fresh helpers stand_ins h.pass c)

  -- one event
  one : (v : State) (gone : List ℕ) (c : ℕ) (e : Event) → Mid v gone c → SameLent v e → IsCall e → (next v e).running.running ≡ true
      → Mid (next v e) (gone ++ lost_by v e) (c + carried_at v e)
  one v gone c e h a ic k = go (still v (ap (λ (p : Running). p.running) h.running-is) e ic k)
    where
      z : c + 0 ≡ c
      z = omega arith

      go : Still v e → Mid (next v e) (gone ++ lost_by v e) (c + carried_at v e)
      go (Still.same n l m) = rw (l, m, append-nil, z) (subst (λ (u : State). Mid u gone c) (sym n) h)
      go (Still.less board q out n l m) = rw (l, m, z) (subst (λ (u : State). Mid u (gone ++ (board ∷ [])) c) (sym n) (fewer-mid v gone c board h out))
      go (Still.more allowance packets q u x n l m) =
          rw (l, m, append-nil) (subst (λ (y : State). Mid y gone (c + allowance)) (sym n) (more-mid v gone c h allowance packets (subst (SameLent v) q a) u x))

  run : (steps : List Step) (v : State) (gone : List ℕ) (c : ℕ) → Mid v gone c → GoesOn v steps → BoardsUntouched v steps → PacketsUntouched v steps
      → Mid (final v steps) (gone ++ lost v steps) (c + carried_in v steps)
  run [] v gone c h k a q = let z : c + 0 ≡ c = omega arith in rw (append-nil, z) h
  run (t ∷ ts) v gone c h k a q =
      let n = one (lent v t) gone c t.event (altered v gone c t h a.0) (same-lent t.event q.0) k.0 k.1 in
      let r = run ts (next (lent v t) t.event) (gone ++ lost_by (lent v t) t.event) (c + carried_at (lent v t) t.event) n k.2 a.1 q.1 in
      let e1 : gone ++ lost_by (lent v t) t.event ++ lost (next (lent v t) t.event) ts ≡ gone ++ (lost_by (lent v t) t.event ++ lost (next (lent v t) t.event) ts) =
      append_assoc gone (lost_by (lent v t) t.event) (lost (next (lent v t) t.event) ts) in
      let e2 : c + carried_at (lent v t) t.event + carried_in (next (lent v t) t.event) ts ≡ c + (carried_at (lent v t) t.event + carried_in (next (lent v t) t.event) ts) = omega arith in
      subst (λ (l : List ℕ). Mid (final (next (lent v t) t.event) ts) l (c + (carried_at (lent v t) t.event + carried_in (next (lent v t) t.event) ts))) e1
      (subst (λ (n : ℕ). Mid (final (next (lent v t) t.event) ts) (gone ++ lost_by (lent v t) t.event ++ lost (next (lent v t) t.event) ts) n) e2 r)
    where
      same-lent : (e : Event) → SameLent v e → SameLent (lent v t) e
      same-lent (call (Rattle.beside_spec.specs.Acting.write file)) x = tt
      same-lent (call (Rattle.beside_spec.specs.Acting.lose board)) x = tt
      same-lent (call (Rattle.beside_spec.specs.Acting.repair f1 h1 s1)) x = tt
      same-lent (call (Rattle.beside_spec.specs.Acting.read boards output)) x = tt
      same-lent (call (Rattle.beside_spec.specs.Acting.edit offset bytes boards)) x = tt
      same-lent (call (start f1 h1 s1)) x = tt
      same-lent (call (step allowance packets)) x = x
      same-lent (call (Rattle.beside_spec.specs.Acting.careful boards output)) x = tt
      same-lent (call (Rattle.beside_spec.specs.Acting.move board point hs ps)) x = tt
      same-lent (power_fails q) x = tt

  -- just after the start
  begins : (act w (start fresh helpers stand_ins)).answer.refusal ≡ 0 → Mid (next w (call (start fresh helpers stand_ins))) [] 0
  unfolding act start_call repair_lines_both repair_lines list_lines
  begins ok =
      let q = both-done (first store_order (repair_lines_both w.kept w.running (length w.area) fresh helpers stand_ins)) w.kept w.running w.area [] []
      (beside (running_by fresh helpers stand_ins 0) (accepted 0 w.kept w.area [])) ok in
      let pass = (alone-busy w.kept w.running w.running.running (drop 1 (repair_lines w.kept (length w.area) fresh helpers stand_ins)) refl q).0 in
      let f = repair-facts w.kept (length w.area) fresh helpers stand_ins pass in
      let l = legal-facts w.kept.sizes (sound-facts w.kept f.is-sound).is-legal in
      let e : act w (start fresh helpers stand_ins) ≡ beside (running_by fresh helpers stand_ins 0) (accepted 0 w.kept w.area []) = settle-pass _ _ _ q in
      let n : next w (call (start fresh helpers stand_ins)) ≡ record { kept = w.kept; running = running_by fresh helpers stand_ins 0; area = w.area; packets = w.packets } =
      ap (λ (o : Outcome). record { kept = o.handed; running = o.running; area = o.area; packets = w.packets }) e in
      subst (λ (u : State). Mid u [] 0) (sym n) (record {
        running-is = refl;
        pass = pass;
        some_left = mul-le-mul f.some-fresh (let k : 1 ≤ w.kept.sizes.d + w.kept.sizes.r - 1 = omega (arith, l.some_read, l.read-helpers, l.some-fresh) in k);
        lies = refl;
      })

pub stepped : Stepped
stepped w fresh helpers stand_ins steps ok k a q =
    let v : State = next w (call (start fresh helpers stand_ins)) in
    let c : ℕ = carried_in v steps in
    let z : 0 + c ≡ c = omega arith in
    let m : Mid w fresh helpers stand_ins (final v steps) (lost v steps) c =
    subst (Mid w fresh helpers stand_ins (final v steps) (lost v steps)) z (run w fresh helpers stand_ins steps v [] 0 (begins w fresh helpers stand_ins ok) k a q) in
    record {
      running-is = m.running-is;
      some_left = m.some_left;
      whole = λ now same packets long left allowance enough.
          let u : Step = record { area = now; event = power_fails idle } in
          let x = altered w fresh helpers stand_ins (final v steps) (lost v steps) c u m same in
          let e = final v steps in
          let n : Running = running_by fresh helpers stand_ins c in
          subst (λ (p : Running). WholeStep e.kept p now packets allowance fresh helpers stand_ins (packet_count e.kept.sizes (length fresh) - c)) (sym m.running-is)
          (whole-step e.kept n now packets allowance fresh helpers stand_ins (packet_count e.kept.sizes (length fresh) - c) x.pass refl
          (fresh-back e.kept (length now) fresh helpers stand_ins x.pass c) (helpers-back e.kept (length now) fresh helpers stand_ins x.pass c)
          (stand-ins-back e.kept (length now) fresh helpers stand_ins x.pass c)
          (omega (arith, m.some_left)) (omega (arith, m.some_left)) enough (lengths-at w fresh helpers stand_ins (lent e u) (lost v steps) c x)
          (lent-lies w fresh helpers stand_ins (lent e u) (lost v steps) c x packets long left));
    }

-- ---- power, whatever becomes of the packets

module _ (w : State) where
  record Way (v : State) (gone : List ℕ) (c : ℕ) : Type 0 where
    runs : v.running.running ≡ true
    before : AsBefore w v gone
    counted : v.running.carried ≡ c

  way-altered : (v : State) (gone : List ℕ) (c : ℕ) (t : Step) → Way v gone c → SameBoards v.kept v.area t.area → Way (lent v t) gone c
  way-altered v gone c t h a =
      let b = h.before in
      record {
        runs = h.runs;
        before = record { same-record = b.same-record; marks-are = b.marks-are; boards-are = λ i u. a.1 i u ∙ b.boards-are i u; power-fails = λ q. refl };
        counted = h.counted;
      }

  way-fewer : (v : State) (gone : List ℕ) (c board : ℕ) → Way v gone c
      → Way (record { kept = with_marks v.kept (set v.kept.marks board false); running = v.running; area = v.area; packets = v.packets }) (gone ++ (board ∷ [])) c
  way-fewer v gone c board h =
      let b = h.before in
      record {
        runs = h.runs;
        before = record {
          same-record = ap (λ (r : Record). with_marks r (set v.kept.marks board false)) b.same-record;
          marks-are = λ i. off v.kept.marks board i ∙ ap (pick (eqb board i) false) (b.marks-are i) ∙ both i (among gone i) refl (eqb board i) refl;
          boards-are = λ i u. b.boards-are i (was i (eqb board i) (sym (off v.kept.marks board i) ∙ u));
          power-fails = λ q. refl;
        };
        counted = h.counted;
      }
    where
      was : (i : ℕ) (t : Bool) → pick t false (in_service v.kept i) ≡ true → in_service v.kept i ≡ true
      was i true e = absurd (true-false e refl)
      was i false e = e

      never : (u : Bool) → pick u false false ≡ false
      never true = refl
      never false = refl

      both : (i : ℕ) (t : Bool) → among gone i ≡ t → (u : Bool) → eqb board i ≡ u
          → pick u false (pick t false (in_service w.kept i)) ≡ pick (among (gone ++ (board ∷ [])) i) false (in_service w.kept i)
      both i true e u q = never u ∙ ap (λ (x : Bool). pick x false (in_service w.kept i)) (sym (among-append-left gone (board ∷ []) i e))
      both i false e true q =
          ap (λ (x : Bool). pick x false (in_service w.kept i)) (sym (among-append-none gone (board ∷ []) i e ∙ ap (λ (x : Bool). pick x true false) q))
      both i false e false q =
          ap (λ (x : Bool). pick x false (in_service w.kept i)) (sym (among-append-none gone (board ∷ []) i e ∙ ap (λ (x : Bool). pick x true false) q))

  way-one : (v : State) (gone : List ℕ) (c : ℕ) (e : Event) → Way v gone c → IsCall e → (next v e).running.running ≡ true → Way (next v e) (gone ++ lost_by v e) (c + carried_at v e)
  way-one v gone c e h ic k = go (still v h.runs e ic k)
    where
      z : c + 0 ≡ c
      z = omega arith

      go : Still v e → Way (next v e) (gone ++ lost_by v e) (c + carried_at v e)
      go (Still.same n l m) = rw (l, m, append-nil, z) (subst (λ (u : State). Way u gone c) (sym n) h)
      go (Still.less board q out n l m) = rw (l, m, z) (subst (λ (u : State). Way u (gone ++ (board ∷ [])) c) (sym n) (way-fewer v gone c board h))
      go (Still.more allowance packets q u x n l m) =
          let b = h.before in
          rw (l, m, append-nil) (subst (λ (y : State). Way y gone (c + allowance)) (sym n) (record {
            runs = h.runs;
            before = record { same-record = b.same-record; marks-are = b.marks-are; boards-are = b.boards-are; power-fails = λ q. refl };
            counted = ap (λ (y : ℕ). y + allowance) h.counted;
          }))

  way : (steps : List Step) (v : State) (gone : List ℕ) (c : ℕ) → Way v gone c → GoesOn v steps → BoardsUntouched v steps
      → Way (final v steps) (gone ++ lost v steps) (c + carried_in v steps)
  way [] v gone c h k a = let z : c + 0 ≡ c = omega arith in rw (append-nil, z) h
  way (t ∷ ts) v gone c h k a =
      let n = way-one (lent v t) gone c t.event (way-altered v gone c t h a.0) k.0 k.1 in
      let r = way ts (next (lent v t) t.event) (gone ++ lost_by (lent v t) t.event) (c + carried_at (lent v t) t.event) n k.2 a.1 in
      let e1 : gone ++ lost_by (lent v t) t.event ++ lost (next (lent v t) t.event) ts ≡ gone ++ (lost_by (lent v t) t.event ++ lost (next (lent v t) t.event) ts) =
      append_assoc gone (lost_by (lent v t) t.event) (lost (next (lent v t) t.event) ts) in
      let e2 : c + carried_at (lent v t) t.event + carried_in (next (lent v t) t.event) ts ≡ c + (carried_at (lent v t) t.event + carried_in (next (lent v t) t.event) ts) = omega arith in
      subst (λ (l : List ℕ). Way (final (next (lent v t) t.event) ts) l (c + (carried_at (lent v t) t.event + carried_in (next (lent v t) t.event) ts))) e1
      (subst (λ (n : ℕ). Way (final (next (lent v t) t.event) ts) (gone ++ lost_by (lent v t) t.event ++ lost (next (lent v t) t.event) ts) n) e2 r)

  way-begins : (fresh helpers stand_ins : List ℕ) → (act w (start fresh helpers stand_ins)).answer.refusal ≡ 0 → Way (next w (call (start fresh helpers stand_ins))) [] 0
  unfolding act start_call
  way-begins fresh helpers stand_ins ok =
      let q = both-done (first store_order (repair_lines_both w.kept w.running (length w.area) fresh helpers stand_ins)) w.kept w.running w.area [] []
      (beside (running_by fresh helpers stand_ins 0) (accepted 0 w.kept w.area [])) ok in
      let e : act w (start fresh helpers stand_ins) ≡ beside (running_by fresh helpers stand_ins 0) (accepted 0 w.kept w.area []) = settle-pass _ _ _ q in
      let n : next w (call (start fresh helpers stand_ins)) ≡ record { kept = w.kept; running = running_by fresh helpers stand_ins 0; area = w.area; packets = w.packets } =
      ap (λ (o : Outcome). record { kept = o.handed; running = o.running; area = o.area; packets = w.packets }) e in
      subst (λ (u : State). Way u [] 0) (sym n) (record {
        runs = refl;
        before = record { same-record = refl; marks-are = λ i. refl; boards-are = λ i u. refl; power-fails = λ q. refl };
        counted = refl;
      })

pub power : Power
power w fresh helpers stand_ins steps ok k a =
    let v : State = next w (call (start fresh helpers stand_ins)) in
    let h = way w steps v [] 0 (way-begins w fresh helpers stand_ins ok) k a in
    record { as_before = h.before; counted = let e = h.counted in omega arith }
