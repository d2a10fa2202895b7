-- Calls with both records: where none of their lines holds, none of the call alone does; and the lists of a running record are those it was started with.
-- Assumes nothing.
use Prim.Native.Nat.{ℕ, ◌-◌, ◌*◌, ◌≤◌, ◌<◌}
use mathlib.Core.Path.{◌≡◌, refl, sym, ◌∙◌, ap}
use mathlib.Core.Bool.{Bool, true, false, not}
use mathlib.Core.List.{List, [], ◌∷◌}
use native.Mathlib.Omega.{arith}
use native.Mathlib.Nat.{mul-le-mul_left, le_trans}
use lib.Dec.{leb, ltb, eqb}
use lib.ListN.{length, take, get_or, drop}
use borrow.Author.Tests.{leb-true, lt-ltb, ltb-true, eqb-true}
use Rattle.lists.specs.Lists.{tabulate, fit}
use Rattle.lists.specs.Tests.{pick, every, alls}
use Rattle.lists.proofs.Alls.{all-at}
use Rattle.lists.proofs.Pieces.{tabulate-at, length-tabulate, take-fit}
use Rattle.lists.proofs.Tests.{alls-hold, hold-alls, not-no, every-all, true-false}
use Rattle.sizes.specs.Refusals.{Line, ◌when◌, applies_in, first, store_order, number, said, Check}
use Rattle.std.specs.Prelude.{Ok, Err}
use Rattle.sizes.specs.declared.Refusal.{Refusal}
use Rattle.sizes.specs.declared.Refusal.TheVariants.{Size, Count, Node, Repeat, Serving, Down, Busy}
use Rattle.sizes.proofs.Legal.{Legal, legal-facts}
use Rattle.sizes.proofs.Laws.{numbers-differ, number-low}
use Rattle.sizes.proofs.Orders.{◌also◌, clear-off, off-pass, pass-too}
use Rattle.store_spec.specs.Record.{Record, sound, area_len, new_record}
use Rattle.store_spec.specs.Calls.{record_line, list_lines, repair_lines, settle, StoreOutcome, accepted, refused, repair_call, repair_done}
use Rattle.beside_spec.specs.Running.{Running, running_by, fresh_of, helpers_of, stand_ins_of, packet_count, passed, sound_beside, idle}
use Rattle.beside_spec.specs.Both.{both_line, Outcome, beside, repair_lines_both, repair_both, set_up_both}
use Rattle.store_spec.proofs.Records.{Repairs, repair-facts, sound-facts}
use Rattle.sizes.specs.Sizing.{legal, max_stripes}
use Rattle.sizes.specs.declared.Sizes.{Sizes}
use Rattle.mbcr.specs.Share.{pointed}
use Rattle.store_spec.specs.RepairLaws.{Repaired}
use Rattle.store_spec.proofs.Passed.{settle-pass, new-pass}
use Rattle.store_spec.proofs.RepairLaws.{accepted-repair}

-- where a call passes, it passes with another test of SIZE that does not hold
other-size : (t u : Bool) (rest : List Line) → u ≡ false → first store_order (Size when t ∷ rest) ≡ Ok tt → first store_order (Size when u ∷ rest) ≡ Ok tt
other-size t u rest e h = pass-too (Size when t ∷ rest) (Size when u ∷ rest) store_order (λ x. go x (eqb (number Size) (number x))) h
  where
    go : (x : Refusal) (a : Bool) → pick a t (applies_in rest x) ≡ false → pick a u (applies_in rest x) ≡ false
    go x true k = e
    go x false k = k

module _ (s : Record) (p : Running) where
  -- SIZE, by both records
  pub both_facts : (both_line s p).applies ≡ false → (sound s ≡ true) × (sound_beside s p ≡ true)
  both_facts e = let h = alls-hold (sound s ∷ sound_beside s p ∷ []) (not-no _ e) in (h.0, h.1.0)

  pub alone : (rest : List Line) → first store_order (both_line s p ∷ rest) ≡ Ok tt → first store_order (record_line s ∷ rest) ≡ Ok tt
  alone rest h = other-size (both_line s p).applies (record_line s).applies rest (ap not (both_facts (clear-off (both_line s p ∷ rest) store_order h Size refl)).0) h

  -- and the other way
  pub both-pass : (rest : List Line) → not (alls (sound s ∷ sound_beside s p ∷ [])) ≡ false → first store_order (record_line s ∷ rest) ≡ Ok tt
      → first store_order (both_line s p ∷ rest) ≡ Ok tt
  both-pass rest e h = other-size (record_line s).applies (both_line s p).applies rest e h

  pub alone-busy : (t : Bool) (rest : List Line) → applies_in rest Busy ≡ false → first store_order (both_line s p ∷ (Busy when t ∷ rest)) ≡ Ok tt
      → (first store_order (record_line s ∷ rest) ≡ Ok tt) × (t ≡ false)
  alone-busy t rest n h =
      let off = clear-off (both_line s p ∷ (Busy when t ∷ rest)) store_order h in (
        alone rest (pass-too (both_line s p ∷ (Busy when t ∷ rest)) (both_line s p ∷ rest) store_order
            (λ x. without-busy x (eqb (number Size) (number x)) (eqb (number Busy) (number x)) refl) h),
        off Busy refl,
      )
    where
      without-busy : (x : Refusal) (a c : Bool) → eqb (number Busy) (number x) ≡ c
          → pick a (both_line s p).applies (pick c t (applies_in rest x)) ≡ false → pick a (both_line s p).applies (applies_in rest x) ≡ false
      without-busy x true c e k = k
      without-busy x false true e k = ap (applies_in rest) (sym (numbers-differ Busy x (eqb-true _ _ e))) ∙ n
      without-busy x false false e k = k

-- ---- how many boards a repair names

most-test : every (λ r. leb (r * (32 - r)) 256) (tabulate 32 (λ r. r)) ≡ true
most-test = refl

most : (r : ℕ) → r < 32 → r * (32 - r) ≤ 256
most r h =
    let rs : List ℕ = tabulate 32 (λ r. r) in
    let e : get_or rs r 0 ≡ r = tabulate-at 32 (λ r. r) 0 r h in
    let t : leb (get_or rs r 0 * (32 - get_or rs r 0)) 256 ≡ true =
    all-at (λ r. leb (r * (32 - r)) 256 ≡ true) 0 rs (every-all (λ r. leb (r * (32 - r)) 256) rs most-test) r (rw length-tabulate h) in
    leb-true (r * (32 - r)) 256 (rw e at t)

few : (t c : ℕ) → t < 32 → c ≤ 32 - t → t * c ≤ 256
few t c h k = le_trans (mul-le-mul_left t k) (most t h)

-- the two tests of a running record
abbrev beside_tests : Record → Running → List Bool
beside_tests s p =
    passed (first store_order (list_lines s (fresh_of p) (helpers_of s.sizes p) (stand_ins_of s.sizes p)))
    ∷ ltb p.carried (packet_count s.sizes (length (fresh_of p)))
    ∷ []

module _ (s : Record) (m : ℕ) (fresh helpers stand_ins : List ℕ) (pass : first store_order (repair_lines s m fresh helpers stand_ins) ≡ Ok tt) where
  f : Repairs s m fresh helpers stand_ins
  f = repair-facts s m fresh helpers stand_ins pass

  l : Legal s.sizes
  l = legal-facts s.sizes (sound-facts s f.is-sound).is-legal

  few-fresh : length fresh < 32
  few-fresh = omega (arith, f.few-fresh, l.enough, l.few, l.some_read, l.read-helpers)

  pub fresh-back : (c : ℕ) → fresh_of (running_by fresh helpers stand_ins c) ≡ fresh
  fresh-back c = take-fit 32 fresh (omega (arith, few-fresh))

  pub helpers-back : (c : ℕ) → helpers_of s.sizes (running_by fresh helpers stand_ins c) ≡ helpers
  helpers-back c =
      let few-helpers : length fresh * s.sizes.d ≤ 256 = few (length fresh) s.sizes.d few-fresh (omega (arith, f.few-fresh, l.enough, l.few)) in
      ap (λ (x : List ℕ). take (length x * s.sizes.d) (fit 256 helpers)) (fresh-back c)
      ∙ ap (λ (x : ℕ). take x (fit 256 helpers)) (sym f.helper-count) ∙ take-fit 256 helpers (omega (arith, few-helpers, f.helper-count))

  pub stand-ins-back : (c : ℕ) → stand_ins_of s.sizes (running_by fresh helpers stand_ins c) ≡ stand_ins
  stand-ins-back c =
      let few-stand-ins : length fresh * (s.sizes.r - length fresh) ≤ 256 =
      few (length fresh) (s.sizes.r - length fresh) few-fresh (omega (arith, f.few-fresh, l.enough, l.few)) in
      ap (λ (x : List ℕ). take (length x * (s.sizes.r - length x)) (fit 256 stand_ins)) (fresh-back c)
      ∙ ap (λ (x : ℕ). take x (fit 256 stand_ins)) (sym f.stand-in-count) ∙ take-fit 256 stand_ins (omega (arith, few-stand-ins, f.stand-in-count))

  pub lists-pass : first store_order (list_lines s fresh helpers stand_ins) ≡ Ok tt
  unfolding repair_lines list_lines
  lists-pass =
      let off = clear-off (repair_lines s m fresh helpers stand_ins) store_order pass in
      off-pass (list_lines s fresh helpers stand_ins) store_order
      (off Count refl also off Node refl also off Repeat refl also off Serving refl also off Down refl also tt)

  -- a running record by lists that a start would take, and with packets left
  pub beside-sound : (c : ℕ) → c < packet_count s.sizes (length fresh) → sound_beside s (running_by fresh helpers stand_ins c) ≡ true
  unfolding sound_beside
  beside-sound c h =
      let p : Running = running_by fresh helpers stand_ins c in
      hold-alls (beside_tests s (running_by fresh helpers stand_ins c)) (
        ap (λ (x : List ℕ). passed (first store_order (list_lines s x (helpers_of s.sizes p) (stand_ins_of s.sizes p)))) (fresh-back c)
            ∙ ap (λ (x : List ℕ). passed (first store_order (list_lines s fresh x (stand_ins_of s.sizes p)))) (helpers-back c)
            ∙ ap (λ (x : List ℕ). passed (first store_order (list_lines s fresh helpers x))) (stand-ins-back c)
            ∙ ap passed lists-pass,
        (ap (λ (x : List ℕ). ltb c (packet_count s.sizes (length x))) (fresh-back c) ∙ lt-ltb c (packet_count s.sizes (length fresh)) h, tt),
      )

-- and a record that is sound beside another, where it runs, has such lists
pub sound-beside : (s : Record) (p : Running) → sound_beside s p ≡ true → p.running ≡ true
    → (first store_order (list_lines s (fresh_of p) (helpers_of s.sizes p) (stand_ins_of s.sizes p)) ≡ Ok tt) × (p.carried < packet_count s.sizes (length (fresh_of p)))
unfolding sound_beside
sound-beside s p h e =
    let k : alls (beside_tests s p) ≡ true = rw e at h in
    let g = alls-hold (beside_tests s p) k in
    (has-passed (first store_order (list_lines s (fresh_of p) (helpers_of s.sizes p) (stand_ins_of s.sizes p))) g.0, ltb-true _ _ g.1.0)
  where
    has-passed : (c : Check) → passed c ≡ true → c ≡ Ok tt
    has-passed (Ok tt) e = refl
    has-passed (Err x) e = absurd (true-false e refl)

-- lists that a start would take, beside a sound record of a file and an area of its length
pub lists-taken : (s : Record) (m : ℕ) (fresh helpers stand_ins : List ℕ) → sound s ≡ true → not (eqb m (area_len s)) ≡ false → s.written ≡ true
    → first store_order (list_lines s fresh helpers stand_ins) ≡ Ok tt → first store_order (repair_lines s m fresh helpers stand_ins) ≡ Ok tt
unfolding repair_lines list_lines
lists-taken s m fresh helpers stand_ins a b c h =
    let off = clear-off (list_lines s fresh helpers stand_ins) store_order h in
    off-pass (repair_lines s m fresh helpers stand_ins) store_order
    (ap not a also b also ap not c also off Count refl also off Node refl also off Repeat refl also off Serving refl also off Down refl also tt)

-- a call with both records that answers no refusal has passed its lines
pub both-done : (c : Check) (s : Record) (p : Running) (area output packets : List ℕ) (done : Outcome)
    → (settle c (λ x. record { answer = said (Err x); handed = s; running = p; area = area; output = output; packets = packets }) done).answer.refusal ≡ 0 → c ≡ Ok tt
both-done (Ok tt) s p area output packets done e = refl
both-done (Err x) s p area output packets done e = absurd (omega (arith, number-low x))

pub accepted-both : (s : Record) (p : Running) (area fresh helpers stand_ins : List ℕ) → (repair_both s p area fresh helpers stand_ins).answer.refusal ≡ 0
    → (repair_both s p area fresh helpers stand_ins ≡ beside p (repair_call s area fresh helpers stand_ins)) × Repaired s area fresh helpers stand_ins
unfolding repair_both repair_lines_both repair_call repair_lines list_lines
accepted-both s p area fresh helpers stand_ins h =
    let q = both-done (first store_order (repair_lines_both s p (length area) fresh helpers stand_ins)) s p area [] [] (beside p (repair_done s area fresh helpers stand_ins)) h in
    let a = (alone-busy s p p.running (drop 1 (repair_lines s (length area) fresh helpers stand_ins)) refl q).0 in
    let k : settle (first store_order (repair_lines s (length area) fresh helpers stand_ins)) (refused s area []) (repair_done s area fresh helpers stand_ins)
    ≡ repair_done s area fresh helpers stand_ins = settle-pass _ _ _ a in (
      settle-pass _ _ _ q ∙ ap (beside p) (sym k),
      accepted-repair s area fresh helpers stand_ins (ap (λ (o : StoreOutcome). o.answer.refusal) k),
    )

-- ---- a set-up

module _ (old : Record) (p : Running) (z : Sizes) (xs : List ℕ) (c : ℕ) (h : (set_up_both old p z xs c).answer.refusal ≡ 0) where
  set-up-pass : first store_order (record_line (new_record z xs c) ∷ []) ≡ Ok tt
  unfolding set_up_both
  set-up-pass = both-done (first store_order (record_line (new_record z xs c) ∷ [])) old p [] [] [] (beside idle (accepted 0 (new_record z xs c) [] [])) h

  pub set-up-done : set_up_both old p z xs c ≡ beside idle (accepted 0 (new_record z xs c) [] [])
  unfolding set_up_both
  set-up-done = settle-pass _ _ _ set-up-pass

  pub set-up-both : sound (new_record z xs c) ≡ true
  set-up-both = not-no _ (clear-off (record_line (new_record z xs c) ∷ []) store_order set-up-pass Size refl)

pub both-taken : (old : Record) (p : Running) (z : Sizes) (xs : List ℕ) (c : ℕ) → legal z ≡ true → pointed z xs ≡ true → 1 ≤ c → c ≤ max_stripes
    → (set_up_both old p z xs c).answer.refusal ≡ 0
unfolding set_up_both
both-taken old p z xs c l q a b =
    ap (λ (o : Outcome). o.answer.refusal) (settle-pass _ _ _ (new-pass z xs c l q a b))
