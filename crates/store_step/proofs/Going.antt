-- What a step that passed its checks tells, and what its work comes to.
-- Assumes nothing.
use Prim.Native.Nat.{ℕ, ◌+◌, ◌-◌, ◌*◌, ◌≤◌, ◌<◌}
use mathlib.Core.Path.{◌≡◌, refl, sym, ap, ap₂, ◌∙◌}
use mathlib.Core.Bool.{Bool, true, not}
use mathlib.Core.List.{List, [], ◌∷◌}
use native.Mathlib.Omega.{arith}
use lib.Dec.{eqb}
use lib.ListN.{length, take}
use borrow.Author.Tests.{eqb-true, le-leb, lt-leb}
use Rattle.lists.specs.Tests.{pick}
use lib.Seq.{length-take-le}
use Rattle.lists.proofs.Tests.{alls-hold, not-no}
use Rattle.sizes.specs.declared.Sizes.{Sizes}
use Rattle.std.specs.Prelude.{Ok}
use Rattle.sizes.specs.declared.Refusal.TheVariants.{Size, Area, Empty, Idle}
use Rattle.sizes.specs.Refusals.{first, store_order, said}
use Rattle.sizes.proofs.Orders.{clear-off}
use Rattle.store_spec.specs.Record.{Record, sound, area_len, with_marks, turn_on, put_shares}
use Rattle.beside_spec.specs.Running.{Running, idle, with_carried, fresh_of, helpers_of, stand_ins_of, packet_count, packets_len, sound_beside}
use Rattle.beside_spec.specs.Lying.{share_lying, carry}
use Rattle.beside_spec.specs.Both.{Outcome, step_lines, left_of, carried_on, step_last, step_on, step_done}
use Rattle.store_spec.proofs.Records.{sound-facts, repair-facts}
use Rattle.beside_spec.proofs.Beside.{both_facts, sound-beside, lists-taken}
use Rattle.step_laws.specs.Steps.{Listed}
use Rattle.step_laws.proofs.Facts as laws
use Rattle.running_lists.proofs.Lists.{count-few, fit-fresh, fit-helpers, fit-stand-ins}
use Rattle.store_step.specs.Steps.{Going, Listing}

-- ---- past the checks

-- the lists of a repair that runs at the beginning of these arrays
pub record Lists (s : Record) (p : Running) (area packets F H I : List ℕ) : Type 0 where
  pub few : p.count ≤ s.sizes.r
  pub fresh-fit : p.count ≤ 32
  pub helpers-fit : p.count * s.sizes.d ≤ 256
  pub stand-ins-fit : p.count * (s.sizes.r - p.count) ≤ 256
  pub fresh-long : length F ≡ 32
  pub helpers-long : length H ≡ 256
  pub stand-ins-long : length I ≡ 256
  pub is-going : Going s (take p.count F) (take (p.count * s.sizes.d) H) (take (p.count * (s.sizes.r - p.count)) I) area packets
  pub is-listing : Listing s p (take p.count F) (take (p.count * s.sizes.d) H) (take (p.count * (s.sizes.r - p.count)) I)

module _ (s : Record) (p : Running) (area packets : List ℕ) (pass : first store_order (step_lines s p (length area) (length packets)) ≡ Ok tt) where
  -- the tests of SIZE and of AREA
  sizes-hold : (sound s ≡ true) × (sound_beside s p ≡ true)
  unfolding step_lines
  sizes-hold = both_facts s p (clear-off (step_lines s p (length area) (length packets)) store_order pass Size refl)

  on : p.running ≡ true
  unfolding step_lines
  on = not-no _ (clear-off (step_lines s p (length area) (length packets)) store_order pass Idle refl)

  areas-hold : (eqb (length area) (area_len s) ≡ true) × (pick p.running (eqb (length packets) (packets_len s (length (fresh_of p)))) true ≡ true)
  unfolding step_lines
  areas-hold =
      let e =
      alls-hold (eqb (length area) (area_len s) ∷ pick p.running (eqb (length packets) (packets_len s (length (fresh_of p)))) true ∷ [])
      (not-no _ (clear-off (step_lines s p (length area) (length packets)) store_order pass Area refl)) in
      (e.0, e.1.0)

  is-written : s.written ≡ true
  unfolding step_lines
  is-written = not-no _ (clear-off (step_lines s p (length area) (length packets)) store_order pass Empty refl)

  -- the lists
  count_most : length p.fresh ≡ 32 → p.count ≤ s.sizes.r
  count_most long = count-few s p (sound-facts s sizes-hold.0).is-legal long sizes-hold.1 on

  t-is : length p.fresh ≡ 32 → length (fresh_of p) ≡ p.count
  t-is long =
      let h = fit-fresh s.sizes p.count (sound-facts s sizes-hold.0).is-legal (count_most long) in
      length-take-le p.count p.fresh (omega (arith, h, long))

  listed : Listed s.sizes (fresh_of p) (helpers_of s.sizes p) (stand_ins_of s.sizes p)
  listed =
      let l = (sound-beside s p sizes-hold.1 on).0 in
      let F = fresh_of p in
      let H = helpers_of s.sizes p in
      let I = stand_ins_of s.sizes p in
      laws.listed s (length area) F H I
      (repair-facts s (length area) F H I (lists-taken s (length area) F H I sizes-hold.0 (ap not areas-hold.0) is-written l))

  going : Going s (fresh_of p) (helpers_of s.sizes p) (stand_ins_of s.sizes p) area packets
  going =
      let packets-fit : pick true (eqb (length packets) (packets_len s (length (fresh_of p)))) true ≡ true =
      ap (λ (r : Bool). pick r (eqb (length packets) (packets_len s (length (fresh_of p)))) true) (sym on) ∙ areas-hold.1 in
      record {
        is-sound = sizes-hold.0;
        listed = listed;
        area-is = eqb-true _ _ areas-hold.0;
        packets-are = eqb-true _ _ packets-fit;
      }

  listing : Listing s p (fresh_of p) (helpers_of s.sizes p) (stand_ins_of s.sizes p)
  listing = record { runs = on; fresh-are = refl; helpers-are = refl; stand-ins-are = refl; some_left = (sound-beside s p sizes-hold.1 on).1 }

  -- the same of lists that are taken out of these arrays by the record's count
  pub lists_of : (F H I : List ℕ) → F ≡ p.fresh → H ≡ p.helpers → I ≡ p.stand_ins → length p.fresh ≡ 32 → length p.helpers ≡ 256
      → length p.stand_ins ≡ 256 → Lists s p area packets F H I
  lists_of F H I ef eh ei lf lh li =
      let t : ℕ = p.count in
      let z : Sizes = s.sizes in
      let legal = (sound-facts s sizes-hold.0).is-legal in
      let fresh-are : take t F ≡ fresh_of p = ap (take t) ef in
      let helpers-are : take (t * z.d) H ≡ helpers_of z p = ap₂ (λ (m : ℕ) (l : List ℕ). take (m * z.d) l) (sym (t-is lf)) eh in
      let stand-ins-are : take (t * (z.r - t)) I ≡ stand_ins_of z p = ap₂ (λ (m : ℕ) (l : List ℕ). take (m * (z.r - m)) l) (sym (t-is lf)) ei in
      record {
        few = count_most lf;
        fresh-fit = fit-fresh z t legal (count_most lf);
        helpers-fit = fit-helpers z t legal (count_most lf);
        stand-ins-fit = fit-stand-ins z t legal (count_most lf);
        fresh-long = ap length ef ∙ lf;
        helpers-long = ap length eh ∙ lh;
        stand-ins-long = ap length ei ∙ li;
        is-going = rw (fresh-are, helpers-are, stand-ins-are) going;
        is-listing = record {
          runs = on;
          fresh-are = fresh-are;
          helpers-are = helpers-are;
          stand-ins-are = stand-ins-are;
          some_left = rw fresh-are listing.some_left;
        };
      }

-- ---- the work

-- packets carried leave the rest as it was
pub still-going : (s : Record) (fresh helpers stand_ins area packets after : List ℕ) → Going s fresh helpers stand_ins area packets → length after ≡ length packets
    → Going s fresh helpers stand_ins area after
still-going s fresh helpers stand_ins area packets after g e =
    record { is-sound = g.is-sound; listed = g.listed; area-is = g.area-is; packets-are = e ∙ g.packets-are }

-- what a step hands on, by its parts
abbrev leaves : ℕ → Record → Running → List ℕ → List ℕ → Outcome
leaves m s p area packets = record { answer = said (Ok m); handed = s; running = p; area = area; output = []; packets = packets }

module _ (s : Record) (p : Running) (area packets : List ℕ) (allowance : ℕ) (fresh helpers stand_ins : List ℕ) (l : Listing s p fresh helpers stand_ins) where
  -- packets that are left
  abbrev pub left : ℕ
  left = packet_count s.sizes (length fresh) - p.carried

  left_is : left ≡ left_of s p area packets
  left_is = ap (λ (f : List ℕ). packet_count s.sizes (length f) - p.carried) l.fresh-are

  carried-is : (m : ℕ) → carry s fresh helpers stand_ins area p.carried m packets ≡ carried_on s p area packets m
  carried-is m =
      ap (λ (f : List ℕ). carry s f helpers stand_ins area p.carried m packets) l.fresh-are
      ∙ ap (λ (h : List ℕ). carry s (fresh_of p) h stand_ins area p.carried m packets) l.helpers-are
      ∙ ap (λ (i : List ℕ). carry s (fresh_of p) (helpers_of s.sizes p) i area p.carried m packets) l.stand-ins-are

  -- a step that leaves some
  pub goes-on : (after : List ℕ) → allowance < left → after ≡ carry s fresh helpers stand_ins area p.carried allowance packets
      → leaves allowance s (with_carried p (p.carried + allowance)) area after ≡ step_done s p area packets allowance
  goes-on after h e =
      ap (leaves allowance s (with_carried p (p.carried + allowance)) area) (e ∙ carried-is allowance)
      ∙ sym (ap (λ (t : Bool). pick t (step_last s p area packets) (step_on s p area packets allowance)) (lt-leb (left_of s p area packets) allowance (omega (arith, h, left_is))))

  -- the last
  shares-are : (lying : List ℕ) → put_shares s (share_lying s fresh helpers stand_ins lying) fresh area
      ≡ put_shares s (share_lying s (fresh_of p) (helpers_of s.sizes p) (stand_ins_of s.sizes p) lying) (fresh_of p) area
  shares-are lying =
      ap (λ (f : List ℕ). put_shares s (share_lying s f helpers stand_ins lying) f area) l.fresh-are
      ∙ ap (λ (h : List ℕ). put_shares s (share_lying s (fresh_of p) h stand_ins lying) (fresh_of p) area) l.helpers-are
      ∙ ap (λ (i : List ℕ). put_shares s (share_lying s (fresh_of p) (helpers_of s.sizes p) i lying) (fresh_of p) area) l.stand-ins-are

  pub finishes : (next : Record) (q : Running) (done after : List ℕ) → left ≤ allowance → after ≡ carry s fresh helpers stand_ins area p.carried left packets
      → done ≡ put_shares s (share_lying s fresh helpers stand_ins after) fresh area → next ≡ with_marks s (turn_on fresh s.marks) → q ≡ idle
      → leaves left next q done after ≡ step_done s p area packets allowance
  finishes next q done after h ea ed en eq =
      let lies : after ≡ carried_on s p area packets (left_of s p area packets) = ea ∙ carried-is left ∙ ap (carried_on s p area packets) left_is in
      let holds : done ≡ (step_last s p area packets).area =
      ed ∙ shares-are after
      ∙ ap (λ (x : List ℕ). put_shares s (share_lying s (fresh_of p) (helpers_of s.sizes p) (stand_ins_of s.sizes p) x) (fresh_of p) area) lies in
      let marked : next ≡ (step_last s p area packets).handed = en ∙ ap (λ (f : List ℕ). with_marks s (turn_on f s.marks)) l.fresh-are in
      ap (λ (m : ℕ). leaves m next q done after) left_is
      ∙ ap₂ (λ (r : Record) (k : Running). leaves (left_of s p area packets) r k done after) marked eq
      ∙ ap₂ (leaves (left_of s p area packets) (step_last s p area packets).handed idle) holds lies
      ∙ sym (ap (λ (t : Bool). pick t (step_last s p area packets) (step_on s p area packets allowance)) (le-leb (left_of s p area packets) allowance (omega (arith, h, left_is))))
