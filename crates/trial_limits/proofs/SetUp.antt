-- What is taken, test by test; and that what is taken is of small numbers.
-- Assumes nothing.
use mathlib.Core.Path.{◌≡◌, refl, sym, ap, ◌∙◌}
use mathlib.Core.Bool.{Bool, true, false, not}
use mathlib.Core.Option.{Option, some, none}
use mathlib.Core.List.{List, [], ◌∷◌}
use Prim.Native.Nat.{ℕ, ◌*◌, ◌≤◌, ◌<◌}
use native.Mathlib.Omega.{arith}
use lib.Dec.{leb, eqb}
use lib.ListN.{length}
use borrow.Author.Tests.{eqb-true, eq-eqb, ne_eqb, le-leb}
use Rattle.lists.specs.Tests.{pick, alls}
use Rattle.lists.proofs.Tests.{is_false, not-no, alls-hold}
use Rattle.sizes.specs.declared.Sizes.{Sizes}
use Rattle.std.specs.Prelude.{Ok, Err}
use Rattle.sizes.specs.declared.Refusal.{Refusal}
use Rattle.sizes.specs.declared.Refusal.TheVariants.{Size}
use Rattle.sizes.specs.Sizing.{α}
use Rattle.sizes.specs.Refusals.{first, store_order, Check}
use Rattle.sizes.proofs.Legal.{legal-facts}
use Rattle.sizes.proofs.Orders.{◌also◌, clear-off, off-pass}
use Rattle.mbcr.specs.Share.{standard}
use Rattle.store_spec.specs.Record.{Record, sound, new_record, area_len}
use Rattle.store_spec.specs.Calls.{record_line, set_up_call}
use Rattle.store_spec.proofs.Records.{Sound, sound-facts}
use Rattle.beside_spec.specs.Running.{idle}
use Rattle.beside_spec.proofs.Beside.{set-up-both}
use Rattle.store_spec.proofs.Passed.{set-up-sound, set-up-taken}
use Rattle.trial_spec.specs.Trial.{Load, new_store, taken}
use Rattle.trial_spec.proofs.Laws.{trial-laws}
use Rattle.line_places.specs.Steps.{most}
use Rattle.trial_limits.specs.Steps.{set_up}

-- ---- a set-up, by its check

module _ (z : Sizes) (C : ℕ) where
  abbrev new : Record
  new = new_record z (standard z) C

  abbrev pub set_up_check : Check
  set_up_check = first store_order (record_line new ∷ [])

  pub passed-sound : set_up_check ≡ Ok tt → Sound new
  passed-sound e = sound-facts new (not-no _ (clear-off (record_line new ∷ []) store_order e Size refl))

  sound-passed : sound new ≡ true → set_up_check ≡ Ok tt
  sound-passed e = off-pass (record_line new ∷ []) store_order (ap not e also tt)

  abbrev tests : List Bool
  tests = eqb (set_up_call new z (standard z) C).answer.refusal 0 ∷ leb (area_len new) 32768 ∷ []

  pub refused_none : (x : Refusal) → set_up_check ≡ Err x → set_up z C ≡ false
  refused_none x e =
      is_false (set_up z C) (λ h.
      let s = sound-passed (set-up-sound new z (standard z) C (eqb-true _ 0 (alls-hold tests h).0)) in
      let q : ◌≡◌ {A = ℕ} 0 1 = cc in
      omega arith)

  pub passed-area : set_up_check ≡ Ok tt → leb (z.n * (C * α z)) 32768 ≡ set_up z C
  passed-area e =
      let s = passed-sound e in
      let q = eq-eqb _ 0 (set-up-taken new z (standard z) C s.is-legal s.is-pointed s.cap-low s.cap-high) in
      sym (ap (λ (t : Bool). alls (t ∷ leb (area_len new) 32768 ∷ [])) q ∙ last (leb (area_len new) 32768))
    where
      last : (t : Bool) → alls (true ∷ t ∷ []) ≡ t
      last true = refl
      last false = refl

-- ---- what is taken

-- the tests but those of the set-up
pub by-set-up : (l : Load) → l.seed ≤ 4294967295 → l.calls ≤ 4294967295 → l.length ≤ 16384 → set_up l.sizes l.capacity ≡ taken l
unfolding taken
by-set-up l s c L = rw (le-leb l.seed 4294967295 s, le-leb l.calls 4294967295 c, le-leb l.length 16384 L)

-- what is taken is of small numbers
pub record Small (l : Load) : Type 0 where
  pub n : l.sizes.n < most
  pub k : l.sizes.k < most
  pub d : l.sizes.d < most
  pub r : l.sizes.r < most
  pub capacity : l.capacity < most
  pub seed : l.seed < most
  pub length : l.length < most
  pub calls : l.calls < most

pub small : (l : Load) → taken l ≡ true → Small l
small l h =
    let t = (trial-laws.taken_is l).0 h in
    let z = l.sizes in
    let s = sound-facts _ (set-up-both (new_store l) idle z (standard z) l.capacity (t.2 (new_store l) idle)) in
    let f = legal-facts z s.is-legal in
    record {
      n = omega (arith, f.few);
      k = omega (arith, f.few, f.enough, f.read-helpers);
      d = omega (arith, f.few, f.enough);
      r = omega (arith, f.few, f.enough);
      capacity = omega (arith, s.cap-high);
      seed = omega (arith, t.0);
      length = omega (arith, t.4);
      calls = omega (arith, t.1);
    }

pub not_taken : (l : Load) → (Small l → l.seed ≤ 4294967295 → l.calls ≤ 4294967295 → l.length ≤ 16384 → ⊥) → taken l ≡ false
not_taken l f = is_false (taken l) (λ h. let t = (trial-laws.taken_is l).0 h in f (small l h) t.0 t.1 t.4)

-- ---- what the lines give in the end

abbrev pub ends : Load → List ℕ → Option Load
ends l behind = pick (alls (taken l ∷ eqb (length behind) 0 ∷ [])) (some l) none

module _ (l : Load) (behind : List ℕ) where
  pub ends-yes : taken l ≡ true → length behind ≡ 0 → ends l behind ≡ some l
  ends-yes e f = rw (e, eq-eqb (length behind) 0 f)

  pub ends-refused : taken l ≡ false → ends l behind ≡ none
  ends-refused e = rw e

  pub ends-behind : 0 < length behind → ends l behind ≡ none
  ends-behind h = by (taken l)
    where
      by : (t : Bool) → pick (alls (t ∷ eqb (length behind) 0 ∷ [])) (some l) none ≡ none
      by true = rw (ne_eqb (length behind) 0 (λ e. omega arith))
      by false = refl
