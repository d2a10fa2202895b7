-- What a method's contract says, as the trial load asks it; and beginnings of arrays.
-- Assumes nothing.
use mathlib.Core.Path.{◌≡◌, refl, sym, ap}
use mathlib.Core.Bool.{true}
use mathlib.Core.List.{List, [], ◌∷◌}
use Prim.Native.Nat.{ℕ, zero, suc, ◌+◌, ◌*◌, ◌-◌, ◌≤◌}
use native.Mathlib.Nat.{mul-le-mul}
use native.Mathlib.Omega.{arith}
use lib.Dec.{leb}
use lib.ListN.{length, take, get_or, replicate}
use lib.Seq.{length-take-le}
use borrow.Author.Tests.{leb-true}
use Rattle.lists.specs.Tests.{every}
use Rattle.lists.specs.Lists.{tabulate}
use Rattle.lists.proofs.Tests.{every-all}
use Rattle.lists.proofs.Alls.{all-at}
use Rattle.lists.proofs.Pieces.{length-tabulate, tabulate-at}
use Rattle.beside_spec.specs.Both.{Outcome, write_both, lose_both, repair_both, read_both}
use Rattle.beside_spec.specs.Acting.{Call, write, lose, repair, read, act}
use Rattle.trial_spec.specs.Trial.{left}
use Rattle.record.specs.declared.Running.{Running}
use Rattle.record.specs.Records.{running_in}
use Rattle.store.specs.declared.Store.{Store}
use Rattle.store.specs.declared.Handed.{Handed}
use Rattle.store.specs.Handing.{record_in, outcome_both}
use Rattle.trial_calls.specs.Acts.{state_in, Acts}

-- ---- calls

module _ (s : Store) (p : Running) (area : List ℕ) {h : Handed} {after : List ℕ} where
  by-outcome : (call : Call) (output : List ℕ) → outcome_both h after output [] ≡ act (state_in s p area) call → Acts (state_in s p area) call h after
  by-outcome call output e = record { answer = ap (λ (o : Outcome). o.answer) e; after = ap left e }

  pub write-acts : (file : List ℕ) → outcome_both h after [] [] ≡ write_both (record_in s) (running_in p) area file → Acts (state_in s p area) (write file) h after
  unfolding act
  write-acts file e = by-outcome (write file) [] e

  pub lose-acts : (board : ℕ) → outcome_both h after [] [] ≡ lose_both (record_in s) (running_in p) area board → Acts (state_in s p area) (lose board) h after
  unfolding act
  lose-acts board e = by-outcome (lose board) [] e

  pub repair-acts : (fresh helpers stand_ins : List ℕ) → outcome_both h after [] [] ≡ repair_both (record_in s) (running_in p) area fresh helpers stand_ins
      → Acts (state_in s p area) (repair fresh helpers stand_ins) h after
  unfolding act
  repair-acts fresh helpers stand_ins e = by-outcome (repair fresh helpers stand_ins) [] e

  pub read-acts : (boards lent output : List ℕ) → outcome_both h after output [] ≡ read_both (record_in s) (running_in p) area boards lent
      → Acts (state_in s p area) (read boards lent) h after
  unfolding act
  read-acts boards lent output e = by-outcome (read boards lent) output e

-- ---- arrays of 0

length-zeros : (m : ℕ) → length {A = ℕ} (replicate m 0) ≡ m
length-zeros zero = refl
length-zeros (suc m) = ap suc (length-zeros m)

-- the beginning of such an array
pub length_front : (n m : ℕ) → n ≤ m → n ≡ length (take n (replicate {A = ℕ} m 0))
length_front n m h = sym (length-take-le n (replicate m 0) (omega (arith, length-zeros m, h)))

pub take-zeros : (n m : ℕ) → n ≤ m → take n (replicate {A = ℕ} m 0) ≡ replicate n 0
take-zeros zero m h = refl
take-zeros (suc n) zero h = absurd (omega arith)
take-zeros (suc n) (suc m) h = ap {B = List ℕ} (λ l. 0 ∷ l) (take-zeros n m (omega arith))

-- ---- how many helpers a repair has

products : every (λ d. leb ((32 - d) * d) 256) (tabulate 33 (λ d. d)) ≡ true
products = refl

pub few-helpers : (r d : ℕ) → d + r ≤ 32 → r * d ≤ 256
few-helpers r d h =
    let ds : List ℕ = tabulate 33 (λ d. d) in
    let e : get_or ds d 0 ≡ d = tabulate-at 33 (λ d. d) 0 d (omega arith) in
    let t : leb ((32 - get_or ds d 0) * get_or ds d 0) 256 ≡ true =
    all-at (λ d. leb ((32 - d) * d) 256 ≡ true) 0 ds (every-all (λ d. leb ((32 - d) * d) 256) ds products) d (rw length-tabulate (omega arith)) in
    let m : r * d ≤ (32 - d) * d = mul-le-mul (omega arith) (omega arith) in
    omega (arith, m, leb-true ((32 - d) * d) 256 (rw e at t))
