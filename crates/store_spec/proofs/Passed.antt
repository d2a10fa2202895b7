-- A call by its lines: where none holds it does its work, and one that answers no refusal has passed them; and a set-up.
-- Assumes nothing.
use Prim.Native.Nat.{ℕ, ◌≤◌, zero, suc}
use mathlib.Core.Path.{◌≡◌, refl, ap}
use mathlib.Core.Bool.{true, false, not}
use mathlib.Core.List.{List, [], ◌∷◌}
use native.Mathlib.Omega.{arith}
use Rattle.sizes.specs.Refusals.{first, store_order, Check}
use Rattle.sizes.specs.Sizing.{max_boards, legal, max_stripes}
use Rattle.std.specs.Prelude.{Ok, Err}
use Rattle.sizes.specs.declared.Refusal.{Refusal}
use Rattle.sizes.proofs.Orders.{◌also◌, clear-off, off-pass}
use Rattle.store_spec.specs.Calls.{settle, record_line, StoreOutcome, accepted, refused, set_up_call}
use Rattle.store_spec.specs.Record.{sound, Record, all_off, new_record}
use Rattle.store_spec.proofs.Marks.{off-from, off-none}
use Rattle.store_spec.proofs.Records.{facts-sound}
use lib.ListN.{replicate}
use Rattle.lists.proofs.Tests.{not-no}
use Rattle.sizes.specs.declared.Refusal.TheVariants.{Size}
use Rattle.sizes.specs.declared.Sizes.{Sizes}
use Rattle.sizes.proofs.Laws.{number-low}
use Rattle.mbcr.specs.Share.{pointed}

pub settle-pass : {A : Type 0} (c : Check) (refuse : Refusal → A) (go : A) → c ≡ Ok tt → settle c refuse go ≡ go
settle-pass c refuse go e = ap (λ (x : Check). settle x refuse go) e

-- a call that answers no refusal has passed its lines
pub passes : (c : Check) (s : Record) (area output : List ℕ) (done : StoreOutcome) → (settle c (refused s area output) done).answer.refusal ≡ 0 → c ≡ Ok tt
passes (Ok tt) s area output done e = refl
passes (Err x) s area output done e = absurd (omega (arith, number-low x))

pub set-up-sound : (old : Record) (z : Sizes) (xs : List ℕ) (c : ℕ) → (set_up_call old z xs c).answer.refusal ≡ 0 → sound (new_record z xs c) ≡ true
unfolding set_up_call
set-up-sound old z xs c h =
    not-no _ (clear-off (record_line (new_record z xs c) ∷ []) store_order
    (passes (first store_order (record_line (new_record z xs c) ∷ [])) old [] [] (accepted 0 (new_record z xs c) [] []) h) Size refl)

all-off : (m : ℕ) → all_off (replicate m false) ≡ true
all-off zero = refl
all-off (suc m) = all-off m

pub new-sound : (z : Sizes) (xs : List ℕ) (c : ℕ) → legal z ≡ true → pointed z xs ≡ true → 1 ≤ c → c ≤ max_stripes → sound (new_record z xs c) ≡ true
new-sound z xs c l p a b =
    facts-sound (new_record z xs c) (record {
      is-legal = l;
      is-pointed = p;
      cap-low = a;
      cap-high = b;
      fits = omega arith;
      beyond = off-from z.n (replicate max_boards false) (λ i e. absurd (off-none (replicate max_boards false) i (all-off max_boards) e));
      blank = refl;
    })

pub new-pass : (z : Sizes) (xs : List ℕ) (c : ℕ) → legal z ≡ true → pointed z xs ≡ true → 1 ≤ c → c ≤ max_stripes
    → first store_order (record_line (new_record z xs c) ∷ []) ≡ Ok tt
new-pass z xs c l p a b =
    off-pass (record_line (new_record z xs c) ∷ []) store_order (ap not (new-sound z xs c l p a b) also tt)

pub set-up-taken : (old : Record) (z : Sizes) (xs : List ℕ) (c : ℕ) → legal z ≡ true → pointed z xs ≡ true → 1 ≤ c → c ≤ max_stripes
    → (set_up_call old z xs c).answer.refusal ≡ 0
unfolding set_up_call
set-up-taken old z xs c l p a b = ap (λ (o : StoreOutcome). o.answer.refusal) (settle-pass _ _ _ (new-pass z xs c l p a b))
