-- Points that are lent, and the array made of them: where there are not 32, both are SIZE, in every call that takes points.
-- Assumes nothing.
use Prim.Native.Nat.{ℕ, ◌*◌}
use mathlib.Core.Path.{◌≡◌, refl, sym, ◌∙◌}
use mathlib.Core.Bool.{Bool, true, false, not}
use mathlib.Core.List.{List, [], ◌∷◌}
use native.Mathlib.Omega.{arith}
use lib.Dec.{eqb, leb}
use lib.ListN.{length, drop, replicate}
use borrow.Author.Tests.{eqb-false}
use Rattle.lists.specs.Tests.{pick, alls}
use Rattle.lists.proofs.Tests.{true-false}
use Rattle.sizes.specs.declared.Sizes.{Sizes}
use Rattle.sizes.specs.declared.Refusal.TheVariants.{Size}
use Rattle.std.specs.Prelude.{Err}
use Rattle.sizes.specs.Sizing.{legal, B}
use Rattle.sizes.specs.Refusals.{said}
use Rattle.sizes.proofs.Legal.{legal-facts}
use Rattle.mbcr.specs.Share.{pointed}
use Rattle.mbcr.proofs.PointLaws.{pointed-facts}
use Rattle.board_spec.specs.Calls.{BoardOutcome, share_lines, share_call, file_lines, file_call, helper_lines, helper_call}
use Rattle.board_spec.specs.Calls.{exchange_lines, exchange_call, finished_lines, finished_call, text_lines, text_call}
use Rattle.store_spec.specs.Record.{Record, new_record, all_off, sound}
use Rattle.beside_spec.specs.Running.{Running}
use Rattle.beside_spec.specs.Both.{set_up_both}
use Rattle.point_array.specs.Steps.{array_of}

-- sizes and points that SIZE refuses
abbrev Unfit : Sizes → List ℕ → Type 0
Unfit z xs = not (alls (legal z ∷ pointed z xs ∷ [])) ≡ true

unfit : (z : Sizes) (xs : List ℕ) → (legal z ≡ true → pointed z xs ≡ true → ⊥) → Unfit z xs
unfit z xs h = go (legal z) refl (pointed z xs) refl
  where
    go : (a : Bool) → legal z ≡ a → (b : Bool) → pointed z xs ≡ b → not (alls (a ∷ b ∷ [])) ≡ true
    go true p true q = absurd (h p q)
    go true p false q = refl
    go false p b q = refl

-- another number of points than 32, and 32 times 00
not-32 : (z : Sizes) (xs : List ℕ) → (length xs ≡ 32 → ⊥) → Unfit z xs
not-32 z xs h = unfit z xs (λ l p. h (pointed-facts z xs (legal-facts z l).few p).long)

all-00 : (z : Sizes) → Unfit z (replicate 32 0)
all-00 z = unfit z (replicate 32 0) (λ l p.
    let f = legal-facts z l in
    (pointed-facts z (replicate 32 0) f.few p).differ 0 1 (omega arith) (omega (arith, f.some_read, f.read-helpers, f.some-fresh, f.enough)) refl)

abbrev sized : List ℕ → BoardOutcome
sized output = record { answer = said (Err Size); output = output }

-- a call that SIZE refuses at such points is the same at the points and at their array
same-array : (z : Sizes) (xs : List ℕ) (call : List ℕ → BoardOutcome) (output : List ℕ) → ((ys : List ℕ) → Unfit z ys → call ys ≡ sized output)
    → call (array_of xs) ≡ call xs
same-array z xs call output h = go (eqb (length xs) 32) refl
  where
    go : (t : Bool) → eqb (length xs) 32 ≡ t → call (pick t xs (replicate 32 0)) ≡ call xs
    go true e = refl
    go false e = h (replicate 32 0) (all-00 z) ∙ sym (h xs (not-32 z xs (eqb-false (length xs) 32 e)))

share-sized : (z : Sizes) (ys : List ℕ) (node : ℕ) (file out : List ℕ) → Unfit z ys → share_call z ys node file out ≡ sized out
unfolding share_lines share_call
share-sized z ys node file out u = rw u refl

pub share-given : (z : Sizes) (xs : List ℕ) (node : ℕ) (file out : List ℕ) → share_call z (array_of xs) node file out ≡ share_call z xs node file out
share-given z xs node file out = same-array z xs (λ ys. share_call z ys node file out) out (λ ys u. share-sized z ys node file out u)

file-sized : (z : Sizes) (ys : List ℕ) (L : ℕ) (boards held out : List ℕ) → Unfit z ys → file_call z ys L boards held out ≡ sized out
unfolding file_lines file_call
file-sized z ys L boards held out u = rw u refl

pub file-given : (z : Sizes) (xs : List ℕ) (L : ℕ) (boards held out : List ℕ) → file_call z (array_of xs) L boards held out ≡ file_call z xs L boards held out
file-given z xs L boards held out = same-array z xs (λ ys. file_call z ys L boards held out) out (λ ys u. file-sized z ys L boards held out u)

helper-sized : (z : Sizes) (ys : List ℕ) (L helper receiver : ℕ) (held out : List ℕ) → Unfit z ys → helper_call z ys L helper receiver held out ≡ sized out
unfolding helper_lines helper_call
helper-sized z ys L helper receiver held out u = rw u refl

pub helper-given : (z : Sizes) (xs : List ℕ) (L helper receiver : ℕ) (held out : List ℕ)
    → helper_call z (array_of xs) L helper receiver held out ≡ helper_call z xs L helper receiver held out
helper-given z xs L helper receiver held out = same-array z xs (λ ys. helper_call z ys L helper receiver held out) out (λ ys u. helper-sized z ys L helper receiver held out u)

exchange-sized : (z : Sizes) (ys : List ℕ) (L board : ℕ) (helpers packets : List ℕ) (receiver : ℕ) (out : List ℕ)
    → Unfit z ys → exchange_call z ys L board helpers packets receiver out ≡ sized out
unfolding exchange_lines exchange_call
exchange-sized z ys L board helpers packets receiver out u = rw u refl

pub exchange-given : (z : Sizes) (xs : List ℕ) (L board : ℕ) (helpers packets : List ℕ) (receiver : ℕ) (out : List ℕ)
    → exchange_call z (array_of xs) L board helpers packets receiver out ≡ exchange_call z xs L board helpers packets receiver out
exchange-given z xs L board helpers packets receiver out =
    same-array z xs (λ ys. exchange_call z ys L board helpers packets receiver out) out (λ ys u. exchange-sized z ys L board helpers packets receiver out u)

finished-sized : (z : Sizes) (ys : List ℕ) (L board : ℕ) (helpers packets partners exchanges out : List ℕ)
    → Unfit z ys → finished_call z ys L board helpers packets partners exchanges out ≡ sized out
unfolding finished_lines finished_call
finished-sized z ys L board helpers packets partners exchanges out u = rw u refl

pub finished-given : (z : Sizes) (xs : List ℕ) (L board : ℕ) (helpers packets partners exchanges out : List ℕ)
    → finished_call z (array_of xs) L board helpers packets partners exchanges out ≡ finished_call z xs L board helpers packets partners exchanges out
finished-given z xs L board helpers packets partners exchanges out =
    same-array z xs (λ ys. finished_call z ys L board helpers packets partners exchanges out) out (λ ys u. finished-sized z ys L board helpers packets partners exchanges out u)

text-sized : (z : Sizes) (ys : List ℕ) (L node : ℕ) (held out : List ℕ) → Unfit z ys → text_call z ys L node held out ≡ sized out
unfolding text_lines text_call
text-sized z ys L node held out u = rw u refl

pub text-given : (z : Sizes) (xs : List ℕ) (L node : ℕ) (held out : List ℕ) → text_call z (array_of xs) L node held out ≡ text_call z xs L node held out
text-given z xs L node held out = same-array z xs (λ ys. text_call z ys L node held out) out (λ ys u. text-sized z ys L node held out u)

-- set up
unsound : (z : Sizes) (ys : List ℕ) (c : ℕ) → Unfit z ys → sound (new_record z ys c) ≡ false
unfolding sound
unsound z ys c u = go (legal z) refl (pointed z ys) refl u
  where
    tests : List Bool
    tests = leb 1 c ∷ leb c 4096 ∷ leb 0 (c * B z) ∷ all_off (drop z.n (replicate 32 false)) ∷ alls (eqb 0 0 ∷ all_off (replicate 32 false) ∷ []) ∷ []

    go : (a : Bool) → legal z ≡ a → (b : Bool) → pointed z ys ≡ b → not (alls (a ∷ b ∷ [])) ≡ true → alls (a ∷ b ∷ tests) ≡ false
    go true p true q u = absurd (true-false refl (sym u))
    go true p false q u = refl
    go false p b q u = refl

set-up-sized : (s : Record) (p : Running) (z : Sizes) (ys : List ℕ) (c : ℕ) → Unfit z ys
    → set_up_both s p z ys c ≡ record { answer = said (Err Size); handed = s; running = p; area = []; output = []; packets = [] }
unfolding set_up_both
set-up-sized s p z ys c u = rw (unsound z ys c u) refl

pub set-up-given : (s : Record) (p : Running) (z : Sizes) (xs : List ℕ) (c : ℕ) → set_up_both s p z (array_of xs) c ≡ set_up_both s p z xs c
set-up-given s p z xs c = go (eqb (length xs) 32) refl
  where
    go : (t : Bool) → eqb (length xs) 32 ≡ t → set_up_both s p z (pick t xs (replicate 32 0)) c ≡ set_up_both s p z xs c
    go true e = refl
    go false e = set-up-sized s p z (replicate 32 0) c (all-00 z) ∙ sym (set-up-sized s p z xs c (not-32 z xs (eqb-false (length xs) 32 e)))
